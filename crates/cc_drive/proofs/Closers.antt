-- A closer that met the senders and closed after that, or closes still.
use Rattle.std.proofs.Common.{◌≡◌, ℕ, List, [], ◌∷◌, ◌++◌, Some, None, Result, Ok, Err, IfOk, IfErr, sym, ap, ◌∙◌, subst}
use Rattle.std.specs.List.{All}
use Rattle.cc_drive.specs.Names.{Answer, Brief, Call, CloseAnswer, Crew, SendReceipt, Turns}
use Rattle.cc_steps.specs.Topic.{Topic}
use Rattle.cc_steps.specs.Walk.{Walk, IsOf}
use Rattle.cc_queue.specs.Calls.{Begun}
use Rattle.cc_queue.specs.Met.{HasMet, HaveSeenOne}
use Rattle.cc_drive.specs.Back.{SenderGave}
use Rattle.cc_drive.specs.Crew.{IsCrew}
use Rattle.cc_drive.specs.Ran.{ClosedAfter, ClosesStill, HasClosed}
use Rattle.cc_drive.specs.Row.{Pairs}
use Rattle.cc_drive.specs.Work.{IsPendingAt, RanOut, WasAnswered, WentOn}
use Rattle.cc_drive.proofs.Counted.{answer_of}
use Rattle.cc_drive.proofs.Pairs.{pairs_split, all_split}
use Rattle.cc_drive.proofs.Told.{stands_self}

-- a row of passes has met, and the last of them is the closer
pub record LastMet (closer : Walk) (senders now : List Walk) (met : Walk) : Type 0 where
  pub others : Pairs HasMet senders now
  pub first : HasMet closer met
  pub after : All (λ s. s.seen ≡ met.seen) now

pub last_met : (closer met : Walk) (senders now receivers all after : List Walk) → all ≡ senders ++ closer ∷ [] → after ≡ now ++ met ∷ [] → Pairs HasMet all after → HaveSeenOne after receivers [] → LastMet closer senders now met
last_met closer met senders now receivers all after front end pairs one =
    let both = pairs_split HasMet senders now all after closer met front end pairs in
    let seen = all_split (λ w. w.seen ≡ one.seen) now after met end one.senders_have in
    record { others = both.0; first = both.1; after = λ k d less. seen.0 k d less ∙ sym seen.1 }

-- a pass that met others is of its queue still, and so is one that began a call
pub met_of : (z : Topic) (v w : Walk) → IsOf z v → HasMet v w → IsOf z w
met_of z v w here m = (m.stands.same.0 ∙ here.0, m.stands.same.1 ∙ here.1)

pub pending_of : (z : Topic) (v w : Walk) (call : Call) → IsOf z v → Begun v call w → IsPendingAt z w
pending_of z v w call here b = ((b.stands.same.0 ∙ here.0, b.stands.same.1 ∙ here.1), stands_self v w _ b.stands)

-- the result of its close
pub closed_after : (closer met begun : Walk) (senders now : List Walk) (old new : Turns) (r : Result (Walk × CloseAnswer) Walk) → LastMet closer senders now met → Begun met Call.Close begun
    → IfOk r (λ r. WasAnswered begun (Answer.Close r.1) old new r.0) → IfOk r (λ r. ClosedAfter closer now r.1 r.0)
closed_after closer met begun senders now old new (Ok r) m b told = record { met = met; first = m.first; after = m.after; close = answer_of met begun r.0 Call.Close (Answer.Close r.1) old new b told }
closed_after closer met begun senders now old new (Err same) m b told = tt

pub closes_still : (closer met begun : Walk) (senders now : List Walk) (most : ℕ) (old new : Turns) (r : Result (Walk × CloseAnswer) Walk) → LastMet closer senders now met → Begun met Call.Close begun → old ≡ record { made = 0; limit = most } → WentOn old new
    → IfErr r (λ same. RanOut begun old new same) → IfErr r (ClosesStill closer now most)
closes_still closer met begun senders now most old new (Ok r) m b is on out = tt
closes_still closer met begun senders now most old new (Err same) m b is on out = record {
  met = met;
  first = m.first;
  after = m.after;
  begun = begun;
  close = b;
  turns = new;
  limit = on.limit ∙ ap (λ (t : Turns). t.limit) is;
  waited = subst (λ (t : Turns). RanOut begun t new same) is out;
}

-- the senders that were gathered, after their passes met
crew_still : (z : Topic) (b : Brief) (count : ℕ) (ours now : Crew Walk SendReceipt) → IsCrew (SenderGave z b.items b.limit) 0 0 count ours.passes.items ours → now ≡ record ours { passes = now.passes } → IsCrew (SenderGave z b.items b.limit) 0 0 count ours.passes.items now
crew_still z b count ours now crew is =
    subst (IsCrew (SenderGave z b.items b.limit) 0 0 count ours.passes.items) (sym is)
    (record { workers = crew.workers; gave = crew.gave; many = crew.many; back = crew.back; missing = crew.missing; whole = crew.whole; kept = crew.kept })

pub has_closed : (z : Topic) (b : Brief) (closer : Walk) (count : ℕ) (ours now : Crew Walk SendReceipt) (r : Walk × CloseAnswer) → IsCrew (SenderGave z b.items b.limit) 0 0 count ours.passes.items ours → now ≡ record ours { passes = now.passes } → Pairs HasMet ours.passes.items now.passes.items
    → ClosedAfter closer now.passes.items r.1 r.0 → HasClosed z b closer count now (Some r)
has_closed z b closer count ours now r crew is met after = record { back = ours.passes.items; senders = crew_still z b count ours now crew is; met = met; after = after; still = tt }

pub closes_on : (z : Topic) (b : Brief) (closer w : Walk) (count : ℕ) (ours now : Crew Walk SendReceipt) → IsCrew (SenderGave z b.items b.limit) 0 0 count ours.passes.items ours → now ≡ record ours { passes = now.passes } → Pairs HasMet ours.passes.items now.passes.items
    → ClosesStill closer now.passes.items b.limit w → HasClosed z b closer count now None
closes_on z b closer w count ours now crew is met still = record { back = ours.passes.items; senders = crew_still z b count ours now crew is; met = met; after = tt; still = (w, still) }
