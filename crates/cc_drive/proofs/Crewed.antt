-- A run whose threads were all started and came to their ends.
use Rattle.std.proofs.Common.{◌≡◌, ℕ, zero, suc, ◌+◌, ◌<◌, ◌≤◌, inl, inr, Bool, true, false, List, [], ◌∷◌, ◌++◌, ◌&&◌, length, map, Option, Some, None, IfSome, IfNone, IfOk, is_some, Result, Ok, Err, refl, sym, ap, ◌∙◌, subst, arith}
use Rattle.std.specs.Prelude.{⊤, ◌⊎◌, MatchResult}
use Rattle.std.specs.List.{All, AllByRecursion}
use Rattle.std.proofs.lemmas.List.{length-map}
use Rattle.cc_drive.specs.Names.{CloseAnswer, Config, ConfigFault, SendReceipt, TakeReceipt, DriveConfig, DriveEnd, Ran, Worked, DriveFault, Refused, Crew}
use Rattle.cc_steps.specs.Topic.{Topic}
use Rattle.cc_steps.specs.Walk.{Walk, IsOf, fresh}
use Rattle.cc_queue.specs.Met.{HasMet}
use Rattle.cc_queue.specs.Receipts.{receipts_in, receipts_by, sent, got}
use Rattle.cc_queue.proofs.OnItsSide.{Told}
use Rattle.cc_drive.specs.Back.{IsBack, SenderIsBack, ReceiverIsBack, SenderGave, ReceiverGave, calls}
use Rattle.cc_drive.specs.Config.{queue_of, IsDue}
use Rattle.cc_drive.specs.Crew.{AreGathered, IsCrew, present, least_missing, in_turn}
use Rattle.cc_drive.specs.Ran.{ClosedAfter, Driven, EndedWith, HasClosed, HasEnded, HasNoEnd, HasRun, IsEndOf, IsTold, IsWhole, due}
use Rattle.cc_drive.specs.Jobs.{IsQueueOf}
use Rattle.cc_drive.specs.Row.{InRow}
use Rattle.cc_drive.specs.Start.{IsStarted, AreStarted}
use Rattle.cc_drive.proofs.Crews.{crew_passes, crew_count, crew_receipts, crew_all, first_too, second_too, some_at}
use Rattle.cc_drive.proofs.Unclosed.{unclosed}
use Rattle.cc_drive.proofs.Ended.{row_weaker, row_met, sender_met, receipts_met, pairs_length}

by_turn : {X : Type 0} (receipts : Told → List X) (ws : List Walk) → in_turn (map (λ w. receipts_in receipts (calls w)) ws) ≡ receipts_by receipts ws
by_turn receipts [] = refl
by_turn receipts (w ∷ ws) = ap (λ l. receipts_in receipts (calls w) ++ l) (by_turn receipts ws)

-- a run without a fault
pub none_due : (refused : Bool) (workers : ℕ) (sender receiver : Option ℕ) (closed whole : Bool) → due refused workers sender receiver closed whole ≡ None → (refused ≡ false) × (sender ≡ None) × (receiver ≡ None) × (closed ≡ true) × (whole ≡ true)
none_due true workers sender receiver closed whole e = absurd (cc e)
none_due false workers (Some n) receiver closed whole e = absurd (cc e)
none_due false workers None (Some n) closed whole e = absurd (cc e)
none_due false workers None None false whole e = absurd (cc e)
none_due false workers None None true false e = absurd (cc e)
none_due false workers None None true true e = (refl, refl, refl, refl, refl)

all_indexed : {A : Type 0} (P : A → Type 0) (xs : List A) → AllByRecursion P xs → All P xs
all_indexed P [] all k d less = absurd (omega (arith, less))
all_indexed P (x ∷ xs) all zero d less = all.0
all_indexed P (x ∷ xs) all (suc k) d less = all_indexed P xs all.1 k d (omega (arith, less))

-- the senders that are back are of the queue
pub are_of : (z : Topic) (items limit : ℕ) (workers : List (Worked Walk SendReceipt)) (passes : List Walk) → InRow (SenderGave z items limit) 0 workers → passes ≡ present (map (λ d. d.pass) workers) → All (IsOf z) passes
are_of z items limit workers passes gave is =
    subst (All (IsOf z)) (sym is) (all_indexed (IsOf z) _ (crew_all (λ d. d.pass) (SenderIsBack z items) (IsOf z) (λ k w s. s.back.here) 0 workers
    (row_weaker (SenderGave z items limit) (λ n d. IfSome d.pass (SenderIsBack z items n)) (λ n d gave. gave.0) 0 workers gave)))

-- all of them, if none was refused
pub all_started : (senders receivers sending taking : ℕ) (refused : Option Refused) → is_some refused ≡ false → AreStarted senders receivers sending taking refused → (sending ≡ senders) × (taking ≡ receivers)
all_started senders receivers sending taking None none all = all
all_started senders receivers sending taking (Some e) none at = absurd (cc none)

-- a run in which nothing else is due has come to its end
pub has_run : (z : Topic) (c : DriveConfig) (refused : Option Refused) (ours : Crew Walk SendReceipt) (shut : Option (Walk × CloseAnswer)) (theirs : Crew Walk TakeReceipt) (closer : Walk) (told : CloseAnswer)
    → due (is_some refused) (c.senders + c.receivers) ours.limited theirs.limited (is_some shut) (ours.is_whole && theirs.is_whole) ≡ None → shut ≡ Some (closer, told) → z.setting.config ≡ queue_of c → HasEnded z c refused ours shut theirs
    → HasRun z c (record { config = c; senders = ours.passes; closer = closer; closed = told; receivers = theirs.passes; sends = ours.receipts; takes = theirs.receipts })
has_run z c refused ours shut theirs closer told free is config e =
    let f = none_due _ _ _ _ _ _ free in
    let s = e.senders.senders in
    let r = e.receivers in
    let all = all_started _ _ _ _ refused f.0 e.started in
    let none = sym s.missing ∙ f.1 in
    let none' = sym r.missing ∙ f.2 in
    let senders : List Walk = ours.passes.items in
    let theirs_back : InRow (SenderIsBack z c.items) 0 e.senders.back = subst (InRow (SenderIsBack z c.items) 0) (sym s.back) (crew_passes (λ d. d.pass) (SenderIsBack z c.items) 0 0 s.workers none
    (row_weaker (SenderGave z c.items c.limit) (λ n d. IfSome d.pass (SenderIsBack z c.items n)) (λ n d g. g.0) 0 s.workers s.gave)) in
    let back : InRow (IsBack z) 0 e.senders.back = row_weaker (SenderIsBack z c.items) (IsBack z) (λ k x b. b.back) 0 e.senders.back theirs_back in
    let met : InRow (SenderIsBack z c.items) 0 senders = row_met (SenderIsBack z c.items) (sender_met z c.items) 0 e.senders.back senders theirs_back e.senders.met in
    let many : length senders ≡ c.senders = pairs_length e.senders.back senders e.senders.met ∙ ap length s.back ∙ crew_count (λ d. d.pass) 0 s.workers none ∙ s.many ∙ all.0 in
    let first : ClosedAfter (fresh z c.senders) senders told closer = some_at (λ x. ClosedAfter (fresh z c.senders) senders x.1 x.0) shut (closer, told) is e.senders.after in
    record {
      of = refl;
      senders = met;
      count_senders = many;
      unclosed = unclosed z c.items senders first.met (ap (λ (k : Config). k.senders) config ∙ ap (λ (n : ℕ). n + 1) (sym many)) met (subst (λ (n : ℕ). HasMet (fresh z n) first.met) (sym many) first.first) first.after;
      closed = first;
      receivers = subst (InRow (ReceiverIsBack z) (c.senders + 1)) (sym r.back) (crew_passes (λ d. d.pass) (ReceiverIsBack z) (c.senders + 1) c.senders r.workers none'
          (row_weaker (ReceiverGave z c.limit) (λ n d. IfSome d.pass (ReceiverIsBack z n)) (λ n d g. g.0) (c.senders + 1) r.workers r.gave));
      count_receivers = ap length r.back ∙ crew_count (λ d. d.pass) c.senders r.workers none' ∙ r.many ∙ all.1;
      sends = s.kept (first_too _ _ f.4)
          ∙ crew_receipts (λ d. d.pass) (λ d. d.kept.receipts.items) (λ d. d.kept.is_whole) (λ x. receipts_in sent (calls x)) 0 0 s.workers none (s.whole (first_too _ _ f.4))
          (row_weaker (SenderGave z c.items c.limit) (λ n d. IfSome d.pass (λ x. d.kept.is_whole ≡ true → d.kept.receipts.items ≡ receipts_in sent (calls x))) (λ n d g. g.1) 0 s.workers s.gave)
          ∙ by_turn sent (present (map (λ d. d.pass) s.workers)) ∙ ap (receipts_by sent) (sym s.back) ∙ sym (receipts_met sent z 0 e.senders.back senders back e.senders.met);
      takes = r.kept (second_too _ _ f.4)
          ∙ crew_receipts (λ d. d.pass) (λ d. d.kept.receipts.items) (λ d. d.kept.is_whole) (λ x. receipts_in got (calls x)) (c.senders + 1) c.senders r.workers none' (r.whole (second_too _ _ f.4))
          (row_weaker (ReceiverGave z c.limit) (λ n d. IfSome d.pass (λ x. d.kept.is_whole ≡ true → d.kept.receipts.items ≡ receipts_in got (calls x))) (λ n d g. g.1) (c.senders + 1) r.workers r.gave)
          ∙ by_turn got (present (map (λ d. d.pass) r.workers)) ∙ ap (receipts_by got) (sym r.back);
    }

-- a row of workers whose results were gathered
pub crew_of : {P X : Type 0} (Gave : ℕ → Worked P X → Type 0) (place number count : ℕ) (workers : List (Worked P X)) (passes : List P) (crew : Crew P X) → AreGathered number workers passes crew → InRow Gave place workers → length workers ≡ count → IsCrew Gave place number count passes crew
crew_of Gave place number count workers passes crew g gave many = record { workers = workers; gave = gave; many = many; back = g.back; missing = g.missing; whole = g.whole; kept = g.kept }

-- and one of workers that were asked for more
pub crew_by : {J P X : Type 0} (Gave : ℕ → Worked P X → Type 0) (By : ℕ → J → Worked P X → Type 0) (place number count : ℕ) (workers : List (Worked P X)) (passes : List P) (crew : Crew P X)
    → AreGathered number workers passes crew → InRow (λ n d. (j : J) × (Gave n d × By n j d)) place workers → length workers ≡ count → IsCrew Gave place number count passes crew
crew_by {J} Gave By place number count workers passes crew g gave many = crew_of Gave place number count workers passes crew g (row_weaker (λ n d. (j : J) × (Gave n d × By n j d)) Gave (λ n d both. both.1.0) place workers gave) many

-- ---- a run without an end

-- the least that is missing is one of them
least_below : {A : Type 0} (n m : ℕ) (xs : List (Option A)) → least_missing n xs ≡ Some m → m < n + length xs
least_below n m [] e = absurd (cc e)
least_below n m (Some x ∷ xs) e = let rest = least_below (n + 1) m xs e in omega (arith, rest)
least_below n m (None ∷ xs) e = let same : n ≡ m = cc e in omega (arith, same)

due_below : (refused : Bool) (workers : ℕ) (sender receiver : Option ℕ) (closed whole : Bool) (told : DriveFault) → (refused ≡ false → (n : ℕ) → sender ≡ Some n → n ≤ workers) → (refused ≡ false → (n : ℕ) → receiver ≡ Some n → n ≤ workers)
    → due refused workers sender receiver closed whole ≡ Some told → IsDue workers told
due_below true workers sender receiver closed whole told low low' e = (let is : DriveFault.Thread ≡ told = cc e in subst (IsDue workers) is tt)
due_below false workers (Some n) receiver closed whole told low low' e = (let is : DriveFault.Limit n ≡ told = cc e in subst (IsDue workers) is (low refl n refl))
due_below false workers None (Some n) closed whole told low low' e = (let is : DriveFault.Limit n ≡ told = cc e in subst (IsDue workers) is (low' refl n refl))
due_below false workers None None false whole told low low' e = (let is : DriveFault.Limit workers ≡ told = cc e in subst (IsDue workers) is (omega arith))
due_below false workers None None true false told low low' e = (let is : DriveFault.NoMemory ≡ told = cc e in subst (IsDue workers) is tt)
due_below false workers None None true true told low low' e = absurd (cc e)

told_due : (z : Topic) (c : DriveConfig) (told : DriveFault) → IsTold z c told → IsDue (c.senders + c.receivers) told
told_due z c told (inl is) = subst (IsDue (c.senders + c.receivers)) (sym is) tt
told_due z c told (inr e) =
    due_below (is_some e.refused) (c.senders + c.receivers) _ _ e.closed e.whole told
    (λ on n is. let below = least_below 0 n (map (λ d. d.pass) e.senders) is in let many = (all_started _ _ _ _ e.refused on e.started).0 in omega (arith, below, many, length-map e.senders (λ d. d.pass)))
    (λ on n is. let below = least_below c.senders n (map (λ d. d.pass) e.receivers) is in let many = (all_started _ _ _ _ e.refused on e.started).1 in omega (arith, below, many, length-map e.receivers (λ d. d.pass))) e.why

-- that is its cause
no_end : (z : Topic) (c : DriveConfig) (told : DriveFault) → IsQueueOf c z → IsTold z c told → HasNoEnd c told
no_end z c told of is = record { due = told_due z c told is; cause = of_queue is }
  where
    of_queue : IsTold z c told → (told ≡ DriveFault.NoMemory) ⊎ ((z : Topic) × IsQueueOf c z × EndedWith z c told)
    of_queue (inl none) = inl none
    of_queue (inr e) = inr (z, of, e)

pub ran_for : (z : Topic) (c : DriveConfig) (r : Result Ran DriveFault) → IsQueueOf c z → MatchResult r (HasRun z c) (IsTold z c) → MatchResult r (HasRun z c) (HasNoEnd c)
ran_for z c (Ok ran) of is = is
ran_for z c (Err told) of is = no_end z c told of is

-- and so is missing memory
pub no_memory : (c : DriveConfig) (told : DriveFault) → told ≡ DriveFault.NoMemory → HasNoEnd c told
no_memory c told none = record { due = subst (IsDue (c.senders + c.receivers)) (sym none) tt; cause = inl none }

-- a run that was settled
pub driven_by : (z : Topic) (c : DriveConfig) (ran : Ran) (r : Result DriveEnd DriveFault) → IsQueueOf c z → HasRun z c ran → MatchResult r (IsEndOf ran) (λ f. f ≡ DriveFault.NoMemory) → Driven (Ok tt) c r
driven_by z c ran (Ok e) of run end = (refl, record { whole = subst (λ (k : DriveConfig). IsWhole k e) run.of end.whole; queue = z; opened = of; ran = ran; run = run; end = end })
driven_by z c ran (Err told) of run none = no_memory c told none

-- of a configuration that has no fault
pub driven_legal : (fault : Result ⊤ ConfigFault) (c : DriveConfig) (r : Result DriveEnd DriveFault) → fault ≡ Ok tt → Driven (Ok tt) c r → Driven fault c r
driven_legal fault c r fine is = subst (λ f. Driven f c r) (sym fine) is

-- all items of a drive that has an end
pub whole_if_ok : (fault : Result ⊤ ConfigFault) (c : DriveConfig) (r : Result DriveEnd DriveFault) → Driven fault c r → IfOk r (IsWhole c)
whole_if_ok fault c (Ok e) is = is.1.whole
whole_if_ok fault c (Err told) is = tt

-- a closer without an answer
none_at : {A : Type 0} (P : Type 0) (x : Option A) → is_some x ≡ false → IfNone x P → P
none_at P (Some a) is p = absurd (cc is)
none_at P None is p = p

-- and why a run has no end
pub ended_with : (z : Topic) (c : DriveConfig) (refused : Option Refused) (ours : Crew Walk SendReceipt) (shut : Option (Walk × CloseAnswer)) (theirs : Crew Walk TakeReceipt) (told : DriveFault)
    → due (is_some refused) (c.senders + c.receivers) ours.limited theirs.limited (is_some shut) (ours.is_whole && theirs.is_whole) ≡ Some told → HasEnded z c refused ours shut theirs → EndedWith z c told
ended_with z c refused ours shut theirs told is e =
    let s = e.senders.senders in
    let r = e.receivers in
    record {
      senders = s.workers;
      receivers = r.workers;
      refused = refused;
      closed = is_some shut;
      whole = ours.is_whole && theirs.is_whole;
      senders_gave = s.gave;
      receivers_gave = r.gave;
      started = subst (λ (n : ℕ × ℕ). AreStarted c.senders c.receivers n.0 n.1 refused) (λ i. (sym s.many i, sym r.many i)) e.started;
      still = λ open_still. let still = none_at _ shut open_still e.senders.still in (ours.passes.items, still.0, still.1);
      why = (λ i. due (is_some refused) (c.senders + c.receivers) (sym s.missing i) (sym r.missing i) (is_some shut) (ours.is_whole && theirs.is_whole)) ∙ is;
    }

-- the threads of both rows, the receivers' first
pub both_started : (senders receivers sending taking : ℕ) (first second : Option Refused) → IsStarted None (senders + 1) receivers taking first → IsStarted first 0 senders sending second → AreStarted senders receivers sending taking second
both_started senders receivers sending taking None None all all' = (all', all)
both_started senders receivers sending taking None (Some e) all at = inr (at.0 ∙ omega arith, at.1, all)
both_started senders receivers sending taking (Some e) second at none = subst (AreStarted senders receivers sending taking) (sym none.1) (inl (at.0, at.1, none.0))

pub has_ended : (z : Topic) (c : DriveConfig) (closer : Walk) (senders receivers sending taking : ℕ) (first second : Option Refused) (ours : Crew Walk SendReceipt) (shut : Option (Walk × CloseAnswer)) (theirs : Crew Walk TakeReceipt)
    → closer ≡ fresh z c.senders → senders ≡ c.senders → receivers ≡ c.receivers → IsStarted None (c.senders + 1) receivers taking first → IsStarted first 0 senders sending second
    → HasClosed z (record { items = c.items; limit = c.limit }) closer sending ours shut → IsCrew (ReceiverGave z c.limit) (c.senders + 1) c.senders taking theirs.passes.items theirs → HasEnded z c second ours shut theirs
has_ended z c closer senders receivers sending taking first second ours shut theirs is count count' all all' closed crew = record {
  sending = sending;
  taking = taking;
  senders = subst (λ (w : Walk). HasClosed z (record { items = c.items; limit = c.limit }) w sending ours shut) is closed;
  receivers = crew;
  started = both_started c.senders c.receivers sending taking first second (subst (λ (n : ℕ). IsStarted None (c.senders + 1) n taking first) count' all) (subst (λ (n : ℕ). IsStarted first 0 n sending second) count all');
}
