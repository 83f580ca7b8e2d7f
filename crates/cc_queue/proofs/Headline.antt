-- All that a pass has seen is one history.
use Rattle.std.proofs.Common.{◌/◌, arith, ◌≡◌, ◌≢◌, ℕ, ◌+◌, if◌then◌else◌, List, [], ◌∷◌, ◌++◌, map, refl, sym, ap, ◌∙◌, subst, append-nil, append_assoc, Bool, true, false, nat_lt, ◌-◌}
use Rattle.cc_queue.specs.Names.{Answer, Call, TakeAnswer, Entry, Move, Setting, Served, Stand, Phase, Chain, Pass}
use Rattle.std.specs.List.{AllByRecursion}
use Rattle.cc_model.specs.Items.{HasAnswer, Begins, calls_of}
use Rattle.cc_runs.specs.ChainLaws.{IsLastAnswer}
use Rattle.cc_runs.specs.Run.{IsRun, history_of, reached, begun_after}
use Rattle.cc_runs.specs.CallsMade.{made, to_exchange}
use Rattle.cc_runs.specs.ChainLaws.{IsOut}
use Rattle.cc_runs.proofs.CallsMade.{calls_made}
use Rattle.cc_runs.proofs.EndAnswered.{calls_end}
use Rattle.cc_runs.proofs.RunPrefixes.{prefixes_begin}
use Rattle.cc_runs.proofs.ListRuns.Laws.{history_is_legal, history_is_fifo}
use Rattle.cc_runs.proofs.Linear.Orders.{linearizable as runs_linearizable}
use Rattle.cc_steps.specs.Seen.{Onward, GoesOn, stand_in, made_in}
use Rattle.cc_steps.specs.Walk.{Walk, IsSameSeat, IsSound, IsPendingIn}
use Rattle.cc_runs.specs.Lines.{group_of}
use Rattle.cc_queue.specs.Group.{IsGroupOf, Ranked}
use Rattle.cc_queue.specs.Headline.{StandsInOne, entry_of, name, history}
use Rattle.cc_queue.specs.Work.{IsOn, Turns, Waits, Enters, worked_to}
use Rattle.cc_queue.specs.Calls.{Begun, Waited, Answered, Ended, Completed, IsSettled}
use Rattle.cc_queue.specs.Codes.{IsSendAnswer, IsCloseAnswer}
use Rattle.cc_queue.specs.Passes.{MadeLast, IsSend, IsClose, IsStill, HasStopped}
use Rattle.cc_queue.proofs.Soon.{waits_briefly}
use Rattle.cc_queue.proofs.AnswerKinds.{send_answered, close_answered}

pub goes_self : (seen : List Move) → GoesOn seen seen
goes_self seen = record { more = []; is = refl }

-- a run that goes on from another has a history that begins with the other's
pub begins_on : (c : Setting) (seen log : List Move) → Onward seen log → IsRun c log → Begins (history_of c seen) (history_of c log)
begins_on c seen log on run =
    let g = on seen (goes_self seen) in
    subst (λ (l : List Move). Begins (history_of c seen) (history_of c l)) (sym g.is) (prefixes_begin c g.more seen (subst (IsRun c) g.is run)).1

-- the history has of the pass exactly the calls that it made
pub calls_in : (w : Walk) → IsSound w → to_exchange w.stand.phase ≡ [] → map (λ z. z.0) (calls_of (name w) (history w)) ≡ w.made
unfolding stand_in made_in
calls_in w s out =
    let law : made w.setting w.seen w.number ≡ map (λ z. z.0) (calls_of (name w) (history w)) ++ to_exchange ((reached w.setting w.seen).stand w.number).phase = calls_made w.setting s.checked w.seen s.run w.number s.below in
    let none : to_exchange ((reached w.setting w.seen).stand w.number).phase ≡ [] = ap (λ (x : Stand). to_exchange x.phase) (sym s.shows.0) ∙ out in
    sym (append-nil _) ∙ ap (λ (l : List Entry). map (λ z. z.0) (calls_of (name w) (history w)) ++ l) (sym none) ∙ sym law ∙ sym s.shows.1

pub stands_in_one : (v w : Walk) (calls : List Entry) → IsSound w → w.setting.served ≡ Served.List → to_exchange w.stand.phase ≡ [] → IsSameSeat v w → Onward v.seen w.seen → w.made ≡ v.made ++ calls → StandsInOne v calls w
stands_in_one v w calls s list out same on made_is = record {
  same = same;
  run = s.run;
  onward = on;
  begins = subst (λ (c : Setting). Begins (history_of c v.seen) (history w)) same.1 (begins_on w.setting v.seen w.seen on s.run);
  legal = history_is_legal w.setting w.seen list s.checked s.run;
  fifo = history_is_fifo w.setting w.seen list s.checked s.run;
  linearizable = runs_linearizable w.setting w.seen list s.checked s.run;
  made = made_is;
  calls_are = calls_in w s out;
}

seat_of : (v w : Walk) (at : Phase) → w ≡ worked_to v at w → IsSameSeat v w
seat_of v w at e = (ap (λ (x : Walk). x.table_id) e, ap (λ (x : Walk). x.setting) e, ap (λ (x : Walk). x.number) e)

made_of : (v w : Walk) (at : Phase) → w ≡ worked_to v at w → w.made ≡ v.made ++ []
made_of v w at e = ap (λ (x : Walk). x.made) e ∙ sym (append-nil v.made)

-- the same of a pass that is idle or waits, whose topic is a list
pub stands_on : (v w : Walk) (calls : List Entry) (begun node : ℕ) (at : Phase) → w.stand ≡ record { begun = begun; node = node; phase = at } → to_exchange at ≡ [] → IsSound w → v.setting.served ≡ Served.List → IsSameSeat v w → Onward v.seen w.seen → w.made ≡ v.made ++ calls → StandsInOne v calls w
stands_on v w calls begun node at stand out s list same on made_is = stands_in_one v w calls s (ap (λ (c : Setting). c.served) same.1 ∙ list) (ap (λ (x : Stand). to_exchange x.phase) stand ∙ out) same on made_is

-- a call that was begun; a caller knows the pass as u
pub begun_so : (u v w : Walk) (call : Call) (node : ℕ) → v ≡ u → v.setting.served ≡ Served.List → IsSound w → Enters v call record { begun = begun_after call v.stand.begun; node = node; phase = Phase.ReadState } w → IsPendingIn w → Begun u call w
begun_so u v w call node is list s e pending = subst (λ (x : Walk). Begun x call w) is (record {
  stands = stands_on v w (entry_of v call ∷ []) (begun_after call v.stand.begun) node Phase.ReadState e.stand refl s list e.same e.later e.made;
  pending = pending;
  linked = ap (λ (x : Stand). x.phase) e.stand;
  begun = ap (λ (x : Stand). x.begun) e.stand;
  reads = e.reads;
  marks = e.marks;
})

-- a turn that waits
pub waited_so : (u v w : Walk) (begun node : ℕ) → v ≡ u → v.setting.served ≡ Served.List → v.stand ≡ record { begun = begun; node = node; phase = Phase.ReadState } → IsSound w → Waits v w → Waited u w
waited_so u v w begun node is list stand s e = subst (λ (x : Walk). Waited x w) is (record {
  stands = stands_on v w [] v.stand.begun v.stand.node Phase.ReadState (ap (λ (x : Walk). x.stand) e.worked) refl s list (seat_of v w Phase.ReadState e.worked) e.later (made_of v w Phase.ReadState e.worked);
  still = ap (λ (x : Walk). x.stand) e.worked ∙ (λ i. record { begun = v.stand.begun; node = v.stand.node; phase = (sym stand i).phase });
  did = e.did;
  briefly = waits_briefly v w (ap (λ (x : Stand). x.phase) stand) s e;
})

-- a turn that is done, of a pass of a list
pub answered_so : (u v w : Walk) (told : Answer) (n : ℕ) → v ≡ u → v.setting.served ≡ Served.List → IsSound w → Turns v Phase.Idle n w → IsLastAnswer (name w) (history w) told → Answered u told n w
answered_so u v w told n is list s turn last =
    let e = turn.works in
    subst (λ (x : Walk). Answered x told n w) is (record {
      stands = stands_on v w [] v.stand.begun v.stand.node Phase.Idle (ap (λ (x : Walk). x.stand) e.worked) refl s list (seat_of v w Phase.Idle e.worked) e.later (made_of v w Phase.Idle e.worked);
      last = last;
      begun = ap (λ (x : Walk). x.stand.begun) e.worked;
      reads = e.reads;
      marks = e.marks;
      hands = e.hands;
      few = turn.few;
      scans = e.scans;
    })

-- the answer of a send is one of a send
pub send_told : (v w : Walk) (told : Answer) → v.setting.served ≡ Served.List → IsSound w → w ≡ worked_to v Phase.Idle w → IsLastAnswer (name w) (history w) told → MadeLast IsSend v.made → IsSendAnswer told
send_told v w told list s worked last m =
    send_answered w.setting.config (history w) (name w) told w.made (history_is_legal w.setting w.seen (ap (λ (x : Walk). x.setting.served) worked ∙ list) s.checked s.run)
    (calls_in w s (ap (λ (x : Walk). to_exchange x.stand.phase) worked)) last (subst (MadeLast IsSend) (sym (ap (λ (x : Walk). x.made) worked)) m)

-- and a close one of a close
pub close_told : (v w : Walk) (told : Answer) → v.setting.served ≡ Served.List → IsSound w → w ≡ worked_to v Phase.Idle w → IsLastAnswer (name w) (history w) told → MadeLast IsClose v.made → IsCloseAnswer told
close_told v w told list s worked last m =
    close_answered w.setting.config (history w) (name w) told w.made (history_is_legal w.setting w.seen (ap (λ (x : Walk). x.setting.served) worked ∙ list) s.checked s.run)
    (calls_in w s (ap (λ (x : Walk). to_exchange x.stand.phase) worked)) last (subst (MadeLast IsClose) (sym (ap (λ (x : Walk). x.made) worked)) m)

-- the facts that are in one history, and go on in another
pub stands_more : (a b c : Walk) (xs ys : List Entry) → StandsInOne a xs b → StandsInOne b ys c → StandsInOne a (xs ++ ys) c
stands_more a b c xs ys f g = record {
  same = (g.same.0 ∙ f.same.0, g.same.1 ∙ f.same.1, g.same.2 ∙ f.same.2);
  run = g.run;
  onward = λ first k. g.onward first (f.onward first k);
  begins = subst (λ (x : Setting). Begins (history_of x a.seen) (history c)) (g.same.1 ∙ f.same.1) (begins_on c.setting a.seen c.seen (λ first k. g.onward first (f.onward first k)) g.run);
  legal = g.legal;
  fifo = g.fifo;
  linearizable = g.linearizable;
  made = g.made ∙ ap (λ (l : List Entry). l ++ ys) f.made ∙ append_assoc a.made xs ys;
  calls_are = g.calls_are;
}

-- a call that waits has not moved, in more history
pub waits_on : (a b c : Walk) → StandsInOne a [] b → Waited b c → StandsInOne a [] c
waits_on a b c f g = stands_more a b c [] [] f g.stands

-- a call that was waited for is done
pub ended_so : (a b c : Walk) (told : Answer) (n : ℕ) → StandsInOne a [] b → Answered b told n c → Ended a told c
ended_so a b c told n f g = record { stands = stands_more a b c [] [] f g.stands; last = g.last }

-- from its begin on
pub completed_so : (a b c : Walk) (call : Call) (told : Answer) → Begun a call b → Ended b told c → Completed a call told c
completed_so a b c call told f g = record { stands = stands_more a b c (entry_of a call ∷ []) [] f.stands g.stands; last = g.last }

-- a pass with a pending call belongs to the history that it has seen
pub pending_stands : (u v : Walk) (begun node : ℕ) → v ≡ u → v.setting.served ≡ Served.List → v.stand ≡ record { begun = begun; node = node; phase = Phase.ReadState } → IsSound v → StandsInOne u [] u
pending_stands u v begun node is list stand s = subst (λ (x : Walk). StandsInOne x [] x) is (stands_on v v [] begun node Phase.ReadState stand refl s list (refl, refl, refl) (λ first k. k) (sym (append-nil v.made)))

-- what a pass that is still has to exchange: nothing
pub still_out : (at : Phase) → IsStill at → to_exchange at ≡ []
still_out Phase.Idle is = refl
still_out Phase.ReadState is = refl
still_out at is = absurd is

-- an abandoned pass, which a caller knows as u, belongs to the history that it has seen
pub stopped_stands : (u v : Walk) → v ≡ u → HasStopped v → IsSound v → StandsInOne u [] u
stopped_stands u v is stop s = subst (λ (x : Walk). StandsInOne x [] x) is (stands_in_one v v [] s stop.list (still_out v.stand.phase stop.still) (refl, refl, refl) (λ first k. k) (sym (append-nil v.made)))

-- the calls of a pass that is out of its chain have their answers
pub answers_in : (w : Walk) → IsSound w → IsOut w.stand.phase → AllByRecursion HasAnswer (calls_of (name w) (history w))
unfolding stand_in
answers_in w s out = calls_end w.setting s.checked w.seen s.run w.number s.below (subst (λ (x : Stand). IsOut x.phase) s.shows.0 out)

-- an answer that isn't Empty
pub settled_unless : (told : TakeAnswer) → told ≢ TakeAnswer.Empty → IsSettled told
settled_unless TakeAnswer.Empty ne = absurd (ne refl)
settled_unless (TakeAnswer.Got item) ne = tt
settled_unless (TakeAnswer.Ended total) ne = tt

-- a receiver's group is that of its chain
pub ranked_so : (u v : Walk) (g : ℕ) → v ≡ u → IsOn v (Chain.Take g) → Ranked u (g + 1)
ranked_so u v g is on = subst (λ (x : Walk). Ranked x (g + 1)) is (go (nat_lt v.number v.setting.config.senders) on)
  where
    go : (b : Bool) → (if b then Chain.Send else Chain.Take ((v.number - v.setting.config.senders) / v.setting.config.receivers)) ≡ Chain.Take g → IsGroupOf v.setting.config (if b then Pass.Sender (v.number + 1) else Pass.Receiver (v.number - v.setting.config.senders + 1)) (g + 1)
    go true e = absurd (cc e)
    go false e =
        let back : v.number - v.setting.config.senders + 1 - 1 ≡ v.number - v.setting.config.senders = omega arith in
        let same : (v.number - v.setting.config.senders) / v.setting.config.receivers ≡ g = ap group_of e in
        sym (ap (λ (n : ℕ). n / v.setting.config.receivers + 1) back ∙ ap (λ (n : ℕ). n + 1) same)
