-- A look that finds as many items as the bound: the row was full when the look began.
use Rattle.std.proofs.Common.{◌≡◌, ℕ, zero, suc, ◌+◌, ◌<◌, ◌≤◌, Bool, true, List, [], ◌∷◌, ◌++◌, length, Ok, inl, inr, refl, sym, ap, subst, ◌∙◌, arith, length-append}
use Rattle.std.proofs.lemmas.Bool.{cases_eq, cases_lt}
use Rattle.std.specs.List.{list_any}
use Rattle.cc_model.specs.Config.{config_fault}
use Rattle.cc_model.specs.Record.{Record, of_group}
use Rattle.cc_model.specs.Items.{Begins, accepted, accepted_by, is_shut, handed, handed_by}
use Rattle.cc_model.specs.Legal.{Legal, TakeSideAnswers}
use Rattle.cc_model.proofs.Grows.{handed_by-append}
use Rattle.cc_runs.specs.State.{State}
use Rattle.cc_runs.specs.OnChain.{answers_on}
use Rattle.cc_runs.specs.Run.{IsRun, reached, history_of}
use Rattle.cc_runs.specs.Counts.{counted, counted_for, CountsOf, CountsNoLess}
use Rattle.cc_runs.proofs.RunPrefixes.{prefixes_begin}
use Rattle.cc_runs.proofs.ChainLaws.{chain_laws}
use Rattle.cc_runs.proofs.ListRuns.Laws.{history_is_legal}
use Rattle.cc_runs.proofs.Counts.Laws.{counts_are_near, counts_grow}
use Rattle.cc_runs.proofs.KnownPrefixes.{accepted_grow}
use Rattle.cc_row.specs.Names.{Item, Entry, Answer, TakeAnswer, Chain, Served, Move}
use Rattle.cc_row.specs.Row.{ends}
use Rattle.cc_row.specs.Runs.{FoundEnded}
use Rattle.cc_row.specs.Threads.{RowEvent, RowSetting, IsKept, KeepRules, moves_of, moves_there, last_of, queue_of}
use Rattle.cc_row.specs.BoundThreads.{queue_at, accepted_below, handed_below, HasBound, FindsFull, IsFullAt, LooksFindFullRows}
use Rattle.cc_row.proofs.Merge.{moves_here, moves_else}
use Rattle.cc_row.proofs.Threads.{Quiet, Kept, good, runs_before}
use Rattle.cc_row.proofs.Sums.{grows}

-- a group that has found the end has all items
ended_all : (items : List Item) (shut : Bool) (count : ℕ) (calls : List Entry) (answers : List Answer) → TakeSideAnswers items shut count calls answers → list_any ends answers ≡ true → length items ≤ count + length (handed_by answers)
ended_all items shut count calls [] legal is = absurd (cc)
ended_all items shut count [] (a ∷ answers) legal is = absurd legal
ended_all items shut count (e ∷ calls) (Answer.Take (TakeAnswer.Ended total) ∷ answers) legal is = omega (arith, legal.0.2)
ended_all items shut count (e ∷ calls) (Answer.Take (TakeAnswer.Got item) ∷ answers) legal is = omega (arith, ended_all items shut (count + 1) calls answers legal.1 is)
ended_all items shut count (e ∷ calls) (Answer.Take TakeAnswer.Empty ∷ answers) legal is = omega (arith, ended_all items shut (count + 0) calls answers legal.1 is)
ended_all items shut count (e ∷ calls) (_ ∷ answers) legal is = absurd legal.0

module _ (r : RowSetting) where
  -- ---- earlier events

  -- the queues run as the machine does, and the threads keep the rules
  pub record Sound (events : List RowEvent) : Type 0 where
    pub serves : (q : ℕ) → (r.of q).served ≡ Served.List
    pub checked : (q : ℕ) → config_fault (r.of q).config ≡ Ok tt
    pub runs : (q : ℕ) → IsRun (r.of q) (moves_there q events)
    pub rules : KeepRules r events

  pub sound_before : (e : RowEvent) (events : List RowEvent) → Sound (e ∷ events) → Sound events
  sound_before (RowEvent.Moves m) events s = record { serves = s.serves; checked = s.checked; runs = runs_before r m (moves_of events) s.runs; rules = s.rules.0 }
  sound_before _ events s = record { serves = s.serves; checked = s.checked; runs = s.runs; rules = s.rules.0 }

  pub sound_then : (later events : List RowEvent) → Sound (later ++ events) → Sound events
  sound_then [] events s = s
  sound_then (e ∷ later) events s = sound_then later events (sound_before e (later ++ events) s)

  abbrev pub More : ℕ → (later events : List RowEvent) → Type 0
  More q later events = (more : List Move) × (moves_there q (later ++ events) ≡ more ++ moves_there q events)

  pub more_moves : (q : ℕ) (later events : List RowEvent) → More q later events
  more_moves q [] events = ([], refl)
  more_moves q (RowEvent.Moves m ∷ later) events =
      let before : More q later events = more_moves q later events in
      elim (cases_eq m.at q) [
        | inl is ↦ (m.move ∷ before.0, moves_here m (moves_of (later ++ events)) q is ∙ ap (λ (l : List Move). m.move ∷ l) before.1)
        | inr differ ↦ (before.0, moves_else m (moves_of (later ++ events)) q differ ∙ before.1)
      ]
  more_moves q (_ ∷ later) events = more_moves q later events

  -- ---- one queue

  module _ (events : List RowEvent) (s : Sound events) where
    pub near : (q : ℕ) → CountsOf (r.of q) (queue_at r q events)
    near q = counts_are_near (r.of q) (moves_there q events) (s.serves q) (s.checked q) (s.runs q)

    pub legal : (q : ℕ) → Legal (r.of q).config (queue_at r q events).history
    legal q = history_is_legal (r.of q) (moves_there q events) (s.serves q) (s.checked q) (s.runs q)

    pub kept : Kept r events
    kept = (good r events s.runs s.rules).kept

    pub within : (q g : ℕ) → g < (r.of q).config.groups → length (handed (queue_at r q events).history g) ≤ length (accepted (queue_at r q events).history)
    within q g inside = ((legal q).takes g inside).within

  module _ (later events : List RowEvent) (s : Sound (later ++ events)) (q : ℕ) where
    abbrev Later : State → Type 0
    Later t = (length (accepted (queue_at r q events).history) ≤ length (accepted t.history)) × ((g : ℕ) → length (handed (queue_at r q events).history g) ≤ length (handed t.history g)) × CountsNoLess (r.of q) (queue_at r q events) t

    pub grown : Later (queue_at r q (later ++ events))
    grown =
        let m : More q later events = more_moves q later events in
        let run : IsRun (r.of q) (m.0 ++ moves_there q events) = subst (λ (l : List Move). IsRun (r.of q) l) m.1 (s.runs q) in
        let begins = prefixes_begin (r.of q) m.0 (moves_there q events) run in
        subst (λ (l : List Move). Later (reached (r.of q) l)) (sym m.1) (
          items (history_of (r.of q) (moves_there q events)) (history_of (r.of q) (m.0 ++ moves_there q events)) ((chain_laws (r.of q) (s.checked q) (moves_there q events) begins.0).ordered Chain.Send) begins.1,
          takes (history_of (r.of q) (moves_there q events)) (history_of (r.of q) (m.0 ++ moves_there q events)) begins.1,
          counts_grow (r.of q) m.0 (moves_there q events) (s.serves q) (s.checked q) run,
        )
      where
        items : (h t : Record) → length h.sends.answers ≤ length h.sends.calls → Begins h t → length (accepted h) ≤ length (accepted t)
        items h t order b =
            let is : length (accepted t) ≡ length (accepted_by (h.sends.calls ++ b.sends.calls.0) (h.sends.answers ++ b.sends.answers.0)) = λ i. length (accepted_by (b.sends.calls.1 i) (b.sends.answers.1 i)) in
            omega (arith, is, accepted_grow h.sends.calls b.sends.calls.0 h.sends.answers b.sends.answers.0 order)

        takes : (h t : Record) → Begins h t → (g : ℕ) → length (handed h g) ≤ length (handed t g)
        takes h t b g =
            let is : length (handed t g) ≡ length (handed h g) + length (handed_by (b.takes g).answers.0) =
            ap (λ (l : List Answer). length (handed_by l)) (b.takes g).answers.1 ∙ ap (λ (l : List Item). length l) (handed_by-append (of_group h g).answers (b.takes g).answers.0) ∙ length-append (handed h g) (handed_by (b.takes g).answers.0) in
            omega (arith, is)

  module _ (count bound : ℕ) (has : HasBound r count bound) where
    module _ (events : List RowEvent) (s : Sound events) (g : ℕ) (inside : g < count) where
      pub there : (q : ℕ) → g < (r.of q).config.groups
      there q = omega (arith, inside, has.groups_are q)

      -- a queue that the group has gone on from
      pub behind : (q : ℕ) → q < queue_of g events → length (accepted (queue_at r q events).history) ≤ length (handed (queue_at r q events).history g)
      behind q less =
          let found : FoundEnded (r.of q) (r.names q) (moves_there q events) g = (kept events s).ended g q less in
          let same : found.group ≡ g = sym (has.names_are q found.group) ∙ found.named in
          subst (λ (k : ℕ). length (accepted (queue_at r q events).history) ≤ length (handed (queue_at r q events).history k)) same
          (all_of (ended_all (accepted (queue_at r q events).history) (is_shut (queue_at r q events).history) 0 (of_group (queue_at r q events).history found.group).calls (of_group (queue_at r q events).history found.group).answers
          ((legal events s q).takes found.group found.inside).answers found.ended))
        where
          all_of : {a b : ℕ} → a ≤ 0 + b → a ≤ b
          all_of {a} {b} less = omega (arith, less)

      -- a queue that the group hasn't come to
      pub beyond : (q : ℕ) → queue_of g events < q → length (handed (queue_at r q events).history g) ≡ 0
      beyond q more =
          let quiet : Quiet (r.of q) (Chain.Take g) (moves_there q events) = (kept events s).no_take q g (omega (arith, more, ap (λ (z : ℕ). queue_of z events) (has.names_are q g))) in
          let none : length (answers_on (Chain.Take g) (queue_at r q events).history) ≤ 0 = omega (arith, (chain_laws (r.of q) (s.checked q) (moves_there q events) (s.runs q)).ordered (Chain.Take g), ap length quiet.none) in
          no_answers (of_group (queue_at r q events).history g).answers none
        where
          no_answers : (l : List Answer) → length l ≤ 0 → length (handed_by l) ≡ 0
          no_answers [] few = refl
          no_answers (a ∷ l) few = absurd (omega (arith, few))

      -- what was handed of the first queues
      pub handed_few : (n : ℕ) → handed_below r n g events ≤ accepted_below r n events
      handed_few zero = omega arith
      handed_few (suc n) = omega (arith, handed_few n, within events s n g (there n))

      pub accepted_up : (n m : ℕ) → n ≤ m → accepted_below r n events ≤ accepted_below r m events
      accepted_up = grows (λ k. accepted_below r k events) (λ k. omega arith)

      pub handed_until : (n from : ℕ) → ((q : ℕ) → from < q → length (handed (queue_at r q events).history g) ≡ 0) → handed_below r n g events ≤ accepted_below r from events + length (handed (queue_at r from events).history g)
      handed_until zero from none = omega arith
      handed_until (suc n) from none =
          grind (arith, handed_few n, handed_few (suc n), accepted_up (suc n) from, handed_until n from none, none n)

    module _ (later events : List RowEvent) (s : Sound (later ++ events)) where
      pub accepted_stays : (n : ℕ) → accepted_below r n events ≤ accepted_below r n (later ++ events)
      accepted_stays zero = omega arith
      accepted_stays (suc n) = omega (arith, accepted_stays n, (grown later events s n).0)

      pub handed_stays : (n g : ℕ) → handed_below r n g events ≤ handed_below r n g (later ++ events)
      handed_stays zero g = omega arith
      handed_stays (suc n) g = omega (arith, handed_stays n g, (grown later events s n).1 g)

    module _ (between seen : List RowEvent) (s : Sound (between ++ seen)) (f : FindsFull r count bound between seen) where
      now : Sound seen
      now = sound_then between seen s

      all : ℕ
      all = suc (last_of seen)

      most : accepted_below r f.queue seen + counted (queue_at r f.queue seen) ≤ accepted_below r (suc (last_of seen)) seen
      most = omega (arith, (near seen now f.queue).most, accepted_up seen now f.group f.inside (suc f.queue) (suc (last_of seen)) (omega (arith, f.there)))

      -- of the same queue
      same_queue : f.from ≡ f.queue → handed_below r (suc (last_of seen)) f.group seen + bound ≤ accepted_below r (suc (last_of seen)) seen
      same_queue is =
          let g : ℕ = f.group in
          let q : ℕ = f.queue in
          let finds : accepted_below r f.queue (between ++ seen) + counted_for (queue_at r f.queue (between ++ seen)) f.group + bound ≤ accepted_below r f.queue seen + counted (queue_at r f.queue seen) =
          subst (λ (k : ℕ). accepted_below r k (between ++ seen) + counted_for (queue_at r k (between ++ seen)) f.group + bound ≤ accepted_below r f.queue seen + counted (queue_at r f.queue seen)) is f.finds in
          let up : counted_for (queue_at r f.queue seen) f.group ≤ counted_for (queue_at r f.queue (between ++ seen)) f.group = (grown between seen s f.queue).2.taken f.group (there seen now f.group f.inside f.queue) in
          let least : length (handed (queue_at r f.queue seen).history f.group) ≤ counted_for (queue_at r f.queue seen) f.group = (near seen now f.queue).taken_least f.group (there seen now f.group f.inside f.queue) in
          elim (cases_lt f.queue (queue_of f.group seen)) [
            | inl gone ↦ absurd (omega (arith, finds, up, least, behind seen now f.group f.inside f.queue gone, (near seen now f.queue).most, accepted_stays between seen s f.queue, has.room))
            | inr near_it ↦ omega (arith, finds, up, least, accepted_stays between seen s f.queue, most, handed_until seen now f.group f.inside (suc (last_of seen)) f.queue (λ q more. beyond seen now f.group f.inside q (omega (arith, more, near_it))))
          ]

      -- of the queue that the group was at
      own_queue : queue_of f.group (between ++ seen) ≡ f.from → handed_below r (suc (last_of seen)) f.group seen + bound ≤ accepted_below r (suc (last_of seen)) seen
      own_queue is = omega (
        arith,
        f.finds,
        (near (between ++ seen) s f.from).taken_least f.group (there (between ++ seen) s f.group f.inside f.from),
        most,
        handed_stays between seen s (suc (last_of seen)) f.group,
        handed_until (between ++ seen) s f.group f.inside (suc (last_of seen)) f.from (λ q more. beyond (between ++ seen) s f.group f.inside q (omega (arith, more, is))),
      )

      full_at : IsFullAt r count bound seen
      full_at = record { group = f.group; inside = f.inside; waits = elim f.which [ inl is ↦ same_queue is | inr is ↦ own_queue is ] }

pub sound_of : (r : RowSetting) (events : List RowEvent) → IsKept r events → Sound r events
sound_of r events kept = record { serves = kept.serves; checked = kept.checked; runs = kept.runs; rules = kept.rules }

pub looks_find_full : LooksFindFullRows
looks_find_full r count bound between seen has kept f = full_at r count bound has between seen (sound_of r (between ++ seen) kept) f
