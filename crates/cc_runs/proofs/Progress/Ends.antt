-- From the begin of a call to its end: three steps to its exchange, and then the rounds of the calls of its chain.
use Rattle.std.proofs.lemmas.Bool.{cases_eq}
use Rattle.std.proofs.Common.{◌≡◌, ◌≢◌, ◌⊎◌, ℕ, suc, ◌+◌, ◌-◌, ◌*◌, ◌<◌, ◌≤◌, Bool, true, not, ◌==◌, cond, List, [], ◌∷◌, ◌++◌, length, Ok, refl, ap, sym, ◌∙◌, subst, arith, append_assoc, inl, inr}
use Rattle.std.specs.List.{AllByRecursion, list_any}
use Rattle.std.proofs.Math.Nat.{mul-le-mul_right}
use Rattle.std.proofs.Math.Seq.{drop-length}
use Rattle.cc_model.specs.Config.{config_fault}
use Rattle.cc_model.specs.Items.{is_pass}
use Rattle.cc_runs.specs.Names.{Answer, TakeAnswer, Setting, Served, Entry, Chain, Round, Job, Event, Stand, Phase, Move}
use Rattle.cc_runs.specs.Codes.{code_of, value_of, further_words, tag_of}
use Rattle.cc_runs.specs.State.{State, chain_of, pass_at, word_of}
use Rattle.cc_runs.specs.Lines.{event_at, operation, goes, after_exchange, after_state, after_next, after_answer, after_ret}
use Rattle.cc_runs.specs.ServiceLine.{Next, phase_of}
use Rattle.cc_runs.specs.CountLines as count_side
use Rattle.cc_runs.specs.SendLines as send_side
use Rattle.cc_runs.specs.TakeLines as take_side
use Rattle.cc_runs.specs.Run.{IsIdle, IsFinished, reached, IsRun, May, moved, history_of}
use Rattle.cc_runs.specs.Passes.{pass_of}
use Rattle.cc_runs.specs.Turns.{is_in, IsAmong}
use Rattle.cc_runs.specs.Ahead.{service, ahead}
use Rattle.cc_runs.specs.Progress.{calls_after, answers_after, HasStep, IsRound, moves_in, AreRounds, most_rounds, all_rounds, EachCallEnds}
use Rattle.cc_runs.proofs.ReadWords.{behind_word}
use Rattle.cc_runs.proofs.Passes.{moved_apart}
use Rattle.cc_runs.proofs.RunPrefixes.{prefixes_begin}
use Rattle.cc_runs.proofs.Chains.View.{members, pass_on}
use Rattle.cc_runs.proofs.Chains.Registers.{IsChain, calls_on}
use Rattle.cc_runs.proofs.Chains.Frame.{hold_here}
use Rattle.cc_runs.proofs.Progress.Shares.{both_true, true_both}
use Rattle.cc_runs.proofs.Progress.Combiner.{phase_at}
use Rattle.cc_runs.proofs.Progress.Falls.{in_event, Lessens, falls_in, finished_event}
use Rattle.cc_runs.proofs.Progress.Laws.{open_calls_are_few}
use Rattle.cc_runs.proofs.Progress.Rounds.{own, total, own_some, lower, round_falls, total_most, few_later, among_back}

-- ---- the course of a call

-- the steps that are left before its exchange
abbrev before_left : Phase → ℕ
before_left (Phase.ResetNext call) = 3
before_left (Phase.ResetState call) = 2
before_left (Phase.Exchange call) = 1
before_left _ = 0

-- it has exchanged, and its answer isn't taken
abbrev Exchanged : Phase → Type 0
Exchanged at = (is_in at ≡ true) ⊎ IsFinished at

after_service : {S : Type 0} (in_service : Job → S → Phase) → ((job : Job) (at : S) → is_in (in_service job at) ≡ true) → (job : Job) (next : Next S) → is_in (phase_of in_service job next) ≡ true
after_service in_service is job next = grind arith

module _ (c : Setting) (x : Chain) (own found : ℕ) where
  exchanges : (y : Chain) (call : Entry) → is_in (after_exchange y own call) ≡ true
  exchanges y call = grind arith

  state_read : (n : ℕ) → is_in (after_state own n) ≡ true
  state_read n = grind arith

  next_read : (what : Served) (y : Chain) (round : Round) (n : ℕ) → is_in (after_next what y round n) ≡ true
  next_read what y round n = grind arith

  answer_written : (job : Job) (told : Answer) → is_in (after_answer job told) ≡ true
  answer_written job told = grind arith

  done : (job : Job) (b : Bool) → is_in (cond b (Phase.HandOver job.next) (Phase.ReadNext record { at = job.next; served = job.round.served + 1 })) ≡ true
  done job b = grind arith

  taken_read : (ret : ℕ) (one two : Bool) → Exchanged (cond one (Phase.ReadAnswerTag (value_of ret)) (cond two (Phase.Finished (Answer.Take TakeAnswer.Empty)) (Phase.Finished (Answer.Take (TakeAnswer.Ended (value_of ret))))))
  taken_read ret one two = grind arith

  ret_read : (what : Served) (y : Chain) (ret : ℕ) → Exchanged (after_ret what y ret)
  ret_read what Chain.Send ret = inr tt
  ret_read what (Chain.Take g) ret = taken_read ret (code_of ret == 1) (code_of ret == 2)

  -- a step of a pass in its call leads on in it, or to its end
  in_goes : (at : Phase) → is_in at ≡ true → Exchanged (goes c x own at found)
  in_goes (Phase.WriteBody put request i) inside = behind_word Exchanged (further_words request.tag) i _ _ (λ more. inl refl) (λ last. inl refl)
  in_goes Phase.ReadState inside = inl (state_read found)
  in_goes (Phase.ReadNext round) inside = inl (next_read c.served x round found)
  in_goes (Phase.Counting job at) inside = inl (after_service count_side.in_service (λ j z. refl) job (count_side.line 0 at found).next)
  in_goes (Phase.Sending job at) inside = inl (after_service send_side.in_service (λ j z. refl) job (send_side.line c.config 0 at found).next)
  in_goes (Phase.Taking job at) inside = inl (after_service take_side.in_service (λ j z. refl) job (take_side.line 0 at found).next)
  in_goes (Phase.WriteAnswer job told) inside = inl (answer_written job told)
  in_goes (Phase.WriteAnswerBody job item i) inside = behind_word Exchanged (further_words (tag_of item)) i _ _ (λ more. inl refl) (λ last. inl refl)
  in_goes (Phase.MarkDone job) inside = inl (done job (job.round.served + 1 == c.config.bound))
  in_goes Phase.ReadAnswer inside = ret_read c.served x found
  in_goes (Phase.ReadAnswerBody p i) inside = behind_word Exchanged (further_words p.tag) i _ _ (λ more. inl refl) (λ last. inr tt)
  in_goes at inside = grind arith

exchanged_busy : (at : Phase) → Exchanged at → at ≢ Phase.Idle
exchanged_busy at h = grind arith

exchanged_none : (at : Phase) → Exchanged at → before_left at ≡ 0
exchanged_none at h = grind arith

none_exchanged : (at : Phase) → at ≢ Phase.Idle → before_left at ≡ 0 → Exchanged at
none_exchanged at busy none = grind arith

before_few : (at : Phase) → before_left at ≤ 3
before_few at = grind arith

before_event : (at : Phase) → 0 < before_left at → event_at at ≢ Event.Idle
before_event at some = grind arith

-- a step of a pass in its call, or on the way to it
record Leads (from to : Phase) : Type 0 where
  busy : to ≢ Phase.Idle
  le : before_left to ≤ before_left from
  lt : 0 < before_left from → before_left to < before_left from

leads_on : (from to : Phase) → Exchanged to → before_left from ≡ 0 → Leads from to
leads_on from to h none = record { busy = exchanged_busy to h; le = omega (arith, exchanged_none to h); lt = λ some. absurd (omega (arith, some, none)) }

step_leads : (c : Setting) (x : Chain) (own : ℕ) (at : Phase) (found : ℕ) → event_at at ≢ Event.Idle → Leads at (goes c x own at found)
step_leads c x own Phase.Idle found has = absurd (has refl)
step_leads c x own (Phase.Finished told) found has = absurd (has refl)
step_leads c x own (Phase.ResetNext call) found has = record { busy = λ e. absurd (cc); le = omega arith; lt = λ some. omega arith }
step_leads c x own (Phase.ResetState call) found has = record { busy = λ e. absurd (cc); le = omega arith; lt = λ some. omega arith }
step_leads c x own (Phase.Exchange call) found has =
    let h : Exchanged (after_exchange x own call) = inl (exchanges c x own found x call) in
    record { busy = exchanged_busy (after_exchange x own call) h; le = omega (arith, exchanged_none (after_exchange x own call) h); lt = λ some. omega (arith, exchanged_none (after_exchange x own call) h) }
step_leads c x own at found has = leads_on at (goes c x own at found) (in_goes c x own found at refl) refl

-- ---- along moves in which it takes no answer

both_parts : (p : ℕ) (xs ys : List Move) → AllByRecursion (λ m. m ≢ Move.Take p) (xs ++ ys) → AllByRecursion (λ m. m ≢ Move.Take p) xs × AllByRecursion (λ m. m ≢ Move.Take p) ys
both_parts p [] ys all = (tt, all)
both_parts p (m ∷ xs) ys all = let rest = both_parts p xs ys all.1 in ((all.0, rest.0), rest.1)

idle_is : (at : Phase) → IsIdle at → at ≡ Phase.Idle
idle_is at is = grind arith

module _ (c : Setting) (checked : config_fault c.config ≡ Ok tt) (x : Chain) (ok : IsChain c x) (n : ℕ) (inside : n < members c x) where
  abbrev P : ℕ
  P = pass_on c x n

  abbrev at : State → Phase
  at s = phase_at c x s n

  -- a move of its own is a step
  its_own : (s : State) (m : Move) → May c s m → pass_of m ≡ P → m ≢ Move.Take P → at s ≢ Phase.Idle → m ≡ Move.Step P
  its_own s (Move.Step p) may same ne busy = ap (λ (z : ℕ). Move.Step z) same
  its_own s (Move.Begin p call known) may same ne busy = absurd (busy (ap (λ (z : ℕ). (s.stand z).phase) (sym same) ∙ idle_is (s.stand p).phase may.2))
  its_own s (Move.Take p) may same ne busy = absurd (ne (ap (λ (z : ℕ). Move.Take z) same))

  its_step_leads : (s : State) (m : Move) → May c s m → m ≡ Move.Step P → Leads (at s) (at (moved c s m))
  its_step_leads s m may is =
      let y : Chain = chain_of c.config P in
      let found : ℕ = s.mem (word_of (operation c (chain_of c.config P) (s.stand P).node (s.stand P).phase)) in
      subst (λ (t : State). Leads (at s) (at t)) (sym (ap (moved c s) is))
      (subst (λ (z : Phase). Leads (at s) z) (sym (ap (λ (z : Stand). z.phase) (hold_here s.stand P _))) (step_leads c (chain_of c.config P) (s.stand P).node (s.stand P).phase found (subst (May c s) is may).1))

  -- so it stays in its call, or on the way to it
  move_leads : (s : State) (m : Move) → May c s m → m ≢ Move.Take P → at s ≢ Phase.Idle → (at (moved c s m) ≢ Phase.Idle) × (before_left (at (moved c s m)) ≤ before_left (at s))
  move_leads s m may ne busy = grind (arith, its_step_leads s m may, its_own s m may, busy, moved_apart c s m P)

  module _ (seen : List Move) where
    record Good (now : List Move) : Type 0 where
      run : IsRun c (now ++ seen)
      keeps : AllByRecursion (λ m. m ≢ Move.Take (pass_on c x n)) now

    good_rest : (m : Move) (now : List Move) → Good (m ∷ now) → Good now
    good_rest m now good = record { run = good.run.0; keeps = good.keeps.1 }

    busy_after : (now : List Move) → Good now → at (reached c seen) ≢ Phase.Idle → at (reached c (now ++ seen)) ≢ Phase.Idle
    busy_after [] good busy = busy
    busy_after (m ∷ now) good busy = (move_leads (reached c (now ++ seen)) m good.run.1 good.keeps.0 (busy_after now (good_rest m now good) busy)).0

    before_lessens : at (reached c seen) ≢ Phase.Idle → (m : Move) (now : List Move) → Good (m ∷ now) → Lessens c P (λ s. before_left (at s)) (λ s. 0 < before_left (at s)) (reached c (now ++ seen)) m
    before_lessens busy m now good = record {
      le = (move_leads (reached c (now ++ seen)) m good.run.1 good.keeps.0 (busy_after now (good_rest m now good) busy)).1;
      lt = λ is some. (its_step_leads (reached c (now ++ seen)) m good.run.1 is).lt some;
      stays = λ other some. subst (λ (z : Stand). 0 < before_left z.phase) (sym (moved_apart c (reached c (now ++ seen)) m P other)) some;
    }

    -- each round brings it to its exchange by a step
    before_falls : (now : List Move) → Good now → IsRound (HasStep c x) c x seen now → 0 < before_left (at (reached c seen)) → before_left (at (reached c (now ++ seen))) < before_left (at (reached c seen))
    before_falls now good fair some =
        falls_in c P (λ s. before_left (at s)) (λ s. 0 < before_left (at s)) (λ s h. before_event (at s) h) seen Good (λ more g. g.run) good_rest
        (before_lessens (λ e. absurd (omega (arith, some, ap before_left e)))) now good some (fair n inside (before_event (at (reached c seen)) some))

    -- in one of the first k calls, or at its end
    abbrev Stands : ℕ → List Move → Type 0
    Stands k moves = IsAmong c x k (reached c moves) n ⊎ IsFinished (at (reached c moves))

    stands_busy : (k : ℕ) (moves : List Move) → Stands k moves → at (reached c moves) ≢ Phase.Idle
    stands_busy k moves (inl among) = exchanged_busy (at (reached c moves)) (inl (both_true (is_in (at (reached c moves))) _ among).0)
    stands_busy k moves (inr is) = exchanged_busy (at (reached c moves)) (inr is)

    stands_move : (k : ℕ) (m : Move) (now : List Move) → Good (m ∷ now) → k ≤ calls_after c x (now ++ seen) → Stands k (now ++ seen) → Stands k (m ∷ now ++ seen)
    stands_move k m now good few st = elim (cases_eq (pass_of m) P) [
      | inr other ↦ elim st [
        | inl among ↦ inl ((lower c checked x ok k n inside (now ++ seen) good.run.0 few m good.run.1).among n inside other ∙ among)
        | inr is ↦ inr (subst (λ (z : Stand). IsFinished z.phase) (sym (moved_apart c (reached c (now ++ seen)) m P other)) is)
      ]
      | inl mine ↦
          let step : m ≡ Move.Step P = its_own (reached c (now ++ seen)) m good.run.1 mine good.keeps.0 (stands_busy k (now ++ seen) st) in
          elim st [
            | inr is ↦ absurd ((subst (May c (reached c (now ++ seen))) step good.run.1).1 (finished_event (at (reached c (now ++ seen))) is))
            | inl among ↦
                let leads : Leads (at (reached c (now ++ seen))) (at (reached c (m ∷ now ++ seen))) = its_step_leads (reached c (now ++ seen)) m good.run.1 step in
                elim (none_exchanged (at (reached c (m ∷ now ++ seen))) leads.busy (none_left (before_left (at (reached c (now ++ seen)))) (before_left (at (reached c (m ∷ now ++ seen)))) (exchanged_none (at (reached c (now ++ seen))) (inl (both_true (is_in (at (reached c (now ++ seen)))) _ among).0)) leads.le)) [
                  | inl still ↦ inl ((lower c checked x ok k n inside (now ++ seen) good.run.0 few m good.run.1).own n inside step among still)
                  | inr is ↦ inr is
                ]
          ]
    ]
      where
        none_left : (a b : ℕ) → a ≡ 0 → b ≤ a → b ≡ 0
        none_left a b none le = omega (arith, none, le)

    stands_on : (k : ℕ) (now : List Move) → Good now → k ≤ calls_after c x seen → Stands k seen → Stands k (now ++ seen)
    stands_on k [] good few st = st
    stands_on k (m ∷ now) good few st =
        stands_move k m now good (few_later c checked x ok k now seen good.run.0 few) (stands_on k now (good_rest m now good) few st)

  -- ---- over rounds

  -- it has exchanged after some of the rounds, and what is ahead and left to it has fallen since
  record HasExchanged (moves : List Move) (rounds : ℕ) : Type 0 where
    k : ℕ
    few : k ≤ calls_after c x moves
    stands : IsAmong c x k (reached c moves) n ⊎ IsFinished (at (reached c moves))
    falls : IsAmong c x k (reached c moves) n → total c checked x ok k n inside (reached c moves) + rounds ≤ all_rounds c x

  abbrev Comes : List Move → ℕ → Type 0
  Comes moves rounds = ((0 < before_left (at (reached c moves))) × (before_left (at (reached c moves)) + rounds ≤ 3)) ⊎ HasExchanged moves rounds

  -- it is in the last of all calls that have exchanged by now
  exchanged_now : (moves : List Move) (rounds : ℕ) → IsRun c moves → at (reached c moves) ≢ Phase.Idle → before_left (at (reached c moves)) ≡ 0 → rounds ≤ 3 → HasExchanged moves rounds
  exchanged_now moves rounds run busy none few = record {
    k = calls_after c x moves;
    few = omega arith;
    stands = elim (none_exchanged (at (reached c moves)) busy none) [ inl in_it ↦ inl (true_both (is_in (at (reached c moves))) _ in_it (ap (λ (l : List Entry). not (list_any (λ (e : Entry). is_pass (pass_at c.config P) e.pass) l)) (drop-length (calls_on x (history_of c moves))))) | inr is ↦ inr is ];
    falls = λ among.
        sum_up (total c checked x ok (calls_after c x moves) n inside (reached c moves)) (most_rounds c x (calls_after c x moves - answers_after c x moves)) (most_rounds c x (members c x)) rounds (total_most c checked x ok (calls_after c x moves) n inside moves run (omega arith))
        (most_more (calls_after c x moves - answers_after c x moves) (members c x) (omega (arith, open_calls_are_few c moves checked run x ok))) few;
  }
    where
      sum_up : (t m all r : ℕ) → t ≤ m → m ≤ all → r ≤ 3 → t + r ≤ 3 + all
      sum_up t m all r p q few2 = omega (arith, p, q, few2)

      plus_le : (a b p q r : ℕ) → a ≤ b → a + p + q + r ≤ b + p + q + r
      plus_le a b p q r le = omega (arith, le)

      most_more : (a b : ℕ) → a ≤ b → most_rounds c x a ≤ most_rounds c x b
      most_more a b le = plus_le (a * (service c.config x + 3)) (b * (service c.config x + 3)) (members c x * 6) ((c.config.bound + 1) * service c.config x) 17 (mul-le-mul_right (service c.config x + 3) le)

  among_rounds : (seen now : List Move) → IsRound (HasStep c x) c x seen now → (k : ℕ) → IsRound (IsAmong c x k) c x seen now
  among_rounds seen now fair k q q_in among = fair q q_in (in_event (phase_at c x (reached c seen) q) (both_true (is_in (phase_at c x (reached c seen) q)) _ among).0)

  module _ (seen : List Move) (now : List Move) (good : Good seen now) (fair : IsRound (HasStep c x) c x seen now) (rounds : ℕ) where
    from_before : 0 < before_left (at (reached c seen)) → before_left (at (reached c seen)) + rounds ≤ 3 → Comes (now ++ seen) (suc rounds)
    from_before some few =
        let less : before_left (at (reached c (now ++ seen))) < before_left (at (reached c seen)) = before_falls seen now good fair some in
        elim (cases_eq (before_left (at (reached c (now ++ seen)))) 0) [
          | inl none ↦ inr (exchanged_now (now ++ seen) (suc rounds) good.run (busy_after seen now good (λ e. absurd (omega (arith, some, ap before_left e)))) none (omega (arith, some, few)))
          | inr left ↦ inl (omega (arith, left), omega (arith, less, few))
        ]

    from_exchanged : HasExchanged seen rounds → Comes (now ++ seen) (suc rounds)
    from_exchanged e = inr record {
      k = e.k;
      few = few_later c checked x ok e.k now seen good.run e.few;
      stands = stands_on seen e.k now good e.few e.stands;
      falls = λ among.
          let before : IsAmong c x e.k (reached c seen) n = among_back c checked x ok e.k n inside now seen good.run e.few among in
          sum_up (total c checked x ok e.k n inside (reached c (now ++ seen))) (total c checked x ok e.k n inside (reached c seen)) rounds (all_rounds c x) (round_falls c checked x ok e.k n inside seen now good.run e.few (among_rounds seen now fair e.k) before) (e.falls before);
    }
      where
        sum_up : (a b r all : ℕ) → a < b → b + r ≤ all → a + suc r ≤ all
        sum_up a b r all less le = omega (arith, less, le)

  comes : (seen : List Move) (rounds : List (List Move)) → IsRun c (moves_in rounds ++ seen) → HasStep c x (reached c seen) n → AreRounds (HasStep c x) c x seen rounds → AllByRecursion (λ m. m ≢ Move.Take (pass_on c x n)) (moves_in rounds) → Comes (moves_in rounds ++ seen) (length rounds)
  comes seen [] run has fair keeps = grind (arith, exchanged_now seen 0 run, before_few (at (reached c seen)))
  comes seen (now ∷ earlier) run has fair keeps =
      let joined : (now ++ moves_in earlier) ++ seen ≡ now ++ (moves_in earlier ++ seen) = append_assoc now (moves_in earlier) seen in
      let run2 : IsRun c (now ++ (moves_in earlier ++ seen)) = subst (IsRun c) joined run in
      let parts = both_parts (pass_on c x n) now (moves_in earlier) keeps in
      let good : Good (moves_in earlier ++ seen) now = record { run = run2; keeps = parts.0 } in
      subst (λ (l : List Move). Comes l (suc (length earlier))) (sym joined)
      (elim (comes seen earlier (prefixes_begin c now (moves_in earlier ++ seen) run2).0 has fair.0 parts.1) [
        | inl before ↦ from_before (moves_in earlier ++ seen) now good fair.1 (length earlier) before.0 before.1
        | inr exchanged ↦ from_exchanged (moves_in earlier ++ seen) now good fair.1 (length earlier) exchanged
      ])

pub each_call_ends : EachCallEnds
each_call_ends c seen rounds checked run x ok n inside has fair keeps many = elim (comes c checked x ok n inside seen rounds run has fair keeps) [
  | inl before ↦ absurd (too_early (before_left (phase_at c x (reached c (moves_in rounds ++ seen)) n)) (length rounds) (most_rounds c x (members c x)) before.0 before.1 many)
  | inr e ↦ elim e.stands [
    | inr is ↦ is
    | inl among ↦ absurd (too_late (ahead c x e.k (reached c (moves_in rounds ++ seen))) (own c checked x ok e.k n inside (reached c (moves_in rounds ++ seen))) (length rounds) (all_rounds c x) (own_some c checked x ok e.k n inside (reached c (moves_in rounds ++ seen)) among) (e.falls among) many)
  ]
]
  where
    too_early : (b m most : ℕ) → 0 < b → b + m ≤ 3 → 3 + most ≤ m → ⊥
    too_early b m most some few many2 = absurd (omega (arith, some, few, many2))

    too_late : (a o m all : ℕ) → 0 < o → a + o + m ≤ all → all ≤ m → ⊥
    too_late a o m all some le many2 = absurd (omega (arith, some, le, many2))
