-- One turn of a pass, and what it leaves.
use Rattle.std.proofs.Common.{◌≡◌, ◌≢◌, ◌<◌, ◌≤◌, ◌==◌, ℕ, zero, suc, ◌+◌, ◌-◌, List, ◌∷◌, length, get_or, set, Bool, true, false, cond, Option, Some, None, Ok, refl, sym, ap, ◌∙◌, subst, arith, rules}
use Rattle.std.proofs.lemmas.Bool.Decides.{nat_tests}
use Rattle.std.proofs.lemmas.List.{get_or-set_same, get_or-set_other}
use Rattle.cc_model.specs.Body.{HasBody}
use Rattle.cc_model.specs.Items.{known_at}
use Rattle.cc_play.specs.Names.{Answer, Call, Pass, Setting, Event, Kind, Phase, Move}
use Rattle.cc_runs.specs.Lines.{event_at}
use Rattle.cc_runs.specs.Step.{stepped as machine_stepped}
use Rattle.cc_runs.specs.State.{State}
use Rattle.cc_runs.specs.Run.{reached, moved, rests, begins as begun_stand, May, IsFinished, IsRun}
use Rattle.cc_machine.specs.Machine.{index_of, IsAfter, begin_fault, StandsStill, event_of, event_in, stepped_on, HasStepped, HasGone, HasGoneOn, told_at, told_in, answer_of, HasTaken, HasBegun}
use Rattle.cc_machine.specs.View.{View, state_in}
use Rattle.cc_machine.proofs.Rows.{inside}
use Rattle.cc_machine.proofs.Faults.{may_begin}
use Rattle.cc_plan.specs.Plan.{PlanValue}
use Rattle.cc_play.specs.Schedule.{setting_of, phase_in, begun_in, next_call, begins_at, begins, steps_at, steps, takes_at, takes, turn, turns, entry, IsAt, HasEnded, HasTurned, IsOnItsWay}

-- ---- numbers

same_number : (n : ℕ) → (n == n) ≡ true
same_number n = grind (arith, nat_tests)

-- ---- places

begins-busy : (row : ℕ) (at : Phase) (kind : Kind) (next : Option Call) (known : ℕ) (run : List Move) → event_at at ≡ Event.Did kind → begins_at row at next known run ≡ run
begins-busy row Phase.Idle kind next known run e = cc
begins-busy row _ kind next known run e = refl

begins-none : (row : ℕ) (at : Phase) (known : ℕ) (run : List Move) → begins_at row at None known run ≡ run
begins-none row Phase.Idle known run = refl
begins-none row _ known run = refl

-- a call that begins resets its link first
reset_first : (plan : PlanValue) (row : ℕ) (k : Call) (known : ℕ) (run : List Move) → Event.Did Kind.ResetNext ≡ event_at (phase_in plan (Move.Begin row k known ∷ run) row)
reset_first plan row k known run = sym (ap (λ (b : Bool). event_at (cond b (begun_stand (setting_of plan).config row k known ((reached (setting_of plan) run).stand row)) ((reached (setting_of plan) run).stand row)).phase) (same_number row))

abbrev taken : ℕ → Option Answer → List Move → List Move
taken row (Some told) run = Move.Take row ∷ run
taken row None run = run

takes-told : (row : ℕ) (at : Phase) (run : List Move) → takes_at row at run ≡ taken row (told_at at) run
takes-told row (Phase.Finished told) run = refl
takes-told row _ run = refl

-- a pass that has a step has no answer to be taken
takes-busy : (row : ℕ) (at : Phase) (kind : Kind) (run : List Move) → event_at at ≡ Event.Did kind → takes_at row at run ≡ run
takes-busy row (Phase.Finished told) kind run e = cc e
takes-busy row _ kind run e = refl

did : (e : Event) → e ≢ Event.Idle → (kind : Kind) × (e ≡ Event.Did kind)
did (Event.Did kind) some = (kind, refl)
did Event.Idle some = absurd (some refl)

finished_at : (at : Phase) (told : Answer) → Some told ≡ told_at at → IsFinished at
finished_at (Phase.Finished answer) told e = tt
finished_at _ told e = absurd (cc)

-- ---- one move of the machine

module _ (plan : PlanValue) (who : Pass) (row : ℕ) (named : index_of (setting_of plan) who ≡ Some row) where
  index : (m : View) (begun : List ℕ) (run : List Move) → IsAt plan m begun run → index_of m.setting who ≡ Some row
  index m begun run at = rw at.setting named

  -- the state of the machine after a move of the run
  moves : (m m' : View) (begun : List ℕ) (run : List Move) (move : Move) → IsAt plan m begun run → IsAfter m move m' → state_in m' ≡ reached (setting_of plan) (move ∷ run)
  moves m m' begun run move at h = h.state ∙ ap (λ (c : Setting). moved c (state_in m) move) at.setting ∙ ap (λ (s : State). moved (setting_of plan) s move) at.state

  pub stepped : (m m' : View) (begun : List ℕ) (run : List Move) (e : Event) → IsAt plan m begun run → e ≡ event_of m who → HasStepped m (index_of m.setting who) e m' → IsAt plan m' begun (steps plan row run)
  stepped m m' begun run e at is did =
      let here : index_of m.setting who ≡ Some row = index m begun run at in
      let same : e ≡ event_at (phase_in plan run row) = is ∙ ap (event_in m) here ∙ ap (λ (s : State). event_at (s.stand row).phase) at.state in
      subst (λ (x : Event). IsAt plan m' begun (steps_at row x run)) same (core e same (subst (λ (o : Option ℕ). HasStepped m o e m') here did))
    where
      core : (x : Event) → x ≡ event_at (phase_in plan run row) → HasStepped m (Some row) x m' → IsAt plan m' begun (steps_at row x run)
      core (Event.Did kind) does h = record { moves = (at.moves, (inside (setting_of plan) who row named, λ none. absurd (cc (does, none)))); setting = h.setting ∙ at.setting; state = moves m m' begun run (Move.Step row) at h; rows = at.rows; counts = at.counts }
      core Event.Idle does h = rw h at

  pub answered : (m m' : View) (begun : List ℕ) (run : List Move) (a : Option Answer) → IsAt plan m begun run → a ≡ answer_of m who → HasTaken m (index_of m.setting who) a m' → IsAt plan m' begun (takes plan row run)
  answered m m' begun run a at is did =
      let here : index_of m.setting who ≡ Some row = index m begun run at in
      let same : a ≡ told_at (phase_in plan run row) = is ∙ ap (told_in m) here ∙ ap (λ (s : State). told_at (s.stand row).phase) at.state in
      rw (takes-told row (phase_in plan run row) run) (subst (λ (x : Option Answer). IsAt plan m' begun (taken row x run)) same (core a same (subst (λ (o : Option ℕ). HasTaken m o a m') here did)))
    where
      core : (x : Option Answer) → x ≡ told_at (phase_in plan run row) → HasTaken m (Some row) x m' → IsAt plan m' begun (taken row x run)
      core (Some told) read h = record { moves = (at.moves, (inside (setting_of plan) who row named, finished_at (phase_in plan run row) told read)); setting = h.setting ∙ at.setting; state = moves m m' begun run (Move.Take row) at h; rows = at.rows; counts = at.counts }
      core None read h = rw h at

  counts_after : (begun : List ℕ) (run : List Move) (k : Call) (known n : ℕ) → ((r : ℕ) → r < length begun → get_or begun r 0 ≡ begun_in r run) → get_or begun row 0 ≡ n → row < length begun
      → (r : ℕ) → r < length begun → get_or (set begun row (n + 1)) r 0 ≡ begun_in r (Move.Begin row k known ∷ run)
  counts_after begun run k known n counts is inside r within = by (r == row) refl
    where
      by : (b : Bool) → (r == row) ≡ b → get_or (set begun row (n + 1)) r 0 ≡ cond b (begun_in r run + 1) (begun_in r run)
      by true e =
          let same : r ≡ row = grind (arith, nat_tests) in
          rw same (get_or-set_same begun row (n + 1) 0 inside ∙ ap (λ (x : ℕ). x + 1) (sym is ∙ counts row inside))
      by false e = get_or-set_other begun row r (n + 1) 0 (λ same. grind (arith, nat_tests)) ∙ counts r within

  pub begun_now : (m m' : View) (begun : List ℕ) (run : List Move) (n : ℕ) (k : Call) → IsAt plan m begun run → row < length begun → get_or begun row 0 ≡ n → phase_in plan run row ≡ Phase.Idle → next_call plan who n ≡ Some k → HasBody k → begin_fault m who k ≡ Ok tt
      → HasBegun m (index_of m.setting who) k (known_at who m.history) m' → IsAt plan m' (set begun row (n + 1)) (begins plan who row run)
  unfolding state_in
  begun_now m m' begun run n k at within is at_rest next whole free did =
      let here : index_of m.setting who ≡ Some row = index m begun run at in
      let h : IsAfter m (Move.Begin row k (known_at who m.history)) m' = subst (λ (o : Option ℕ). HasBegun m o k (known_at who m.history) m') here did in
      let knows : known_at who m.history ≡ known_at who (reached (setting_of plan) run).history = ap (λ (s : State). known_at who s.history) at.state in
      let call : next_call plan who (begun_in row run) ≡ Some k = ap (next_call plan who) (sym (at.counts row within) ∙ is) ∙ next in
      let begins_so : begins plan who row run ≡ Move.Begin row k (known_at who m.history) ∷ run = rw (at_rest, call, ← knows) refl in
      let may : May m.setting (state_in m) (Move.Begin row k (known_at who m.history)) = may_begin m who k (known_at who m.history) row here whole free (omega arith) in
      rw begins_so (record {
        moves = (at.moves, subst (λ (s : State). May (setting_of plan) s (Move.Begin row k (known_at who m.history))) at.state (subst (λ (c : Setting). May c (state_in m) (Move.Begin row k (known_at who m.history))) at.setting may));
        setting = h.setting ∙ at.setting;
        state = moves m m' begun run (Move.Begin row k (known_at who m.history)) at h;
        rows = length_set begun row (n + 1) ∙ at.rows;
        counts = λ r less. counts_after begun run k (known_at who m.history) n at.counts is within r (rw (← length_set begun row (n + 1)) less);
      })
    where
      length_set : (xs : List ℕ) (i x : ℕ) → length (set xs i x) ≡ length xs
      length_set xs i x = search rules

  -- a pass that has a step begins nothing
  pub did_turn : (run : List Move) (kind : Kind) → event_at (phase_in plan run row) ≡ Event.Did kind → turn plan who row run ≡ takes plan row (steps plan row run)
  unfolding turn
  did_turn run kind e = ap (λ (r : List Move). takes plan row (steps plan row r)) (begins-busy row _ kind _ _ run e)

  -- a pass without a step and without a call does nothing but have its answer taken
  pub no_turn : (run : List Move) → event_at (phase_in plan run row) ≡ Event.Idle → next_call plan who (begun_in row run) ≡ None → turn plan who row run ≡ takes plan row run
  unfolding turn
  no_turn run e none =
      let first : begins plan who row run ≡ run = rw none (begins-none row (phase_in plan run row) _ run) in
      let second : steps plan row run ≡ run = rw e refl in
      ap (λ (r : List Move). takes plan row (steps plan row r)) first ∙ ap (takes plan row) second

  ended_at : (run : List Move) (at : Phase) → phase_in plan run row ≡ at → event_at at ≡ Event.Idle → next_call plan who (begun_in row run) ≡ None → HasEnded plan who row (takes_at row at run)
  ended_at run Phase.Idle is e none = record { idle = is; none = none }
  ended_at run (Phase.Finished told) is e none = record { idle = ap (λ (b : Bool). (cond b (rests ((reached (setting_of plan) run).stand row)) ((reached (setting_of plan) run).stand row)).phase) (same_number row); none = none }
  ended_at run _ is e none = cc

  pub ended : (run : List Move) → event_at (phase_in plan run row) ≡ Event.Idle → next_call plan who (begun_in row run) ≡ None → HasEnded plan who row (turn plan who row run)
  ended run e none = rw (no_turn run e none) (ended_at run (phase_in plan run row) refl e none)

  -- further turns of a pass that has ended change nothing
  stays : (run : List Move) → HasEnded plan who row run → turn plan who row run ≡ run
  stays run h =
      let e : event_at (phase_in plan run row) ≡ Event.Idle = ap event_at h.idle in
      no_turn run e h.none ∙ ap (λ (at : Phase). takes_at row at run) h.idle

  pub stays_on : (n more : ℕ) (run : List Move) → HasEnded plan who row (turns plan who row n run) → turns plan who row (n + more) run ≡ turns plan who row n run
  stays_on n zero run h = ap (λ (k : ℕ). turns plan who row k run) (omega arith)
  stays_on n (suc more) run h =
      let earlier : turns plan who row (n + more) run ≡ turns plan who row n run = stays_on n more run h in
      let step : n + suc more ≡ suc (n + more) = omega arith in
      ap (λ (k : ℕ). turns plan who row k run) step ∙ ap (turn plan who row) earlier ∙ stays (turns plan who row n run) h

  -- ---- whole turns

  event_here : (m : View) (begun : List ℕ) (run : List Move) → IsAt plan m begun run → event_of m who ≡ event_at (phase_in plan run row)
  event_here m begun run at = ap (event_in m) (index m begun run at) ∙ ap (λ (s : State). event_at (s.stand row).phase) at.state

  -- the pass had a step
  pub did_turned : (m m1 m2 : View) (begun : List ℕ) (kind : Kind) (a : Option Answer) → Event.Did kind ≡ event_of m who → HasStepped m (index_of m.setting who) (Event.Did kind) m1
      → a ≡ answer_of m1 who → HasTaken m1 (index_of m1.setting who) a m2 → HasTurned plan who row m m2 begun begun (Event.Did kind)
  did_turned m m1 m2 begun kind a is did told took = record {
    at = λ run at.
        let does : event_at (phase_in plan run row) ≡ Event.Did kind = sym (is ∙ event_here m begun run at) in
        rw (did_turn run kind does) (answered m1 m2 begun (steps plan row run) a (stepped m m1 begun run (Event.Did kind) at is did) told took);
    told = λ run at.
        let does : event_at (phase_in plan run row) ≡ Event.Did kind = sym (is ∙ event_here m begun run at) in
        sym (ap (λ (r : List Move). event_at (phase_in plan r row)) (begins-busy row _ kind _ _ run does) ∙ does);
    ended = λ run at more. cc;
  }

  -- the pass was idle, and had a call to begin
  pub begun_turned : (m m1 m2 m3 : View) (begun : List ℕ) (k : Call) (e : Event) (a : Option Answer) → row < length begun → next_call plan who (get_or begun row 0) ≡ Some k
      → ((state_in m).stand row).phase ≡ Phase.Idle → HasBody k → begin_fault m who k ≡ Ok tt → HasBegun m (index_of m.setting who) k (known_at who m.history) m1
      → e ≡ event_of m1 who → HasStepped m1 (index_of m1.setting who) e m2
      → a ≡ answer_of m2 who → HasTaken m2 (index_of m2.setting who) a m3 → HasTurned plan who row m m3 begun (set begun row (get_or begun row 0 + 1)) (Event.Did Kind.ResetNext)
  unfolding turn
  begun_turned m m1 m2 m3 begun k e a within next idle whole free begin is did told took = record {
    at = λ run at.
        let at_rest : phase_in plan run row ≡ Phase.Idle = sym (ap (λ (s : State). (s.stand row).phase) at.state) ∙ idle in
        let first = begun_now m m1 begun run (get_or begun row 0) k at within refl at_rest next whole free begin in
        let counted : List ℕ = set begun row (get_or begun row 0 + 1) in
        answered m2 m3 counted (steps plan row (begins plan who row run)) a (stepped m1 m2 counted (begins plan who row run) e first is did) told took;
    told = λ run at.
        let at_rest : phase_in plan run row ≡ Phase.Idle = sym (ap (λ (s : State). (s.stand row).phase) at.state) ∙ idle in
        let call : next_call plan who (begun_in row run) ≡ Some k = ap (next_call plan who) (sym (at.counts row within)) ∙ next in
        rw (at_rest, call) (reset_first plan row k (known_at who (reached (setting_of plan) run).history) run);
    ended = λ run at more. cc;
  }

  -- the pass had neither a step nor a call to begin
  pub none_turned : (m : View) (begun : List ℕ) → row < length begun → told_at ((state_in m).stand row).phase ≡ None → Event.Idle ≡ event_of m who → next_call plan who (get_or begun row 0) ≡ None
      → HasTurned plan who row m m begun begun Event.Idle
  none_turned m begun inside untold is next = record {
    at = λ run at. rw (unmoved run at) at;
    told = λ run at. rw (none run at) (sym (ap (λ (r : List Move). event_at (phase_in plan r row)) (begins-none row (phase_in plan run row) _ run) ∙ stepless run at));
    ended = λ run at more. ended run (stepless run at) (none run at);
  }
    where
      stepless : (run : List Move) → IsAt plan m begun run → event_at (phase_in plan run row) ≡ Event.Idle
      stepless run at = sym (is ∙ event_here m begun run at)

      none : (run : List Move) → IsAt plan m begun run → next_call plan who (begun_in row run) ≡ None
      none run at = ap (next_call plan who) (sym (at.counts row inside)) ∙ next

      unmoved : (run : List Move) → IsAt plan m begun run → turn plan who row run ≡ run
      unmoved run at = no_turn run (stepless run at) (none run at) ∙ takes-told row (phase_in plan run row) run ∙ ap (λ (told : Option Answer). taken row told run) (sym (ap (λ (s : State). told_at (s.stand row).phase) at.state) ∙ untold)

  -- ---- an entry

  -- a turn of a pass that waits is one read, and leaves all as it was
  still_turn : (m : View) (begun : List ℕ) (run : List Move) → ((state_in m).stand row).phase ≡ Phase.ReadState → machine_stepped m.setting (state_in m) row ≡ state_in m
      → IsAt plan m begun run → IsAt plan m begun (turn plan who row run)
  still_turn m begun run reads same at =
      let here : phase_in plan run row ≡ Phase.ReadState = ap (λ (s : State). (s.stand row).phase) (sym at.state) ∙ reads in
      let stays : machine_stepped (setting_of plan) (reached (setting_of plan) run) row ≡ reached (setting_of plan) run =
      subst (λ (s : State). machine_stepped (setting_of plan) s row ≡ s) at.state (subst (λ (c : Setting). machine_stepped c (state_in m) row ≡ state_in m) at.setting same) in
      let does : event_at (phase_in plan run row) ≡ Event.Did Kind.ReadState = ap event_at here in
      let one : steps plan row run ≡ Move.Step row ∷ run = ap (λ (e : Event). steps_at row e run) does in
      let there : phase_in plan (Move.Step row ∷ run) row ≡ Phase.ReadState = ap (λ (s : State). (s.stand row).phase) stays ∙ here in
      let whole : turn plan who row run ≡ Move.Step row ∷ run = did_turn run Kind.ReadState does ∙ ap (takes plan row) one ∙ ap (λ (p : Phase). takes_at row p (Move.Step row ∷ run)) there in
      rw whole (record {
        moves = (at.moves, (inside (setting_of plan) who row named, λ none. absurd (cc (does, none))));
        setting = at.setting;
        state = at.state ∙ sym stays;
        rows = at.rows;
        counts = at.counts;
      })

  still_turns : (m : View) (begun : List ℕ) (run : List Move) → ((state_in m).stand row).phase ≡ Phase.ReadState → machine_stepped m.setting (state_in m) row ≡ state_in m
      → (n more : ℕ) → IsAt plan m begun (turns plan who row n run) → IsAt plan m begun (turns plan who row (n + more) run)
  still_turns m begun run reads same n zero at = let none : n ≡ n + zero = omega arith in subst (λ (k : ℕ). IsAt plan m begun (turns plan who row k run)) none at
  still_turns m begun run reads same n (suc more) at =
      let next : suc (n + more) ≡ n + suc more = omega arith in
      subst (λ (k : ℕ). IsAt plan m begun (turns plan who row k run)) next
      (still_turn m begun (turns plan who row (n + more) run) reads same (still_turns m begun run reads same n more at))

  -- ---- many steps in one go

  -- this number of steps of the pass
  abbrev stepping : ℕ → List Move → List Move
  stepping zero run = run
  stepping (suc n) run = Move.Step row ∷ stepping n run

  -- each of which it had
  abbrev HadEach : ℕ → List Move → Type 0
  HadEach n run = (k : ℕ) → k < n → event_at (phase_in plan (stepping k run) row) ≢ Event.Idle

  leads : (n : ℕ) (run : List Move) → reached (setting_of plan) (stepping n run) ≡ stepped_on (setting_of plan) (reached (setting_of plan) run) row n
  leads zero run = refl
  leads (suc n) run = ap (λ (s : State). machine_stepped (setting_of plan) s row) (leads n run)

  counted : (n : ℕ) (run : List Move) (r : ℕ) → begun_in r (stepping n run) ≡ begun_in r run
  counted zero run r = refl
  counted (suc n) run r = counted n run r

  is_run : (n : ℕ) (run : List Move) → IsRun (setting_of plan) run → HadEach n run → IsRun (setting_of plan) (stepping n run)
  is_run zero run is each = is
  is_run (suc n) run is each = (is_run n run is (λ k less. each k (omega (arith, less))), (inside (setting_of plan) who row named, each n (omega arith)))

  at_steps : (m m1 : View) (begun : List ℕ) (n : ℕ) (run : List Move) → HasGone m row n m1 → IsAt plan m begun run → HadEach n run × IsAt plan m1 begun (stepping n run)
  at_steps m m1 begun n run gone at = (
    each,
    record {
      moves = is_run n run at.moves each;
      setting = gone.setting ∙ at.setting;
      state = gone.state ∙ same n;
      rows = at.rows;
      counts = λ r less. at.counts r less ∙ sym (counted n run r);
    },
  )
    where
      same : (k : ℕ) → stepped_on m.setting (state_in m) row k ≡ reached (setting_of plan) (stepping k run)
      same k = ap (λ (c : Setting). stepped_on c (state_in m) row k) at.setting ∙ ap (λ (s : State). stepped_on (setting_of plan) s row k) at.state ∙ sym (leads k run)

      each : HadEach n run
      each k less none = gone.each k less (ap (λ (s : State). event_at (s.stand row).phase) (same k) ∙ none)

  -- they are as many turns, but for the answer
  turns_are : (n : ℕ) (run : List Move) → told_at (phase_in plan run row) ≡ None → HadEach n run → turns plan who row n run ≡ takes plan row (stepping n run)
  turns_are zero run none each = sym (takes-told row (phase_in plan run row) run ∙ ap (λ (told : Option Answer). taken row told run) none)
  turns_are (suc n) run none each =
      let before = turns_are n run none (λ k less. each k (omega (arith, less))) in
      let does = did (event_at (phase_in plan (stepping n run) row)) (each n (omega arith)) in
      ap (turn plan who row) (before ∙ takes-busy row (phase_in plan (stepping n run) row) does.0 (stepping n run) does.1)
      ∙ did_turn (stepping n run) does.0 does.1 ∙ ap (λ (e : Event). takes plan row (steps_at row e (stepping n run))) does.1

  -- this number of turns were done
  pub record HasDone (m m1 : View) (begun : List ℕ) (n : ℕ) : Type 0 where
    pub at : (run : List Move) → IsAt plan m begun run → IsAt plan m1 begun (turns plan who row n run)

  -- this number of steps, and the answer taken if there is one then
  pub gone_turned : (m m1 m2 : View) (begun : List ℕ) (n : ℕ) (a : Option Answer) → told_at ((state_in m).stand row).phase ≡ None → HasGoneOn m (index_of m.setting who) n m1
      → a ≡ answer_of m1 who → HasTaken m1 (index_of m1.setting who) a m2 → HasDone m m2 begun n
  gone_turned m m1 m2 begun n a untold gone told took = record {
    at = λ run at.
        let steps = at_steps m m1 begun n run (subst (λ (o : Option ℕ). HasGoneOn m o n m1) (index m begun run at) gone) at in
        let none : told_at (phase_in plan run row) ≡ None = sym (ap (λ (s : State). told_at (s.stand row).phase) at.state) ∙ untold in
        rw (turns_are n run none steps.0) (answered m1 m2 begun (stepping n run) a steps.1 told took);
  }

  -- ---- some of an entry's turns

  turns_more : (n more : ℕ) (run : List Move) → turns plan who row more (turns plan who row n run) ≡ turns plan who row (n + more) run
  turns_more n zero run = ap (λ (k : ℕ). turns plan who row k run) (omega arith)
  turns_more n (suc more) run =
      let next : suc (n + more) ≡ n + suc more = omega arith in
      ap (turn plan who row) (turns_more n more run) ∙ ap (λ (k : ℕ). turns plan who row k run) next

  -- all of them were done
  pub all_done : (m m1 : View) (begun : List ℕ) (n left : ℕ) → n ≡ left → HasDone m m1 begun n → IsOnItsWay plan who row m m1 begun begun left 0
  all_done m m1 begun n left all done = record { on = λ run at. (turns plan who row n run, done.at run at, ap (λ (k : ℕ). turns plan who row k run) all) }

  -- a pass that waits reads on
  pub waits_on : (m m1 : View) (begun : List ℕ) (n left : ℕ) → n ≤ left → HasDone m m1 begun n → StandsStill m1 (index_of m1.setting who) → IsOnItsWay plan who row m m1 begun begun left 0
  waits_on m m1 begun n left less done waits = record {
    on = λ run at.
        let now = done.at run at in
        let still : StandsStill m1 (Some row) = subst (λ (o : Option ℕ). StandsStill m1 o) (index m1 begun (turns plan who row n run) now) waits in
        let rest : n + (left - n) ≡ left = omega arith in
        (turns plan who row left run, subst (λ (k : ℕ). IsAt plan m1 begun (turns plan who row k run)) rest (still_turns m1 begun run still.0 still.1 n (left - n) now), refl);
  }

  -- one turn more
  pub turned_on : (m m1 m2 : View) (begun begun2 : List ℕ) (n left rest : ℕ) {event : Event} → n + 1 + rest ≡ left → HasDone m m1 begun n → HasTurned plan who row m1 m2 begun begun2 event → IsOnItsWay plan who row m m2 begun begun2 left rest
  turned_on m m1 m2 begun begun2 n left rest all done last = record {
    on = λ run at.
        let later : suc n + rest ≡ left = omega (arith, all) in
        (turns plan who row (suc n) run, last.at (turns plan who row n run) (done.at run at), turns_more (suc n) rest run ∙ ap (λ (k : ℕ). turns plan who row k run) later);
  }

  -- one turn more, and none to come
  pub ended_on : (m m1 m2 : View) (begun begun2 : List ℕ) (n left : ℕ) {event : Event} → n < left → HasDone m m1 begun n → HasTurned plan who row m1 m2 begun begun2 event → event ≡ Event.Idle
      → IsOnItsWay plan who row m m2 begun begun2 left 0
  ended_on m m1 m2 begun begun2 n left less done last none = record {
    on = λ run at.
        let over : HasEnded plan who row (turns plan who row (suc n) run) = last.ended (turns plan who row n run) (done.at run at) none in
        let rest : suc n + (left - suc n) ≡ left = omega arith in
        (turns plan who row (suc n) run, last.at (turns plan who row n run) (done.at run at), sym (ap (λ (k : ℕ). turns plan who row k run) (sym rest) ∙ stays_on (suc n) (left - suc n) run over));
  }

  -- ---- an entry

  -- before the first
  pub none_on : (m : View) (begun : List ℕ) (n : ℕ) → IsOnItsWay plan who row m m begun begun n n
  none_on m begun n = record { on = λ run at. (run, at, refl) }

  -- what is left after one part is left after both
  pub on_and_on : (m m1 m2 : View) (begun begun1 begun2 : List ℕ) (events left rest : ℕ) → IsOnItsWay plan who row m m1 begun begun1 events left → IsOnItsWay plan who row m1 m2 begun1 begun2 left rest → IsOnItsWay plan who row m m2 begun begun2 events rest
  on_and_on m m1 m2 begun begun1 begun2 events left rest first second = record {
    on = λ run at.
        let here = first.on run at in
        let there = second.on here.0 here.1 in
        (there.0, there.1, there.2 ∙ here.2);
  }

  pub none_left : (m m1 : View) (begun begun1 : List ℕ) (events left : ℕ) → left ≡ 0 → IsOnItsWay plan who row m m1 begun begun1 events left
      → (run : List Move) → IsAt plan m begun run → IsAt plan m1 begun1 (entry plan who (index_of (setting_of plan) who) events run)
  none_left m m1 begun begun1 events left none way run at =
      let here = way.on run at in
      let whole : here.0 ≡ turns plan who row events run = ap (λ (k : ℕ). turns plan who row k here.0) (sym none) ∙ here.2 in
      rw named (subst (λ (r : List Move). IsAt plan m1 begun1 r) whole here.1)
