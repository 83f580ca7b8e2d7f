-- The log of each run has a legal order: the steps of the run's linearization.
use Rattle.std.proofs.Common.{◌≡◌, ◌⊎◌, ℕ, zero, suc, ◌+◌, ◌<◌, ◌≤◌, Bool, true, false, cond, List, [], ◌∷◌, ◌++◌, length, get_or, Option, Some, None, Ok, IsSome, inl, inr, refl, sym, ap, ◌∙◌, subst, arith, append_assoc, append-nil, slice_index_or, length-append}
use Rattle.std.proofs.lemmas.Bool.{cases_lt}
use Rattle.std.proofs.lemmas.Option.{slice_get_within, slice_get-get_or, get_or_from_slice_get}
use Rattle.std.specs.List.{slice_get}
use Rattle.cc_model.specs.Config.{config_fault}
use Rattle.cc_model.specs.Record.{Record}
use Rattle.cc_model.proofs.Grows.{get_front, get_last}
use Rattle.cc_runs.specs.Run.{IsRun}
use Rattle.cc_runs.specs.CallsMade.{made}
use Rattle.cc_runs.specs.Linearizable.{Effect, replay, AnswersAfter, in_order, IsLinearization, IsLinearizable}
use Rattle.cc_runs.proofs.Linear.Orders.{linearizable}
use Rattle.cc_judge.specs.Order as judge
use Rattle.cc_judge.specs.Order.{MayHaveDone, EndsBefore, IsCall, HasStepOf, IsOfLog, IsOnce, IsWhole, RespectsRealTime, RespectsLines, IsOrder}
use Rattle.cc_agree.specs.Names.{Body, Call, Answer, SendAnswer, CloseAnswer, TakeAnswer, Config, Setting, Served, Chain, Move, Act, Line, Step, Rules, Tie}
use Rattle.cc_agree.specs.OneQueue.{begun, returned, ChangesNothing, Adds, ReportAll, IsAnswered}
use Rattle.cc_agree.specs.LogOfRun.{IsClock, threads, no_line, log_of, IsTie, AreRules, LogsOfRunsAreLinearizable, LogsOfRunsHaveNoFault}
use Rattle.cc_agree.proofs.Answered.{exact_orders_are_answered}
use Rattle.cc_agree.proofs.Lists.{two_ends, get_append, first_same, second_same}
use Rattle.cc_agree.proofs.Log.{who, places, length-who, length-log, made_grows, has_place, place_of, of_thread, call_of, threads_grow, Open, Ended, Logged, Has, all_logged}
use Rattle.cc_agree.proofs.RealTime as real

-- ---- the step of a call

changes : Answer → Bool
changes (Answer.Send (SendAnswer.Accepted place)) = true
changes (Answer.Close (CloseAnswer.Shut total)) = true
changes (Answer.Take (TakeAnswer.Got item)) = true
changes _ = false

changes_not : (a : Answer) → changes a ≡ false → ChangesNothing a
unfolding changes
changes_not (Answer.Send (SendAnswer.Accepted place)) is = let e : true ≡ false = is in absurd (cc)
changes_not (Answer.Send SendAnswer.Full) is = tt
changes_not (Answer.Send SendAnswer.Closed) is = tt
changes_not (Answer.Send SendAnswer.Spent) is = tt
changes_not (Answer.Close (CloseAnswer.Shut total)) is = let e : true ≡ false = is in absurd (cc)
changes_not (Answer.Close (CloseAnswer.Already total)) is = tt
changes_not (Answer.Take (TakeAnswer.Got item)) is = let e : true ≡ false = is in absurd (cc)
changes_not (Answer.Take TakeAnswer.Empty) is = tt
changes_not (Answer.Take (TakeAnswer.Ended total)) is = tt

none_said : (number : Body → ℕ) (act : Act) (a : Answer) → returned number act a ≡ None → ChangesNothing a
none_said number act (Answer.Send (SendAnswer.Accepted place)) is = absurd (cc)
none_said number act (Answer.Send SendAnswer.Full) is = tt
none_said number act (Answer.Send SendAnswer.Closed) is = tt
none_said number act (Answer.Send SendAnswer.Spent) is = tt
none_said number act (Answer.Close (CloseAnswer.Shut total)) is = absurd (cc)
none_said number act (Answer.Close (CloseAnswer.Already total)) is = tt
none_said number act (Answer.Take (TakeAnswer.Got item)) is = absurd (cc)
none_said number act (Answer.Take TakeAnswer.Empty) is = tt
none_said number act (Answer.Take (TakeAnswer.Ended total)) is = tt

abbrev one : (place : ℕ) → Option Act → List Step
one place None = []
one place (Some act) = record { place = place; act = act } ∷ []

-- a call that hasn't returned has a step only if it changes the queue
abbrev kept : (place : ℕ) → (end : Option ℕ) → Answer → (told : Option Act) → List Step
kept place (Some t) a told = one place told
kept place None a told = cond (changes a) (one place told) []

record Kept (place : ℕ) (end : Option ℕ) (a : Answer) (told : Option Act) (j : ℕ) (s : Step) : Type 0 where
  first : j ≡ 0
  place_is : s.place ≡ place
  act_is : told ≡ Some s.act
  why : IsSome end ⊎ (changes a ≡ true)

one_at : (place : ℕ) (end : Option ℕ) (a : Answer) (told : Option Act) (j : ℕ) (s : Step) → IsSome end ⊎ (changes a ≡ true) → slice_get (one place told) j ≡ Some s → Kept place end a told j s
one_at place end a None j s why is = absurd (cc)
one_at place end a (Some act) zero s why is =
    let same : ◌≡◌ {A = Step} (record { place = place; act = act }) s = cc in
    record { first = refl; place_is = ap (λ (z : Step). z.place) (sym same); act_is = ap (λ (z : Step). Some z.act) same; why = why }
one_at place end a (Some act) (suc j) s why is = absurd (cc)

kept_at : (place : ℕ) (end : Option ℕ) (a : Answer) (told : Option Act) (j : ℕ) (s : Step) → slice_get (kept place end a told) j ≡ Some s → Kept place end a told j s
kept_at place (Some t) a told j s is = one_at place (Some t) a told j s (inl refl) is
kept_at place None a told j s is = by (changes a) refl is
  where
    by : (b : Bool) → changes a ≡ b → slice_get (cond b (one place told) []) j ≡ Some s → Kept place None a told j s
    by true changing got = one_at place None a told j s (inr changing) got
    by false same got = absurd (cc)

kept_adds : (number : Body → ℕ) (e : Effect) (place : ℕ) (end : Option ℕ) (before : List Step) → Adds number e before (before ++ kept place end e.answer (returned number (begun number e.entry.call) e.answer))
kept_adds number e place end before = by_end end
  where
    by_told : (told : Option Act) → returned number (begun number e.entry.call) e.answer ≡ told → Adds number e before (before ++ one place told)
    by_told None is = inr (none_said number (begun number e.entry.call) e.answer is, append-nil before)
    by_told (Some act) is = inl (record { place = place; act = act }, inl is, refl)

    by_change : (b : Bool) → changes e.answer ≡ b → Adds number e before (before ++ cond b (one place (returned number (begun number e.entry.call) e.answer)) [])
    by_change true is = by_told (returned number (begun number e.entry.call) e.answer) refl
    by_change false is = inr (changes_not e.answer is, append-nil before)

    by_end : (z : Option ℕ) → Adds number e before (before ++ kept place z e.answer (returned number (begun number e.entry.call) e.answer))
    by_end (Some t) = by_told (returned number (begun number e.entry.call) e.answer) refl
    by_end None = by_change (changes e.answer) refl

may_same : (a : Act) → MayHaveDone a a
may_same (Act.Send v) = refl
may_same (Act.Took v) = refl
may_same Act.FoundNone = refl
may_same Act.Taking = refl
may_same Act.Full = refl
may_same Act.Closed = refl
may_same Act.Ended = refl
may_same Act.Close = refl

-- a call that changed the queue, and hasn't returned
may_open : (number : Body → ℕ) (c : Config) (h : Record) (x : Chain) (call : Call) (a : Answer) (act : Act) → AnswersAfter c h x call a → changes a ≡ true → returned number (begun number call) a ≡ Some act → MayHaveDone (begun number call) act
unfolding changes
may_open number c h x call (Answer.Send (SendAnswer.Accepted place)) act answers changing is = let same : begun number call ≡ act = cc in subst (λ (z : Act). MayHaveDone (begun number call) z) same (may_same (begun number call))
may_open number c h x call (Answer.Close (CloseAnswer.Shut total)) act answers changing is = let same : begun number call ≡ act = cc in subst (λ (z : Act). MayHaveDone (begun number call) z) same (may_same (begun number call))
may_open number c h x Call.Take (Answer.Take (TakeAnswer.Got item)) act answers changing is = let same : Act.Took (number item.body) ≡ act = cc in subst (λ (z : Act). MayHaveDone Act.Taking z) same tt
may_open number c h x (Call.Send body) (Answer.Take (TakeAnswer.Got item)) act answers changing is = absurd answers
may_open number c h x Call.Close (Answer.Take (TakeAnswer.Got item)) act answers changing is = absurd answers
may_open number c h x call (Answer.Send SendAnswer.Full) act answers changing is = let e : false ≡ true = changing in absurd (cc)
may_open number c h x call (Answer.Send SendAnswer.Closed) act answers changing is = let e : false ≡ true = changing in absurd (cc)
may_open number c h x call (Answer.Send SendAnswer.Spent) act answers changing is = let e : false ≡ true = changing in absurd (cc)
may_open number c h x call (Answer.Close (CloseAnswer.Already total)) act answers changing is = let e : false ≡ true = changing in absurd (cc)
may_open number c h x call (Answer.Take TakeAnswer.Empty) act answers changing is = let e : false ≡ true = changing in absurd (cc)
may_open number c h x call (Answer.Take (TakeAnswer.Ended total)) act answers changing is = let e : false ≡ true = changing in absurd (cc)

-- ---- the order of a run's log

module _ (c : Setting) (number : Body → ℕ) (clock : ℕ → ℕ) (serves : c.served ≡ Served.List) (checked : config_fault c.config ≡ Ok tt) (moves : List Move) (run : IsRun c moves) (effects : List (List Effect)) (l : IsLinearization c moves effects) where
  abbrev order : List Effect
  order = in_order effects

  abbrev log : List Line
  log = log_of c number clock moves

  abbrev pass : Effect → ℕ
  pass e = real.pass c serves checked moves run effects l e

  abbrev nth : Effect → List Effect → ℕ
  nth e before = real.nth c serves checked moves run effects l e before

  abbrev place : Effect → List Effect → ℕ
  place e before = get_or (places moves (pass e)) (nth e before) 0

  abbrev said : Effect → Option Act
  said e = returned number (begun number e.entry.call) e.answer

  abbrev step_of : Effect → List Effect → List Step
  step_of e before = kept (place e before) (slice_index_or log (place e before) no_line).end e.answer (said e)

  abbrev steps_of : List Effect → List Step
  steps_of [] = []
  steps_of (e ∷ earlier) = steps_of earlier ++ step_of e earlier

  report_all : (es : List Effect) → ReportAll number es (steps_of es)
  report_all [] = refl
  report_all (e ∷ earlier) = (steps_of earlier, report_all earlier, kept_adds number e (place e earlier) (slice_index_or log (place e earlier) no_line).end (steps_of earlier))

  steps_grow : (after before : List Effect) → length (steps_of before) ≤ length (steps_of (after ++ before))
  steps_grow [] before = omega arith
  steps_grow (e ∷ after) before = omega (arith, steps_grow after before, length-append (steps_of (after ++ before)) (step_of e (after ++ before)))

  steps_get : (after before : List Effect) (k : ℕ) (s : Step) → slice_get (steps_of before) k ≡ Some s → slice_get (steps_of (after ++ before)) k ≡ Some s
  steps_get [] before k s is = is
  steps_get (e ∷ after) before k s is = get_front (steps_of (after ++ before)) (step_of e (after ++ before)) k s (steps_get after before k s is)

  -- ---- a call of the order, in the log

  record Found (e : Effect) (before : List Effect) : Type 0 where
    call : real.Found c serves checked moves run effects l e before
    named : slice_get (who c moves) (place e before) ≡ Some (pass e, nth e before)
    line : Line
    line_is : slice_get log (place e before) ≡ Some line
    logged : Logged c number clock moves (place e before) (pass e) (nth e before) line

  found : (after : List Effect) (e : Effect) (before : List Effect) → in_order effects ≡ after ++ e ∷ before → Found e before
  found after e before is = record { call = call; named = named; line = has.0; line_is = has.1; logged = has.2 }
    where
      call : real.Found c serves checked moves run effects l e before
      call = real.found c serves checked moves run effects l after e before is

      named : slice_get (who c moves) (place e before) ≡ Some (pass e, nth e before)
      named = has_place c moves (pass e) (nth e before) (slice_get_within (made c moves (pass e)) (nth e before) e.entry call.made_is)

      has : Has c number clock moves (place e before) (pass e) (nth e before)
      has = all_logged c number clock serves checked moves run (place e before) (pass e) (nth e before) named

  call_is : (e : Effect) (before : List Effect) (f : Found e before) → f.logged.call ≡ e.entry.call
  call_is e before f = call_of c number clock moves (place e before) (pass e) (nth e before) f.line f.logged e.entry f.call.made_is

  -- ---- a call that has returned, at that time

  abbrev took : (p n : ℕ) (call : Call) (line : Line) → Ended c number clock moves p n call line → real.Took c serves checked moves run effects l p n
  took p n call line x = record { later = x.later; seen = x.seen; split = x.split; told = x.told; phase_is = x.phase_is; nth = x.nth }

  at_end : (e : Effect) (before : List Effect) (f : Found e before) (x : Ended c number clock moves (pass e) (nth e before) f.logged.call f.line) → x.told ≡ e.answer
  at_end e before f x = (real.at_end c serves checked moves run effects l e before f.call (took (pass e) (nth e before) f.logged.call f.line x)).told_is

  -- ---- the steps by their places in the order

  record At (es : List Effect) (k : ℕ) (s : Step) : Type 0 where
    after : List Effect
    effect : Effect
    before : List Effect
    split : es ≡ after ++ effect ∷ before
    here : k ≡ length (steps_of before)
    step : Kept (place effect before) (slice_index_or log (place effect before) no_line).end effect.answer (said effect) 0 s

  at : (es : List Effect) (k : ℕ) (s : Step) → slice_get (steps_of es) k ≡ Some s → At es k s
  at [] k s is = absurd (cc)
  at (e ∷ earlier) k s is = elim (get_append (steps_of earlier) (step_of e earlier) k s is) [
    | inl old ↦ let w : At earlier k s = at earlier k s old in record { after = e ∷ w.after; effect = w.effect; before = w.before; split = ap (λ (z : List Effect). e ∷ z) w.split; here = w.here; step = w.step }
    | inr new ↦
        let kept : Kept (place e earlier) (slice_index_or log (place e earlier) no_line).end e.answer (said e) new.0 s = kept_at (place e earlier) (slice_index_or log (place e earlier) no_line).end e.answer (said e) new.0 s new.2 in
        record { after = []; effect = e; before = earlier; split = refl; here = omega (arith, new.1, kept.first); step = record { first = refl; place_is = kept.place_is; act_is = kept.act_is; why = kept.why } }
  ]

  -- of two steps the call of the first comes before that of the second
  abbrev Earlier : (e : Effect) (before before_other : List Effect) → Type 0
  Earlier e before before_other = real.Earlier c serves checked moves run effects l e before before_other

  earlier : (j k : ℕ) (s t : Step) → j < k → (a : At order j s) (b : At order k t) → Earlier a.effect a.before b.before
  earlier j k s t less a b = elim (cases_lt (length a.before) (length b.before)) [
    | inl longer ↦
        let ends : a.after ++ a.effect ∷ a.before ≡ (b.after ++ b.effect ∷ []) ++ b.before = sym a.split ∙ b.split ∙ sym (append_assoc b.after (b.effect ∷ []) b.before) in
        let mid : (mid : List Effect) × (b.before ≡ mid ++ a.effect ∷ a.before) = two_ends a.after (a.effect ∷ a.before) (b.after ++ b.effect ∷ []) b.before ends (omega (arith, longer)) in
        record { mid = mid.0; split = mid.1 }
    | inr short ↦
        let ends : (b.after ++ b.effect ∷ []) ++ b.before ≡ (a.after ++ a.effect ∷ []) ++ a.before = append_assoc b.after (b.effect ∷ []) b.before ∙ sym b.split ∙ a.split ∙ sym (append_assoc a.after (a.effect ∷ []) a.before) in
        let mid : (mid : List Effect) × (a.before ≡ mid ++ b.before) = two_ends (b.after ++ b.effect ∷ []) b.before (a.after ++ a.effect ∷ []) a.before ends short in
        absurd (omega (arith, less, a.here, b.here, steps_grow mid.0 b.before, ap (λ (z : List Effect). length (steps_of z)) mid.1))
  ]

  -- so of one pass's calls the later has the greater number
  later_nth : (a : Effect) (before_a : List Effect) (b : Effect) (before_b : List Effect) → Found a before_a → Found b before_b → Earlier a before_a before_b → pass a ≡ pass b → nth a before_a + 1 ≤ nth b before_b
  later_nth a before_a b before_b fa fb w same = real.later_nth c serves checked moves run effects l a before_a b before_b fa.call fb.call w same

  -- ---- the order is one of the log

  line_at : (e : Effect) (before : List Effect) (f : Found e before) → slice_index_or log (place e before) no_line ≡ f.line
  line_at e before f = get_or_from_slice_get log (place e before) f.line no_line f.line_is

  each : IsOfLog log (steps_of order)
  each k s is = record { call = f.line; call_is = ap (slice_get log) a.step.place_is ∙ f.line_is; may = may f.logged.state }
    where
      a : At order k s
      a = at order k s is

      e : Effect
      e = a.effect

      f : Found a.effect a.before
      f = found a.after a.effect a.before a.split

      may : Open c number clock f.logged.call f.line ⊎ Ended c number clock moves (pass a.effect) (nth a.effect a.before) f.logged.call f.line → MayHaveDone f.line.act s.act
      may (inl still) = elim a.step.why [
        | inl ended ↦ let no : false ≡ true = subst IsSome (ap (λ (z : Line). z.end) (line_at a.effect a.before f) ∙ still.end_is) ended in absurd (cc)
        | inr changing ↦ subst (λ (z : Act). MayHaveDone z s.act) (sym (still.act_is ∙ ap (begun number) (call_is a.effect a.before f)))
            (may_open number c.config (replay c.config.groups a.before) a.effect.chain a.effect.entry.call a.effect.answer s.act f.call.here.answers changing a.step.act_is)
      ]
      may (inr x) =
          let both : Some f.line.act ≡ Some s.act = sym x.act_is ∙ (λ i. returned number (begun number (call_is a.effect a.before f i)) (at_end a.effect a.before f x i)) ∙ a.step.act_is in
          let same : f.line.act ≡ s.act = cc in
          subst (λ (z : Act). MayHaveDone f.line.act z) same (may_same f.line.act)

  once : IsOnce (steps_of order)
  once j k s t less s_is t_is same =
      let a : At order j s = at order j s s_is in
      let b : At order k t = at order k t t_is in
      let fa : Found a.effect a.before = found a.after a.effect a.before a.split in
      let fb : Found b.effect b.before = found b.after b.effect b.before b.split in
      let places_are : place a.effect a.before ≡ place b.effect b.before = sym a.step.place_is ∙ same ∙ b.step.place_is in
      let both : ◌≡◌ {A = Option (ℕ × ℕ)} (Some (pass a.effect, nth a.effect a.before)) (Some (pass b.effect, nth b.effect b.before)) = sym fa.named ∙ ap (slice_get (who c moves)) places_are ∙ fb.named in
      omega (
        arith,
        later_nth a.effect a.before b.effect b.before fa fb (earlier j k s t less a b) (first_same (pass a.effect) (pass b.effect) (nth a.effect a.before) (nth b.effect b.before) both),
        second_same (pass a.effect) (pass b.effect) (nth a.effect a.before) (nth b.effect b.before) both,
      )

  -- ---- each call that returned has a step

  whole : IsWhole log (steps_of order)
  whole k line is ended = by_state w.0 w.1 w.2 w.2.state
    where
      z : ℕ × ℕ
      z = get_or (who c moves) k (0, 0)

      named : slice_get (who c moves) k ≡ Some (z.0, z.1)
      named = slice_get-get_or (who c moves) k (0, 0) (omega (arith, slice_get_within log k line is, length-log c number clock moves, length-who c moves))

      w : Has c number clock moves k z.0 z.1
      w = all_logged c number clock serves checked moves run k z.0 z.1 named

      by_state : (found_line : Line) → slice_get log k ≡ Some found_line → (g : Logged c number clock moves k z.0 z.1 found_line) → Open c number clock g.call found_line ⊎ Ended c number clock moves z.0 z.1 g.call found_line → HasStepOf (steps_of order) k
      by_state found_line there g (inl still) =
          let both : Some line ≡ Some found_line = sym is ∙ there in
          let same : line ≡ found_line = cc in
          let no : false ≡ true = subst IsSome (ap (λ (y : Line). y.end) same ∙ still.end_is) ended in absurd (cc)
      by_state found_line there g (inr x) = record {
        at = length (steps_of o.before);
        step = step;
        step_is = ap (λ (q : List Effect). slice_get (steps_of q) (length (steps_of o.before))) o.split ∙ steps_get o.after (o.effect ∷ o.before) (length (steps_of o.before)) step
            (ap (λ (q : List Step). slice_get (steps_of o.before ++ q) (length (steps_of o.before))) step_there ∙ get_last (steps_of o.before) step);
        place_is = place_there;
      }
        where
          o : real.InOrder c serves checked moves run effects l z.0 z.1 x.told
          o = real.whole_order c serves checked moves run effects l z.0 z.1 (took z.0 z.1 g.call found_line x)

          f : Found o.effect o.before
          f = found o.after o.effect o.before o.split

          place_there : place o.effect o.before ≡ k
          place_there = (λ i. get_or (places moves (o.pass_is i)) (o.nth_is i) 0) ∙ get_or_from_slice_get (places moves z.0) z.1 k 0 (place_of c moves z.0 z.1 k named)

          line_there : f.line ≡ found_line
          line_there = let both : Some f.line ≡ Some found_line = sym f.line_is ∙ ap (slice_get log) place_there ∙ there in cc

          call_there : g.call ≡ o.effect.entry.call
          call_there = call_of c number clock moves k z.0 z.1 found_line g o.effect.entry ((λ i. slice_get (made c moves (sym o.pass_is i)) (sym o.nth_is i)) ∙ f.call.made_is)

          said_there : said o.effect ≡ Some found_line.act
          said_there = (λ i. returned number (begun number (sym call_there i)) (sym o.told_is i)) ∙ x.act_is

          end_there : (slice_index_or log (place o.effect o.before) no_line).end ≡ Some (clock (length x.seen))
          end_there = ap (λ (q : Line). q.end) (line_at o.effect o.before f ∙ line_there) ∙ x.end_is

          step : Step
          step = record { place = place o.effect o.before; act = found_line.act }

          step_there : step_of o.effect o.before ≡ step ∷ []
          step_there = λ i. kept (place o.effect o.before) (end_there i) o.effect.answer (said_there i)

  -- ---- the order agrees with real time

  -- a call had ended by the time at which the other began
  module _ (goes : IsClock clock) (a : Effect) (before_a : List Effect) (fa : Found a before_a) (b : Effect) (before_b : List Effect) (fb : Found b before_b) (w : Earlier a before_a before_b) (after_b : List Effect) (split_b : in_order effects ≡ after_b ++ b ∷ before_b) where
    not_before : (x : Ended c number clock moves (pass b) (nth b before_b) fb.logged.call fb.line) → clock (length x.seen) < fa.line.begin → ⊥
    not_before x less =
        real.not_before c serves checked moves run effects l a before_a fa.call b before_b fb.call w after_b split_b (length fa.logged.before) begun_at (took (pass b) (nth b before_b) fb.logged.call fb.line x) earlier_seen
      where
        begun_at : real.Begun c moves (pass a) (nth a before_a) (length fa.logged.before)
        begun_at = record { call = fa.logged.call; known = fa.logged.known; later = fa.logged.later; before = fa.logged.before; split = fa.logged.split; time_is = refl; nth = fa.logged.nth }

        earlier_seen : length x.seen < length fa.logged.before
        earlier_seen = elim (cases_lt (length x.seen) (length fa.logged.before)) [
          | inl is ↦ is
          | inr not ↦ absurd (omega (arith, less, fa.logged.begin_is, goes (length fa.logged.before) (length x.seen) not))
        ]

  same_line : (e : Effect) (before : List Effect) (f : Found e before) (k : ℕ) (line : Line) → k ≡ place e before → slice_get log k ≡ Some line → f.line ≡ line
  same_line e before f k line at_place is = let both : Some f.line ≡ Some line = sym f.line_is ∙ ap (slice_get log) (sym at_place) ∙ is in cc

  in_time : IsClock clock → RespectsRealTime log (steps_of order)
  in_time goes j k s t less s_is t_is ends = by_state fb.logged.state
    where
      a : At order j s
      a = at order j s s_is

      b : At order k t
      b = at order k t t_is

      fa : Found a.effect a.before
      fa = found a.after a.effect a.before a.split

      fb : Found b.effect b.before
      fb = found b.after b.effect b.before b.split

      line_b : fb.line ≡ ends.one
      line_b = same_line b.effect b.before fb t.place ends.one b.step.place_is ends.one_is

      line_a : fa.line ≡ ends.other
      line_a = same_line a.effect a.before fa s.place ends.other a.step.place_is ends.other_is

      end_is : fb.line.end ≡ Some ends.end
      end_is = ap (λ (z : Line). z.end) line_b ∙ ends.ended

      by_state : Open c number clock fb.logged.call fb.line ⊎ Ended c number clock moves (pass b.effect) (nth b.effect b.before) fb.logged.call fb.line → ⊥
      by_state (inl still) = let no : None ≡ Some ends.end = sym still.end_is ∙ end_is in absurd (cc)
      by_state (inr x) =
          let both : Some (clock (length x.seen)) ≡ Some ends.end = sym x.end_is ∙ end_is in
          let time : clock (length x.seen) ≡ ends.end = cc in
          not_before goes a.effect a.before fa b.effect b.before fb (earlier j k s t less a b) b.after b.split x (omega (arith, time, ends.before, ap (λ (z : Line). z.begin) line_a))

  -- ---- and with the lines of each pass

  -- of two calls of a pass the one with the earlier line has no greater number
  in_number : (k m p n q : ℕ) (one two : Line) (g : Logged c number clock moves k p n one) (h : Logged c number clock moves m p q two) → k < m → n ≤ q
  in_number k m p n q one two g h less = elim (cases_lt (length h.before) (length g.before)) [
    | inl shorter ↦
        let part : (part : List Move) × (g.before ≡ part ++ h.before) = two_ends (h.later ++ Move.Begin p h.call h.known ∷ []) h.before (g.later ++ Move.Begin p g.call g.known ∷ []) g.before
        (append_assoc h.later (Move.Begin p h.call h.known ∷ []) h.before ∙ sym h.split ∙ g.split ∙ sym (append_assoc g.later (Move.Begin p g.call g.known ∷ []) g.before)) (omega (arith, shorter)) in
        absurd (omega (arith, less, g.place_is, h.place_is, threads_grow part.0 h.before, ap (λ (z : List Move). length (threads z)) part.1))
    | inr longer ↦
        let part : (part : List Move) × (h.before ≡ part ++ g.before) = two_ends (g.later ++ Move.Begin p g.call g.known ∷ []) g.before (h.later ++ Move.Begin p h.call h.known ∷ []) h.before
        (append_assoc g.later (Move.Begin p g.call g.known ∷ []) g.before ∙ sym g.split ∙ h.split ∙ sym (append_assoc h.later (Move.Begin p h.call h.known ∷ []) h.before)) longer in
        omega (arith, g.nth, h.nth, made_grows c part.0 g.before p, ap (λ (z : List Move). length (made c z p)) part.1)
  ]

  in_line : (ties : List Tie) → ((i : ℕ) (tie : Tie) → slice_get ties i ≡ Some tie → IsTie moves tie) → RespectsLines ties (steps_of order)
  in_line ties are i tie is j k s t less s_is t_is at_later at_earlier =
      omega (arith, later_nth a.effect a.before b.effect b.before fa fb (earlier j k s t less a b) passes_are, in_number tie.earlier tie.later tie_is.pass (nth b.effect b.before) (nth a.effect a.before) fb.line fa.line early late tie_is.in_order)
    where
      tie_is : IsTie moves tie
      tie_is = are i tie is

      a : At order j s
      a = at order j s s_is

      b : At order k t
      b = at order k t t_is

      fa : Found a.effect a.before
      fa = found a.after a.effect a.before a.split

      fb : Found b.effect b.before
      fb = found b.after b.effect b.before b.split

      place_a : place a.effect a.before ≡ tie.later
      place_a = sym a.step.place_is ∙ at_later

      place_b : place b.effect b.before ≡ tie.earlier
      place_b = sym b.step.place_is ∙ at_earlier

      pass_a : pass a.effect ≡ tie_is.pass
      pass_a =
          let w : (n : ℕ) × (slice_get (who c moves) tie.later ≡ Some (tie_is.pass, n)) = of_thread c moves tie.later tie_is.pass tie_is.second in
          first_same (pass a.effect) tie_is.pass (nth a.effect a.before) w.0 (sym fa.named ∙ ap (slice_get (who c moves)) place_a ∙ w.1)

      pass_b : pass b.effect ≡ tie_is.pass
      pass_b =
          let w : (n : ℕ) × (slice_get (who c moves) tie.earlier ≡ Some (tie_is.pass, n)) = of_thread c moves tie.earlier tie_is.pass tie_is.first in
          first_same (pass b.effect) tie_is.pass (nth b.effect b.before) w.0 (sym fb.named ∙ ap (slice_get (who c moves)) place_b ∙ w.1)

      passes_are : pass a.effect ≡ pass b.effect
      passes_are = pass_a ∙ sym pass_b

      late : Logged c number clock moves tie.later tie_is.pass (nth a.effect a.before) fa.line
      late = subst (λ (z : Type 0). z) (λ i. Logged c number clock moves (place_a i) (pass_a i) (nth a.effect a.before) fa.line) fa.logged

      early : Logged c number clock moves tie.earlier tie_is.pass (nth b.effect b.before) fb.line
      early = subst (λ (z : Type 0). z) (λ i. Logged c number clock moves (place_b i) (pass_b i) (nth b.effect b.before) fb.line) fb.logged

  legal_order : (rules : Rules) → c.config.groups ≡ 1 → IsClock clock → AreRules c moves rules → IsOrder rules log (steps_of order)
  legal_order rules single goes are = record {
    each = each;
    once = once;
    whole = whole;
    in_time = in_time goes;
    in_line = in_line rules.ties.items are.ties;
    legal = subst (λ (z : Option ℕ). judge.IsRun z [] (steps_of order)) (sym are.capacity) answered.0;
    closing = λ judged. answered.1;
  }
    where
      answered : IsAnswered c.config.capacity (steps_of order)
      answered = exact_orders_are_answered c.config number (in_order effects) (steps_of order) single l.exact (report_all (in_order effects))

pub logs_of_runs_are_linearizable : LogsOfRunsAreLinearizable
logs_of_runs_are_linearizable c moves number clock rules serves checked single run goes are =
    let l : IsLinearizable c moves = linearizable c moves serves checked run in
    (_, legal_order c number clock serves checked moves run l.0 l.1 rules single goes are)

pub logs_of_runs_have_no_fault : LogsOfRunsHaveNoFault
logs_of_runs_have_no_fault c moves number clock rules serves checked single run goes are fault verdict = verdict.1 (logs_of_runs_are_linearizable c moves number clock rules serves checked single run goes are)
