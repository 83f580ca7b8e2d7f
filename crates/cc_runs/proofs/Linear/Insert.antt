-- A send that is Full takes effect at an earlier move than the one that decides it.
use Rattle.std.proofs.Common.{◌≡◌, ℕ, ◌+◌, ◌≤◌, List, [], ◌∷◌, ◌++◌, length, Some, refl, sym, ap, ◌∙◌, subst, arith, length-append}
use Rattle.std.specs.List.{slice_get}
use Rattle.cc_model.specs.Record.{Record}
use Rattle.cc_model.specs.Items.{Begins}
use Rattle.cc_model.specs.Legal.{IsSenders}
use Rattle.cc_model.proofs.Grows.{get_front}
use Rattle.cc_runs.specs.Names.{Config, Entry, Answer, Setting, Chain, Move}
use Rattle.cc_runs.specs.State.{noted}
use Rattle.cc_runs.specs.Run.{IsRun, history_of}
use Rattle.cc_runs.proofs.RunPrefixes.{prefixes_begin, prefix_more}
use Rattle.cc_runs.specs.Linearizable.{Effect, replay, AnswersAfter, IsExact, in_order, IsPart}
use Rattle.cc_runs.proofs.Linear.Part.{part_self, part_more, part_behind}
use Rattle.cc_runs.proofs.Linear.Replay.{front_next, prefix_length, replay_groups, replay_even, answers_alike, Timed, timed_alike, full, with_full, full_alike}

-- the effects of a run, at each moment
abbrev pub AreTimed : Setting → List Move → List (List Effect) → Type 0
AreTimed c [] [] = Unit {0}
AreTimed c (m ∷ earlier) (now ∷ before) = AreTimed c earlier before × Timed (history_of c (m ∷ earlier)) (replay c.config.groups (now ++ in_order before))
AreTimed c _ _ = ⊥

one_up : (x : Chain) (r : Record) (e : Entry) (a : Answer) → length r.sends.answers ≤ length (noted x r (Some e) (Some a)).sends.answers
one_up Chain.Send r e a = omega (arith, length-append r.sends.answers (a ∷ []))
one_up (Chain.Take g) r e a = omega arith

sends_up : (n : ℕ) (now old : List Effect) → length (replay n old).sends.answers ≤ length (replay n (now ++ old)).sends.answers
sends_up n [] old = omega arith
sends_up n (t ∷ now) old = omega (arith, sends_up n now old, one_up t.chain (replay n (now ++ old)) t.entry t.answer)

pub exact_before : (c : Config) (now old : List Effect) → IsExact c (now ++ old) → IsExact c old
exact_before c [] old e = e
exact_before c (t ∷ now) old e = exact_before c now old e.0

-- a send that is Full goes below takes
below_one : (x : Chain) (r later : Record) (e call : Entry) (a : Answer) → later ≡ with_full r e → length (noted x r (Some call) (Some a)).sends.answers ≤ length r.sends.answers
    → noted x later (Some call) (Some a) ≡ with_full (noted x r (Some call) (Some a)) e
below_one Chain.Send r later e call a is less = absurd (omega (arith, less, length-append r.sends.answers (a ∷ [])))
below_one (Chain.Take g) r later e call a is less = ap (λ (z : Record). noted (Chain.Take g) z (Some call) (Some a)) is

module _ (c : Config) (m : ℕ) (some : c.groups ≡ m + 1) (e : Entry) where
  put_below : (now old later : List Effect) → replay c.groups later ≡ with_full (replay c.groups old) e → IsExact c (now ++ old) → IsExact c later
      → length (replay c.groups (now ++ old)).sends.answers ≤ length (replay c.groups old).sends.answers
      → (replay c.groups (now ++ later) ≡ with_full (replay c.groups (now ++ old)) e) × IsExact c (now ++ later)
  put_below [] old later is exact exact' less = (is, exact')
  put_below (t ∷ now) old later is exact exact' less =
      let r : Record = replay c.groups (now ++ old) in
      let up : length r.sends.answers ≤ length (replay c.groups (t ∷ now ++ old)).sends.answers = one_up t.chain r t.entry t.answer in
      let rest : (replay c.groups (now ++ later) ≡ with_full r e) × IsExact c (now ++ later) = put_below now old later is exact.0 exact' (omega (arith, up, less)) in (
        below_one t.chain r (replay c.groups (now ++ later)) e t.entry t.answer rest.0 (omega (arith, less, sends_up c.groups now old)),
        (
          rest.1,
          exact.1,
          exact.2,
          subst (λ (z : Record). AnswersAfter c z t.chain t.entry.call t.answer) (sym rest.0)
              (answers_alike c r (with_full r e) (full_alike r m e (replay_even c.groups (now ++ old)).0 (replay_groups c.groups (now ++ old) ∙ some)) t.chain t.entry.call t.answer exact.3),
        ),
      )

  full_timed : (h r : Record) → Timed h r → slice_get h.sends.calls (length r.sends.calls) ≡ Some e → Timed h (with_full r e)
  full_timed h r t next = record {
    send_calls = front_next r.sends.calls h.sends.calls (length r.sends.calls) e t.send_calls refl next;
    send_answers = prefix_more h.sends.answers r.sends.answers (r.sends.answers ++ full ∷ []) t.send_answers (full ∷ [], refl);
    take_calls = t.take_calls;
    take_answers = t.take_answers;
  }

pub record PutIn (c : Setting) (moves : List Move) (effects : List (List Effect)) (e : Entry) : Type 0 where
  pub later : List (List Effect)
  pub timed : AreTimed c moves later
  pub exact : IsExact c.config (in_order later)
  pub is : replay c.config.groups (in_order later) ≡ with_full (replay c.config.groups (in_order effects)) e
  pub part : IsPart (in_order effects) (in_order later)

module _ (c : Setting) (m : ℕ) (some : c.config.groups ≡ m + 1) (first : Move) (before : List Move) (e : Entry) where
  abbrev h0 : Record
  h0 = history_of c (first ∷ before)

  at_least : (more : List Move) (effects : List (List Effect)) → IsRun c (more ++ first ∷ before) → AreTimed c (more ++ first ∷ before) effects → length h0.sends.answers ≤ length (replay c.config.groups (in_order effects)).sends.answers
  at_least [] [] run t = absurd t
  at_least (x ∷ more) [] run t = absurd t
  at_least [] (now ∷ old) run t = prefix_length _ _ t.1.send_answers
  at_least (x ∷ more) (now ∷ old) run t = omega (arith, prefix_length _ _ t.1.send_answers, prefix_length _ _ (prefixes_begin c (x ∷ more) (first ∷ before) run).1.sends.answers)

  module _ (many : length h0.takes ≡ m + 1) (next : slice_get h0.sends.calls (length h0.sends.answers) ≡ Some e) (of : IsSenders c.config e.pass e.call) (fits : AnswersAfter c.config h0 Chain.Send e.call full) where
    pub put_in : (more : List Move) (effects : List (List Effect)) → IsRun c (more ++ first ∷ before) → AreTimed c (more ++ first ∷ before) effects → IsExact c.config (in_order effects)
        → length (replay c.config.groups (in_order effects)).sends.answers ≤ length h0.sends.answers → PutIn c (more ++ first ∷ before) effects e
    put_in [] [] run t exact less = absurd t
    put_in (x ∷ more) [] run t exact less = absurd t
    put_in [] (now ∷ old) run t exact less =
        let es : List Effect = now ++ in_order old in
        let r : Record = replay c.config.groups es in
        let even : length r.sends.calls ≡ length r.sends.answers = (replay_even c.config.groups es).0 in
        let same : length r.sends.calls ≡ length h0.sends.answers = omega (arith, even, less, prefix_length _ _ t.1.send_answers) in
        record {
          later = (record { chain = Chain.Send; entry = e; answer = full } ∷ now) ∷ old;
          timed = (t.0, full_timed c.config m some e h0 r t.1 (ap (λ (k : ℕ). slice_get h0.sends.calls k) same ∙ next));
          exact = (exact, tt, of, answers_alike c.config h0 r (timed_alike m h0 r t.1 less even many (replay_groups c.config.groups es ∙ some)) Chain.Send e.call full fits);
          is = refl;
          part = part_more es es (record { chain = Chain.Send; entry = e; answer = full }) (part_self es);
        }
    put_in (x ∷ more) (now ∷ old) run t exact less =
        let es : List Effect = now ++ in_order old in
        let r : Record = replay c.config.groups es in
        let h : Record = history_of c (x ∷ more ++ first ∷ before) in
        let b : Begins h0 h = (prefixes_begin c (x ∷ more) (first ∷ before) run).1 in
        let even : length r.sends.calls ≡ length r.sends.answers = (replay_even c.config.groups es).0 in
        let same : length r.sends.calls ≡ length h0.sends.answers = omega (arith, even, less, at_least (x ∷ more) (now ∷ old) run t) in
        let up : length (replay c.config.groups (in_order old)).sends.answers ≤ length r.sends.answers = sends_up c.config.groups now (in_order old) in
        let rest : PutIn c (more ++ first ∷ before) old e = put_in more old run.0 t.0 (exact_before c.config now (in_order old) exact) (omega (arith, up, less)) in
        let below : (replay c.config.groups (now ++ in_order rest.later) ≡ with_full r e) × IsExact c.config (now ++ in_order rest.later) = put_below c.config m some e now (in_order old) (in_order rest.later) rest.is exact rest.exact (omega (arith, less, at_least more old run.0 t.0)) in
        let next' : slice_get h.sends.calls (length r.sends.calls) ≡ Some e =
        ap (λ (l : List Entry). slice_get l (length r.sends.calls)) b.sends.calls.1 ∙ get_front h0.sends.calls b.sends.calls.0 (length r.sends.calls) e (ap (λ (k : ℕ). slice_get h0.sends.calls k) same ∙ next) in
        record {
          later = now ∷ rest.later;
          timed = (rest.timed, subst (λ (z : Record). Timed h z) (sym below.0) (full_timed c.config m some e h r t.1 next'));
          exact = below.1;
          is = below.0;
          part = part_behind now (in_order old) (in_order rest.later) rest.part;
        }
