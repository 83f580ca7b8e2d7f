-- Real time: at each moment of a run, each call whose answer was taken has taken effect.
use Rattle.std.proofs.Common.{◌≡◌, ◌⊎◌, ℕ, ◌<◌, Bool, true, false, cond, List, [], ◌∷◌, ◌++◌, map, length, Option, Some, None, Ok, inl, inr, refl, sym, ap, subst, ◌∙◌, arith, append_assoc}
use Rattle.std.proofs.lemmas.List.{get_or_append_left}
use Rattle.cc_model.specs.Config.{config_fault}
use Rattle.cc_model.specs.Record.{Record}
use Rattle.cc_model.specs.Items.{IsPrefix, SideBegins, Begins, is_pass, calls_of}
use Rattle.cc_runs.specs.ChainLaws.{IsLastAnswer}
use Rattle.cc_runs.specs.OnChain.{IsThere, calls_on, answers_on}
use Rattle.cc_runs.specs.Run.{IsRun, passes, history_of}
use Rattle.cc_runs.specs.State.{side, chain_of, pass_at}
use Rattle.cc_runs.specs.Words.{groups}
use Rattle.cc_runs.specs.Linearizable.{Effect, replay, in_order, IsOnTime}
use Rattle.cc_runs.proofs.Chains.Last.{chosen}
use Rattle.cc_runs.proofs.Chains.Others.{IsOn, group_in}
use Rattle.cc_runs.proofs.Chains.ReadAnswers.{NotOther, named, name_is, calls_one}
use Rattle.cc_runs.proofs.Chains.Registers.{IsChain, call_at}
use Rattle.cc_runs.proofs.Chains.Serving.{chain_is, on_chain}
use Rattle.cc_runs.proofs.ChainRuns.{not_other}
use Rattle.cc_runs.proofs.Linear.Replay.{prefix_length, replay_groups, replay_even}
use Rattle.cc_runs.proofs.ListRuns.Ready.{list_answers_told}
use Rattle.cc_runs.proofs.Ranges.{in_range}
use Rattle.cc_runs.proofs.RunPrefixes.{prefix_more, prefixes_begin}
use Rattle.cc_runs.proofs.Linear.Orders.{timely_now}
use Rattle.cc_row.specs.Names.{Config, Pass, Entry, Answer, Chain, Served, Setting, Move}
use Rattle.cc_row.specs.Queues.{AtQueue, only, seen}
use Rattle.cc_row.specs.Runs.{RowMove, flat}
use Rattle.cc_row.specs.Threads.{RowEvent, RowSetting, moves_of, moves_there}
use Rattle.cc_row.specs.Bound.{told}
use Rattle.cc_row.specs.BoundQueues.{RowEffect, effects_in}
use Rattle.cc_row.specs.BoundThreads.{queue_at}
use Rattle.cc_row.specs.BoundedRuns.{effects_before, Taken, IsTaken, HasEffect, IsInTime}
use Rattle.cc_row.proofs.BoundLooks.{Sound, sound_then, More, more_moves}
use Rattle.cc_row.proofs.WithLooks.{effects_at}
use Rattle.cc_row.proofs.Merge.{moves_here, merge, cut, Each, each_before, only_merged}

-- ---- lists

pub head_same : {X : Type 0} {x y : X} {a b : List X} → x ∷ a ≡ y ∷ b → x ≡ y
head_same {X} {x} {y} {a} {b} is = cc

pub tail_same : {X : Type 0} {x y : X} {a b : List X} → x ∷ a ≡ y ∷ b → a ≡ b
tail_same {X} {x} {y} {a} {b} is = cc

pub none_in : {X : Type 0} (x : X) (l : List X) → [] ≡ x ∷ l → ⊥
none_in {X} x l is = cc

no_end : {X : Type 0} (b : List X) (x : X) → [] ≡ b ++ x ∷ [] → ⊥
no_end {X} [] x is = none_in x [] is
no_end {X} (y ∷ b) x is = none_in y (b ++ x ∷ []) is

at_end : {X : Type 0} (z : X) (l b : List X) (w : X) → z ∷ l ≡ b ++ w ∷ [] → ((z ≡ w) × (l ≡ [])) ⊎
    ((b : List X) × (l ≡ b ++ w ∷ []))
at_end {X} z l [] w is = inl (head_same is, tail_same is)
at_end {X} z l (y ∷ b) w is = inr (b, tail_same is)

-- ---- the calls of a pass, up to one that is answered

-- a chain of a queue's record
abbrev There : Chain → Record → Type 0
There Chain.Send h = Unit {0}
There (Chain.Take g) h = g < length h.takes

there : (cfg : Config) (c : Chain) (l : List Effect) → IsThere cfg c → There c (replay cfg.groups l)
there cfg Chain.Send l is = tt
there cfg (Chain.Take g) l is = omega (arith, is, replay_groups cfg.groups l)

even_on : (n : ℕ) (l : List Effect) (c : Chain) → There c (replay n l) → length (calls_on c (replay n l))
    ≡ length (answers_on c (replay n l))
even_on n l Chain.Send is = (replay_even n l).0
even_on n l (Chain.Take g) is = (replay_even n l).1 g is

module _ (f : Entry → Bool) where
  abbrev Pair : Type 0
  Pair = Entry × Option Answer

  -- calls that have no answer don't end with one that has
  none_after : (c : Entry) (x b : List Pair) (e : Entry) (told : Answer)
      → ((b : List Pair) → x ≡ b ++ (e, Some told) ∷ [] → ⊥) → (t : Bool)
      → cond t ((c, None) ∷ x) x ≡ b ++ (e, Some told) ∷ [] → ⊥
  none_after c x b e told rest true is = elim (at_end (c, None) x b (e, Some told) is) [
    | inl end ↦ cc (ap (λ (z : Pair). z.1) end.0)
    | inr more ↦ rest more.0 more.1
  ]
  none_after c x b e told rest false is = rest b is

  none_answered : (calls : List Entry) (b : List Pair) (e : Entry) (told : Answer)
      → chosen f calls [] ≡ b ++ (e, Some told) ∷ [] → ⊥
  none_answered [] b e told is = no_end b (e, Some told) is
  none_answered (c ∷ calls) b e told is =
      none_after c (chosen f calls []) b e told (λ b is. none_answered calls b e told is) (f c) is

  -- of two lists that begin one list
  one_call : (z : Pair) (x y b : List Pair) (w : Pair) → ((b : List Pair) → x ≡ b ++ w ∷ [] → IsPrefix x y) → (t : Bool)
      → cond t (z ∷ x) x ≡ b ++ w ∷ [] → IsPrefix (cond t (z ∷ x) x) (cond t (z ∷ y) y)
  one_call z x y b w rest true is = elim (at_end z x b w is) [
    | inl end ↦ (y, ap (λ (l : List Pair). z ∷ (l ++ y)) (sym end.1))
    | inr more ↦ let p : IsPrefix x y = rest more.0 more.1 in (p.0, ap (λ (l : List Pair). z ∷ l) p.1)
  ]
  one_call z x y b w rest false is = rest b is

  pub chosen_front : (calls : List Entry) (answers : List Answer) (h c : List Entry) (a : List Answer)
      (b : List Pair) (e : Entry) (told : Answer)
      → IsPrefix calls h → IsPrefix c h → IsPrefix answers a → length c ≡ length a
      → chosen f calls answers ≡ b ++ (e, Some told) ∷ [] → IsPrefix (chosen f calls answers) (chosen f c a)
  chosen_front calls [] h c a b e told p q r even is = absurd (none_answered calls b e told is)
  chosen_front [] (x ∷ answers) h c a b e told p q r even is = absurd (no_end b (e, Some told) is)
  chosen_front (d ∷ calls) (x ∷ answers) h c [] b e told p q r even is = absurd (none_in x (answers ++ r.0) r.1)
  chosen_front (d ∷ calls) (x ∷ answers) h [] (y ∷ a) b e told p q r even is = absurd (omega (arith, even))
  chosen_front (d ∷ calls) (x ∷ answers) h (c ∷ cs) (y ∷ a) b e told p q r even is =
      let lists : d ∷ (calls ++ p.0) ≡ c ∷ (cs ++ q.0) = sym p.1 ∙ q.1 in
      let call : d ≡ c = head_same lists in
      let answer : x ≡ y = head_same (sym r.1) in
      subst (λ (z : Entry). IsPrefix (chosen f (d ∷ calls) (x ∷ answers)) (chosen f (z ∷ cs) (y ∷ a))) call
      (subst (λ (z : Answer). IsPrefix (chosen f (d ∷ calls) (x ∷ answers)) (chosen f (d ∷ cs) (z ∷ a))) answer
      (one_call (d, Some x) (chosen f calls answers) (chosen f cs a) b (e, Some told)
      (λ b is. chosen_front calls answers (calls ++ p.0) cs a b e told (p.0, refl) (q.0, tail_same lists)
      (r.0, tail_same r.1) (omega (arith, even)) is)
      (f d) is))

-- ---- a pass of a queue that has returned

module _ (c : Setting) (serves : c.served ≡ Served.List) (checked : config_fault c.config ≡ Ok tt) where
  abbrev its : ℕ → Entry → Bool
  its p e = is_pass (pass_at c.config p) e.pass

  calls_chosen : (p : ℕ) → p < passes c → (h : Record) → NotOther c (chain_of c.config p) h
      → calls_of (pass_at c.config p) h ≡ chosen (its p) (calls_on (chain_of c.config p) h)
      (answers_on (chain_of c.config p) h)
  calls_chosen p less h none =
      let x : Chain = chain_of c.config p in
      let on : IsOn c (chain_of c.config p) p = on_chain c p less in
      let name : pass_at c.config p ≡ named c (chain_of c.config p) on.number =
      ap (λ (z : ℕ). pass_at c.config z) on.pass_is ∙ name_is c (chain_of c.config p) on.number on.inside in
      ap (λ (w : Pass). calls_of w h) name ∙ calls_one c x h on.number on.inside none
      ∙ ap (λ (w : Pass). chosen (λ (z : Entry). is_pass w z.pass) (calls_on x h) (answers_on x h)) (sym name)

  there_of : (x : Chain) → IsChain c x → IsThere c.config x
  there_of Chain.Send ok = tt
  there_of (Chain.Take g) ok = group_in c.served (groups c.config) g ok

  side_begins : (x : Chain) (h t : Record) → Begins h t → SideBegins (side x h) (side x t)
  side_begins Chain.Send h t b = b.sends
  side_begins (Chain.Take g) h t b = b.takes g

  module _ (more before : List Move) (run : IsRun c (more ++ before)) (p : ℕ) (less : p < passes c)
      (l : List Effect) (on : IsOnTime (history_of c (more ++ before)) (replay c.config.groups l)) where
    abbrev x : Chain
    x = chain_of c.config p

    abbrev now : Record
    now = history_of c (more ++ before)

    begun : IsRun c before × Begins (history_of c before) (history_of c (more ++ before))
    begun = prefixes_begin c more before run

    grew : SideBegins (side (chain_of c.config p) (history_of c before))
        (side (chain_of c.config p) (history_of c (more ++ before)))
    grew = side_begins x (history_of c before) now begun.1

    bound : 0 < c.config.bound
    bound = (in_range c.config checked).bound.0

    none : NotOther c (chain_of c.config p) (replay c.config.groups l)
    none q inside y other j within =
        let f : IsPrefix (calls_on y (replay c.config.groups l)) (calls_on y now) = on.calls y in
        let same : call_at (calls_on y now) j ≡ call_at (calls_on y (replay c.config.groups l)) j =
        ap (λ (z : List Entry). call_at z j) f.1 ∙ get_or_append_left (calls_on y
        (replay c.config.groups l)) f.0 _ j within in
        ap (λ (z : Entry). is_pass (named c x q) z.pass) (sym same)
        ∙ not_other c bound (more ++ before) run x q inside y other j (omega (arith, within, prefix_length _ _ f))

    -- it is in the order
    pub is_there : (b : List (Entry × Option Answer)) (e : Entry) (told : Answer)
        → calls_of (pass_at c.config p) (history_of c before) ≡ b ++ (e, Some told) ∷ []
        → IsPrefix (b ++ (e, Some told) ∷ []) (calls_of (pass_at c.config p) (replay c.config.groups l))
    is_there b e told last =
        let then : calls_of (pass_at c.config p) (history_of c before)
        ≡ chosen (its p) (calls_on x (history_of c before)) (answers_on x (history_of c before)) =
        calls_chosen p less (history_of c before) (not_other c bound before begun.0 x) in
        let ends : chosen (its p) (calls_on x (history_of c before)) (answers_on x (history_of c before))
        ≡ b ++ (e, Some told) ∷ [] = sym then ∙ last in
        subst (λ (z : List (Entry × Option Answer)). IsPrefix (b ++ (e, Some told) ∷ []) z)
        (sym (calls_chosen p less (replay c.config.groups l) none))
        (subst (λ (z : List (Entry × Option Answer)). IsPrefix z
        (chosen (its p) (calls_on x (replay c.config.groups l)) (answers_on x (replay c.config.groups l)))) ends
        (chosen_front (its p) (calls_on x (history_of c before)) (answers_on x (history_of c before))
        (calls_on x now) (calls_on x (replay c.config.groups l)) (answers_on x (replay c.config.groups l)) b e told
        grew.calls (on.calls x) (prefix_more _ _ _ grew.answers (on.answers x))
        (even_on c.config.groups l x (there c.config x l (there_of x (chain_is c p less)))) ends))

-- ---- one moment of a run

-- the orders of the queues, up to a moment
abbrev CutOf : (r : RowSetting) (later seen : List RowEvent) → (ℕ → List (List Effect)) → Type 0
CutOf r later seen f = (g : ℕ → List (List Effect))
    × (effects_before later (merge (moves_of (later ++ seen)) f) ≡ merge (moves_of seen) g)
    × Each r.of (moves_of seen) g

cut_of : (r : RowSetting) (later seen : List RowEvent) (f : ℕ → List (List Effect))
    → Each r.of (moves_of (later ++ seen)) f → CutOf r later seen f
cut_of r [] seen f each = (f, refl, each)
cut_of r (RowEvent.Moves m ∷ later) seen f each =
    cut_of r later seen (cut m.at f) (each_before r.of m (moves_of (later ++ seen)) f each)
cut_of r (_ ∷ later) seen f each = cut_of r later seen f each

module _ (r : RowSetting) (seen : List RowEvent) (s : Sound r seen) (g : ℕ
    → List (List Effect)) (each : Each r.of (moves_of seen) g) where
  on : (q : ℕ) → IsOnTime (history_of (r.of q) (moves_there q seen)) (replay (r.of q).config.groups (in_order (g q)))
  on q = timely_now (r.of q) (moves_there q seen) (g q) (each q)

  has_effect : (t : Taken) (answer : Answer) → IsTaken r seen t answer
      → (order : List RowEffect) → only t.queue (effects_in order) ≡ in_order (g t.queue)
      → HasEffect r t answer order
  has_effect t answer w order is =
      let q : ℕ = t.queue in
      let m : RowMove = record { at = t.queue; move = Move.Take t.pass } in
      let more : More r q (w.later ++ RowEvent.Moves m ∷ []) t.at = more_moves r q
      (w.later ++ RowEvent.Moves m ∷ []) t.at in
      let moves : moves_there q seen ≡ more.0 ++ moves_there q t.at = ap (moves_there q)
      (w.split ∙ sym (append_assoc w.later (RowEvent.Moves m ∷ []) t.at)) ∙ more.1 in
      let now : Sound r (RowEvent.Moves m ∷ t.at) = sound_then r w.later (RowEvent.Moves m ∷ t.at)
      (subst (λ (z : List RowEvent). Sound r z) w.split s) in
      let took : IsRun (r.of q) (Move.Take t.pass ∷ moves_there q t.at) = subst (λ (z : List Move). IsRun (r.of q) z)
      (moves_here m (moves_of t.at) q refl) (now.runs q) in
      let last : IsLastAnswer (pass_at (r.of q).config t.pass) (history_of (r.of q) (moves_there q t.at)) answer =
      list_answers_told (r.of q) (moves_there q t.at) (s.serves q) (s.checked q) took.0 t.pass answer took.1.0 w.told in
      record {
        before = last.before;
        entry = last.entry;
        last = last.last;
        there = subst (λ (z : List Effect). IsPrefix (last.before ++ (last.entry, Some answer) ∷ [])
            (calls_of (pass_at (r.of q).config t.pass) (replay (r.of q).config.groups z))) (sym is)
            (is_there (r.of q) (s.serves q) (s.checked q) more.0 (moves_there q t.at)
            (subst (λ (z : List Move). IsRun (r.of q) z) moves (s.runs q)) t.pass took.1.0 (in_order (g q))
            (subst (λ (z : List Move). IsOnTime (history_of (r.of q) z)
            (replay (r.of q).config.groups (in_order (g q)))) moves
            (on q)) last.before last.entry answer last.last);
      }

  pub all_in_time : (effects : List (List AtQueue)) → effects ≡ merge (moves_of seen) g
      → IsInTime r seen (map RowEffect.At (flat effects))
  all_in_time effects same = record {
    exchanged = λ q x. subst (λ (z : List Effect). IsPrefix (calls_on x (replay (r.of q).config.groups z))
        (calls_on x (queue_at r q seen).history)) (sym (at q)) ((on q).calls x);
    in_time = λ t answer w. has_effect t answer w _ (at t.queue);
  }
    where
      at : (q : ℕ) → only q (effects_in (map RowEffect.At (flat effects))) ≡ in_order (g q)
      at q = ap (λ (z : List AtQueue). only q z) (effects_at (flat effects) ∙ ap flat same)
          ∙ only_merged r.of (moves_of seen) g each q

-- ---- the run

pub calls_in_time : (r : RowSetting) (events : List RowEvent) → Sound r events → (f : ℕ → List (List Effect))
    → Each r.of (moves_of events) f → (later seen : List RowEvent) → later ++ seen ≡ events
    → IsInTime r seen (map RowEffect.At (flat (effects_before later (merge (moves_of events) f))))
calls_in_time r events s f each later seen is =
    let part : CutOf r later seen f =
    cut_of r later seen f (subst (λ (z : List RowEvent). Each r.of (moves_of z) f) (sym is) each) in
    all_in_time r seen (sound_then r later seen (subst (λ (z : List RowEvent). Sound r z) (sym is) s)) part.0 part.2
    (effects_before later (merge (moves_of events) f))
    (ap (λ (z : List RowEvent). effects_before later (merge (moves_of z) f)) (sym is) ∙ part.1)
