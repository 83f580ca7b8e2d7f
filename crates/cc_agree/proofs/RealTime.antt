-- Each linearization of a run is an order of its calls, from their begins to their returns.
use Rattle.std.proofs.Common.{◌≡◌, ◌≢◌, ◌⊎◌, ℕ, zero, suc, ◌+◌, ◌<◌, ◌≤◌, ◌==◌, Bool, cond, List, [], ◌∷◌, ◌++◌, length, get_or, Option, Some, Ok, inl, inr, refl, sym, ap, ◌∙◌, subst, arith, append_assoc, length-append}
use Rattle.std.proofs.lemmas.Bool.{cases_eq, cases_lt, eq-eqb, ne_eqb}
use Rattle.std.proofs.lemmas.Option.{slice_get_within, slice_get-get_or, get_or_from_slice_get}
use Rattle.std.specs.List.{slice_get}
use Rattle.cc_model.specs.Config.{config_fault}
use Rattle.cc_model.specs.Record.{Side, Record}
use Rattle.cc_model.specs.Items.{IsPrefix, Begins}
use Rattle.cc_model.proofs.Grows.{get_front, get_last}
use Rattle.cc_runs.specs.State.{chain_of, pass_at, noted}
use Rattle.cc_runs.specs.Words.{groups}
use Rattle.cc_runs.specs.OnChain.{IsThere, calls_on, answers_on}
use Rattle.cc_runs.specs.Run.{IsRun, passes, reached, history_of, number_of}
use Rattle.cc_runs.specs.CallsMade.{made}
use Rattle.cc_runs.specs.Linearizable.{Effect, replay, IsExact, in_order, IsLinearization, IsLinearizable, Precedes}
use Rattle.cc_runs.proofs.RunPrefixes.{prefixes_begin}
use Rattle.cc_runs.proofs.Chains.Opening.{no_calls}
use Rattle.cc_runs.proofs.Chains.Registers.{IsChain}
use Rattle.cc_runs.proofs.Chains.Others.{group_in}
use Rattle.cc_runs.proofs.Chains.Serving.{chain_is}
use Rattle.cc_runs.proofs.ListRuns.Decided.{group_other}
use Rattle.cc_runs.proofs.Linear.Orders.{linearizable, order_is_real_time}
use Rattle.cc_runs.proofs.Linear.Replay.{prefix_length, replay_groups}
use Rattle.cc_agree.specs.Names.{Call, Entry, Answer, Config, Setting, Served, Chain, Phase, Move}
use Rattle.cc_agree.specs.RealTime as real
use Rattle.cc_agree.specs.RealTime.{BeginsNone, Returns, ReturnsBefore, Point, effects_of, IsCallOf, HasCall, IsOrderOfCalls, CallsAreLinearizable, LinearizationsAreOfCalls}
use Rattle.cc_agree.proofs.Lists.{two_ends, get_snoc, same_split, count, count_append, count_middle, not_yet, its_answer, get_middle, Nth, chosen_nth}
use Rattle.cc_agree.proofs.Log.{made_here, made_away, made_grows, made_nth, IsLast, is_last}
use Rattle.cc_agree.proofs.Placed.{pass_no, its, its_own, its_pass, calls_here, few_of, nth_made, calls_snoc, even_on, begins_calls, begins_answers, calls_grow, answers_grow, Placed, placed}

-- ---- the call with this number of a chain

pub there_is : (c : Setting) → c.served ≡ Served.List → (x : Chain) → IsChain c x → IsThere c.config x
there_is c serves Chain.Send ok = tt
there_is c serves (Chain.Take g) ok = group_in c.served (groups c.config) g ok

calls_by : (x y : Chain) (h : Record) (e : Entry) (a : Answer) → (x ≡ y) ⊎ (calls_on x (noted y h (Some e) (Some a)) ≡ calls_on x h)
calls_by Chain.Send Chain.Send h e a = inl refl
calls_by Chain.Send (Chain.Take g) h e a = inr refl
calls_by (Chain.Take g) Chain.Send h e a = inr refl
calls_by (Chain.Take g) (Chain.Take k) h e a = elim (cases_eq g k) [ inl is ↦ inl (ap Chain.Take is) | inr ne ↦ inr (ap (λ (s : Side). s.calls) (group_other h k g _ ne)) ]

pub record On (order : List Effect) (n : ℕ) (x : Chain) (i : ℕ) : Type 0 where
  pub after : List Effect
  pub effect : Effect
  pub before : List Effect
  pub split : order ≡ after ++ effect ∷ before
  pub chain_is : effect.chain ≡ x
  pub at : length (calls_on x (replay n before)) ≡ i

pub on : (cfg : Config) (order : List Effect) → IsExact cfg order → (x : Chain) (i : ℕ) → i < length (calls_on x (replay cfg.groups order)) → On order cfg.groups x i
on cfg [] exact x i less = absurd (omega (arith, less, ap (λ (s : Side). length s.calls) (no_calls cfg.groups x)))
on cfg (e ∷ earlier) exact x i less = elim (cases_lt i (length (calls_on x (replay cfg.groups earlier)))) [
  | inl old ↦ let w : On earlier cfg.groups x i = on cfg earlier exact.0 x i old in record { after = e ∷ w.after; effect = w.effect; before = w.before; split = ap (λ (l : List Effect). e ∷ l) w.split; chain_is = w.chain_is; at = w.at }
  | inr new ↦ elim (calls_by x e.chain (replay cfg.groups earlier) e.entry e.answer) [
    | inl is ↦
        let more : calls_on x (replay cfg.groups (e ∷ earlier)) ≡ calls_on x (replay cfg.groups earlier) ++ e.entry ∷ [] =
        subst (λ (y : Chain). calls_on y (replay cfg.groups (e ∷ earlier)) ≡ calls_on y (replay cfg.groups earlier) ++ e.entry ∷ []) (sym is) (calls_snoc e.chain (replay cfg.groups earlier) e.entry e.answer cfg (replay_groups cfg.groups earlier) exact.1) in
        record { after = []; effect = e; before = earlier; split = refl; chain_is = sym is; at = omega (arith, less, new, ap length more, length-append (calls_on x (replay cfg.groups earlier)) (e.entry ∷ [])) }
    | inr same ↦ absurd (omega (arith, less, new, ap length same))
  ]
]

-- ---- the begins of a pass

-- their times
abbrev moments : List Move → ℕ → List ℕ
moments [] p = []
moments (Move.Begin q call known ∷ earlier) p = cond (q == p) (moments earlier p ++ length earlier ∷ []) (moments earlier p)
moments (Move.Step q ∷ earlier) p = moments earlier p
moments (Move.Take q ∷ earlier) p = moments earlier p

moment_here : (q : ℕ) (call : Call) (known : ℕ) (earlier : List Move) (p : ℕ) → q ≡ p → moments (Move.Begin q call known ∷ earlier) p ≡ moments earlier p ++ length earlier ∷ []
moment_here q call known earlier p is = ap (λ (b : Bool). cond b (moments earlier p ++ length earlier ∷ []) (moments earlier p)) (eq-eqb q p is)

moment_away : (q : ℕ) (call : Call) (known : ℕ) (earlier : List Move) (p : ℕ) → q ≢ p → moments (Move.Begin q call known ∷ earlier) p ≡ moments earlier p
moment_away q call known earlier p ne = ap (λ (b : Bool). cond b (moments earlier p ++ length earlier ∷ []) (moments earlier p)) (ne_eqb q p ne)

length-moments : (c : Setting) (moves : List Move) (p : ℕ) → length (moments moves p) ≡ length (made c moves p)
length-moments c [] p = refl
length-moments c (Move.Begin q call known ∷ earlier) p = elim (cases_eq q p) [
  | inl is ↦ omega (arith, ap length (moment_here q call known earlier p is), length-append (moments earlier p) (length earlier ∷ []), length-moments c earlier p, made_here c q call known earlier p is)
  | inr ne ↦ omega (arith, ap length (moment_away q call known earlier p ne), length-moments c earlier p, ap length (made_away c q call known earlier p ne))
]
length-moments c (Move.Step q ∷ earlier) p = length-moments c earlier p
length-moments c (Move.Take q ∷ earlier) p = length-moments c earlier p

-- the n-th call of a pass began at this time
pub record Begun (c : Setting) (moves : List Move) (p n t : ℕ) : Type 0 where
  pub call : Call
  pub known : ℕ
  pub later : List Move
  pub before : List Move
  pub split : moves ≡ later ++ Move.Begin p call known ∷ before
  pub time_is : length before ≡ t
  pub nth : length (made c before p) ≡ n

longer : (c : Setting) (m : Move) (moves : List Move) (p n t : ℕ) → Begun c moves p n t → Begun c (m ∷ moves) p n t
longer c m moves p n t b = record { call = b.call; known = b.known; later = m ∷ b.later; before = b.before; split = ap (λ (z : List Move). m ∷ z) b.split; time_is = b.time_is; nth = b.nth }

begun : (c : Setting) (moves : List Move) (p n t : ℕ) → slice_get (moments moves p) n ≡ Some t → Begun c moves p n t
begun c [] p n t is = absurd (cc)
begun c (Move.Begin q call known ∷ earlier) p n t is = elim (cases_eq q p) [
  | inl same ↦ elim (get_snoc (moments earlier p) (length earlier) n t (ap (λ (z : List ℕ). slice_get z n) (sym (moment_here q call known earlier p same)) ∙ is)) [
    | inl old ↦ longer c (Move.Begin q call known) earlier p n t (begun c earlier p n t old)
    | inr new ↦ record { call = call; known = known; later = []; before = earlier; split = ap (λ (z : ℕ). Move.Begin z call known ∷ earlier) same; time_is = new.1; nth = sym (length-moments c earlier p) ∙ sym new.0 }
  ]
  | inr ne ↦ longer c (Move.Begin q call known) earlier p n t (begun c earlier p n t (ap (λ (z : List ℕ). slice_get z n) (sym (moment_away q call known earlier p ne)) ∙ is))
]
begun c (Move.Step q ∷ earlier) p n t is = longer c (Move.Step q) earlier p n t (begun c earlier p n t is)
begun c (Move.Take q ∷ earlier) p n t is = longer c (Move.Take q) earlier p n t (begun c earlier p n t is)

-- and the other way round
moment_of : (c : Setting) (later before : List Move) (p : ℕ) (call : Call) (known : ℕ) → slice_get (moments (later ++ Move.Begin p call known ∷ before) p) (length (made c before p)) ≡ Some (length before)
moment_of c [] before p call known =
    ap (λ (z : List ℕ). slice_get z (length (made c before p))) (moment_here p call known before p refl) ∙ ap (slice_get (moments before p ++ length before ∷ [])) (sym (length-moments c before p)) ∙ get_last (moments before p) (length before)
moment_of c (Move.Begin q other seen ∷ later) before p call known = elim (cases_eq q p) [
  | inl is ↦
      ap (λ (z : List ℕ). slice_get z (length (made c before p))) (moment_here q other seen (later ++ Move.Begin p call known ∷ before) p is)
      ∙ get_front (moments (later ++ Move.Begin p call known ∷ before) p) _ (length (made c before p)) (length before) (moment_of c later before p call known)
  | inr ne ↦ ap (λ (z : List ℕ). slice_get z (length (made c before p))) (moment_away q other seen (later ++ Move.Begin p call known ∷ before) p ne) ∙ moment_of c later before p call known
]
moment_of c (Move.Step q ∷ later) before p call known = moment_of c later before p call known
moment_of c (Move.Take q ∷ later) before p call known = moment_of c later before p call known

-- no two calls begin at one time
one_begin : (c : Setting) (moves : List Move) (p n q m t : ℕ) → Begun c moves p n t → Begun c moves q m t → (p ≡ q) × (n ≡ m)
one_begin c moves p n q m t a b = by_mid ends.0 ends.1
  where
    ends : (mid : List Move) × (Move.Begin q b.call b.known ∷ b.before ≡ mid ++ Move.Begin p a.call a.known ∷ a.before)
    ends = two_ends a.later (Move.Begin p a.call a.known ∷ a.before) b.later (Move.Begin q b.call b.known ∷ b.before) (sym a.split ∙ b.split) (omega (arith, a.time_is, b.time_is))

    by_mid : (mid : List Move) → Move.Begin q b.call b.known ∷ b.before ≡ mid ++ Move.Begin p a.call a.known ∷ a.before → (p ≡ q) × (n ≡ m)
    by_mid [] e =
        let pass : p ≡ q = cc in
        let front : a.before ≡ b.before = cc in
        (pass, sym a.nth ∙ (λ i. length (made c (front i) (pass i))) ∙ b.nth)
    by_mid (x ∷ mid) e = absurd (omega (arith, ap length e, length-append mid (Move.Begin p a.call a.known ∷ a.before), a.time_is, b.time_is))

made_none : (c : Setting) (during before : List Move) (p : ℕ) → BeginsNone p during → made c (during ++ before) p ≡ made c before p
made_none c [] before p none = refl
made_none c (Move.Begin q call known ∷ during) before p none = made_away c q call known (during ++ before) p none.0 ∙ made_none c during before p none.1
made_none c (Move.Step q ∷ during) before p none = made_none c during before p none
made_none c (Move.Take q ∷ during) before p none = made_none c during before p none

-- ---- the order of a run's calls

module _ (c : Setting) (serves : c.served ≡ Served.List) (checked : config_fault c.config ≡ Ok tt) (moves : List Move) (run : IsRun c moves) (effects : List (List Effect)) (l : IsLinearization c moves effects) where
  abbrev pub pass : Effect → ℕ
  pass e = pass_no c.config e.entry.pass

  -- the calls before it on its chain
  abbrev pub front : Effect → List Effect → List Entry
  front e before = calls_on e.chain (replay c.config.groups before)

  abbrev pub nth : Effect → List Effect → ℕ
  nth e before = count (its c (pass e)) (front e before)

  abbrev time : Effect → List Effect → ℕ
  time e before = get_or (moments moves (pass e)) (nth e before) 0

  abbrev point : Effect → List Effect → Point
  point e before = record { begin = time e before; effect = e }

  abbrev points : List Effect → List Point
  points [] = []
  points (e ∷ earlier) = point e earlier ∷ points earlier

  effects_same : (es : List Effect) → effects_of (points es) ≡ es
  effects_same [] = refl
  effects_same (e ∷ earlier) = ap (λ (z : List Effect). e ∷ z) (effects_same earlier)

  get_point : (after : List Effect) (e : Effect) (before : List Effect) → slice_get (points (after ++ e ∷ before)) (length after) ≡ Some (point e before)
  get_point [] e before = refl
  get_point (x ∷ after) e before = get_point after e before

  -- ---- a call of the order, in the run

  pub record Found (e : Effect) (before : List Effect) : Type 0 where
    pub here : Placed c moves e before
    pub split : calls_on (chain_of c.config (pass e)) (history_of c moves) ≡ front e before ++ e.entry ∷ here.rest
    pub made_is : slice_get (made c moves (pass e)) (nth e before) ≡ Some e.entry
    pub begin : Begun c moves (pass e) (nth e before) (time e before)

  pub found : (after : List Effect) (e : Effect) (before : List Effect) → in_order effects ≡ after ++ e ∷ before → Found e before
  found after e before is = record {
    here = here;
    split = split;
    made_is = made_is;
    begin = begun c moves (pass e) (nth e before) (time e before) (slice_get-get_or (moments moves (pass e)) (nth e before) 0 (omega (arith, slice_get_within (made c moves (pass e)) (nth e before) e.entry made_is, length-moments c moves (pass e))));
  }
    where
      here : Placed c moves e before
      here = placed c serves moves effects l after e before is

      split : calls_on (chain_of c.config (pass e)) (history_of c moves) ≡ front e before ++ e.entry ∷ here.rest
      split = ap (λ (y : Chain). calls_on y (history_of c moves)) here.of.chain_is ∙ here.split

      made_is : slice_get (made c moves (pass e)) (nth e before) ≡ Some e.entry
      made_is = nth_made c checked moves run (pass e) here.of.less (front e before) here.rest e.entry split (its_own c e.chain e.entry here.of)

  is_call : (e : Effect) (before : List Effect) → Found e before → IsCallOf c moves (point e before)
  is_call e before f = record { pass = pass e; begins = begins; chain_is = sym f.here.of.chain_is }
    where
      b : Begun c moves (pass e) (nth e before) (time e before)
      b = f.begin

      began : Entry
      began = record { pass = pass_at c.config (pass e); call = b.call; number = number_of b.call ((reached c b.before).stand (pass e)).begun; known = b.known }

      there : slice_get (made c moves (pass e)) (nth e before) ≡ Some began
      there = (λ i. slice_get (made c (b.split i) (pass e)) (sym b.nth i)) ∙ made_nth c b.later b.before (pass e) b.call b.known

      begins : real.Begins c moves (time e before) (pass e) e.entry
      begins =
          let both : Some e.entry ≡ Some began = sym f.made_is ∙ there in
          let same : e.entry ≡ began = cc in
          record { call = b.call; known = b.known; later = b.later; before = b.before; split = b.split; begin_is = b.time_is; entry_is = same }

  -- ---- a call that has returned

  pub run_at : (later seen : List Move) → moves ≡ later ++ seen → IsRun c seen × Begins (history_of c seen) (history_of c moves)
  run_at later seen is =
      let f : IsRun c seen × Begins (history_of c seen) (history_of c (later ++ seen)) = prefixes_begin c later seen (subst (IsRun c) is run) in
      (f.0, subst (λ (m : List Move). Begins (history_of c seen) (history_of c m)) (sym is) f.1)

  pub record Took (p n : ℕ) : Type 0 where
    pub later : List Move
    pub seen : List Move
    pub split : moves ≡ later ++ Move.Take p ∷ seen
    pub told : Answer
    pub phase_is : ((reached c seen).stand p).phase ≡ Phase.Finished told
    pub nth : length (made c seen p) ≡ n + 1

  pub record AtEnd (e : Effect) (before : List Effect) (seen : List Move) (told : Answer) : Type 0 where
    pub told_is : told ≡ e.answer
    pub within : length (front e before) < length (answers_on e.chain (history_of c seen))

  pub at_end : (e : Effect) (before : List Effect) (f : Found e before) (x : Took (pass e) (nth e before)) → AtEnd e before x.seen x.told
  at_end e before f x = record { told_is = told_is; within = within }
    where
      r : IsRun c (Move.Take (pass e) ∷ x.seen) × Begins (history_of c (Move.Take (pass e) ∷ x.seen)) (history_of c moves)
      r = run_at x.later (Move.Take (pass e) ∷ x.seen) x.split

      last : IsLast c x.seen (pass e) x.told
      last = is_last c serves checked x.seen r.0.0 (pass e) f.here.of.less x.told x.phase_is

      calls : IsPrefix (calls_on (chain_of c.config (pass e)) (history_of c x.seen)) (calls_on (chain_of c.config (pass e)) (history_of c moves))
      calls = begins_calls (chain_of c.config (pass e)) (history_of c x.seen) (history_of c moves) r.1

      answers : IsPrefix (answers_on e.chain (history_of c x.seen)) (answers_on e.chain (history_of c moves))
      answers = begins_answers e.chain (history_of c x.seen) (history_of c moves) r.1

      got : slice_get (answers_on (chain_of c.config (pass e)) (history_of c x.seen)) (length (front e before)) ≡ Some x.told
      got = its_answer (its c (pass e)) (calls_on (chain_of c.config (pass e)) (history_of c x.seen)) calls.0 (front e before) f.here.rest e.entry (sym calls.1 ∙ f.split) (its_own c e.chain e.entry f.here.of)
          (answers_on (chain_of c.config (pass e)) (history_of c x.seen)) last.before last.entry x.told (sym (calls_here c checked x.seen r.0.0 (pass e) f.here.of.less) ∙ last.last) (omega (arith, last.many, x.nth))

      got_on : slice_get (answers_on e.chain (history_of c x.seen)) (length (front e before)) ≡ Some x.told
      got_on = ap (λ (y : Chain). slice_get (answers_on y (history_of c x.seen)) (length (front e before))) (sym f.here.of.chain_is) ∙ got

      within : length (front e before) < length (answers_on e.chain (history_of c x.seen))
      within = slice_get_within (answers_on e.chain (history_of c x.seen)) (length (front e before)) x.told got_on

      told_is : x.told ≡ e.answer
      told_is =
          let later : slice_get (answers_on e.chain (history_of c moves)) (length (front e before)) ≡ Some x.told =
          ap (λ (z : List Answer). slice_get z (length (front e before))) answers.1 ∙ get_front (answers_on e.chain (history_of c x.seen)) answers.0 (length (front e before)) x.told got_on in
          let both : Some x.told ≡ Some e.answer = sym later ∙ f.here.answer in
          cc

  -- ---- the calls by their places in the order

  record At (es : List Effect) (k : ℕ) (z : Point) : Type 0 where
    after : List Effect
    effect : Effect
    before : List Effect
    split : es ≡ after ++ effect ∷ before
    here : length after ≡ k
    is : z ≡ point effect before

  at : (es : List Effect) (k : ℕ) (z : Point) → slice_get (points es) k ≡ Some z → At es k z
  at [] k z is = absurd (cc)
  at (e ∷ earlier) zero z is = let same : z ≡ point e earlier = cc in record { after = []; effect = e; before = earlier; split = refl; here = refl; is = same }
  at (e ∷ earlier) (suc k) z is =
      let w : At earlier k z = at earlier k z is in
      record { after = e ∷ w.after; effect = w.effect; before = w.before; split = ap (λ (q : List Effect). e ∷ q) w.split; here = ap suc w.here; is = w.is }

  -- the call at the greater place comes before the other
  pub record Earlier (e : Effect) (before before_other : List Effect) : Type 0 where
    pub mid : List Effect
    pub split : before_other ≡ mid ++ e ∷ before

  earlier : (j k : ℕ) (y z : Point) → j < k → (a : At (in_order effects) j y) (b : At (in_order effects) k z) → Earlier b.effect b.before a.before
  earlier j k y z less a b =
      let ends : b.after ++ b.effect ∷ b.before ≡ (a.after ++ a.effect ∷ []) ++ a.before = sym b.split ∙ a.split ∙ sym (append_assoc a.after (a.effect ∷ []) a.before) in
      let mid : (mid : List Effect) × (a.before ≡ mid ++ b.effect ∷ b.before) = two_ends b.after (b.effect ∷ b.before) (a.after ++ a.effect ∷ []) a.before ends
      (omega (arith, less, a.here, b.here, ap length (sym a.split ∙ b.split), length-append a.after (a.effect ∷ a.before), length-append b.after (b.effect ∷ b.before))) in
      record { mid = mid.0; split = mid.1 }

  -- calls before a call and the call itself, in an order that continues
  front_more : (e : Effect) (before : List Effect) → Found e before → (mid : List Effect) → IsPrefix (front e before ++ e.entry ∷ []) (calls_on e.chain (replay c.config.groups (mid ++ e ∷ before)))
  front_more e before f mid =
      subst (λ (z : List Entry). IsPrefix z (calls_on e.chain (replay c.config.groups (mid ++ e ∷ before)))) (calls_snoc e.chain (replay c.config.groups before) e.entry e.answer c.config (replay_groups c.config.groups before) f.here.there)
      (calls_grow c.config.groups e.chain mid (e ∷ before))

  -- so of one pass's calls the later has the greater number
  pub later_nth : (a : Effect) (before_a : List Effect) (b : Effect) (before_b : List Effect) → Found a before_a → Found b before_b → Earlier a before_a before_b → pass a ≡ pass b → nth a before_a + 1 ≤ nth b before_b
  later_nth a before_a b before_b fa fb w same =
      let chains : a.chain ≡ b.chain = sym fa.here.of.chain_is ∙ ap (chain_of c.config) same ∙ fb.here.of.chain_is in
      let more : IsPrefix (front a before_a ++ a.entry ∷ []) (calls_on a.chain (replay c.config.groups (w.mid ++ a ∷ before_a))) = front_more a before_a fa w.mid in
      let is : front b before_b ≡ (front a before_a ++ a.entry ∷ []) ++ more.0 = ap (λ (y : Chain). calls_on y (replay c.config.groups before_b)) (sym chains) ∙ ap (λ (z : List Effect). calls_on a.chain (replay c.config.groups z)) w.split ∙ more.1 in
      let number_is : nth b before_b ≡ count (its c (pass a)) ((front a before_a ++ a.entry ∷ []) ++ more.0) = (λ i. count (its c (sym same i)) (is i)) in
      omega (
        arith,
        number_is,
        count_append (its c (pass a)) (front a before_a ++ a.entry ∷ []) more.0,
        count_middle (its c (pass a)) (front a before_a) a.entry [] (its_own c a.chain a.entry fa.here.of),
      )

  found_at : (j : ℕ) (y : Point) (a : At (in_order effects) j y) → Found a.effect a.before
  found_at j y a = found a.after a.effect a.before a.split

  each : (k : ℕ) (z : Point) → slice_get (points (in_order effects)) k ≡ Some z → IsCallOf c moves z
  each k z is = let a : At (in_order effects) k z = at (in_order effects) k z is in subst (IsCallOf c moves) (sym a.is) (is_call a.effect a.before (found_at k z a))

  not_twice : (j k : ℕ) (y z : Point) → j < k → (a : At (in_order effects) j y) (b : At (in_order effects) k z) → y.begin ≡ z.begin → ⊥
  not_twice j k y z less a b same =
      let fa : Found a.effect a.before = found_at j y a in
      let fb : Found b.effect b.before = found_at k z b in
      let times : time a.effect a.before ≡ time b.effect b.before = ap (λ (q : Point). q.begin) (sym a.is) ∙ same ∙ ap (λ (q : Point). q.begin) b.is in
      let one : (pass b.effect ≡ pass a.effect) × (nth b.effect b.before ≡ nth a.effect a.before) =
      one_begin c moves (pass b.effect) (nth b.effect b.before) (pass a.effect) (nth a.effect a.before) (time b.effect b.before) fb.begin (subst (Begun c moves (pass a.effect) (nth a.effect a.before)) times fa.begin) in
      omega (arith, later_nth b.effect b.before a.effect a.before fb fa (earlier j k y z less a b) one.0, one.1)

  once : (j k : ℕ) (y z : Point) → slice_get (points (in_order effects)) j ≡ Some y → slice_get (points (in_order effects)) k ≡ Some z → y.begin ≡ z.begin → j ≡ k
  once j k y z y_is z_is same = elim (cases_lt j k) [
    | inl less ↦ absurd (not_twice j k y z less (at (in_order effects) j y y_is) (at (in_order effects) k z z_is) same)
    | inr not ↦ elim (cases_lt k j) [
      | inl less ↦ absurd (not_twice k j z y less (at (in_order effects) k z z_is) (at (in_order effects) j y y_is) (sym same))
      | inr nor ↦ omega (arith, not, nor)
    ]
  ]

  -- ---- each call that returned is there

  pub record InOrder (p n : ℕ) (told : Answer) : Type 0 where
    pub after : List Effect
    pub effect : Effect
    pub before : List Effect
    pub split : in_order effects ≡ after ++ effect ∷ before
    pub pass_is : pass effect ≡ p
    pub nth_is : nth effect before ≡ n
    pub told_is : told ≡ effect.answer

  pub whole_order : (p n : ℕ) (x : Took p n) → InOrder p n x.told
  whole_order p n x = record { after = o.after; effect = o.effect; before = o.before; split = o.split; pass_is = pass_is; nth_is = (λ i. count (its c (pass_is i)) (two.0 i)) ∙ had.nth; told_is = told_is }
    where
      r : IsRun c (Move.Take p ∷ x.seen) × Begins (history_of c (Move.Take p ∷ x.seen)) (history_of c moves)
      r = run_at x.later (Move.Take p ∷ x.seen) x.split

      less : p < passes c
      less = r.0.1.0

      last : IsLast c x.seen p x.told
      last = is_last c serves checked x.seen r.0.0 p less x.told x.phase_is

      y : Chain
      y = chain_of c.config p

      its_place : length last.before ≡ n
      its_place = omega (arith, last.many, x.nth)

      -- the call in the history at that time
      had : Nth (its c p) (calls_on y (history_of c x.seen)) (answers_on y (history_of c x.seen)) n last.entry x.told
      had = chosen_nth (its c p) (calls_on y (history_of c x.seen)) (answers_on y (history_of c x.seen)) n last.entry x.told
          (ap (λ (q : List (Entry × Option Answer)). slice_get q n) (sym (calls_here c checked x.seen r.0.0 p less) ∙ last.last)
          ∙ ap (slice_get (last.before ++ (last.entry, Some x.told) ∷ [])) (sym its_place) ∙ get_middle last.before (last.entry, Some x.told) [])

      calls : IsPrefix (calls_on y (history_of c x.seen)) (calls_on y (history_of c moves))
      calls = begins_calls y (history_of c x.seen) (history_of c moves) r.1

      answers : IsPrefix (answers_on y (history_of c x.seen)) (answers_on y (history_of c moves))
      answers = begins_answers y (history_of c x.seen) (history_of c moves) r.1

      -- and in the order
      o : On (in_order effects) c.config.groups y (length had.front)
      o = on c.config (in_order effects) l.exact y (length had.front) (omega (
        arith,
        slice_get_within (answers_on y (history_of c x.seen)) (length had.front) x.told had.answer,
        prefix_length (answers_on y (history_of c x.seen)) (answers_on y (history_of c moves)) answers,
        ap length (l.whole y),
        even_on y c.config (in_order effects) (there_is c serves y (chain_is c p less)),
      ))

      f : Found o.effect o.before
      f = found o.after o.effect o.before o.split

      two : (front o.effect o.before ≡ had.front) × (o.effect.entry ≡ last.entry)
      two = same_split (front o.effect o.before) f.here.rest had.front (had.rest ++ calls.0) o.effect.entry last.entry
          (sym f.here.split ∙ ap (λ (q : Chain). calls_on q (history_of c moves)) o.chain_is ∙ calls.1 ∙ ap (λ (q : List Entry). q ++ calls.0) had.split ∙ append_assoc had.front (last.entry ∷ had.rest) calls.0)
          (ap (λ (q : Chain). length (calls_on q (replay c.config.groups o.before))) o.chain_is ∙ o.at)

      pass_is : pass o.effect ≡ p
      pass_is = ap (λ (q : Entry). pass_no c.config q.pass) two.1 ∙ its_pass c p last.entry had.its

      told_is : x.told ≡ o.effect.answer
      told_is =
          let early : slice_get (answers_on y (history_of c moves)) (length had.front) ≡ Some x.told = ap (λ (q : List Answer). slice_get q (length had.front)) answers.1 ∙ get_front (answers_on y (history_of c x.seen)) answers.0 (length had.front) x.told had.answer in
          let mine : slice_get (answers_on y (history_of c moves)) (length had.front) ≡ Some o.effect.answer = (λ i. slice_get (answers_on (sym o.chain_is i) (history_of c moves)) (length (sym two.0 i))) ∙ f.here.answer in
          let both : Some x.told ≡ Some o.effect.answer = sym early ∙ mine in
          cc

  -- it is the last that its pass had begun by then
  took : (begin end : ℕ) (answer : Answer) (r : Returns c moves begin end answer) → Took r.pass (length (made c r.before r.pass))
  took begin end answer r = record {
    later = r.later;
    seen = r.during ++ Move.Begin r.pass r.call r.known ∷ r.before;
    split = r.split;
    told = answer;
    phase_is = r.answer_is;
    nth = ap length (made_none c r.during (Move.Begin r.pass r.call r.known ∷ r.before) r.pass r.own) ∙ made_here c r.pass r.call r.known r.before r.pass refl;
  }

  began_split : (begin end : ℕ) (answer : Answer) (r : Returns c moves begin end answer) → moves ≡ (r.later ++ Move.Take r.pass ∷ r.during) ++ Move.Begin r.pass r.call r.known ∷ r.before
  began_split begin end answer r = r.split ∙ sym (append_assoc r.later (Move.Take r.pass ∷ r.during) (Move.Begin r.pass r.call r.known ∷ r.before))

  whole : (begin end : ℕ) (answer : Answer) → Returns c moves begin end answer → HasCall (points (in_order effects)) begin answer
  unfolding took
  whole begin end answer r = record {
    at = length o.after;
    point = point o.effect o.before;
    point_is = ap (λ (q : List Effect). slice_get (points q) (length o.after)) o.split ∙ get_point o.after o.effect o.before;
    begin_is = (λ i. get_or (moments moves (o.pass_is i)) (o.nth_is i) 0) ∙ get_or_from_slice_get (moments moves r.pass) n (length r.before) 0 moment ∙ r.begin_is;
    answer_is = sym o.told_is;
  }
    where
      n : ℕ
      n = length (made c r.before r.pass)

      o : InOrder r.pass (length (made c r.before r.pass)) (took begin end answer r).told
      o = whole_order r.pass n (took begin end answer r)

      moment : slice_get (moments moves r.pass) n ≡ Some (length r.before)
      moment = ap (λ (q : List Move). slice_get (moments q r.pass) n) (began_split begin end answer r) ∙ moment_of c (r.later ++ Move.Take r.pass ∷ r.during) r.before r.pass r.call r.known

  -- ---- the order agrees with real time

  -- a call had returned by the time at which a call before it began
  module _ (a : Effect) (before_a : List Effect) (fa : Found a before_a) (b : Effect) (before_b : List Effect) (fb : Found b before_b) (w : Earlier a before_a before_b) (after_b : List Effect) (split_b : in_order effects ≡ after_b ++ b ∷ before_b) where
    pub not_before : (t : ℕ) → Begun c moves (pass a) (nth a before_a) t → (x : Took (pass b) (nth b before_b)) → length x.seen < t → ⊥
    not_before t begin x earlier_seen = elim (cases_lt (length cut.before) (length before_b + 1)) [ inl short ↦ cut_short short | inr long ↦ cut_long long ]
      where
        mid : (mid : List Move) × (begin.before ≡ mid ++ Move.Take (pass b) ∷ x.seen)
        mid = two_ends x.later (Move.Take (pass b) ∷ x.seen) (begin.later ++ Move.Begin (pass a) begin.call begin.known ∷ []) begin.before
            (sym x.split ∙ begin.split ∙ sym (append_assoc begin.later (Move.Begin (pass a) begin.call begin.known ∷ []) begin.before)) (omega (arith, earlier_seen, begin.time_is))

        r : IsRun c (Move.Take (pass b) ∷ x.seen) × Begins (history_of c (Move.Take (pass b) ∷ x.seen)) (history_of c moves)
        r = run_at x.later (Move.Take (pass b) ∷ x.seen) x.split

        few : count (its c (pass a)) (calls_on (chain_of c.config (pass a)) (history_of c x.seen)) ≤ nth a before_a
        few = omega (arith, few_of c checked x.seen r.0.0 (pass a) fa.here.of.less, made_grows c mid.0 (Move.Take (pass b) ∷ x.seen) (pass a), ap (λ (m : List Move). length (made c m (pass a))) mid.1, begin.nth)

        calls : IsPrefix (calls_on (chain_of c.config (pass a)) (history_of c x.seen)) (calls_on (chain_of c.config (pass a)) (history_of c moves))
        calls = begins_calls (chain_of c.config (pass a)) (history_of c x.seen) (history_of c moves) r.1

        waits : length (calls_on a.chain (history_of c x.seen)) ≤ length (front a before_a)
        waits = subst (λ (y : Chain). length (calls_on y (history_of c x.seen)) ≤ length (front a before_a)) fa.here.of.chain_is
            (not_yet (its c (pass a)) (calls_on (chain_of c.config (pass a)) (history_of c x.seen)) calls.0 (front a before_a) fa.here.rest a.entry (sym calls.1 ∙ fa.split) (its_own c a.chain a.entry fa.here.of) few)

        end : AtEnd b before_b x.seen x.told
        end = at_end b before_b fb x

        cut : Precedes c (in_order effects) b.chain (length (front b before_b)) a.chain (length (front a before_a))
        cut = order_is_real_time c x.later (Move.Take (pass b) ∷ x.seen) effects (subst (λ (m : List Move). IsLinearization c m effects) x.split l) b.chain a.chain (length (front b before_b)) (length (front a before_a)) end.within waits

        cut_short : length cut.before < length before_b + 1 → ⊥
        cut_short short =
            let part : (part : List Effect) × (before_b ≡ part ++ cut.before) = two_ends cut.after cut.before (after_b ++ b ∷ []) before_b (sym cut.split ∙ split_b ∙ sym (append_assoc after_b (b ∷ []) before_b)) (omega (arith, short)) in
            omega (
              arith,
              cut.first,
              prefix_length (answers_on b.chain (replay c.config.groups cut.before)) (answers_on b.chain (replay c.config.groups (part.0 ++ cut.before))) (answers_grow c.config.groups b.chain part.0 cut.before),
              ap (λ (z : List Effect). length (answers_on b.chain (replay c.config.groups z))) part.1,
              even_on b.chain c.config before_b fb.here.there,
            )

        cut_long : length before_b + 1 ≤ length cut.before → ⊥
        cut_long long =
            let ends : (after_b ++ b ∷ w.mid) ++ a ∷ before_a ≡ cut.after ++ cut.before = append_assoc after_b (b ∷ w.mid) (a ∷ before_a) ∙ ap (λ (z : List Effect). after_b ++ b ∷ z) (sym w.split) ∙ sym split_b ∙ cut.split in
            let part : (part : List Effect) × (cut.before ≡ part ++ a ∷ before_a) = two_ends (after_b ++ b ∷ w.mid) (a ∷ before_a) cut.after cut.before ends (omega (arith, long, ap length w.split, length-append w.mid (a ∷ before_a))) in
            let more : IsPrefix (front a before_a ++ a.entry ∷ []) (calls_on a.chain (replay c.config.groups (part.0 ++ a ∷ before_a))) = front_more a before_a fa part.0 in
            omega (
              arith,
              cut.second,
              prefix_length (front a before_a ++ a.entry ∷ []) (calls_on a.chain (replay c.config.groups (part.0 ++ a ∷ before_a))) more,
              ap (λ (z : List Effect). length (calls_on a.chain (replay c.config.groups z))) part.1,
              length-append (front a before_a) (a.entry ∷ []),
            )

  -- what was returned is of the call at its place
  took_at : (e : Effect) (before : List Effect) → Found e before → (end : ℕ) (answer : Answer) → (r : Returns c moves (time e before) end answer) → (x : Took (pass e) (nth e before)) × (length x.seen ≡ end)
  unfolding took
  took_at e before f end answer r =
      let b : Begun c moves r.pass (length (made c r.before r.pass)) (time e before) = record { call = r.call; known = r.known; later = r.later ++ Move.Take r.pass ∷ r.during; before = r.before; split = began_split (time e before) end answer r; time_is = r.begin_is; nth = refl } in
      let one : (r.pass ≡ pass e) × (length (made c r.before r.pass) ≡ nth e before) = one_begin c moves r.pass (length (made c r.before r.pass)) (pass e) (nth e before) (time e before) b f.begin in
      subst (λ (z : Type 0). z) (λ i. (x : Took (one.0 i) (one.1 i)) × (length x.seen ≡ end)) (took (time e before) end answer r, r.end_is)

  in_time : (j k : ℕ) (y z : Point) → slice_get (points (in_order effects)) j ≡ Some y → slice_get (points (in_order effects)) k ≡ Some z → ReturnsBefore c moves y.begin z.begin → k < j
  in_time j k y z y_is z_is returns = elim (cases_lt k j) [
    | inl less ↦ less
    | inr not ↦ elim (cases_lt j k) [ inl less ↦ absurd (before less) | inr nor ↦ absurd (itself (omega (arith, not, nor))) ]
  ]
    where
      r : Returns c moves y.begin returns.end returns.answer
      r = returns.returned

      itself : j ≡ k → ⊥
      itself same =
          let both : Some y ≡ Some z = sym y_is ∙ ap (slice_get (points (in_order effects))) same ∙ z_is in
          let one : y ≡ z = cc in
          omega (arith, returns.earlier, ap (λ (q : Point). q.begin) one, r.begin_is, r.end_is, length-append r.during (Move.Begin r.pass r.call r.known ∷ r.before))

      before : j < k → ⊥
      before less =
          let a : At (in_order effects) k z = at (in_order effects) k z z_is in
          let b : At (in_order effects) j y = at (in_order effects) j y y_is in
          let fa : Found a.effect a.before = found_at k z a in
          let fb : Found b.effect b.before = found_at j y b in
          let x : (x : Took (pass b.effect) (nth b.effect b.before)) × (length x.seen ≡ returns.end) = took_at b.effect b.before fb returns.end returns.answer (subst (λ (t : ℕ). Returns c moves t returns.end returns.answer) (ap (λ (q : Point). q.begin) b.is) r) in
          not_before a.effect a.before fa b.effect b.before fb (earlier j k y z less b a) b.after b.split (time a.effect a.before) fa.begin x.0 (omega (arith, x.1, returns.earlier, ap (λ (q : Point). q.begin) a.is))

  order_of_calls : (order : List Point) × (effects_of order ≡ in_order effects) × IsOrderOfCalls c moves order
  order_of_calls = (points (in_order effects), effects_same (in_order effects), record { exact = subst (IsExact c.config) (sym (effects_same (in_order effects))) l.exact; each = each; once = once; whole = whole; in_time = in_time })

pub linearizations_are_of_calls : LinearizationsAreOfCalls
linearizations_are_of_calls c moves serves checked run effects l = order_of_calls c serves checked moves run effects l

pub calls_are_linearizable : CallsAreLinearizable
calls_are_linearizable c moves serves checked run =
    let l : IsLinearizable c moves = linearizable c moves serves checked run in
    let o : (order : List Point) × (effects_of order ≡ in_order l.0) × IsOrderOfCalls c moves order = order_of_calls c serves checked moves run l.0 l.1 in
    (o.0, o.2)
