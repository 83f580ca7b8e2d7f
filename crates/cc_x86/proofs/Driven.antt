-- Threads that drive several passes make a run in which each pass has a buffer of its own: its stores among those of the one thread
-- that has any.
use Rattle.std.proofs.Common.{◌≡◌, ◌≢◌, ◌⊎◌, inl, inr, ℕ, Bool, true, false, cond, ◌==◌, refl, ap, sym, ◌∙◌, subst, ⊎_elim, List, [], ◌∷◌, ◌++◌, append-nil, Some, None, arith}
use Rattle.std.proofs.lemmas.Option.{none-some, same_Some}
use Rattle.std.proofs.lemmas.Bool.{eqb-true, eqb-false, eq-eqb, ne_eqb}
use Rattle.cc_x86.specs.Program.{Operation, Store, Locked, Outside, Program, State, Effect, Turn, hold, put}
use Rattle.cc_x86.specs.Buffered as buffers
use Rattle.cc_x86.specs.Buffered.{Plain, is_plain, Waiting, Machine, found_behind, at_once, buffered, acts_with, MayAct, arrived, shown, IsBufferedRun}
use Rattle.cc_x86.specs.Driven.{Tagged, Crew, Move, TakesUp, Leaves, Acts, Drains, stores, tagged, waits_more, acted_by, drained_by, reached, of_pass, Fresh, StaysFresh, AreFresh, MayTakeUp, MayDrain, IsDrivenRun, drains_of, by_passes, drains_with, done, DrivenRunsAreByPasses}
use Rattle.cc_x86.proofs.Stores.{by_bool, at_hold', held}

-- ---- lists of tagged stores

-- all of them are of pass p
abbrev AllOf : {W : Type 0} → ℕ → List (Tagged W) → Type 0
AllOf p [] = Unit {0}
AllOf p (e ∷ newer) = (e.pass ≡ p) × AllOf p newer

module _ {W : Type 0} where
  all_of : (p : ℕ) (l : List (Tagged W)) → AllOf p l → of_pass p l ≡ stores l
  all_of p [] a = refl
  all_of p (e ∷ newer) a = ap (λ (b : Bool). cond b (e.store ∷ of_pass p newer) (of_pass p newer)) (eq-eqb e.pass p a.0) ∙ ap (λ (l : List (Waiting W)). e.store ∷ l) (all_of p newer a.1)

  with_first : (w : Waiting W) (all xs ys : List (Waiting W)) → all ≡ xs ++ ys → (b : Bool) → cond b (w ∷ all) all ≡ cond b (w ∷ xs) xs ++ ys
  with_first w all xs ys e true = ap (λ (l : List (Waiting W)). w ∷ l) e
  with_first w all xs ys e false = e

  of_append : (p : ℕ) (xs ys : List (Tagged W)) → of_pass p (xs ++ ys) ≡ of_pass p xs ++ of_pass p ys
  of_append p [] ys = refl
  of_append p (e ∷ xs) ys = with_first e.store (of_pass p (xs ++ ys)) (of_pass p xs) (of_pass p ys) (of_append p xs ys) (e.pass == p)

  of_tagged : (p : ℕ) (ws : List (Waiting W)) → of_pass p (tagged p ws) ≡ ws
  of_tagged p [] = refl
  of_tagged p (w ∷ ws) = ap (λ (b : Bool). cond b (w ∷ of_pass p (tagged p ws)) (of_pass p (tagged p ws))) (eq-eqb p p refl) ∙ ap (λ (l : List (Waiting W)). w ∷ l) (of_tagged p ws)

  of_others : (p q : ℕ) → p ≢ q → (ws : List (Waiting W)) → of_pass q (tagged p ws) ≡ []
  of_others p q other [] = refl
  of_others p q other (w ∷ ws) = ap (λ (b : Bool). cond b (w ∷ of_pass q (tagged p ws)) (of_pass q (tagged p ws))) (ne_eqb p q other) ∙ of_others p q other ws

  -- what pass q has in a buffer in which pass p has these stores more
  of_more : (p q : ℕ) (l : List (Tagged W)) (ws : List (Waiting W)) → p ≢ q → of_pass q (l ++ tagged p ws) ≡ of_pass q l
  of_more p q l ws other = of_append q l (tagged p ws) ∙ ap (λ (r : List (Waiting W)). of_pass q l ++ r) (of_others p q other ws) ∙ append-nil (of_pass q l)

  all_more : (p : ℕ) (l : List (Tagged W)) (ws : List (Waiting W)) → AllOf p l → AllOf p (l ++ tagged p ws)
  all_more p [] [] a = tt
  all_more p [] (w ∷ ws) a = (refl, all_more p [] ws tt)
  all_more p (e ∷ l) ws a = (a.0, all_more p l ws a.1)

  no_stores : (l : List (Tagged W)) → stores l ≡ [] → l ≡ []
  no_stores [] e = refl
  no_stores (x ∷ l) e = absurd (cc)

  buffered_more : (waiting : List (Waiting W)) (p : ℕ) (does : Operation W) (flag : Bool) → buffered waiting does flag ≡ waiting ++ waits_more p does flag
  buffered_more waiting p (Store w v) true = refl
  buffered_more waiting p _ _ = sym (append-nil waiting)

either : (p q : ℕ) (P : Type 0) → (p ≡ q → P) → (p ≢ q → P) → P
either p q P here there = by_bool P (p == q) (λ it. here (eqb-true p q it)) (λ it. there (eqb-false p q it))

away : {X : Type 0} (xs : ℕ → X) (t u : ℕ) (x : X) → u ≢ t → hold xs t x u ≡ xs u
away xs t u x other = at_hold' (λ (b : Bool). cond b x (xs u) ≡ xs u) t u (λ it. absurd (other (sym it))) (λ _. refl)

module _ {W S : Type 0} (c : Program W S) (plain : Plain S) (fresh : Fresh S) (s : State W S) (are_fresh : AreFresh c fresh) where
  -- pass p has its stores in the buffer of thread t alone, and these are its own buffer
  abbrev Home : Crew W S → Machine W S → ℕ → ℕ → Type 0
  Home m b p t = ((u : ℕ) → u ≢ t → of_pass p (m.buffer u) ≡ []) × (b.buffer p ≡ of_pass p (m.buffer t))

  record Tie (m : Crew W S) (b : Machine W S) : Type 0 where
    pub words : b.words ≡ m.words
    pub own : b.own ≡ m.own
    pub home : (p : ℕ) → (t : ℕ) × Home m b p t
    pub driven : (t p : ℕ) → m.drives t ≡ Some p → Home m b p t × ((fresh p (m.own p) ≡ true) ⊎ AllOf p (m.buffer t))
    pub one : (t u p : ℕ) → m.drives t ≡ Some p → m.drives u ≡ Some p → t ≡ u

  -- ---- a pass acts

  module _ (m : Crew W S) (b : Machine W S) (k : Tie m b) (t p told : ℕ) (flag : Bool) (drives : m.drives t ≡ Some p) where
    abbrev does : Operation W
    does = c.next p (m.own p)

    abbrev more : List (Waiting W)
    more = waits_more p does flag

    its_home : Home m b p t
    its_home = (k.driven t p drives).0

    own_same : b.own p ≡ m.own p
    own_same = ap (λ (own : ℕ → S). own p) k.own

    empty_same : stores (m.buffer t) ≡ [] → b.buffer p ≡ []
    empty_same e = its_home.1 ∙ ap (of_pass p) (no_stores (m.buffer t) e)

    may_same : (o : Operation W) → MayAct (stores (m.buffer t)) o flag → MayAct (b.buffer p) o flag
    may_same o = by_op o flag
      where
        by_op : (o : Operation W) (f : Bool) → MayAct (stores (m.buffer t)) o f → MayAct (b.buffer p) o f
        by_op (Store w v) false e = empty_same e
        by_op (Locked w g) f e = empty_same e
        by_op o f e = grind arith

    found_same : (o : Operation W) → c.next p (m.own p) ≡ o → found_behind c.same b.words (b.buffer p) o told ≡ found_behind c.same m.words (stores (m.buffer t)) o told
    found_same o is = grind (arith, ⊎_elim, k.words, its_home.1, all_of, (k.driven t p drives).1)

    abbrev finds : ℕ
    finds = found_behind c.same m.words (stores (m.buffer t)) does told

    abbrev m' : Crew W S
    m' = acted_by c m t p told does flag

    abbrev b' : Machine W S
    b' = buffers.acted_by c b p told does flag

    words_same : b'.words ≡ m'.words
    words_same = ap (λ (ws : W → ℕ). at_once c.same ws does flag) k.words

    owns_same : b'.own ≡ m'.own
    owns_same = λ i. hold (k.own i) p (c.after p (own_same i) (found_same does refl i))

    buffer_here : m'.buffer t ≡ m.buffer t ++ tagged p more
    buffer_here = held m.buffer t (m.buffer t ++ tagged p more)

    buffer_there : (u : ℕ) → u ≢ t → m'.buffer u ≡ m.buffer u
    buffer_there u other = away m.buffer t u (m.buffer t ++ tagged p more) other

    -- of another pass nothing changes in any buffer
    of_other : (q u : ℕ) → p ≢ q → of_pass q (m'.buffer u) ≡ of_pass q (m.buffer u)
    of_other q u other = either u t (of_pass q (m'.buffer u) ≡ of_pass q (m.buffer u))
        (λ it. ap (λ (z : ℕ). of_pass q (m'.buffer z)) it ∙ ap (of_pass q) buffer_here ∙ of_more p q (m.buffer t) more other ∙ ap (λ (z : ℕ). of_pass q (m.buffer z)) (sym it))
        (λ apart. ap (of_pass q) (buffer_there u apart))

    home_other : (q u : ℕ) → p ≢ q → Home m b q u → Home m' b' q u
    home_other q u other h = (
      λ v apart. of_other q v other ∙ h.0 v apart,
      away b.buffer p q (buffered (b.buffer p) does flag) (λ it. other (sym it)) ∙ h.1 ∙ sym (of_other q u other),
    )

    home_own : Home m' b' p t
    home_own = (
      λ u other. ap (of_pass p) (buffer_there u other) ∙ its_home.0 u other,
      held b.buffer p (buffered (b.buffer p) does flag) ∙ buffered_more (b.buffer p) p does flag
          ∙ ap (λ (l : List (Waiting W)). l ++ more) its_home.1
          ∙ sym (ap (of_pass p) buffer_here ∙ of_append p (m.buffer t) (tagged p more) ∙ ap (λ (l : List (Waiting W)). of_pass p (m.buffer t) ++ l) (of_tagged p more)),
    )

    fresh_then : (o : Operation W) → does ≡ o → MayAct (stores (m.buffer t)) o flag → fresh p (m.own p) ≡ true
        → (fresh p (c.after p (m.own p) (found_behind c.same m.words (stores (m.buffer t)) o told)) ≡ true) ⊎ AllOf p (m.buffer t ++ tagged p (waits_more p o flag))
    fresh_then o is may f = by_op o (subst (λ (d : Operation W). StaysFresh c fresh p (m.own p) d) is (are_fresh p (m.own p) f)) may
      where
        by_op : (o : Operation W) → StaysFresh c fresh p (m.own p) o → MayAct (stores (m.buffer t)) o flag
            → (fresh p (c.after p (m.own p) (found_behind c.same m.words (stores (m.buffer t)) o told)) ≡ true) ⊎ AllOf p (m.buffer t ++ tagged p (waits_more p o flag))
        by_op (Outside v) stays may = inl (stays told)
        by_op (Locked w g) stays may = inr (subst (λ (l : List (Tagged W)). AllOf p (l ++ [])) (sym (no_stores (m.buffer t) may)) tt)
        by_op o stays may = grind arith

    acts_keep : MayAct (stores (m.buffer t)) does flag → Tie m' b'
    acts_keep may = record {
      words = words_same;
      own = owns_same;
      home = λ q. either p q ((u : ℕ) × Home m' b' q u)
          (λ it. (t, subst (λ (z : ℕ). Home m' b' z t) it home_own))
          (λ other. ((k.home q).0, home_other q (k.home q).0 other (k.home q).1));
      driven = λ u q its. either p q (Home m' b' q u × ((fresh q (m'.own q) ≡ true) ⊎ AllOf q (m'.buffer u)))
          (λ it. let here : t ≡ u = k.one t u p drives (its ∙ ap (λ (z : ℕ). Some z) (sym it)) in
          subst (λ (z : ℕ). Home m' b' z u × ((fresh z (m'.own z) ≡ true) ⊎ AllOf z (m'.buffer u))) it
          (subst (λ (v : ℕ). Home m' b' p v × ((fresh p (m'.own p) ≡ true) ⊎ AllOf p (m'.buffer v))) here (home_own, own_ready)))
          (λ other. let apart : u ≢ t = λ it. other (same_Some p q (sym drives ∙ ap m.drives (sym it) ∙ its)) in
          let before = k.driven u q its in
          (home_other q u other before.0, ⊎_elim (λ (f : fresh q (m.own q) ≡ true). inl (ap (fresh q) (away m.own p q (c.after p (m.own p) finds) (λ it. other (sym it))) ∙ f)) (λ (a : AllOf q (m.buffer u)). inr (subst (AllOf q) (sym (buffer_there u apart)) a)) before.1));
      one = k.one;
    }
      where
        own_ready : (fresh p (m'.own p) ≡ true) ⊎ AllOf p (m'.buffer t)
        own_ready = ⊎_elim
            (λ (f : fresh p (m.own p) ≡ true). ⊎_elim
            (λ (then : fresh p (c.after p (m.own p) finds) ≡ true). inl (ap (fresh p) (held m.own p (c.after p (m.own p) finds)) ∙ then))
            (λ (a : AllOf p (m.buffer t ++ tagged p more)). inr (subst (AllOf p) (sym buffer_here) a))
            (fresh_then does refl may f))
            (λ (a : AllOf p (m.buffer t)). inr (subst (AllOf p) (sym buffer_here) (all_more p (m.buffer t) more a)))
            (k.driven t p drives).1

  -- ---- the oldest store of a thread reaches the words

  module _ (m : Crew W S) (b : Machine W S) (k : Tie m b) (t : ℕ) (e : Tagged W) (newer : List (Tagged W)) (is : m.buffer t ≡ e ∷ newer) where
    abbrev q : ℕ
    q = e.pass

    of_here : of_pass q (m.buffer t) ≡ e.store ∷ of_pass q newer
    of_here = ap (of_pass q) is ∙ ap (λ (z : Bool). cond z (e.store ∷ of_pass q newer) (of_pass q newer)) (eq-eqb e.pass e.pass refl)

    at_home : (u : ℕ) → Home m b q u → u ≡ t
    at_home u h = either u t (u ≡ t) (λ it. it) (λ other. absurd (filled (sym of_here ∙ h.0 t (λ it. other (sym it)))))
      where
        filled : e.store ∷ of_pass q newer ≡ [] → ⊥
        filled z = cc

    home_here : Home m b q t
    home_here = subst (λ (u : ℕ). Home m b q u) (at_home (k.home q).0 (k.home q).1) (k.home q).1

    oldest : b.buffer q ≡ e.store ∷ of_pass q newer
    oldest = home_here.1 ∙ of_here

    abbrev drained : Crew W S
    drained = drained_by c m t (e ∷ newer)

    abbrev emptied : Machine W S
    emptied = buffers.drained_by c b q (e.store ∷ of_pass q newer)

    left_here : drained.buffer t ≡ newer
    left_here = held m.buffer t newer

    left_there : (u : ℕ) → u ≢ t → drained.buffer u ≡ m.buffer u
    left_there u other = away m.buffer t u newer other

    of_left : (p u : ℕ) → q ≢ p → of_pass p (drained.buffer u) ≡ of_pass p (m.buffer u)
    of_left p u other = either u t (of_pass p (drained.buffer u) ≡ of_pass p (m.buffer u))
        (λ it. ap (λ (z : ℕ). of_pass p (drained.buffer z)) it ∙ ap (of_pass p) left_here
        ∙ sym (ap (λ (z : Bool). cond z (e.store ∷ of_pass p newer) (of_pass p newer)) (ne_eqb e.pass p other)) ∙ ap (of_pass p) (sym is) ∙ ap (λ (z : ℕ). of_pass p (m.buffer z)) (sym it))
        (λ apart. ap (of_pass p) (left_there u apart))

    left_home : (p u : ℕ) → Home m b p u → Home drained emptied p u
    left_home p u h = either q p (Home drained emptied p u)
        (λ it. subst (λ (z : ℕ). Home drained emptied z u) it (subst (λ (v : ℕ). Home drained emptied q v) (sym (at_home u (subst (λ (z : ℕ). Home m b z u) (sym it) h))) own_home))
        (λ other. (λ v apart. of_left p v other ∙ h.0 v apart, away b.buffer q p (of_pass q newer) (λ it. other (sym it)) ∙ h.1 ∙ sym (of_left p u other)))
      where
        own_home : Home drained emptied q t
        own_home = (λ v apart. ap (of_pass q) (left_there v apart) ∙ home_here.0 v apart, held b.buffer q (of_pass q newer) ∙ sym (ap (of_pass q) left_here))

    all_left : (p u : ℕ) → AllOf p (m.buffer u) → AllOf p (drained.buffer u)
    all_left p u a = either u t (AllOf p (drained.buffer u))
        (λ it. subst (λ (z : ℕ). AllOf p (drained.buffer z)) (sym it) (subst (AllOf p) (sym left_here) (subst (AllOf p) is (subst (λ (z : ℕ). AllOf p (m.buffer z)) it a)).1))
        (λ apart. subst (AllOf p) (sym (left_there u apart)) a)

    drains_keep : Tie drained emptied
    drains_keep = record {
      words = ap (λ (ws : W → ℕ). put c.same ws e.store.word e.store.value) k.words;
      own = k.own;
      home = λ p. ((k.home p).0, left_home p (k.home p).0 (k.home p).1);
      driven = λ u p its. let before = k.driven u p its in (left_home p u before.0, ⊎_elim (λ (f : fresh p (m.own p) ≡ true). inl f) (λ (a : AllOf p (m.buffer u)). inr (all_left p u a)) before.1);
      one = k.one;
    }

  -- ---- a thread takes up a pass, or leaves it

  takes_up : (m : Crew W S) (b : Machine W S) → Tie m b → (t p : ℕ) → MayTakeUp fresh m t p → Tie record { words = m.words; own = m.own; buffer = m.buffer; drives = hold m.drives t (Some p) } b
  takes_up m b k t p may = record {
    words = k.words;
    own = k.own;
    home = k.home;
    driven = λ u q its. either u t (Home m b q u × ((fresh q (m.own q) ≡ true) ⊎ AllOf q (m.buffer u)))
        (λ it. let same_pass : p ≡ q = same_Some p q (sym (held m.drives t (Some p)) ∙ ap (hold m.drives t (Some p)) (sym it) ∙ its) in
        subst (λ (v : ℕ). Home m b q v × ((fresh q (m.own q) ≡ true) ⊎ AllOf q (m.buffer v))) (sym it)
        (subst (λ (z : ℕ). Home m b z t × ((fresh z (m.own z) ≡ true) ⊎ AllOf z (m.buffer t))) same_pass (home_now, ready)))
        (λ other. k.driven u q (sym (away m.drives t u (Some p) other) ∙ its));
    one = λ u v q a d. either u t (u ≡ v)
        (λ it. either v t (u ≡ v) (λ too. it ∙ sym too)
        (λ other. absurd (may.free v other (sym (away m.drives t v (Some p) other) ∙ d ∙ sym a ∙ ap (hold m.drives t (Some p)) it ∙ held m.drives t (Some p)))))
        (λ apart. either v t (u ≡ v)
        (λ too. absurd (may.free u apart (sym (away m.drives t u (Some p) apart) ∙ a ∙ sym d ∙ ap (hold m.drives t (Some p)) too ∙ held m.drives t (Some p))))
        (λ other. k.one u v q (sym (away m.drives t u (Some p) apart) ∙ a) (sym (away m.drives t v (Some p) other) ∙ d)));
  }
    where
      home_now : Home m b p t
      home_now = either (k.home p).0 t (Home m b p t)
          (λ it. subst (λ (u : ℕ). Home m b p u) it (k.home p).1)
          (λ other. (may.out, (k.home p).1.1 ∙ may.out (k.home p).0 other ∙ sym ((k.home p).1.0 t (λ it. other (sym it)))))

      ready : (fresh p (m.own p) ≡ true) ⊎ AllOf p (m.buffer t)
      ready = ⊎_elim (λ (e : m.buffer t ≡ []). inr (subst (AllOf p) (sym e) tt)) (λ (f : fresh p (m.own p) ≡ true). inl f) may.ready

  leaves : (m : Crew W S) (b : Machine W S) → Tie m b → (t : ℕ) → Tie record { words = m.words; own = m.own; buffer = m.buffer; drives = hold m.drives t None } b
  leaves m b k t = record {
    words = k.words;
    own = k.own;
    home = k.home;
    driven = λ u q its. k.driven u q (kept u q its);
    one = λ u v q a d. k.one u v q (kept u q a) (kept v q d);
  }
    where
      kept : (u q : ℕ) → hold m.drives t None u ≡ Some q → m.drives u ≡ Some q
      kept u q its = either u t (m.drives u ≡ Some q)
          (λ it. absurd (none-some q (sym (held m.drives t None) ∙ ap (hold m.drives t None) (sym it) ∙ its)))
          (λ other. sym (away m.drives t u None other) ∙ its)

  -- ---- a run

  record So (moves : List Move) : Type 0 where
    pub run : IsBufferedRun c plain s (by_passes c plain s moves)
    pub effects : shown c plain s (by_passes c plain s moves) ≡ done c plain s moves
    pub tie : Tie (reached c plain s moves) (arrived c plain s (by_passes c plain s moves))

  acts_so : (t : ℕ) (turn : Turn) (plainly : Bool) (earlier : List Move) → So earlier → (reached c plain s earlier).drives t ≡ Some turn.thread
      → MayAct (stores ((reached c plain s earlier).buffer t)) (c.next turn.thread ((reached c plain s earlier).own turn.thread)) (is_plain plain turn.thread ((reached c plain s earlier).own turn.thread) plainly)
      → So (Acts t turn plainly ∷ earlier)
  acts_so t turn plainly earlier k drives may =
      let m : Crew W S = reached c plain s earlier in
      let b : Machine W S = arrived c plain s (by_passes c plain s earlier) in
      let p : ℕ = turn.thread in
      let same : b.own p ≡ m.own p = ap (λ (own : ℕ → S). own p) k.tie.own in
      let flag : Bool = is_plain plain p (m.own p) plainly in record {
        run = (k.run, subst (λ (own : S). MayAct (b.buffer p) (c.next p own) (is_plain plain p own plainly)) (sym same) (may_same m b k.tie t p turn.told flag drives (c.next p (m.own p)) may));
        effects =
            ap (λ (own : S). acts_with p (found_behind c.same b.words (b.buffer p) (c.next p own) turn.told) (c.next p own) (is_plain plain p own plainly) ++ shown c plain s (by_passes c plain s earlier)) same
            ∙ ap (λ (x : ℕ). acts_with p x (c.next p (m.own p)) flag ++ shown c plain s (by_passes c plain s earlier)) (found_same m b k.tie t p turn.told flag drives (c.next p (m.own p)) refl)
            ∙ ap (λ (l : List (Effect W)). acts_with p (found_behind c.same m.words (stores (m.buffer t)) (c.next p (m.own p)) turn.told) (c.next p (m.own p)) flag ++ l) k.effects;
        tie = subst (λ (own : S). Tie (acted_by c m t p turn.told (c.next p (m.own p)) flag) (buffers.acted_by c b p turn.told (c.next p own) (is_plain plain p own plainly))) (sym same)
            (acts_keep m b k.tie t p turn.told flag drives may);
      }

  drains_so : (t : ℕ) (earlier : List Move) (waiting : List (Tagged W)) → (reached c plain s earlier).buffer t ≡ waiting → So earlier → MayDrain waiting → So (Drains t ∷ earlier)
  drains_so t earlier [] is k may = absurd may
  drains_so t earlier (e ∷ newer) is k may =
      let m : Crew W S = reached c plain s earlier in
      let b : Machine W S = arrived c plain s (by_passes c plain s earlier) in
      let first : b.buffer e.pass ≡ e.store ∷ of_pass e.pass newer = oldest m b k.tie t e newer is in
      let moves_are : by_passes c plain s (Drains t ∷ earlier) ≡ buffers.Drains e.pass ∷ by_passes c plain s earlier = ap (λ (l : List (Tagged W)). drains_of l (by_passes c plain s earlier)) is in
      record {
        run = subst (λ (l : List buffers.Move). IsBufferedRun c plain s l) (sym moves_are) (k.run, subst (λ (l : List (Waiting W)). buffers.MayDrain l) (sym first) tt);
        effects = ap (shown c plain s) moves_are ∙ ap (λ (l : List (Waiting W)). buffers.drains_with e.pass l ++ shown c plain s (by_passes c plain s earlier)) first
            ∙ ap (λ (l : List (Effect W)). record { thread = e.pass; does = Store e.store.word e.store.value; found = 0 } ∷ l) k.effects
            ∙ sym (ap (λ (l : List (Tagged W)). drains_with l ++ done c plain s earlier) is);
        tie = subst (λ (l : List buffers.Move). Tie (reached c plain s (Drains t ∷ earlier)) (arrived c plain s l)) (sym moves_are)
            (subst (λ (l : List (Tagged W)). Tie (drained_by c m t l) (buffers.drained_by c b e.pass (b.buffer e.pass))) (sym is)
            (subst (λ (l : List (Waiting W)). Tie (drained_by c m t (e ∷ newer)) (buffers.drained_by c b e.pass l)) (sym first) (drains_keep m b k.tie t e newer is)));
      }

  follow : (moves : List Move) → IsDrivenRun c plain fresh s moves → So moves
  follow [] run = record {
    run = tt;
    effects = refl;
    tie = record { words = refl; own = refl; home = λ p. (0, (λ u other. refl, refl)); driven = λ t p its. absurd (none-some p its); one = λ t u p a d. absurd (none-some p a) };
  }
  follow (TakesUp t p ∷ earlier) run = let k : So earlier = follow earlier run.0 in
      record { run = k.run; effects = k.effects; tie = takes_up (reached c plain s earlier) (arrived c plain s (by_passes c plain s earlier)) k.tie t p run.1 }
  follow (Leaves t ∷ earlier) run = let k : So earlier = follow earlier run.0 in
      record { run = k.run; effects = k.effects; tie = leaves (reached c plain s earlier) (arrived c plain s (by_passes c plain s earlier)) k.tie t }
  follow (Acts t turn plainly ∷ earlier) run = acts_so t turn plainly earlier (follow earlier run.0) run.1.0 run.1.1
  follow (Drains t ∷ earlier) run = drains_so t earlier ((reached c plain s earlier).buffer t) refl (follow earlier run.0) run.1

pub driven_runs_are_by_passes : (W S : Type 0) → DrivenRunsAreByPasses W S
driven_runs_are_by_passes W S c plain fresh s moves are_fresh run =
    let k = follow c plain fresh s are_fresh moves run in record { run = k.run; effects = k.effects; words = k.tie.words; own = k.tie.own }
