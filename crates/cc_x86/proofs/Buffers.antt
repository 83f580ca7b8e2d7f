-- A run with store buffers is a run of atomic steps in which a plain store has its turn when it leaves the buffer. There a
-- thread is behind by just the stores that wait: since it looks at nothing while one waits, that makes no difference to it.
use Rattle.std.proofs.Common.{◌≡◌, ℕ, Bool, true, false, cond, ◌==◌, refl, ap, sym, ◌∙◌, subst, List, [], ◌∷◌, ◌++◌, arith}
use Rattle.std.proofs.lemmas.Bool.{eqb-true}
use Rattle.cc_x86.specs.Program.{Operation, Load, Store, Locked, Outside, Stop, Program, State, Effect, Turn, hold, put, found, written}
use Rattle.cc_x86.specs.Sequential as sequential
use Rattle.cc_x86.specs.Sequential.{stepped_by, reached, effects, IsRun}
use Rattle.cc_x86.specs.Buffered.{Plain, is_plain, Waiting, Machine, Move, Acts, Drains, seen, found_behind, acted_by, drained_by, arrived, acts_with, drains_with, shown, MayAct, MayDrain, IsBufferedRun}
use Rattle.cc_x86.specs.Fenced.{LooksAtNothing, IsFencedAt, IsFenced, looks_at_nothing, MostAreFenced, turn_of, turns, BuffersAreNotSeen}

-- what holds at p, and at each other number, holds at all
pub at_hold : (Q : Bool → Type 0) (p q : ℕ) → (p ≡ q → Q true) → Q false → Q (p == q)
at_hold Q p q here there = by_case (p == q) refl
  where
    by_case : (b : Bool) → (p == q) ≡ b → Q b
    by_case true e = here (eqb-true p q e)
    by_case false e = there

module _ {W S : Type 0} (c : Program W S) (plain : Plain S) where
  -- thread p comes from x to y by just these stores
  abbrev pub Behind : ℕ → S → List (Waiting W) → S → Type 0
  Behind p x [] y = x ≡ y
  Behind p x (e ∷ newer) y = (c.next p x ≡ Store e.word e.value) × (plain p x ≡ true) × Behind p (c.after p x 0) newer y

  pub one_more : (p : ℕ) (x : S) (waiting : List (Waiting W)) (y : S) (w : W) (v : ℕ) → Behind p x waiting y → c.next p y ≡ Store w v → plain p y ≡ true → Behind p x (waiting ++ record { word = w; value = v } ∷ []) (c.after p y 0)
  one_more p x [] y w v b e is_plain = (ap (c.next p) b ∙ e, ap (plain p) b ∙ is_plain, ap (λ (z : S). c.after p z 0) b)
  one_more p x (d ∷ newer) y w v b e is_plain = (b.0, b.1, one_more p (c.after p x 0) newer y w v b.2 e is_plain)

  module _ (fenced : IsFenced c plain) where
    -- while a store waits its thread looks at nothing
    blind : (p : ℕ) (x : S) (e : Waiting W) (newer : List (Waiting W)) (y : S) → Behind p x (e ∷ newer) y → LooksAtNothing (c.next p y)
    blind p x e [] y b =
        subst (λ (z : S). LooksAtNothing (c.next p z)) b.2
        (subst (λ (does : Operation W). IsFencedAt c p x does true) b.0 (subst (λ (f : Bool). IsFencedAt c p x (c.next p x) f) b.1 (fenced p x)))
    blind p x e (d ∷ newer) y b = blind p (c.after p x 0) d newer y b.2

    none_waits : (p : ℕ) (x : S) (waiting : List (Waiting W)) (y : S) → Behind p x waiting y → (LooksAtNothing (c.next p y) → ⊥) → waiting ≡ []
    none_waits p x [] y b looks = refl
    none_waits p x (e ∷ newer) y b looks = absurd (looks (blind p x e newer y b))

  -- a store that is plain is one that may be
  pub may_be : (p : ℕ) (own : S) (plainly : Bool) → is_plain plain p own plainly ≡ true → plain p own ≡ true
  may_be p own plainly e = grind arith

  module _ (s : State W S) where
    record Tied (m : Machine W S) (ts : List Turn) (es : List (Effect W)) : Type 0 where
      pub run : IsRun c s ts
      pub shows : effects c s ts ≡ es
      pub words : (reached c s ts).words ≡ m.words
      pub behind : (p : ℕ) → Behind p ((reached c s ts).own p) (m.buffer p) (m.own p)

    -- one atomic step more
    one_step : (m : Machine W S) (ts : List Turn) (es : List (Effect W)) (p told : ℕ) (does : Operation W) (x : ℕ) →
        IsRun c s ts → effects c s ts ≡ es → c.next p ((reached c s ts).own p) ≡ does → sequential.Acts does →
        found (reached c s ts).words does told ≡ x →
        (stepped_by c (reached c s ts) p told does).words ≡ m.words →
        ((q : ℕ) → Behind q ((stepped_by c (reached c s ts) p told does).own q) (m.buffer q) (m.own q)) →
        Tied m (record { thread = p; told = told } ∷ ts) (record { thread = p; does = does; found = x } ∷ es)
    one_step m ts es p told does x run shows is acts finds words behind = record {
      run = (run, subst (λ (o : Operation W). sequential.Acts o) (sym is) acts);
      shows =
          ap (λ (o : Operation W). record { thread = p; does = o; found = found (reached c s ts).words o told } ∷ effects c s ts) is
          ∙ ap (λ (y : ℕ). record { thread = p; does = does; found = y } ∷ effects c s ts) finds
          ∙ ap (λ (l : List (Effect W)). record { thread = p; does = does; found = x } ∷ l) shows;
      words = subst (λ (o : Operation W). (stepped_by c (reached c s ts) p told o).words ≡ m.words) (sym is) words;
      behind = subst (λ (o : Operation W). (q : ℕ) → Behind q ((stepped_by c (reached c s ts) p told o).own q) (m.buffer q) (m.own q)) (sym is) behind;
    }

    module _ (m : Machine W S) (ts : List Turn) (es : List (Effect W)) (k : Tied m ts es) where
      -- what is done when no store waits
      at_empty : (p told : ℕ) (does : Operation W) (x : ℕ) → c.next p (m.own p) ≡ does → sequential.Acts does → m.buffer p ≡ [] → x ≡ found m.words does told →
          Tied record { words = written c.same m.words does; own = hold m.own p (c.after p (m.own p) x); buffer = hold m.buffer p (m.buffer p) }
          (record { thread = p; told = told } ∷ ts) (record { thread = p; does = does; found = x } ∷ es)
      at_empty p told does x is acts empty finds =
          let r : State W S = reached c s ts in
          let same_own : (reached c s ts).own p ≡ m.own p = subst (λ (b : List (Waiting W)). Behind p ((reached c s ts).own p) b (m.own p)) empty (k.behind p) in
          let same_found : found (reached c s ts).words does told ≡ x = ap (λ (ws : W → ℕ). found ws does told) k.words ∙ sym finds in
          let goes : c.after p ((reached c s ts).own p) (found (reached c s ts).words does told) ≡ c.after p (m.own p) x =
          ap (λ (z : S). c.after p z (found (reached c s ts).words does told)) same_own ∙ ap (λ (y : ℕ). c.after p (m.own p) y) same_found in
          let here : Behind p (c.after p ((reached c s ts).own p) (found (reached c s ts).words does told)) (m.buffer p) (c.after p (m.own p) x) =
          subst (λ (b : List (Waiting W)). Behind p (c.after p ((reached c s ts).own p) (found (reached c s ts).words does told)) b (c.after p (m.own p) x)) (sym empty) goes in
          one_step _ ts es p told does x k.run k.shows (ap (c.next p) same_own ∙ is) acts same_found (ap (λ (ws : W → ℕ). written c.same ws does) k.words)
          (λ q.
          at_hold (λ (b : Bool). Behind q (cond b (c.after p ((reached c s ts).own p) (found (reached c s ts).words does told)) ((reached c s ts).own q)) (cond b (m.buffer p) (m.buffer q)) (cond b (c.after p (m.own p) x) (m.own q))) p q
          (λ same. subst (λ (z : ℕ). Behind z (c.after p ((reached c s ts).own p) (found (reached c s ts).words does told)) (m.buffer p) (c.after p (m.own p) x)) same here)
          (k.behind q))

      look_keeps : IsFenced c plain → (p told : ℕ) (does : Operation W) → c.next p (m.own p) ≡ does → (LooksAtNothing does → ⊥) → m.buffer p ≡ []
      look_keeps fenced p told does is looks = none_waits fenced p ((reached c s ts).own p) (m.buffer p) (m.own p) (k.behind p) (λ none. looks (subst (λ (o : Operation W). LooksAtNothing o) is none))

      acts_keeps : IsFenced c plain → (p told : ℕ) (does : Operation W) (f : Bool) → (f ≡ true → plain p (m.own p) ≡ true) → c.next p (m.own p) ≡ does → MayAct (m.buffer p) does f →
          Tied (acted_by c m p told does f) (turn_of record { thread = p; told = told } does f ts) (acts_with p (found_behind c.same m.words (m.buffer p) does told) does f ++ es)
      acts_keeps fenced p told (Load w) f may_be is may =
          let empty : m.buffer p ≡ [] = look_keeps fenced p told (Load w) is (λ none. none) in
          at_empty p told (Load w) (seen c.same (m.buffer p) w (m.words w)) is tt empty (ap (λ (b : List (Waiting W)). seen c.same b w (m.words w)) empty)
      acts_keeps fenced p told (Store w v) true may_be is may = record {
        run = k.run;
        shows = k.shows;
        words = k.words;
        behind = λ q.
            at_hold (λ (b : Bool). Behind q ((reached c s ts).own q) (cond b (m.buffer p ++ record { word = w; value = v } ∷ []) (m.buffer q)) (cond b (c.after p (m.own p) 0) (m.own q))) p q
            (λ same. subst (λ (z : ℕ). Behind z ((reached c s ts).own z) (m.buffer p ++ record { word = w; value = v } ∷ []) (c.after p (m.own p) 0)) same (one_more p ((reached c s ts).own p) (m.buffer p) (m.own p) w v (k.behind p) is (may_be refl)))
            (k.behind q);
      }
      acts_keeps fenced p told (Store w v) false may_be is may = at_empty p told (Store w v) 0 is tt may refl
      acts_keeps fenced p told (Locked w g) f may_be is may = at_empty p told (Locked w g) (m.words w) is tt may refl
      acts_keeps fenced p told (Outside v) f may_be is may = at_empty p told (Outside v) told is tt (look_keeps fenced p told (Outside v) is (λ none. none)) refl
      acts_keeps fenced p told Stop f may_be is may = absurd may

      drains_keep : (p : ℕ) (waiting : List (Waiting W)) → m.buffer p ≡ waiting → MayDrain waiting →
          Tied (drained_by c m p waiting) (record { thread = p; told = 0 } ∷ ts) (drains_with p waiting ++ es)
      drains_keep p [] is may = absurd may
      drains_keep p (e ∷ newer) is may =
          let b : (c.next p ((reached c s ts).own p) ≡ Store e.word e.value) × (plain p ((reached c s ts).own p) ≡ true) × Behind p (c.after p ((reached c s ts).own p) 0) newer (m.own p) =
          subst (λ (l : List (Waiting W)). Behind p ((reached c s ts).own p) l (m.own p)) is (k.behind p) in
          one_step _ ts es p 0 (Store e.word e.value) 0 k.run k.shows b.0 tt refl (ap (λ (ws : W → ℕ). put c.same ws e.word e.value) k.words)
          (λ q.
          at_hold (λ (z : Bool). Behind q (cond z (c.after p ((reached c s ts).own p) 0) ((reached c s ts).own q)) (cond z newer (m.buffer q)) (m.own q)) p q
          (λ same. subst (λ (z : ℕ). Behind z (c.after p ((reached c s ts).own p) 0) newer (m.own z)) same b.2)
          (k.behind q))

    tied : IsFenced c plain → (moves : List Move) → IsBufferedRun c plain s moves → Tied (arrived c plain s moves) (turns c plain s moves) (shown c plain s moves)
    tied fenced [] run = record { run = tt; shows = refl; words = refl; behind = λ p. refl }
    tied fenced (Acts t plainly ∷ earlier) run =
        acts_keeps (arrived c plain s earlier) (turns c plain s earlier) (shown c plain s earlier) (tied fenced earlier run.0) fenced t.thread t.told (c.next t.thread ((arrived c plain s earlier).own t.thread)) (is_plain plain t.thread ((arrived c plain s earlier).own t.thread) plainly) (may_be t.thread ((arrived c plain s earlier).own t.thread) plainly) refl run.1
    tied fenced (Drains p ∷ earlier) run =
        drains_keep (arrived c plain s earlier) (turns c plain s earlier) (shown c plain s earlier) (tied fenced earlier run.0) p ((arrived c plain s earlier).buffer p) refl run.1

pub buffers_are_not_seen : (W S : Type 0) → BuffersAreNotSeen W S
buffers_are_not_seen W S c plain s moves fenced run =
    let k = tied c plain s fenced moves run in
    record {
      run = k.run;
      effects = k.shows;
      words = k.words;
      own = λ p empty. subst (λ (b : List (Waiting W)). Behind c plain p ((reached c s (turns c plain s moves)).own p) b ((arrived c plain s moves).own p)) empty (k.behind p);
      empty = λ p looks. none_waits c plain fenced p ((reached c s (turns c plain s moves)).own p) ((arrived c plain s moves).buffer p) ((arrived c plain s moves).own p) (k.behind p) looks;
    }

most_at : {W S : Type 0} (c : Program W S) (p : ℕ) (own : S) (does after : Operation W) → c.next p (c.after p own 0) ≡ after → IsFencedAt c p own does (looks_at_nothing after)
most_at c p own (Store w v) (Load x) is = tt
most_at c p own (Store w v) (Outside x) is = tt
most_at {W} c p own (Store w v) (Store x y) is = subst (λ (o : Operation W). LooksAtNothing o) (sym is) tt
most_at {W} c p own (Store w v) (Locked x f) is = subst (λ (o : Operation W). LooksAtNothing o) (sym is) tt
most_at {W} c p own (Store w v) Stop is = subst (λ (o : Operation W). LooksAtNothing o) (sym is) tt
most_at c p own _ after is = tt

none_at : {W S : Type 0} (c : Program W S) (p : ℕ) (own : S) (does : Operation W) → IsFencedAt c p own does false
none_at c p own does = grind arith

pub most_are_fenced : (W S : Type 0) → MostAreFenced W S
most_are_fenced W S c = (λ p own. most_at c p own (c.next p own) (c.next p (c.after p own 0)) refl, λ p own. none_at c p own (c.next p own))
