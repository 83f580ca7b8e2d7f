-- Each step of a lock keeps its rule.
use Rattle.std.proofs.Common.{◌≡◌, ℕ, zero, suc, ◌++◌, List, [], ◌∷◌, Bool, true, false, length, get_or, set, sym}
use Rattle.std.proofs.Common.{refl, ap, ◌∙◌, subst, arith, Option, Some, None, length-set, get_or-set_same, eqb}
use Rattle.std.proofs.Common.{⊎_elim, true≢false}
use mathlib.Core.Logic.{dite}
use mathlib.Core.Option.{some, none, some-injective, some-ne-none}
use native.Mathlib.Decide.{ℕ_discrete}
use lib.ListN.{get_elem?}
use lib.Seq.{set-get_or}
use prog.Atomic.{either}
use Rattle.atomic_table.specs.Table.{Me, State, step, stepped, keeps, takes, gives, Allows, Enters, opening}
use Rattle.atomic_table.proofs.Lists.{set_here, set_again, at_set, at_snoc, exchanged}
use Rattle.cc_guard.specs.declared.plays.Sight.{Sight}
use Rattle.cc_guard.specs.Guard.{sight, Sees, Rests, Guarded, grabbed, released, looked}

not_both : (b : Bool) → b ≡ true → b ≡ false → ⊥
not_both b e f = true≢false (sym e ∙ f)

is_false : (b : Bool) → (b ≡ true → ⊥) → b ≡ false
is_false true isnt = absurd (isnt refl)
is_false false isnt = refl

module _ {E K : Type 0} (grows : E → E → Type 0) (same : (a : E) → grows a a) (onward : (a b c : E) → grows a b
    → grows b c → grows a c) (start : E) (key : K) where
  abbrev first_sight : Sight E K
  first_sight = sight key start false

  -- what a first seat knows
  only_first : (i : ℕ) (v : Sight E K) → get_elem? (first_sight ∷ []) i ≡ some v → (i ≡ 0) × (first_sight ≡ v)
  only_first zero v is = (refl, some-injective (first_sight) v is)
  only_first (suc i) v is = absurd (some-ne-none v (sym is))

  module _ {T : Type 0} (log_of : T → E) (Holds : K → T → Type 0) where
    pub opens : (value : T) → grows start (log_of value) → Holds key value
        → Guarded grows log_of Holds key (opening (0 ∷ []) (Some value ∷ []) (first_sight))
    opens value begins holds = record {
      log = log_of value;
      one = refl;
      see = λ i v is. subst (λ (x : Sight E K). Sees grows key (log_of value) x) (only_first i v is).1
          (record { key_is = refl; begins = begins; whole = λ f. absurd (true≢false (sym f)) });
      alone = λ i v is has j w other has'. (only_first i v is).0 ∙ sym (only_first j w other).0;
      rests = λ _. record {
        value = value;
        home = refl;
        log_is = refl;
        holds = holds;
        none = λ i v is. sym (ap (λ (x : Sight E K). x.has) (only_first i v is).1);
      };
    }

    pub looks : (slots : ℕ)
        → Enters (Guarded grows log_of Holds key) slots 0 (λ n w. looked {T = T} (step slots 0 0 0 none) (
          first_sight,
          [],
        ) n (w, []))
    looks slots s g _ _ = (
      sight key g.log false,
      record {
        log = g.log;
        one = g.one;
        see = λ i v is. ⊎_elim (g.see i v) (λ e. subst (λ (x : Sight E K). Sees grows key g.log x) e
            (record { key_is = refl; begins = same g.log; whole = λ _. refl }))
            (at_snoc s.views (sight key g.log false) v i is);
        alone = λ i v is has j w other has'.
            let one = old_one s.views g.log i v is has in let two = old_one s.views g.log j w other has' in
            g.alone i v one has j w two has';
        rests = λ free. let r = g.rests free in record {
          value = r.value;
          home = r.home;
          log_is = r.log_is;
          holds = r.holds;
          none = λ i v is. ⊎_elim (r.none i v) (λ e. sym (ap (λ (x : Sight E K). x.has) e))
              (at_snoc s.views (sight key g.log false) v i is);
        };
      },
      record { not = refl; key = refl },
    )
      where
        old_one : (views : List (Sight E K)) (log : E) (i : ℕ) (v : Sight E K)
            → get_elem? (views ++ sight key log false ∷ []) i ≡ some v → v.has ≡ true → get_elem? views i ≡ some v
        old_one views log i v is has =
            ⊎_elim (λ old. old) (λ e. absurd (not_both v.has has (sym (ap (λ (x : Sight E K). x.has) e))))
            (at_snoc views (sight key log false) v i is)

    -- the word was 0, and is 1 now
    took : (id : ℕ) (m : Sight E K) (s : State (Option T) (Sight E K)) (g : Guarded grows log_of Holds key s)
        (r : Rests grows log_of Holds key g.log s) → get_elem? s.views id ≡ some m
        → Guarded grows log_of Holds key (stepped s 0 1 id [] (sight key g.log true) (takes 0 (Some r.value)))
    took id m s g r me = record {
      log = g.log;
      one = length-set s.words 0 1 ∙ g.one;
      see = λ i v is. ⊎_elim (λ t. subst (λ (x : Sight E K). Sees grows key g.log x) t.1
          (record { key_is = refl; begins = same g.log; whole = λ _. refl })) (λ t. g.see i v t.1)
          (at_set s.views id i (sight key g.log true) v is);
      alone = λ i v is has j w other has'. it_is i v is has ∙ sym (it_is j w other has');
      rests = λ free. absurd (zero_one (get_or-set_same s.words 0 1 0 (let long = g.one in omega arith)) free);
    }
      where
        zero_one : {n : ℕ} → n ≡ 1 → n ≡ 0 → ⊥
        zero_one {n} e f = omega (arith, e, f)

        it_is : (i : ℕ) (v : Sight E K) → get_elem? (set s.views id (sight key g.log true)) i ≡ some v → v.has ≡ true
            → i ≡ id
        it_is i v is has = ⊎_elim (λ t. t.0) (λ t. absurd (not_both v.has has (r.none i v t.1)))
            (at_set s.views id i (sight key g.log true) v is)

    same_words : (s : State (Option T) (Sight E K)) (id : ℕ) (m : Sight E K) → get_elem? s.views id ≡ some m
        → stepped s 0 (get_or s.words 0 0) id [] m keeps ≡ s
    same_words s id m is = λ i. record {
      words = set-get_or s.words 0 0 i;
      homes = s.homes;
      views = set_again s.views id m is i;
    }

    grabs_bare : (slots id : ℕ) (m : Sight E K) → m.key ≡ key
        → Allows (Guarded grows log_of Holds key) slots id (m, []) 0 (λ n. either (eqb n 0) 1 n)
        (grabbed grows log_of Holds (step slots 0 0 1 none) (m, []))
    grabs_bare slots id m here s g _ me _ = dite (ℕ_discrete (get_or s.words 0 0) 0)
        (λ is. let r = g.rests is in (
          sight key g.log true,
          takes 0 (Some r.value),
          r.home,
          subst (λ (n : ℕ). Guarded grows log_of Holds key
              (stepped s 0 n id [] (sight key g.log true) (takes 0 (Some r.value))))
              (sym (exchanged (get_or s.words 0 0) 0 1 (λ (n : ℕ). n ≡ 1) (λ _. refl) (λ ne. absurd (ne is))))
              (took id m s g r me),
          record {
            hit = λ _. record {
              value = r.value;
              slot = refl;
              has = refl;
              key = sym here;
              log = sym r.log_is;
              goes_on = subst (λ (l : E). grows m.seen l) (sym r.log_is) (g.see id m me).begins;
              holds = subst (λ (k : K). Holds k r.value) (sym here) r.holds;
            };
            miss = λ other. absurd (other is);
          },
        ))
        (λ other. (
          m,
          keeps,
          tt,
          subst (λ (n : ℕ). Guarded grows log_of Holds key (stepped s 0 n id [] m keeps))
              (sym (exchanged (get_or s.words 0 0) 0 1 (λ (n : ℕ). n ≡ get_or s.words 0 0) (λ is. absurd (other is))
              (λ _. refl)))
              (subst (λ (x : State (Option T) (Sight E K)). Guarded grows log_of Holds key x)
              (sym (same_words s id m me)) g),
          record { hit = λ is. absurd (other is); miss = λ _. refl },
        ))

    pub grabs : (slots id : ℕ) (m : Me (Option T) (Sight E K)) → m.0.key ≡ key → m.1 ≡ []
        → Allows (Guarded grows log_of Holds key) slots id m 0 (λ n. either (eqb n 0) 1 n)
        (grabbed grows log_of Holds (step slots 0 0 1 none) m)
    grabs slots id m here bare = subst (λ (x : Me (Option T) (Sight E K)). Allows (Guarded grows log_of Holds key) slots
        id x 0 (λ n. either (eqb n 0) 1 n) (grabbed grows log_of Holds (step slots 0 0 1 none) x))
        (λ i. (m.0, sym bare i)) (grabs_bare slots id m.0 here)

    -- the value is at home again
    home_again : (id : ℕ) (m : Sight E K) (value : T) (s : State (Option T) (Sight E K))
        (g : Guarded grows log_of Holds key s) → length s.homes ≡ 1 → get_elem? s.views id ≡ some m → m.has ≡ true
        → grows m.seen (log_of value) → Holds key value
        → Guarded grows log_of Holds key (stepped s 0 0 id ((0, Some value) ∷ []) (sight key (log_of value) false)
        gives)
    home_again id m value s g wide me has goes holds = record {
      log = log_of value;
      one = length-set s.words 0 0 ∙ g.one;
      see = λ i v is. ⊎_elim (λ t. subst (λ (x : Sight E K). Sees grows key (log_of value) x) t.1
          (record { key_is = refl; begins = same (log_of value); whole = λ _. refl }))
          (λ t. let old = g.see i v t.1 in record {
            key_is = old.key_is;
            begins = onward v.seen m.seen (log_of value)
                (subst (λ (l : E). grows v.seen l) (sym ((g.see id m me).whole has)) old.begins) goes;
            whole = λ is_has. absurd (t.0 (g.alone i v t.1 is_has id m me has));
          })
          (at_set s.views id i (sight key (log_of value) false) v is);
      alone = λ i v is is_has. absurd (not_both v.has is_has (none i v is));
      rests = λ _. record {
        value = value;
        home = set_here s.homes 0 (some (Some value)) (omega (arith, wide));
        log_is = refl;
        holds = holds;
        none = none;
      };
    }
      where
        none : (i : ℕ) (v : Sight E K) → get_elem? (set s.views id (sight key (log_of value) false)) i ≡ some v
            → v.has ≡ false
        none i v is = ⊎_elim (λ t. sym (ap (λ (x : Sight E K). x.has) t.1))
            (λ t. is_false v.has (λ is_has. t.0 (g.alone i v t.1 is_has id m me has)))
            (at_set s.views id i (sight key (log_of value) false) v is)

    pub releases : (id : ℕ) (m : Me (Option T) (Sight E K)) (value : T) → m.0.key ≡ key → m.1 ≡ (0, Some value) ∷ []
        → m.0.has ≡ true → grows m.0.seen (log_of value) → Holds key value
        → Allows (Guarded grows log_of Holds key) 1 id m 0 (λ _. 0) (λ _. released log_of (step 1 0 0 0 none) m 0)
    releases id m value here slot has goes holds =
        subst (λ (c : List (ℕ × Option T)). Allows (Guarded grows log_of Holds key) 1 id (m.0, c) 0 (λ _. 0)
        (λ _. released log_of (step 1 0 0 0 none) (m.0, c) 0)) (sym slot)
        (λ s g wide me _. (
          sight key (log_of value) false,
          gives,
          tt,
          home_again id m.0 value s g wide me has goes holds,
          record { bare = refl; not = refl; key = sym here; seen = λ other is. ap log_of (the_some value other is) },
        ))
      where
        first_of : Option T → List (ℕ × Option T) → Option T
        first_of o [] = o
        first_of o (x ∷ xs) = x.1

        content : T → Option T → T
        content d None = d
        content d (Some x) = x

        the_some : (x y : T) → ◌≡◌ {A = List (ℕ × Option T)} ((0, Some x) ∷ []) ((0, Some y) ∷ []) → x ≡ y
        the_some x y e = ap (λ (l : List (ℕ × Option T)). content x (first_of None l)) e
