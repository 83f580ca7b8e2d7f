-- A run with store buffers, tied to a run of atomic steps with posted stores. Of each buffer the older part is posted, and the thread
-- is behind by the newer part. When a thread looks, it first posts that part too.
use Rattle.std.proofs.Common.{◌≡◌, ℕ, Bool, true, false, cond, ◌==◌, refl, ap, sym, ◌∙◌, subst, List, [], ◌∷◌, ◌++◌, append_assoc, Option, Some}
use Rattle.std.proofs.lemmas.Bool.{eqb-true, eqb-false}
use Rattle.cc_x86.specs.Program.{Operation, Store, Program, State, Effect, Turn, hold, found}
use Rattle.cc_x86.specs.Sequential as sequential
use Rattle.cc_x86.specs.Sequential.{stepped_by, reached, effects, IsRun}
use Rattle.cc_x86.specs.Buffered.{Plain, Waiting, Machine, seen}
use Rattle.cc_x86.specs.Posted.{Waits, IsFor, Leads, Posts, has, Alone, AloneAt, IsApart, IsOrderly, doing, outsides}
use Rattle.cc_x86.proofs.Buffers.{at_hold, Behind}
use Rattle.cc_x86.proofs.Stores.{by_bool, has_snoc, seen_snoc, unseen, at_hold', held}

-- what holds of a run holds of its fronts
abbrev pub HoldsBefore : (List Turn → Type 0) → Type 0
HoldsBefore Holds = (t : Turn) (ts : List Turn) → Holds (t ∷ ts) → Holds ts

module _ {W S : Type 0} (c : Program W S) (plain : Plain S) (waits : Waits S) (s : State W S) where
  pub record Tied (m : Machine W S) (ts : List Turn) (U B : ℕ → List (Waiting W)) (es : List (Effect W)) (busy : Option ℕ) : Type 0 where
    pub run : IsRun c s ts
    pub outside : outsides (effects c s ts) ≡ outsides es
    pub leads : Leads c plain waits s ts m.words U busy
    pub split : (q : ℕ) → m.buffer q ≡ U q ++ B q
    pub behind : (q : ℕ) → Behind c plain q ((reached c s ts).own q) (B q) (m.own q)
    pub owner : (x : W) → (q : ℕ) × Alone c.same U q x × ((reached c s ts).words x ≡ seen c.same (U q) x (m.words x))

  -- the words at a name that no other thread has posted
  pub words_at : (m : Machine W S) (ts : List Turn) (U B : ℕ → List (Waiting W)) (es : List (Effect W)) (busy : Option ℕ) → Tied m ts U B es busy →
      (p : ℕ) (x : W) → Alone c.same U p x → (reached c s ts).words x ≡ seen c.same (U p) x (m.words x)
  words_at m ts U B es busy k p x alone =
      let o = k.owner x in
      by_bool ((reached c s ts).words x ≡ seen c.same (U p) x (m.words x)) (o.0 == p)
      (λ is. subst (λ (z : ℕ). (reached c s ts).words x ≡ seen c.same (U z) x (m.words x)) (eqb-true o.0 p is) o.2)
      (λ not. o.2 ∙ unseen c.same (U o.0) x (m.words x) (alone o.0 (eqb-false o.0 p not))
      ∙ sym (unseen c.same (U p) x (m.words x) (o.1 p (λ e. eqb-false o.0 p not (sym e)))))

  -- one atomic step more
  pub one_turn : (m : Machine W S) (ts : List Turn) (U B : ℕ → List (Waiting W)) (es : List (Effect W)) (busy : Option ℕ) (p told : ℕ) (does : Operation W) →
      IsRun c s ts → c.next p ((reached c s ts).own p) ≡ does → sequential.Acts does →
      outsides (record { thread = p; does = does; found = found (reached c s ts).words does told } ∷ effects c s ts) ≡ outsides es →
      Leads c plain waits s (record { thread = p; told = told } ∷ ts) m.words U busy →
      ((q : ℕ) → m.buffer q ≡ U q ++ B q) →
      ((q : ℕ) → Behind c plain q ((stepped_by c (reached c s ts) p told does).own q) (B q) (m.own q)) →
      ((x : W) → (q : ℕ) × Alone c.same U q x × ((stepped_by c (reached c s ts) p told does).words x ≡ seen c.same (U q) x (m.words x))) →
      Tied m (record { thread = p; told = told } ∷ ts) U B es busy
  one_turn m ts U B es busy p told does run is acts outside leads split behind owner = record {
    run = (run, subst (λ (o : Operation W). sequential.Acts o) (sym is) acts);
    outside = ap (λ (o : Operation W). outsides (record { thread = p; does = o; found = found (reached c s ts).words o told } ∷ effects c s ts)) is ∙ outside;
    leads = leads;
    split = split;
    behind = subst (λ (o : Operation W). (q : ℕ) → Behind c plain q ((stepped_by c (reached c s ts) p told o).own q) (B q) (m.own q)) (sym is) behind;
    owner = subst (λ (o : Operation W). (x : W) → (q : ℕ) × Alone c.same U q x × ((stepped_by c (reached c s ts) p told o).words x ≡ seen c.same (U q) x (m.words x))) (sym is) owner;
  }

  -- lists of stores by functions that are the same at each thread
  same_late : (m : Machine W S) (ts : List Turn) (U B C : ℕ → List (Waiting W)) (es : List (Effect W)) (busy : Option ℕ) → Tied m ts U B es busy → ((q : ℕ) → B q ≡ C q) → Tied m ts U C es busy
  same_late m ts U B C es busy k same = record {
    run = k.run;
    outside = k.outside;
    leads = k.leads;
    split = λ q. k.split q ∙ ap (λ (l : List (Waiting W)). U q ++ l) (same q);
    behind = λ q. subst (λ (l : List (Waiting W)). Behind c plain q ((reached c s ts).own q) l (m.own q)) (same q) (k.behind q);
    owner = k.owner;
  }

  module _ (Holds : List Turn → Type 0) (before : HoldsBefore Holds) where
    pub holds_before : (p : ℕ) (waiting : List (Waiting W)) (ts : List Turn) → Holds (doing p waiting ts) → Holds ts
    holds_before p [] ts holds = holds
    holds_before p (e ∷ newer) ts holds = before (record { thread = p; told = 0 }) ts (holds_before p newer (record { thread = p; told = 0 } ∷ ts) holds)

  module _ (Holds : List Turn → Type 0) (before : HoldsBefore Holds) (orderly : IsOrderly c plain waits s Holds) (m : Machine W S) (es : List (Effect W)) where
    -- what the discipline says of what a thread does next
    pub apart : (ts : List Turn) (U B : ℕ → List (Waiting W)) (busy : Option ℕ) → Tied m ts U B es busy → Holds ts → (p : ℕ) → IsFor busy p → (does : Operation W)
        → c.next p ((reached c s ts).own p) ≡ does → IsApart c.same waits p ((reached c s ts).own p) U m.words does
    apart ts U B busy k holds p its does is = subst (λ (o : Operation W). IsApart c.same waits p ((reached c s ts).own p) U m.words o) is (orderly ts m.words U busy k.leads holds p its)

    -- the oldest store that a thread is behind by is posted
    post : (ts : List Turn) (U B : ℕ → List (Waiting W)) (busy : Option ℕ) → Tied m ts U B es busy → Holds ts → (p : ℕ) → IsFor busy p → (e : Waiting W) (newer : List (Waiting W)) → B p ≡ e ∷ newer
        → Tied m (record { thread = p; told = 0 } ∷ ts) (hold U p (U p ++ e ∷ [])) (hold B p newer) es (Some p)
    post ts U B busy k holds p its e newer is =
        let b : (c.next p ((reached c s ts).own p) ≡ Store e.word e.value) × (plain p ((reached c s ts).own p) ≡ true) × Behind c plain p (c.after p ((reached c s ts).own p) 0) newer (m.own p) =
        subst (λ (l : List (Waiting W)). Behind c plain p ((reached c s ts).own p) l (m.own p)) is (k.behind p) in
        let alone : AloneAt c.same U p e.word = apart ts U B busy k holds p its (Store e.word e.value) b.0 in
        one_turn m ts (hold U p (U p ++ e ∷ [])) (hold B p newer) es (Some p) p 0 (Store e.word e.value) k.run b.0 tt k.outside
        (Posts p e.word e.value k.leads its k.owner b.0 b.1)
        (λ q. at_hold (λ (z : Bool). m.buffer q ≡ cond z (U p ++ e ∷ []) (U q) ++ cond z newer (B q)) p q
        (λ same. subst (λ (z : ℕ). m.buffer z ≡ (U p ++ e ∷ []) ++ newer) same (k.split p ∙ ap (λ (l : List (Waiting W)). U p ++ l) is ∙ sym (append_assoc (U p) (e ∷ []) newer)))
        (k.split q))
        (λ q. at_hold (λ (z : Bool). Behind c plain q (cond z (c.after p ((reached c s ts).own p) 0) ((reached c s ts).own q)) (cond z newer (B q)) (m.own q)) p q
        (λ same. subst (λ (z : ℕ). Behind c plain z (c.after p ((reached c s ts).own p) 0) newer (m.own z)) same b.2)
        (k.behind q))
        (λ x. by_bool
        ((q : ℕ) × Alone c.same (hold U p (U p ++ e ∷ [])) q x × (cond (c.same e.word x) e.value ((reached c s ts).words x) ≡ seen c.same (hold U p (U p ++ e ∷ []) q) x (m.words x)))
        (c.same e.word x)
        (λ here. (
          p,
          λ q not. at_hold' (λ (z : Bool). has c.same (cond z (U p ++ e ∷ []) (U q)) x ≡ false) p q (λ same. absurd (not (sym same))) (λ _. alone x here q not),
          ap (λ (z : Bool). cond z e.value ((reached c s ts).words x)) here
              ∙ sym (ap (λ (l : List (Waiting W)). seen c.same l x (m.words x)) (held U p (U p ++ e ∷ [])) ∙ seen_snoc c.same (U p) e x (m.words x) ∙ ap (λ (z : Bool). cond z e.value (seen c.same (U p) x (m.words x))) here),
        ))
        (λ there. (
          (k.owner x).0,
          λ q not. at_hold' (λ (z : Bool). has c.same (cond z (U p ++ e ∷ []) (U q)) x ≡ false) p q
              (λ same. has_snoc c.same (U p) e x ((k.owner x).1 p (λ f. not (sym same ∙ f))) there)
              (λ _. (k.owner x).1 q not),
          ap (λ (z : Bool). cond z e.value ((reached c s ts).words x)) there
              ∙ (k.owner x).2
              ∙ at_hold' (λ (z : Bool). seen c.same (U (k.owner x).0) x (m.words x) ≡ seen c.same (cond z (U p ++ e ∷ []) (U (k.owner x).0)) x (m.words x)) p (k.owner x).0
              (λ same. ap (λ (z : ℕ). seen c.same (U z) x (m.words x)) (sym same) ∙ sym (seen_snoc c.same (U p) e x (m.words x) ∙ ap (λ (z : Bool). cond z e.value (seen c.same (U p) x (m.words x))) there))
              (λ _. refl),
        )))

    -- all of them are
    pub record Committed (ts : List Turn) (B : ℕ → List (Waiting W)) (p : ℕ) : Type 0 where
      pub U : ℕ → List (Waiting W)
      pub busy : Option ℕ
      pub its : IsFor busy p
      pub tied : Tied m ts U (hold B p []) es busy

    twice : (B : ℕ → List (Waiting W)) (p : ℕ) (newer : List (Waiting W)) (q : ℕ) → hold (hold B p newer) p [] q ≡ hold B p [] q
    twice B p newer q = at_hold (λ (z : Bool). cond z [] (cond z newer (B q)) ≡ cond z [] (B q)) p q (λ _. refl) refl

    pub commit : (waiting : List (Waiting W)) (ts : List Turn) (U B : ℕ → List (Waiting W)) (busy : Option ℕ) → Tied m ts U B es busy → (p : ℕ) → IsFor busy p → B p ≡ waiting
        → Holds (doing p waiting ts) → Committed (doing p waiting ts) B p
    commit [] ts U B busy k p its is holds = record {
      U = U;
      busy = busy;
      its = its;
      tied = same_late m ts U B (hold B p []) es busy k
          (λ q. at_hold (λ (z : Bool). B q ≡ cond z [] (B q)) p q (λ same. ap B (sym same) ∙ is) refl);
    }
    commit (e ∷ newer) ts U B busy k p its is holds =
        let t : Turn = record { thread = p; told = 0 } in
        let first : Holds ts = before t ts (holds_before Holds before p newer (t ∷ ts) holds) in
        let rest : Committed (doing p newer (t ∷ ts)) (hold B p newer) p =
        commit newer (t ∷ ts) (hold U p (U p ++ e ∷ [])) (hold B p newer) (Some p) (post ts U B busy k first p its e newer is) p refl (held B p newer) holds in record {
          U = rest.U;
          busy = rest.busy;
          its = rest.its;
          tied = same_late m (doing p newer (t ∷ ts)) rest.U (hold (hold B p newer) p []) (hold B p []) es rest.busy rest.tied (twice B p newer);
        }
