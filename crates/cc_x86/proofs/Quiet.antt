-- Fenced stores are posted for their own thread alone: the finer discipline allows all that the coarser one allows.
use Rattle.std.proofs.Common.{◌≡◌, ℕ, Bool, true, cond, refl, ap, sym, ◌∙◌, subst, List, [], ◌∷◌, ◌++◌, Option, Some, None, ◌⊎◌, inl, inr, ⊎_elim, arith}
use Rattle.std.proofs.lemmas.Option.{none-some}
use Rattle.cc_x86.specs.Program.{Operation, Store, Program, State, Turn, found}
use Rattle.cc_x86.specs.Sequential.{reached}
use Rattle.cc_x86.specs.Buffered.{Plain, Waiting}
use Rattle.cc_x86.specs.Posted.{Waits, IsLook, IsFor, Leads, Opens, Posts, Looks, Writes, Settles, has, Alone, IsApart, FencedStoresAreOrderly}
use Rattle.cc_x86.specs.Fenced.{LooksAtNothing, IsFencedAt, IsFenced}
use Rattle.cc_x86.proofs.Stores.{at_hold', held}

module _ {W S : Type 0} (c : Program W S) (plain : Plain S) (waits : Waits S) (s : State W S) (fenced : IsFenced c plain) where
  record Quiet (ts : List Turn) (posted : ℕ → List (Waiting W)) (busy : Option ℕ) : Type 0 where
    pub none : (q : ℕ) → (posted q ≡ []) ⊎ (busy ≡ Some q)
    pub blind : (q : ℕ) → busy ≡ Some q → LooksAtNothing (c.next q ((reached c s ts).own q))

  its_own : (busy : Option ℕ) (p q : ℕ) → IsFor busy p → busy ≡ Some q → q ≡ p
  its_own None p q its e = absurd (cc)
  its_own (Some r) p q its e = let same_thread : r ≡ q = cc in sym same_thread ∙ its

  no_look : (p : ℕ) (own : S) (words : W → ℕ) (posted : List (Waiting W)) (settled : W → ℕ) (does : Operation W) → IsLook c.same waits p own words posted settled does → LooksAtNothing does → ⊥
  no_look p own words posted settled does look blind = grind arith

  then_blind : (p : ℕ) (own : S) (w : W) (v : ℕ) → c.next p own ≡ Store w v → plain p own ≡ true → (words : W → ℕ) → LooksAtNothing (c.next p (c.after p own (found words (c.next p own) 0)))
  then_blind p own w v is its_plain words =
      subst (λ (d : Operation W). LooksAtNothing (c.next p (c.after p own (found words d 0)))) (sym is)
      (subst (λ (d : Operation W). IsFencedAt c p own d true) is (subst (λ (b : Bool). IsFencedAt c p own (c.next p own) b) its_plain (fenced p own)))

  quiet : {ts : List Turn} {settled : W → ℕ} {posted : ℕ → List (Waiting W)} {busy : Option ℕ} → Leads c plain waits s ts settled posted busy → Quiet ts posted busy
  quiet Opens = record { none = λ q. inl refl; blind = λ q e. absurd (cc) }
  quiet (Posts {ts} {settled} {posted} {busy} p w v l its agrees is its_plain) =
      let k : Quiet ts posted busy = quiet l in record {
        none = λ q. at_hold' (λ (b : Bool). (cond b (posted p ++ record { word = w; value = v } ∷ []) (posted q) ≡ []) ⊎ (Some p ≡ Some q)) p q
            (λ same. inr (ap (λ (z : ℕ). Some z) same))
            (λ other. ⊎_elim (λ (e : posted q ≡ []). inl e) (λ (e : busy ≡ Some q). absurd (other (its_own busy p q its e))) (k.none q));
        blind = λ q e. let same : p ≡ q = cc in subst (λ (z : ℕ). LooksAtNothing (c.next z ((reached c s (record { thread = p; told = 0 } ∷ ts)).own z))) same
            (subst (λ (own : S). LooksAtNothing (c.next p own)) (sym (held (reached c s ts).own p (c.after p ((reached c s ts).own p) (found (reached c s ts).words (c.next p ((reached c s ts).own p)) 0))))
            (then_blind p ((reached c s ts).own p) w v is its_plain (reached c s ts).words));
      }
  quiet (Looks {ts} {settled} {posted} {busy} p told does l its is look) =
      let k : Quiet ts posted busy = quiet l in record {
        none = λ q. ⊎_elim (λ (e : posted q ≡ []). inl e)
            (λ (e : busy ≡ Some q). absurd (no_look p ((reached c s ts).own p) (reached c s ts).words (posted p) settled does look
            (subst (λ (o : Operation W). LooksAtNothing o) is (subst (λ (z : ℕ). LooksAtNothing (c.next z ((reached c s ts).own z))) (its_own busy p q its e) (k.blind q e)))))
            (k.none q);
        blind = λ q e. absurd (cc);
      }
  quiet (Writes {ts} {settled} {posted} p told does l is write none) = record { none = (quiet l).none; blind = λ q e. absurd (cc) }
  quiet (Settles {ts} {settled} {posted} p e newer l is) = absurd (⊎_elim (λ (empty : posted p ≡ []). some e newer (sym is ∙ empty)) (λ (its : None ≡ Some p). none-some p its) ((quiet l).none p))
    where
      some : (e : Waiting W) (newer : List (Waiting W)) → e ∷ newer ≡ [] → ⊥
      some e newer same = cc

  alone_then : {ts : List Turn} {settled : W → ℕ} {posted : ℕ → List (Waiting W)} {busy : Option ℕ} → Leads c plain waits s ts settled posted busy → (p : ℕ) → IsFor busy p → (w : W) → Alone c.same posted p w
  alone_then {posted = posted} {busy = busy} l p its w q other =
      ⊎_elim (λ (e : posted q ≡ []). ap (λ (d : List (Waiting W)). has c.same d w) e) (λ (e : busy ≡ Some q). absurd (other (its_own busy p q its e))) ((quiet l).none q)

  apart_then : (p : ℕ) (own : S) (posted : ℕ → List (Waiting W)) (settled : W → ℕ) (does : Operation W) → ((w : W) → Alone c.same posted p w) → IsApart c.same waits p own posted settled does
  apart_then p own posted settled does alone = grind arith

pub fenced_stores_are_orderly : (W S : Type 0) → FencedStoresAreOrderly W S
fenced_stores_are_orderly W S c plain waits s fenced ts settled posted busy l holds p its =
    apart_then c plain waits s fenced p ((reached c s ts).own p) posted settled (c.next p ((reached c s ts).own p)) (λ w. alone_then c plain waits s fenced l p its w)
