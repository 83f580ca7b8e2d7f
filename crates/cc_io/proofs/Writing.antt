-- One piece of text after another.
use Rattle.std.proofs.Common.{◌≡◌, ℕ, ◌+◌, List, [], ◌++◌, Bool, true, false, Option, Some, None, refl, sym, ap, ◌∙◌, subst, append_assoc, append-nil}
use Rattle.std.specs.Io.KnownBytes.{Keeps, Appends}
use Rattle.std.proofs.KnownBytes.{Appends-nil, Appends-trans, Keeps-trans, Keeps-refl}
use Rattle.cc_model.specs.Items.{IsPrefix}
use Rattle.cc_io.specs.Written.{Writes, GoesOn, Desk, desk, Pens}

Appends-kept : (a b c : Option (List ℕ)) (s : List ℕ) → Appends a b s → Keeps b c → Appends a c s
Appends-kept None b c s p q = tt
Appends-kept (Some x) None c s p q = absurd p
Appends-kept (Some x) (Some y) None s p q = absurd q
Appends-kept (Some x) (Some y) (Some z) s p q = q ∙ p

prefix_more : (front s t : List ℕ) → IsPrefix front s → IsPrefix front (s ++ t)
prefix_more front s t h = (h.0 ++ t, ap (λ (l : List ℕ). l ++ t) h.1 ∙ append_assoc front h.0 t)

front_of_second : (front s t : List ℕ) → IsPrefix front t → IsPrefix (s ++ front) (s ++ t)
front_of_second front s t h = (h.0, ap (λ (l : List ℕ). s ++ l) h.1 ∙ sym (append_assoc s front h.0))

-- the held bytes and two texts, if the first one went after the held bytes
both : (had s t out held : List ℕ) → had ++ s ≡ out ++ held → had ++ (s ++ t) ≡ out ++ (held ++ t)
both had s t out held e = sym (append_assoc had s t) ∙ ap (λ (l : List ℕ). l ++ t) e ∙ append_assoc out held t

goes_then : (f g h : Bool) (k l m : List ℕ) (a b c : Option (List ℕ)) (x y z : ℕ) (s t : List ℕ) → GoesOn f g k l a b x y s → GoesOn g h l m b c y z t → GoesOn f h k m a c x z (s ++ t)
goes_then true true h k l m a b c x y z s t p q = (q.0, Keeps-trans a b c p.1 q.1, q.2 ∙ p.2)
goes_then true false h k l m a b c x y z s t p q = cc (p.0)
goes_then false true true k l m a b c x y z s t p q =
    let more : IsPrefix p.0 ((k ++ s) ++ t) = prefix_more p.0 (k ++ s) t p.1 in
    (p.0, (more.0, sym (append_assoc k s t) ∙ more.1), Appends-kept a b c p.0 p.2 q.1, q.2 ∙ p.3)
goes_then false true false k l m a b c x y z s t p q = cc (q.0)
goes_then false false true k l m a b c x y z s t p q =
    let front : IsPrefix (p.0 ++ q.0) (p.0 ++ (l ++ t)) = front_of_second q.0 p.0 (l ++ t) q.1 in
    (p.0 ++ q.0, (front.0, both k s t p.0 l p.1 ∙ front.1), Appends-trans a b c p.0 q.0 p.2 q.2, q.3 ∙ ap (λ (n : ℕ). n + 1) p.3)
goes_then false false false k l m a b c x y z s t p q =
    (p.0 ++ q.0, both k s t p.0 l p.1 ∙ ap (λ (r : List ℕ). p.0 ++ r) q.1 ∙ sym (append_assoc p.0 q.0 m), Appends-trans a b c p.0 q.0 p.2 q.2, q.3 ∙ p.3)

-- one text and then another
pub then : {a b c : Desk} {s t : List ℕ} → Pens a b s → Pens b c t → Pens a c (s ++ t)
then {a} {b} {c} {s} {t} p q = record {
  goes = goes_then a.ink.failed b.ink.failed c.ink.failed a.ink.held b.ink.held c.ink.held a.written b.written c.written a.failures b.failures c.failures s t p.goes q.goes;
}

-- no text
pub still : (p : Desk) → Pens p p []
still p = record { goes = goes_still p.ink.failed p.ink.held p.written p.failures }
  where
    goes_still : (f : Bool) (k : List ℕ) (a : Option (List ℕ)) (n : ℕ) → GoesOn f f k k a a n n []
    goes_still true k a n = (refl, Keeps-refl a, refl)
    goes_still false k a n = ([], append-nil k, Appends-nil a, refl)

-- a text that went out whole, or as a prefix, once nothing is held any more
pub all_out : (g f : Bool) (k : List ℕ) (a b c : Option (List ℕ)) (x y z : ℕ) (t : List ℕ) → Pens (desk (record { held = []; failed = false }) a x) (desk (record { held = k; failed = g }) b y) t
    → GoesOn g f k [] b c y z [] → Writes f a c x z t
all_out g f k a b c x y z t p q = ends f (goes_then false g f [] k [] a b c x y z t [] p.goes q)
  where
    ends : (f : Bool) → GoesOn false f [] [] a c x z (t ++ []) → Writes f a c x z t
    ends true h = (h.0, (h.1.0, sym (append-nil t) ∙ h.1.1), h.2, h.3)
    ends false h = let same : h.0 ≡ t = sym (append-nil h.0) ∙ sym h.1 ∙ append-nil t in (subst (Appends a c) same h.2, h.3)

-- a first text of which all went out, and then another
pub both_out : (f : Bool) (a b c : Option (List ℕ)) (x y z : ℕ) (s t : List ℕ) → Writes false a b x y s → Writes f b c y z t → Writes f a c x z (s ++ t)
both_out false a b c x y z s t p q = (Appends-trans a b c s t p.0 q.0, q.1 ∙ p.1)
both_out true a b c x y z s t p q = (s ++ q.0, front_of_second q.0 s t q.1, Appends-trans a b c s q.0 p.0 q.2, q.3 ∙ ap (λ (n : ℕ). n + 1) p.1)

-- a first text that failed: what follows is not begun
pub first_failed : (a b : Option (List ℕ)) (x y : ℕ) (s t : List ℕ) → Writes true a b x y s → Writes true a b x y (s ++ t)
first_failed a b x y s t p = (p.0, prefix_more p.0 s t p.1, p.2, p.3)
