use Rattle.std.proofs.Common.{◌≡◌, ℕ, ◌+◌, ◌<◌, List, [], ◌∷◌, ◌++◌, length, map, take, get_or, sym, ap, ◌∙◌, append_assoc, arith}
use Rattle.std.specs.List.{remove}
use Rattle.std.proofs.Math.ListN.{set}
use Rattle.std.proofs.lemmas.List.{length-set, map-append, take_more_set}
use Rattle.cc_passes.proofs.open_handles.fill.Goals as goal

-- the first was taken off
first : {B : Type 0} (bs rest : List B) (b : B) → 0 < length bs → b ≡ get_or bs 0 b → rest ≡ remove bs 0 → bs ≡ b ∷ rest
first [] rest b some is less = absurd (omega (arith, some))
first {B} (x ∷ xs) rest b some is less = ap (λ (y : B). y ∷ xs) (sym is) ∙ ap (λ (ys : List B). b ∷ ys) (sym less)

-- and it was put into the next place
next : {H B Y : Type 0} (f : H → Y) (g : B → Y) (hs : List H) (i : ℕ) (h : H) (bs rest : List B) (b : B) (all : List Y) → i < length hs → bs ≡ b ∷ rest → f h ≡ g b
    → map f (take i hs) ++ map g bs ≡ all → map f (take (i + 1) (set hs i h)) ++ map g rest ≡ all
next {H} {B} {Y} f g hs i h bs rest b all less is same before =
    ap (λ (xs : List H). map f xs ++ map g rest) (take_more_set hs i h less) ∙ ap (λ (ys : List Y). ys ++ map g rest) (map-append f (take i hs) (h ∷ []))
    ∙ append_assoc (map f (take i hs)) (f h ∷ []) (map g rest) ∙ ap (λ (y : Y). map f (take i hs) ++ y ∷ map g rest) same
    ∙ ap (λ (xs : List B). map f (take i hs) ++ map g xs) (sym is) ∙ before

pub loop-at-preserved : goal.loop-at-preserved
loop-at-preserved c =
    let hs = c.loop-at.handles in let i = c.loop-at.at in let b = c.remove-held.result in let rest = c.remove-held.new.self.items in let before = c.loop-at.invariant in
    let test = c.loop-at-test.true in let same = c.loop-at.auto.handles in
    let here : i < length hs = omega (arith, test, same) in
    let is : c.loop-at.all.items ≡ b ∷ rest = first c.loop-at.all.items rest b (omega (arith, before.0, here)) c.remove-held.ensures.value c.remove-held.ensures.items in
    let count = ap length is in let kept = length-set hs i c.of.result in
    (omega (arith, before.0, count, kept), next _ _ hs i c.of.result c.loop-at.all.items rest b _ here is c.of.ensures before.1)
