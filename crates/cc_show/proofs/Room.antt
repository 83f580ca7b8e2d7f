-- While no write of a pen has failed, as many writes have failed as before.
use Rattle.std.proofs.Common.{◌≡◌, ◌<◌, ℕ, Bool, true, false, List, Option, refl, sym, subst, ◌∙◌}
use Rattle.cc_io.specs.Written.{Desk, Pens, GoesOn}

room_after : (f g : Bool) (k l : List ℕ) (a b : Option (List ℕ)) (x y n : ℕ) (t : List ℕ) → GoesOn f g k l a b x y t → (f ≡ false → x < n) → g ≡ false → y < n
room_after true g k l a b x y n t p room on = cc (sym p.0 ∙ on)
room_after false true k l a b x y n t p room on = cc on
room_after false false k l a b x y n t p room on = subst (λ (m : ℕ). m < n) (sym p.3) (room refl)

pub room : {a b : Desk} {t : List ℕ} {n : ℕ} → Pens a b t → (a.ink.failed ≡ false → a.failures < n) → b.ink.failed ≡ false → b.failures < n
room {a} {b} {t} {n} p before = room_after a.ink.failed b.ink.failed a.ink.held b.ink.held a.written b.written a.failures b.failures n t p.goes before
