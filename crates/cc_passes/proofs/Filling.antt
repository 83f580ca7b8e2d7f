-- Rows of handles that are filled one after another.
use Rattle.std.proofs.Common.{◌≡◌, ℕ, ◌+◌, ◌<◌, List, [], ◌∷◌, ◌++◌, length, map, slice_index_or, Option, Some, None, sym, ap, ◌∙◌, subst, arith}
use Rattle.cc_steps.specs.Topic.{Topic}
use Rattle.cc_steps.specs.Walk.{Walk, IsOf, fresh, fresh_from}
use Rattle.cc_queue.proofs.Seated.{first_seat}
use Rattle.cc_passes.specs.Names.{AnyPass}
use Rattle.cc_passes.specs.Passes.{Holding, holding}
use Rattle.cc_passes.specs.Handles.{in_box}
use Rattle.cc_passes.specs.OpenHandles.{HoldFresh}

-- it is of the queue
pub is_of : (z : Topic) (p : ℕ) (ws : List Walk) (w : Walk) → 0 < length ws → fresh_from z p ws → w ≡ slice_index_or ws 0 w → IsOf z w
is_of z p ws w some f is = let e = first_seat z p ws w some f is in (ap (λ (x : Walk). x.table_id) e, ap (λ (x : Walk). x.setting) e)

module _ {X : Type 0} (held : X → Holding) (side : Walk → AnyPass) (words : ℕ) (z : Topic) where
  -- one more holder, of the next fresh pass
  hold_push : (p n : ℕ) (xs : List X) (x : X) → held x ≡ holding words (side (fresh z n)) → n ≡ p + length xs → HoldFresh xs held side words z p → HoldFresh (xs ++ x ∷ []) held side words z p
  hold_push p n [] x is at h = (is ∙ ap (λ (k : ℕ). holding words (side (fresh z k))) (omega (arith, at)), tt)
  hold_push p n (y ∷ xs) x is at h = (h.0, hold_push (p + 1) n xs x is (omega (arith, at)) h.1)

  pub next_held : (first p : ℕ) (ws : List Walk) (done done' : List X) (w : Walk) (x : X) → 0 < length ws → fresh_from z p ws → w ≡ slice_index_or ws 0 w → held x ≡ holding words (side w) → p ≡ first + length done → HoldFresh done held side words z first → done' ≡ done ++ x ∷ [] → HoldFresh done' held side words z first
  next_held first p ws done done' w x some f is holds at before is' =
      subst (λ (ys : List X). HoldFresh ys held side words z first) (sym is') (hold_push first p done x (holds ∙ ap (λ (v : Walk). holding words (side v)) (first_seat z p ws w some f is)) at before)

abbrev head_of : {Y : Type 0} → Y → List Y → Y
head_of d [] = d
head_of d (y ∷ ys) = y

abbrev rest_of : {Y : Type 0} → List Y → List Y
rest_of [] = []
rest_of (y ∷ ys) = ys

-- handles that were filled with these hold what these hold
pub filled : {H B : Type 0} (handle : H → Option Holding) (box : B → Holding) (side : Walk → AnyPass) (words : ℕ) (z : Topic) (p : ℕ) (hs : List H) (bs : List B)
    → map handle hs ≡ map (λ b. Some (box b)) bs → HoldFresh bs box side words z p → HoldFresh hs (λ h. in_box (handle h)) side words z p
filled handle box side words z p [] bs e f = tt
filled handle box side words z p (h ∷ hs) [] e f = absurd (omega (arith, ap length e))
filled handle box side words z p (h ∷ hs) (b ∷ bs) e f =
    (ap (λ ys. in_box (head_of None ys)) e ∙ f.0, filled handle box side words z (p + 1) hs bs (ap rest_of e) f.1)
