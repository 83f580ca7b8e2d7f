-- The values that a function which is handed over computes.
use Rattle.std.specs.Prelude.{ℕ, ◌≡◌, Bool, List}
use Rattle.std.specs.Fn.{FnReturnsAt, Shared}
use Rattle.std.specs.Borrow.{Bor}
use Rattle.serde_json.specs.Data.{Data}
use Rattle.serde_json.specs.View.{view}
use Rattle.serde_json.specs.declared.value.Value.{Value}

-- the function answers as this one of the tree
abbrev pub Computes : {F R : Type 0} → Shared F (Bor Value × Unit {0}) R → F → (Data → R) → Type 0
Computes {F} {R} bound f of = (x : Value) (r : R) → FnReturnsAt bound f x r → r ≡ of (view x)

-- the same of a test of texts
abbrev pub TestsText : {F : Type 0} → Shared F (Bor (List ℕ) × Unit {0}) Bool → F → (List ℕ → Bool) → Type 0
TestsText {F} bound f test = (x : List ℕ) (b : Bool) → FnReturnsAt bound f x b → b ≡ test x
