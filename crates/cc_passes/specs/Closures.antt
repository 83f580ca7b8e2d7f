-- Closures that run with the content of a handle.
use Rattle.std.specs.Prelude.{◌≡◌, ℕ, Option, Some, None}
use Rattle.std.specs.Fn.{Mut, CalledAtMut}
use denote.Ref.{MutBor}
use Rattle.cc_passes.specs.Passes.{Holding}
use Rattle.cc_passes.specs.declared.return_codes.TheConstants.{NO_PASS}

-- f may be called with the content of a handle, whatever it is
abbrev pub MayRun : {F : Type 0} → Mut F (MutBor Holding × Unit {0}) (ℕ × (MutBor Holding × Unit {0})) → F → Type 0
MayRun g f = (k : MutBor Holding) → g.pre f (k, tt)

-- f was called with the content of a handle and returned this code; or the handle is empty
abbrev pub RunsWith : {F : Type 0} → Mut F (MutBor Holding × Unit {0}) (ℕ × (MutBor Holding × Unit {0})) → F → Option Holding → Option Holding → ℕ → F → Type 0
RunsWith g f (Some k) (Some k') code f' = CalledAtMut g f k code f' k'
RunsWith g f (Some k) None code f' = ⊥
RunsWith g f None new code f' = (new ≡ None) × (code ≡ NO_PASS) × (f' ≡ f)
