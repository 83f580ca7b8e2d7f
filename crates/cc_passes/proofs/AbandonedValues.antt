-- The machine value of an `Abandoned`. Assumes `Logic`.
use Rattle.std.proofs.Common.{List, [], ◌∷◌, refl, Option}
use seplogic.Ra.Ura.{Ura}
use mir.Val.{Val, vstruct, vnil}
use types.Logic.{Logic}
use types.Kit.{Item, Goal, Step, step, ‵, ◌$◌, fjoin, fpack, feq_i}
use denote.RattleType.{RattleType, Valss}
use denote.Steps.{nothing}
use denote.Struct.Struct.{within}
use denote.Struct.Owning.{shape}
use Rattle.cc_passes.specs.Abandoned.{abandoned_owns}
use Rattle.cc_queue.specs.contracts.GivenUp as given_up
use Rattle.cc_passes.specs.contracts.abandoned.Abandoned as abandoned

abbrev pub R : RattleType
R = given_up.the_row

abbrev pub Abandoned : RattleType
Abandoned = abandoned.the_row

-- a struct of no bytes
abbrev pub no_bytes : Val
no_bytes = vstruct vnil

module _ {M : Type 1} {𝓤 : Ura M} {𝓛 : Logic 𝓤} {K : Type 0} {Γ : List (Item 𝓤)} {G : Goal 𝓤 𝓛.H} where
  pub abandoned_in : K → (m : Option R.Denot) → Step K 𝓛 (‵ (Abandoned.own_val (record { value = m }) (no_bytes ∷ [])) ∷ Γ) G (‵ (abandoned_owns R m) ∷ Γ) G
  abandoned_in t m = step (λ s.
      nothing t $ feq_i t (List Val) (no_bytes ∷ []) (no_bytes ∷ []) refl $ fjoin t $
      fpack t (Valss []) (within (shape abandoned.the_type) tt (no_bytes ∷ [])) tt $ fjoin t $ s)
