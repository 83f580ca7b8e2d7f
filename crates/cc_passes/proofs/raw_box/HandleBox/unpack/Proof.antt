-- `unpack`.
use Rattle.std.proofs.Common.{◌≡◌, List, [], ◌∷◌, ◌++◌, refl, sym, subst, Option, Some, None}
use mir.Val.{Val, vptr}
use base.Logic.{SProp, ent, emp, id⊢}
use prog.Wp.{WpFn}
use types.Kit.{‵, raw, ◌⊛◌, ◌$◌, ◌∵◌, !, qed, by, move, keep, split, fsplit, fjoin, suffices, use0}
use types.Run.{stop, fld, of_opd, no_more, and_then, returns, enter}
use types.ByLocal.{alloc_all, pass_all, free_all, look_at, get, get_in, sets}
use types.Part.{agg, sub, whole}
use contract.Monad.{fact, fact_i}
use contract.Running.{tables}
use denote.Exit.{yes}
use denote.RattleType.{RattleType, owns}
use denote.Signature.{types_at, plain}
use denote.RawPtr.{block_ptr}
use denote.Steps.{nothing, heard}
use denote.Triple.Entry.{alive}
use denote.Triple.Walked.{Stays, stay_dropped, walk_of, Goes-dropped}
use Rattle.std.proofs.raw_atomic.Walks.{proved_at, leaves}
use Rattle.std.specs.contracts.impls.GlobalAllocator.TheImpl.{ghosts}
use Rattle.cc_passes.proofs.Values.{both, RawBox, raw_box_good, raw_box_in}
use Rattle.cc_passes.proofs.HandleBoxValues.{R, Z, LZ, HandleBox, boxed_out}
use Rattle.cc_passes.specs.contracts.raw_box.HandleBox.unpack.{ended, clauses}
use Rattle.cc_passes.specs.contracts.raw_box.HandleBox.unpack.Key.{name as #self}
use Rattle.cc_passes.proofs.raw_box.HandleBox.unpack.Statement.{statement}
use Rattle.cc_passes.proofs.raw_box.HandleBox.unpack.Code as code
use Rattle.std.specs.Prelude.{IsTrue, is_some}
use mathlib.Core.Bool.{Bool, true, false}

abbrev Whole : RattleType
Whole = RawBox R Z LZ ghosts

abbrev Apart : Bool → Type 0
Apart true = ⊥
Apart false = Unit {0}

some_of : (m : Option R.Denot) → IsTrue (is_some m) → (x : R.Denot) × (m ≡ Some x)
some_of None e = absurd (subst Apart e tt)
some_of (Some x) e = (x, refl)

pub unpack_spec : {M : Type 1} → statement M
unpack_spec 𝓤 𝓛 𝓜 𝓡 wired =
    let H = 𝓛.H in let 𝓣 = tables 𝓤 H 𝓜 𝓡 𝓡.env in let En = ended in let c = clauses 𝓛 𝓜.mem 𝓡.returns in let fn = code.function in
    let hs : Stays En.signature.params En.kept = (stay_dropped (plain (λ _. HandleBox)) yes, tt) in
    proved_at 𝓛 En hs c 𝓜 𝓡 (Goes-dropped 𝓛 0 (plain (λ _. HandleBox)) yes (λ κs x f. refl), tt) #self fn (code.unfolded 𝓤 H 𝓜 𝓡 wired) (λ z are.
    let κs = z.0.0 in let qs = z.0.1 in let v = z.0.3.0 in let Post : Val → SProp 𝓤 = (walk_of 𝓛 En hs c).post z in let Run : List Val → SProp 𝓤 = λ ws. WpFn 𝓤 H 𝓣.C 𝓣.Λ fn ws Post in
    qed 𝓛 ((raw (alive 𝓛 En.signature κs qs) ⊛ ‵ (owns (types_at En.signature.params κs) z.0.3 z.0.4)) ∷ raw (fact 𝓤 (IsTrue (is_some v.value))) ∷ []) ∵ move ! (1 ∷ []) $ heard ! (IsTrue (is_some v.value)) (λ is_live.
    let x = (some_of v.value is_live).0 in let is : v.value ≡ Some x = (some_of v.value is_live).1 in split ! $ move ! (1 ∷ []) $ fsplit ! $
    boxed_out ! v x is z.0.4.0 (λ b o h e ws fits.
    let w : Val = both (vptr b o) h in let typed = raw_box_good R Z LZ ghosts b o h fits in
    suffices ! (Run (w ∷ [])) (subst (λ (us : List Val). ent 𝓤 (Run (w ∷ [])) (Run us)) (sym (λ i. ws i ++ [])) (id⊢ 𝓤 (Run (w ∷ [])))) $
    enter ! 𝓣.C 𝓣.Λ fn (w ∷ []) Post $ alloc_all ! (λ l. pass_all ! refl (typed, tt) $
    sets ! (of_opd ! (get_in ! (fld ! refl (stop !)) (sub ! 0 refl (whole !)))) refl (tt, tt) $ sets ! (of_opd ! (get_in ! (fld ! refl (stop !)) (sub ! 1 refl (whole !)))) refl fits $
    sets ! (of_opd ! (get ! refl)) refl (tt, tt) $ sets ! (agg ! (and_then ! (get ! refl) (and_then ! (get ! refl) (no_more !)))) refl typed $
    raw_box_in R Z LZ ghosts ! b o h v.alloc x $
    use0 𝓛 (raw (fact 𝓤 (Some x ≡ v.value))) (fact_i 𝓤 (Some x ≡ v.value) (emp 𝓤) (sym is)) $ nothing ! $ nothing ! $ fjoin ! $
    returns ! (look_at ! 0 refl) $ free_all ! refl $ keep ! (4 ∷ 0 ∷ 2 ∷ 1 ∷ []) $
    by ! (leaves 𝓛 En hs c z w (record { at = block_ptr b o; alloc = v.alloc; value = x }) (tt, tt) (tt, tt))))))
