-- The moves of one pass, and that others' moves leave it alone.
use Rattle.std.proofs.Common.{◌≡◌, ◌≢◌, ℕ, Bool, true, false, ◌==◌, List, [], ◌∷◌, ◌++◌, refl, ap, sym, ◌∙◌, ne_eqb, if◌then◌else◌, arith}
use Rattle.std.proofs.lemmas.Bool.{eqb-false}
use Rattle.cc_runs.specs.Names.{Setting, Move}
use Rattle.cc_runs.specs.State.{State, pass_at}
use Rattle.cc_runs.specs.Lines.{event_at}
use Rattle.cc_runs.specs.CallsMade.{made}
use Rattle.cc_runs.specs.Passes.{pass_of, by, then_did, kinds, OthersLeaveAPass}
use Rattle.cc_runs.specs.Run.{number_of, reached, moved, begins, rests}
use Rattle.cc_runs.proofs.Chains.Frame.{hold_apart}

pub by-append : (p : ℕ) (xs ys : List Move) → by p (xs ++ ys) ≡ by p xs ++ by p ys
by-append p [] ys = refl
by-append p (x ∷ xs) ys = go (pass_of x == p) (by-append p xs ys)
  where
    go : (b : Bool) → by p (xs ++ ys) ≡ by p xs ++ by p ys → (if b then x ∷ by p (xs ++ ys) else by p (xs ++ ys)) ≡ (if b then x ∷ by p xs else by p xs) ++ by p ys
    go true h = ap (λ (l : List Move). x ∷ l) h
    go false h = h

pub others_move : (p : ℕ) (m : Move) (ms : List Move) → by p (m ∷ ms) ≡ [] → ((pass_of m == p) ≡ false) × (by p ms ≡ [])
others_move p m ms h = go (pass_of m == p) h
  where
    go : (b : Bool) → (if b then m ∷ by p ms else by p ms) ≡ [] → (b ≡ false) × (by p ms ≡ [])
    go b h = grind arith

pub by-other : (p q : ℕ) (m : Move) (ms : List Move) → pass_of m ≡ p → p ≢ q → by q ms ≡ [] → by q (m ∷ ms) ≡ []
by-other p q m ms is ne none = ap (λ (b : Bool). if b then m ∷ by q ms else by q ms) (ne_eqb (pass_of m) q (λ e. ne (sym is ∙ e))) ∙ none

moved_other : (c : Setting) (s : State) (m : Move) (p : ℕ) → (pass_of m == p) ≡ false → (moved c s m).stand p ≡ s.stand p
moved_other c s (Move.Begin q call known) p off = hold_apart s.stand q p (begins c.config q call known (s.stand q)) (λ same. eqb-false q p off (sym same))
moved_other c s (Move.Step q) p off = hold_apart s.stand q p _ (λ same. eqb-false q p off (sym same))
moved_other c s (Move.Take q) p off = hold_apart s.stand q p (rests (s.stand q)) (λ same. eqb-false q p off (sym same))

pub moved_apart : (c : Setting) (s : State) (m : Move) (p : ℕ) → pass_of m ≢ p → (moved c s m).stand p ≡ s.stand p
moved_apart c s m p ne = moved_other c s m p (ne_eqb (pass_of m) p ne)

others_stand : (c : Setting) (more seen : List Move) (p : ℕ) → by p more ≡ [] → (reached c (more ++ seen)).stand p ≡ (reached c seen).stand p
others_stand c [] seen p none = refl
others_stand c (m ∷ more) seen p none =
    let t = others_move p m more none in
    moved_other c (reached c (more ++ seen)) m p t.0 ∙ others_stand c more seen p t.1

others_made : (c : Setting) (more seen : List Move) (p : ℕ) → by p more ≡ [] → made c (more ++ seen) p ≡ made c seen p
others_made c [] seen p none = refl
others_made c (Move.Begin q call known ∷ more) seen p none =
    let t = others_move p (Move.Begin q call known) more none in
    ap (λ (b : Bool). if b then made c (more ++ seen) p ++ record { pass = pass_at c.config q; call = call; number = number_of call ((reached c (more ++ seen)).stand q).begun; known = known } ∷ [] else made c (more ++ seen) p) t.0 ∙ others_made c more seen p t.1
others_made c (e ∷ more) seen p none = others_made c more seen p (others_move p e more none).1

others_did : (c : Setting) (more seen : List Move) (p : ℕ) → by p more ≡ [] → kinds c (more ++ seen) p ≡ kinds c seen p
others_did c [] seen p none = refl
others_did c (Move.Step q ∷ more) seen p none =
    let t = others_move p (Move.Step q) more none in
    ap (λ (b : Bool). if b then then_did (event_at ((reached c (more ++ seen)).stand p).phase) (kinds c (more ++ seen) p) else kinds c (more ++ seen) p) t.0 ∙ others_did c more seen p t.1
others_did c (e ∷ more) seen p none = others_did c more seen p (others_move p e more none).1

pub others_leave : OthersLeaveAPass
others_leave c more seen p none = (others_stand c more seen p none, others_made c more seen p none, others_did c more seen p none)
