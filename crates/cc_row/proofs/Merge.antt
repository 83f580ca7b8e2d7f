-- The orders of the queues of a row, merged by moves.
use Rattle.std.proofs.Common.{◌≡◌, ◌==◌, ℕ, Bool, true, false, cond, List, [], ◌∷◌, ◌++◌, refl, sym, ap, subst, ◌∙◌, eq-eqb, arith}
use Rattle.std.proofs.lemmas.Bool.{ne_eqb}
use Rattle.cc_runs.specs.Run.{history_of}
use Rattle.cc_runs.specs.Linearizable.{Effect, replay, in_order, IsOnTime, IsTimely, IsLinearization}
use Rattle.cc_runs.proofs.Linear.Orders.{linearizable, timely_now}
use Rattle.cc_row.specs.Names.{Setting, Move}
use Rattle.cc_row.specs.Queues.{AtQueue, only}
use Rattle.cc_row.specs.Runs.{RowMove, moves_at, flat, IsRowTimely, IsRowRun}

-- ---- lists of what each move does

abbrev pub head : List (List Effect) → List Effect
head [] = []
head (now ∷ before) = now

abbrev pub tail : List (List Effect) → List (List Effect)
tail [] = []
tail (now ∷ before) = before

pub head_tail : (l : List (List Effect)) → head l ++ in_order (tail l) ≡ in_order l
head_tail l = grind arith

timely_tail : (c : Setting) (m : Move) (moves : List Move) (l : List (List Effect)) → IsTimely c (m ∷ moves) l → IsTimely c moves (tail l)
timely_tail c m moves l t = grind arith

no_moves : (c : Setting) (l : List (List Effect)) → IsTimely c [] l → in_order l ≡ []
no_moves c l t = grind arith

-- ---- the merge

abbrev pub put : ℕ → List Effect → List AtQueue
put q [] = []
put q (e ∷ l) = record { at = q; effect = e } ∷ put q l

abbrev pub cut : ℕ → (ℕ → List (List Effect)) → ℕ → List (List Effect)
cut q f k = cond (q == k) (tail (f k)) (f k)

abbrev pub merge : List RowMove → (ℕ → List (List Effect)) → List (List AtQueue)
merge [] f = []
merge (m ∷ earlier) f = put m.at (head (f m.at)) ∷ merge earlier (cut m.at f)

abbrev pub Each : (ℕ → Setting) → List RowMove → (ℕ → List (List Effect)) → Type 0
Each c moves f = (q : ℕ) → IsTimely (c q) (moves_at q moves) (f q)

pub moves_here : (m : RowMove) (earlier : List RowMove) (q : ℕ) → m.at ≡ q → moves_at q (m ∷ earlier) ≡ m.move ∷ moves_at q earlier
moves_here m earlier q is = ap (λ (b : Bool). cond b (m.move ∷ moves_at q earlier) (moves_at q earlier)) (eq-eqb m.at q is)

pub moves_else : (m : RowMove) (earlier : List RowMove) (q : ℕ) → (m.at ≡ q → ⊥) → moves_at q (m ∷ earlier) ≡ moves_at q earlier
moves_else m earlier q differ = ap (λ (b : Bool). cond b (m.move ∷ moves_at q earlier) (moves_at q earlier)) (ne_eqb m.at q differ)

pub cut_here : (f : ℕ → List (List Effect)) (p q : ℕ) → p ≡ q → cut p f q ≡ tail (f q)
cut_here f p q is = ap (λ (b : Bool). cond b (tail (f q)) (f q)) (eq-eqb p q is)

pub cut_else : (f : ℕ → List (List Effect)) (p q : ℕ) → (p ≡ q → ⊥) → cut p f q ≡ f q
cut_else f p q differ = ap (λ (b : Bool). cond b (tail (f q)) (f q)) (ne_eqb p q differ)

pub each_before : (c : ℕ → Setting) (m : RowMove) (earlier : List RowMove) (f : ℕ → List (List Effect)) → Each c (m ∷ earlier) f → Each c earlier (cut m.at f)
each_before c m earlier f each q = grind (arith, cut_here, timely_tail, moves_here, each q, cut_else, moves_else)

only_append : (q : ℕ) (a b : List AtQueue) → only q (a ++ b) ≡ only q a ++ only q b
only_append q [] b = refl
only_append q (e ∷ a) b = by (e.at == q) (only_append q a b)
  where
    by : (t : Bool) → only q (a ++ b) ≡ only q a ++ only q b → cond t (e.effect ∷ only q (a ++ b)) (only q (a ++ b)) ≡ cond t (e.effect ∷ only q a) (only q a) ++ only q b
    by true same = ap (λ (l : List Effect). e.effect ∷ l) same
    by false same = same

pub put_here : (p q : ℕ) (l : List Effect) → p ≡ q → only q (put p l) ≡ l
put_here p q [] is = refl
put_here p q (e ∷ l) is = ap (λ (b : Bool). cond b (e ∷ only q (put p l)) (only q (put p l))) (eq-eqb p q is) ∙ ap (λ (z : List Effect). e ∷ z) (put_here p q l is)

pub put_else : (p q : ℕ) (l : List Effect) → (p ≡ q → ⊥) → only q (put p l) ≡ []
put_else p q [] differ = refl
put_else p q (e ∷ l) differ = ap (λ (b : Bool). cond b (e ∷ only q (put p l)) (only q (put p l))) (ne_eqb p q differ) ∙ put_else p q l differ

pub only_put : (p q : ℕ) (l : List Effect) (rest : List AtQueue) → (p ≡ q → ⊥) → only q (put p l ++ rest) ≡ only q rest
only_put p q l rest differ = only_append q (put p l) rest ∙ ap (λ (z : List Effect). z ++ only q rest) (put_else p q l differ)

pub only_mine : (p : ℕ) (l : List Effect) (rest : List AtQueue) → only p (put p l ++ rest) ≡ l ++ only p rest
only_mine p l rest = only_append p (put p l) rest ∙ ap (λ (z : List Effect). z ++ only p rest) (put_here p p l refl)

pub only_merged : (c : ℕ → Setting) (moves : List RowMove) (f : ℕ → List (List Effect)) → Each c moves f → (q : ℕ) → only q (flat (merge moves f)) ≡ in_order (f q)
only_merged c [] f each q = sym (no_moves (c q) (f q) (each q))
only_merged c (m ∷ earlier) f each q =
    let rest : only q (flat (merge earlier (cut m.at f))) ≡ in_order (cut m.at f q) = only_merged c earlier (cut m.at f) (each_before c m earlier f each) q in
    grind (arith, only_mine, cut_here, head_tail, only_put, cut_else)

pub row_timely : (c : ℕ → Setting) (moves : List RowMove) (f : ℕ → List (List Effect)) → Each c moves f → IsRowTimely c moves (merge moves f)
row_timely c [] f each = tt
row_timely c (m ∷ earlier) f each = (
  row_timely c earlier (cut m.at f) (each_before c m earlier f each),
  λ q. subst (λ (l : List Effect). IsOnTime (history_of (c q) (moves_at q (m ∷ earlier))) (replay (c q).config.groups l)) (sym (only_merged c (m ∷ earlier) f each q)) (timely_now (c q) (moves_at q (m ∷ earlier)) (f q) (each q)),
)

-- the order of each queue
pub each_of : (c : ℕ → Setting) (names : ℕ → ℕ → ℕ) (last : ℕ) (moves : List RowMove) → IsRowRun c names last moves → (q : ℕ) → (l : List (List Effect)) × IsLinearization (c q) (moves_at q moves) l
each_of c names last moves run q = linearizable (c q) (moves_at q moves) (run.serves q) (run.checked q) (run.runs q)
