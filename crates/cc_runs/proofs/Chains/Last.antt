-- The last call of a pass in a history.
use Rattle.std.proofs.Common.{◌≡◌, ℕ, zero, suc, ◌<◌, ◌≤◌, Bool, true, false, cond, refl, ap, ◌∙◌, arith, Option, Some, None, List, [], ◌∷◌, ◌++◌, length}
use Rattle.std.specs.List.{AllByRecursion, filter}
use Rattle.cc_model.specs.Items.{answered}
use Rattle.cc_runs.specs.Names.{Entry, Answer}
use Rattle.cc_runs.proofs.Chains.Registers.{call_at, answer_at}

-- the calls of which f holds, each with its answer
abbrev pub chosen : (Entry → Bool) → List Entry → List Answer → List (Entry × Option Answer)
chosen f calls answers = filter (λ (z : Entry × Option Answer). f z.0) (answered calls answers)

pub chosen_none : (f : Entry → Bool) (calls : List Entry) (answers : List Answer) → ((j : ℕ) → j < length calls → f (call_at calls j) ≡ false) → chosen f calls answers ≡ []
chosen_none f [] answers none = refl
chosen_none f (e ∷ calls) [] none =
    ap (λ (b : Bool). cond b ((e, None) ∷ chosen f calls []) (chosen f calls [])) (none 0 (omega arith)) ∙ chosen_none f calls [] (λ j less. none (suc j) (omega arith))
chosen_none f (e ∷ calls) (a ∷ answers) none =
    ap (λ (b : Bool). cond b ((e, Some a) ∷ chosen f calls answers) (chosen f calls answers)) (none 0 (omega arith)) ∙ chosen_none f calls answers (λ j less. none (suc j) (omega arith))

keeps : (P : Entry × Option Answer → Type 0) (z : Entry × Option Answer) (rest : List (Entry × Option Answer)) (b : Bool) → (b ≡ true → P z) → AllByRecursion P rest → AllByRecursion P (cond b (z ∷ rest) rest)
keeps P z rest b has all = grind arith

-- what holds of each chosen call, answered or not, holds of them all
pub all_chosen : (P : Entry × Option Answer → Type 0) (f : Entry → Bool) (calls : List Entry) (answers : List Answer)
    → ((j : ℕ) → j < length calls → j < length answers → f (call_at calls j) ≡ true → P (call_at calls j, Some (answer_at answers j)))
    → ((j : ℕ) → j < length calls → length answers ≤ j → f (call_at calls j) ≡ true → P (call_at calls j, None)) → AllByRecursion P (chosen f calls answers)
all_chosen P f [] answers told still = tt
all_chosen P f (e ∷ calls) [] told still =
    keeps P (e, None) (chosen f calls []) (f e) (still 0 (omega arith) (omega arith))
    (all_chosen P f calls [] (λ j less inside. absurd (omega (arith, inside))) (λ j less out. still (suc j) (omega (arith, less)) (omega arith)))
all_chosen P f (e ∷ calls) (a ∷ answers) told still =
    keeps P (e, Some a) (chosen f calls answers) (f e) (told 0 (omega arith) (omega arith))
    (all_chosen P f calls answers (λ j less inside. told (suc j) (omega (arith, less)) (omega (arith, inside))) (λ j less out. still (suc j) (omega (arith, less)) (omega (arith, out))))

-- they end with this call, and this is its answer, if it has one
pub record Ends (calls : List (Entry × Option Answer)) (e : Entry) (told : Option Answer) : Type 0 where
  pub before : List (Entry × Option Answer)
  pub last : calls ≡ before ++ (e, told) ∷ []

-- so they do with one more before them, be it chosen or not
ends_more : (z : Entry × Option Answer) (calls : List (Entry × Option Answer)) (e : Entry) (told : Option Answer) (b : Bool) → Ends calls e told → Ends (cond b (z ∷ calls) calls) e told
ends_more z calls e told true ends = record { before = z ∷ ends.before; last = ap (λ (l : List (Entry × Option Answer)). z ∷ l) ends.last }
ends_more z calls e told false ends = ends

-- the k-th call is answered, and the last of them
pub chosen_last : (f : Entry → Bool) (calls : List Entry) (answers : List Answer) (k : ℕ) → k < length calls → k < length answers → f (call_at calls k) ≡ true →
    ((j : ℕ) → k < j → j < length calls → f (call_at calls j) ≡ false) → Ends (chosen f calls answers) (call_at calls k) (Some (answer_at answers k))
chosen_last f (e ∷ calls) (a ∷ answers) zero in_calls in_answers its none = record {
  before = [];
  last = ap (λ (b : Bool). cond b ((e, Some a) ∷ chosen f calls answers) (chosen f calls answers)) its
      ∙ ap (λ (l : List (Entry × Option Answer)). (e, Some a) ∷ l) (chosen_none f calls answers (λ j less. none (suc j) (omega arith) (omega arith)));
}
chosen_last f (e ∷ calls) (a ∷ answers) (suc k) in_calls in_answers its none =
    ends_more (e, Some a) (chosen f calls answers) (call_at calls k) (Some (answer_at answers k)) (f e)
    (chosen_last f calls answers k (omega arith) (omega arith) its (λ j less inside. none (suc j) (omega arith) (omega arith)))
chosen_last f _ _ k in_calls in_answers its none = absurd (omega arith)

-- the k-th call has no answer, and is the last of them
pub chosen_open : (f : Entry → Bool) (calls : List Entry) (answers : List Answer) (k : ℕ) → k < length calls → length answers ≤ k → f (call_at calls k) ≡ true →
    ((j : ℕ) → k < j → j < length calls → f (call_at calls j) ≡ false) → Ends (chosen f calls answers) (call_at calls k) None
chosen_open f (e ∷ calls) [] zero in_calls pending its none = record {
  before = [];
  last = ap (λ (b : Bool). cond b ((e, None) ∷ chosen f calls []) (chosen f calls [])) its
      ∙ ap (λ (l : List (Entry × Option Answer)). (e, None) ∷ l) (chosen_none f calls [] (λ j less. none (suc j) (omega arith) (omega arith)));
}
chosen_open f (e ∷ calls) [] (suc k) in_calls pending its none =
    ends_more (e, None) (chosen f calls []) (call_at calls k) None (f e) (chosen_open f calls [] k (omega arith) (omega arith) its (λ j less inside. none (suc j) (omega arith) (omega arith)))
chosen_open f (e ∷ calls) (a ∷ answers) (suc k) in_calls pending its none =
    ends_more (e, Some a) (chosen f calls answers) (call_at calls k) None (f e) (chosen_open f calls answers k (omega arith) (omega arith) its (λ j less inside. none (suc j) (omega arith) (omega arith)))
chosen_open f _ _ _ in_calls pending its none = absurd (omega arith)
