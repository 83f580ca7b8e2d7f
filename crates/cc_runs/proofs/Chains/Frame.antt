-- The change that a store makes to a chain's words, and a step to the places of the passes.
use Rattle.std.proofs.Common.{◌≡◌, ◌≢◌, ℕ, Bool, false, ◌&&◌, ◌==◌, cond, refl, ap, sym, ◌∙◌, arith}
use Rattle.std.proofs.Math.Bool.{and-false}
use Rattle.std.proofs.lemmas.Bool.{eq-eqb, ne_eqb}
use Rattle.cc_runs.specs.Names.{Setting, Chain, NodeField, Word, Stand, Entry, Answer, Served, Job}
use Rattle.cc_runs.specs.Words.{put, same, same_chain, same_field}
use Rattle.cc_runs.specs.State.{hold}
use Rattle.cc_runs.proofs.Words.{same_self}
use Rattle.cc_runs.specs.Lines.{after_exchange, serves, after_answer}
use Rattle.cc_runs.proofs.Chains.View.{pass_on, cell_of, request_words, answer_words, asked_words, post_of, entering, serving, told_next}

pub put_here : (mem : Word → ℕ) (w : Word) (value : ℕ) → put mem w value w ≡ value
put_here mem w value = ap (λ (b : Bool). cond b value (mem w)) (same_self w)

-- another node
pub put_apart : (mem : Word → ℕ) (x : Chain) (k i : ℕ) (f g : NodeField) (value : ℕ) → i ≢ k → put mem (Word.Node x k f) value (Word.Node x i g) ≡ mem (Word.Node x i g)
put_apart mem x k i f g value ne =
    let off : same (Word.Node x k f) (Word.Node x i g) ≡ false = ap (λ (b : Bool). (same_field f g && same_chain x x) && b) (ne_eqb k i (λ e. ne (sym e))) ∙ and-false (same_field f g && same_chain x x) in
    ap (λ (b : Bool). cond b value (mem (Word.Node x i g))) off

-- another word of a body
pub word_apart : (mem : Word → ℕ) (x : Chain) (k i j value : ℕ) → j ≢ i → put mem (Word.Node x k (NodeField.Body i)) value (Word.Node x k (NodeField.Body j)) ≡ mem (Word.Node x k (NodeField.Body j))
word_apart mem x k i j value ne =
    let off : same (Word.Node x k (NodeField.Body i)) (Word.Node x k (NodeField.Body j)) ≡ false = ap (λ (b : Bool). (b && same_chain x x) && (k == k)) (ne_eqb i j (λ e. ne (sym e))) in
    ap (λ (b : Bool). cond b value (mem (Word.Node x k (NodeField.Body j)))) off

pub cell_apart : (mem : Word → ℕ) (x : Chain) (k i : ℕ) (f : NodeField) (value : ℕ) → i ≢ k →
    cell_of x (λ g. put mem (Word.Node x k f) value (Word.Node x i g)) ≡ cell_of x (λ g. mem (Word.Node x i g))
cell_apart mem x k i f value ne = λ j. cell_of x (λ g. put_apart mem x k i f g value ne j)

pub hold_here : (stands : ℕ → Stand) (p : ℕ) (there : Stand) → hold stands p there p ≡ there
hold_here stands p there = ap (λ (b : Bool). cond b there (stands p)) (eq-eqb p p refl)

pub hold_apart : (stands : ℕ → Stand) (p q : ℕ) (there : Stand) → q ≢ p → hold stands p there q ≡ stands q
hold_apart stands p q there ne = ap (λ (b : Bool). cond b there (stands q)) (ne_eqb p q (λ e. ne (sym e)))

pub pass_apart : (c : Setting) (x : Chain) (p q : ℕ) → q ≢ p → pass_on c x q ≢ pass_on c x p
pass_apart c x p q ne same = grind arith

-- request and answer words look at their own fields alone
pub request_same : (x : Chain) (v w : NodeField → ℕ) (j : ℕ) → v NodeField.Tag ≡ w NodeField.Tag → ((i : ℕ) → v (NodeField.Body i) ≡ w (NodeField.Body i)) → request_words x v j ≡ request_words x w j
request_same x v w j a b = grind arith

pub answer_same : (x : Chain) (v w : NodeField → ℕ) (j : ℕ) → v NodeField.Ret ≡ w NodeField.Ret → v NodeField.Tag ≡ w NodeField.Tag → ((i : ℕ) → v (NodeField.Body i) ≡ w (NodeField.Body i)) → answer_words x v j ≡ answer_words x w j
answer_same x v w j r a b = grind arith

-- the first word of an answer, and the others
pub answer_first : (x : Chain) (w : NodeField → ℕ) → answer_words x w 0 ≡ w NodeField.Ret
answer_first x w = grind arith

pub answer_later : (x : Chain) (v w : NodeField → ℕ) (j : ℕ) → j ≢ 0 → v NodeField.Tag ≡ w NodeField.Tag → ((i : ℕ) → v (NodeField.Body i) ≡ w (NodeField.Body i)) → answer_words x v j ≡ answer_words x w j
answer_later x v w j ne a b = grind arith

-- how a chain sees a call that has exchanged, and a combiner that begins a service
pub exchanged_post : (x : Chain) (own put : ℕ) (call : Entry) → post_of x own (after_exchange x put call) ≡ entering own put (asked_words x call) 0
exchanged_post x own put call = grind arith

pub serves_post : (served : Served) (x : Chain) (own : ℕ) (job : Job) → post_of x own (serves served x job) ≡ serving own job 1 0
serves_post served x own job = grind arith

pub after_answer_post : (x : Chain) (own : ℕ) (job : Job) (told : Answer) → post_of x own (after_answer job told) ≡ serving own job 2 (told_next told)
after_answer_post x own job told = grind arith
