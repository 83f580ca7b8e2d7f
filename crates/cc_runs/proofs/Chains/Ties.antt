-- The ties of a chain to the history, and those of them that a step keeps.
use Rattle.std.proofs.lemmas.Bool.{cases_eq}
use Rattle.std.proofs.Common.{◌≡◌, ◌≢◌, ℕ, ◌+◌, ◌<◌, ◌≤◌, List, length, sym, subst, arith, ap, ◌∙◌, inl, inr, refl}
use Rattle.cc_runs.specs.Names.{Entry, Answer, Setting, Served, Chain, Stand, Sending, Phase}
use Rattle.cc_runs.specs.State.{State}
use Rattle.cc_runs.specs.Run.{IsFinished}
use Rattle.cc_runs.proofs.Combining.Chain.{Ghost}
use Rattle.cc_runs.proofs.Combining.Invariant.{Inv}
use Rattle.cc_runs.proofs.Chains.View.{view, members, pass_on, post_of, request_long, asked_words, answer_long, send_stage}
use Rattle.cc_runs.proofs.Chains.Registers.{HasSide, calls_on, answers_on, call_at, answer_at, IsCall, HasCall, IsAnswer, Sends, HasSend, HasService, coded_words, HasRead}

-- what a chain's history doesn't hold: how many calls are marked done, the pass that combines, the pass of each call, the node at
-- each place, and the place of each pass's last call
pub record Kept : Type 0 where
  pub marked : ℕ
  pub server : ℕ
  pub pass_of : ℕ → ℕ
  pub chain : ℕ → ℕ
  pub at : ℕ → ℕ

-- the ghosts of a chain with these calls and answers
abbrev pub ghosts : Setting → Chain → List Entry → List Answer → Kept → Ghost
ghosts c x calls answers k = record {
  calls = length calls;
  answers = length answers;
  marked = k.marked;
  server = k.server;
  pass_of = k.pass_of;
  asked = λ n. asked_words x (call_at calls n);
  told = λ n. coded_words c.served x (answer_at answers n);
  asks_long = λ n. request_long x (call_at calls n);
  told_long = λ n. answer_long (answer_at answers n);
  chain = k.chain;
  at = k.at;
}

pub record Ties (c : Setting) (x : Chain) (calls : List Entry) (answers : List Answer) (stand : ℕ → Stand) (g : Kept) : Type 0 where
  -- the calls and answers of the history are some of the chain
  pub pass_in : (k : ℕ) → k < length calls → g.pass_of k < members c x
  pub entered : (k : ℕ) → k < length calls → IsCall c x (g.pass_of k) (call_at calls k)
  pub answered : (k : ℕ) → k < length answers → IsAnswer c.served x (answer_at answers k)
  -- and the passes keep what they read and wrote
  pub begun : (q : ℕ) → q < members c x → HasCall c x q (stand q).phase
  pub served : (q : ℕ) → g.server ≡ q + 1 → HasService c.served x (call_at calls g.marked) (answer_at answers g.marked) (stand q).phase
  pub read : (q : ℕ) → q < members c x → HasRead c.served x (answer_at answers (g.at q)) (stand q).phase
  pub ended : (q : ℕ) → q < members c x → IsFinished (stand q).phase → (g.at q < g.marked) × (g.pass_of (g.at q) ≡ q)

-- the passes of a chain
abbrev pub stands_on : Setting → Chain → State → ℕ → Stand
stands_on c x s q = s.stand (pass_on c x q)

pub record Holds (c : Setting) (x : Chain) (s : State) : Type 0 where
  pub kept : Kept
  pub inv : Inv (members c x) c.config.bound (view c x s) (ghosts c x (calls_on x s.history) (answers_on x s.history) kept)
  pub ties : Ties c x (calls_on x s.history) (answers_on x s.history) (stands_on c x s) kept
  pub side_in : HasSide x s.history

-- its ghosts
abbrev pub ghost_of : {c : Setting} {x : Chain} {s : State} → Holds c x s → Ghost
ghost_of {c} {x} {s} w = ghosts c x (calls_on x s.history) (answers_on x s.history) w.kept

-- a state whose history has these calls and answers of the chain
pub holds_at : (c : Setting) (x : Chain) (s : State) (calls : List Entry) (answers : List Answer) (k : Kept) → calls_on x s.history ≡ calls → answers_on x s.history ≡ answers →
    Inv (members c x) c.config.bound (view c x s) (ghosts c x calls answers k) → Ties c x calls answers (stands_on c x s) k → HasSide x s.history → Holds c x s
holds_at c x s calls answers k a b inv ties there = record {
  kept = k;
  inv = subst (λ (g : Ghost). Inv (members c x) c.config.bound (view c x s) g) (λ i. ghosts c x (sym a i) (sym b i) k) inv;
  ties = subst (λ (l : List Entry). Ties c x l (answers_on x s.history) (stands_on c x s) k) (sym a) (subst (λ (l : List Answer). Ties c x calls l (stands_on c x s) k) (sym b) ties);
  side_in = there;
}

pub send_in : (service : Sending) → (1 ≤ send_stage service) × (send_stage service ≤ 2)
send_in service = grind arith

-- only a service asks which call it serves
pub service_call : (served : Served) (x : Chain) (own : ℕ) (e e' : Entry) (a : Answer) (at : Phase) → (1 ≤ (post_of x own at).stage → (post_of x own at).stage ≤ 2 → e ≡ e') → HasService served x e a at → HasService served x e' a at
service_call served x own e e' a (Phase.Sending job service) same h = let i = send_in service in subst (λ (z : Entry). Sends served x (HasSend z a service)) (same i.0 i.1) h
service_call served x own e e' a at same h = h

-- only a reader asks for its answer
pub reader_answer : (served : Served) (x : Chain) (own : ℕ) (a a' : Answer) (at : Phase) → ((post_of x own at).rank ≡ 6 → a ≡ a') → (IsFinished at → a ≡ a') → HasRead served x a at → HasRead served x a' at
reader_answer served x own a a' (Phase.ReadAnswerTag at) same ended h = subst (λ (z : Answer). HasRead served x z (Phase.ReadAnswerTag at)) (same refl) h
reader_answer served x own a a' (Phase.ReadAnswerBody p i) same ended h = subst (λ (z : Answer). HasRead served x z (Phase.ReadAnswerBody p i)) (same refl) h
reader_answer served x own a a' (Phase.Finished told) same ended h = subst (λ (z : Answer). HasRead served x z (Phase.Finished told)) (ended tt) h
reader_answer served x own a a' at same ended h = h

module _ (c : Setting) (x : Chain) (calls : List Entry) (answers : List Answer) (stand stand' : ℕ → Stand) (g : Kept) (p : ℕ) (ties : Ties c x calls answers stand g) where
  -- no pass has moved
  pub ties_same : ((q : ℕ) → q < members c x → stand' q ≡ stand q) → ((q : ℕ) → g.server ≡ q + 1 → q < members c x) → Ties c x calls answers stand' g
  ties_same same server_in = record {
    pass_in = ties.pass_in;
    entered = ties.entered;
    answered = ties.answered;
    begun = λ q qn. subst (λ (z : Stand). HasCall c x q z.phase) (sym (same q qn)) (ties.begun q qn);
    served = λ q a. subst (λ (z : Stand). HasService c.served x (call_at calls g.marked) (answer_at answers g.marked) z.phase) (sym (same q (server_in q a))) (ties.served q a);
    read = λ q qn. subst (λ (z : Stand). HasRead c.served x (answer_at answers (g.at q)) z.phase) (sym (same q qn)) (ties.read q qn);
    ended = λ q qn f. ties.ended q qn (subst (λ (z : Stand). IsFinished z.phase) (same q qn) f);
  }

  -- pass p is there now, and the history is as it was
  pub ties_moved : (there : Stand) (marked server : ℕ) → stand' p ≡ there → ((q : ℕ) → q ≢ p → stand' q ≡ stand q) → g.marked ≤ marked →
      HasCall c x p there.phase → HasRead c.served x (answer_at answers (g.at p)) there.phase → (IsFinished there.phase → (g.at p < marked) × (g.pass_of (g.at p) ≡ p)) →
      (server ≡ p + 1 → HasService c.served x (call_at calls marked) (answer_at answers marked) there.phase) →
      ((q : ℕ) → q ≢ p → server ≡ q + 1 → (g.server ≡ q + 1) × (g.marked ≡ marked)) →
      Ties c x calls answers stand' (record g { marked = marked; server = server })
  ties_moved there marked server here others more call read ended serves keep = record {
    pass_in = ties.pass_in;
    entered = ties.entered;
    answered = ties.answered;
    begun = λ q qn. elim (cases_eq q p) [
      | inl is ↦ subst (λ (z : Stand). HasCall c x q z.phase) (sym here ∙ ap stand' (sym is)) (subst (λ (z : ℕ). HasCall c x z there.phase) (sym is) call)
      | inr ne ↦ subst (λ (z : Stand). HasCall c x q z.phase) (sym (others q ne)) (ties.begun q qn)
    ];
    served = λ q a. elim (cases_eq q p) [
      | inl is ↦ subst (λ (z : Stand). HasService c.served x (call_at calls marked) (answer_at answers marked) z.phase) (sym here ∙ ap stand' (sym is)) (serves (a ∙ ap (λ (z : ℕ). z + 1) is))
      | inr ne ↦
          let k = keep q ne a in
          subst (λ (z : ℕ). HasService c.served x (call_at calls z) (answer_at answers z) (stand' q).phase) k.1 (subst (λ (z : Stand). HasService c.served x (call_at calls g.marked) (answer_at answers g.marked) z.phase) (sym (others q ne)) (ties.served q k.0))
    ];
    read = λ q qn. elim (cases_eq q p) [
      | inl is ↦ subst (λ (z : Stand). HasRead c.served x (answer_at answers (g.at q)) z.phase) (sym here ∙ ap stand' (sym is)) (subst (λ (z : ℕ). HasRead c.served x (answer_at answers (g.at z)) there.phase) (sym is) read)
      | inr ne ↦ subst (λ (z : Stand). HasRead c.served x (answer_at answers (g.at q)) z.phase) (sym (others q ne)) (ties.read q qn)
    ];
    ended = λ q qn f. elim (cases_eq q p) [
      | inl is ↦ subst (λ (z : ℕ). (g.at z < marked) × (g.pass_of (g.at z) ≡ z)) (sym is) (ended (subst (λ (z : Stand). IsFinished z.phase) (ap stand' is ∙ here) f))
      | inr ne ↦ let old = ties.ended q qn (subst (λ (z : Stand). IsFinished z.phase) (others q ne) f) in (omega (arith, old.0), old.1)
    ];
  }
