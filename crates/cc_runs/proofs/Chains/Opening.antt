-- A chain at the opening.
use Rattle.std.proofs.Common.{◌≡◌, ℕ, suc, ◌+◌, ◌*◌, ◌%◌, ◌-◌, ◌<◌, replicate, get_or, Bool, cond, refl, ap, sym, ◌∙◌, subst, arith, []}
use Rattle.std.proofs.lemmas.Bool.{lt-ltb, le-ltb}
use Rattle.std.proofs.lemmas.Nat.{mod-mul-add, mul-add-lt}
use Rattle.std.proofs.Math.Nat.{mul_comm}
use Rattle.std.proofs.lemmas.List.{length-replicate}
use Rattle.cc_model.specs.Record.{Side, silent, empty}
use Rattle.cc_runs.specs.Names.{Config, Setting, Served, Chain, Word, Stand, Phase}
use Rattle.cc_runs.specs.Words.{groups}
use Rattle.cc_runs.specs.State.{side, first_node}
use Rattle.cc_runs.specs.Run.{first_word, opening, passes, passes_of, nowhere, IsFinished}
use Rattle.cc_runs.proofs.Combining.Invariant.{Inv}
use Rattle.cc_runs.proofs.Chains.View.{view, members, pass_on, post_at, out}
use Rattle.cc_runs.proofs.Chains.Registers.{IsChainOf, IsChain, HasSide, answer_at, HasCall, HasRead}
use Rattle.cc_runs.proofs.Chains.Ties.{Kept, Ties, ghosts, holds_at, Holds, stands_on}
use Rattle.cc_runs.proofs.Chains.Others.{group_in}

-- the place of a pass of the chain
abbrev placed : Setting → ℕ → ℕ → Stand
placed c p node = record { begun = 0; node = node; phase = Phase.Idle }

stood : (c : Setting) (p : ℕ) → p < passes c → (opening c).stand p ≡ placed c p (first_node c.config p)
stood c p less = ap (λ (b : Bool). cond b (placed c p (first_node c.config p)) nowhere) (lt-ltb p (passes c) less)

pub sender_node : (config : Config) (p : ℕ) → p < config.senders → first_node config p ≡ p + 1
sender_node config p less = ap (λ (b : Bool). cond b (p + 1) ((p - config.senders) % config.receivers + 1)) (lt-ltb p config.senders less)

pub receiver_node : (config : Config) (g p : ℕ) → p < config.receivers → first_node config (config.senders + (g * config.receivers + p)) ≡ p + 1
receiver_node config g p less =
    let q : ℕ = config.senders + (g * config.receivers + p) in
    let back : config.senders + (g * config.receivers + p) - config.senders ≡ g * config.receivers + p = omega arith in
    ap (λ (b : Bool). cond b (config.senders + (g * config.receivers + p) + 1) ((config.senders + (g * config.receivers + p) - config.senders) % config.receivers + 1)) (le-ltb (config.senders + (g * config.receivers + p)) config.senders (omega arith))
    ∙ ap (λ (z : ℕ). z % config.receivers + 1) back ∙ ap (λ (z : ℕ). z + 1) (mod-mul-add g config.receivers p less)

all_senders : (s : Served) (config : Config) (p : ℕ) → p < config.senders → p < passes_of s config
all_senders s config p less = grind arith

all_receivers : (s : Served) (config : Config) (g p : ℕ) → IsChainOf s (groups config) (Chain.Take g) → p < config.receivers → config.senders + (g * config.receivers + p) < passes_of s config
all_receivers Served.List config g p ok less = omega (arith, mul-add-lt g config.receivers p (groups config) ok less, mul_comm config.receivers (groups config))
all_receivers Served.Counter config g p ok less = absurd ok

pub member_in : (c : Setting) (x : Chain) → IsChain c x → (p : ℕ) → p < members c x → pass_on c x p < passes c
member_in c Chain.Send ok p less = all_senders c.served c.config p less
member_in c (Chain.Take g) ok p less = all_receivers c.served c.config g p ok less

first_at : (c : Setting) (x : Chain) (p : ℕ) → p < members c x → first_node c.config (pass_on c x p) ≡ p + 1
first_at c Chain.Send p less = sender_node c.config p less
first_at c (Chain.Take g) p less = receiver_node c.config g p less

first_tail : (c : Setting) (x : Chain) → IsChain c x → first_word c.config (Word.Tail x) ≡ 1
first_tail c Chain.Send ok = refl
first_tail c (Chain.Take g) ok = ap (λ (b : Bool). cond b 1 0) (lt-ltb g (groups c.config) (group_in c.served (groups c.config) g ok))

abbrev first : Kept
first = record { marked = 0; server = 0; pass_of = λ k. 0; chain = λ k. 0; at = λ p. 0 }

module _ (c : Setting) (x : Chain) (ok : IsChain c x) where
  stands : (p : ℕ) → p < members c x → (opening c).stand (pass_on c x p) ≡ placed c p (p + 1)
  stands p pn = stood c (pass_on c x p) (member_in c x ok p pn) ∙ ap (λ (z : ℕ). placed c p z) (first_at c x p pn)

  post : (p : ℕ) → p < members c x → post_at x ((opening c).stand (pass_on c x p)) ≡ out 0 (p + 1)
  post p pn = ap (λ (z : Stand). post_at x z) (stands p pn)

  tail : first_word c.config (Word.Tail x) ≡ 1
  tail = first_tail c x ok

  inv : Inv (members c x) c.config.bound (view c x (opening c)) (ghosts c x [] [] first)
  inv = record {
    nodes = record {
      node_in = λ p pn. grind (arith, post p pn);
      last_in = omega arith;
      apart = λ p q pn qn same. grind (arith, post p pn, post q qn);
      last_apart = λ p pn same. grind (arith, post p pn);
      tail_is = grind (arith, tail);
    };
    calls = record { in_order = omega arith; in_order2 = omega arith; open_pass = λ k a b. absurd (omega arith); open_at = λ k a b. absurd (omega arith); open_low = λ k a b. absurd (omega arith); open_high = λ k a b. absurd (omega arith); open_node = λ k a b. absurd (omega arith) };
    passes = record { at_in = λ p pn a. grind (arith, post p pn); at_is = λ p pn a. grind (arith, post p pn); at_last = λ p k a b same. absurd (omega arith); early = λ p pn a. grind (arith, post p pn); late = λ p pn a. grind (arith, post p pn) };
    links = record { ready_next = λ p pn a b. grind (arith, post p pn); put_is = λ p pn a. grind (arith, post p pn); asks_is = λ p j pn a b. grind (arith, post p pn); linked = λ p pn a b. grind (arith, post p pn); last_next = refl };
    words = record { written = λ p j pn a b d. grind (arith, post p pn); linked_written = λ p j pn a b d. grind (arith, post p pn); serving_told = λ p j a b d e. absurd (omega arith); done_told = λ p j pn a b d. absurd (omega arith) };
    states = record { ready_state = λ p pn a. grind (arith, post p pn); waiting = λ k a b. absurd (omega arith); free_state = λ a. refl; busy_state = λ p a b. absurd (omega arith); done_state = λ p pn a b. absurd (omega arith) };
    server = record {
      server_is = λ p pn a. grind (arith, post p pn);
      server_in = λ p a. absurd (omega arith);
      server_rank = λ p a. absurd (omega arith);
      server_low = λ p a. absurd (omega arith);
      server_most = λ p a. absurd (omega arith);
      server_at = λ p a b. absurd (omega arith);
      server_target = λ p a. absurd (omega arith);
      server_bound = λ p a b. absurd (omega arith);
      server_past = λ p a b. absurd (omega arith);
    };
    serving = record { serving = λ p a b d. absurd (omega arith); serving_next = λ p a b d. absurd (omega arith); serving_linked = λ p a b d. absurd (omega arith); undecided = λ p a b. refl; decided = λ p a b. absurd (omega arith); free_answers = λ a. refl };
  }

  ties : Ties c x [] [] (stands_on c x (opening c)) first
  ties = record {
    pass_in = λ k l. absurd (omega arith);
    entered = λ k l. absurd (omega arith);
    answered = λ k l. absurd (omega arith);
    begun = λ q qn. subst (λ (z : Stand). HasCall c x q z.phase) (sym (stands q qn)) tt;
    served = λ q a. absurd (omega arith);
    read = λ q qn. subst (λ (z : Stand). HasRead c.served x (answer_at [] 0) z.phase) (sym (stands q qn)) tt;
    ended = λ q qn f. absurd (subst (λ (z : Stand). IsFinished z.phase) (stands q qn) f);
  }

-- nothing is called at the opening
pub no_calls : (groups : ℕ) (x : Chain) → side x (empty groups) ≡ silent
no_calls n Chain.Send = refl
no_calls n (Chain.Take g) = all_silent n g
  where
    all_silent : (n g : ℕ) → get_or (replicate n silent) g silent ≡ silent
    all_silent (suc n) (suc g) = all_silent n g
    all_silent _ _ = refl

has_side : (c : Setting) (x : Chain) → IsChain c x → HasSide x (empty (groups c.config))
has_side c Chain.Send ok = tt
has_side c (Chain.Take g) ok = omega (arith, group_in c.served (groups c.config) g ok, length-replicate (groups c.config) silent)

pub opened : (c : Setting) (x : Chain) → IsChain c x → Holds c x (opening c)
opened c x ok =
    let none : side x (empty (groups c.config)) ≡ silent = no_calls (groups c.config) x in
    holds_at c x (opening c) [] [] first (ap (λ (z : Side). z.calls) none) (ap (λ (z : Side). z.answers) none) (inv c x ok) (ties c x ok) (has_side c x ok)
