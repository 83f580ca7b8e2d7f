-- The phase of a chain's combiner, among those of its passes.
use Rattle.std.proofs.Common.{◌≡◌, ◌≢◌, ◌⊎◌, ℕ, zero, suc, ◌+◌, ◌<◌, Bool, true, false, ◌==◌, cond, refl, ap, sym, ◌∙◌, arith, inl, inr, None}
use Rattle.std.proofs.lemmas.Bool.{true≢false}
use Rattle.cc_runs.specs.Names.{Entry, Answer, TakeAnswer, Setting, Served, Chain, Sending, Phase}
use Rattle.cc_runs.specs.State.{State}
use Rattle.cc_runs.specs.Codes.{code_of, value_of, further_words}
use Rattle.cc_runs.specs.Lines.{goes, decides, after_exchange, after_state, after_ret}
use Rattle.cc_runs.specs.Turns.{decided}
use Rattle.cc_runs.specs.Ahead.{combiner_among}
use Rattle.cc_runs.specs.ChainLaws.{is_combining}
use Rattle.cc_runs.proofs.ReadWords.{behind_word}
use Rattle.cc_runs.proofs.Chains.View.{pass_on, post_of}

module _ (c : Setting) (x : Chain) where
  abbrev pub phase_at : State → ℕ → Phase
  phase_at s n = (s.stand (pass_on c x n)).phase

  one_more : (at rest : Phase) (b : Bool) → is_combining at ≡ b → cond (is_combining at) at rest ≡ cond b at rest
  one_more at rest b is = ap (λ (z : Bool). cond z at rest) is

  pub combiner_is : (s : State) (n q : ℕ) → q < n → is_combining (phase_at s q) ≡ true → ((r : ℕ) → r < n → is_combining (phase_at s r) ≡ true → r ≡ q) → combiner_among c x s n ≡ phase_at s q
  combiner_is s zero q less is only = absurd (omega (arith, less))
  combiner_is s (suc n) q less is only = by_case (is_combining (phase_at s n)) refl (λ ne. combiner_is s n q (omega (arith, less, ne)) is (λ r l. only r (omega (arith, l))))
    where
      by_case : (b : Bool) → is_combining (phase_at s n) ≡ b → (q ≢ n → combiner_among c x s n ≡ phase_at s q) → combiner_among c x s (suc n) ≡ phase_at s q
      by_case true here rest = one_more (phase_at s n) (combiner_among c x s n) true here ∙ ap (phase_at s) (only n (omega arith) here)
      by_case false here rest = one_more (phase_at s n) (combiner_among c x s n) false here ∙ rest (λ same. true≢false (sym is ∙ ap (λ (z : ℕ). is_combining (phase_at s z)) same ∙ here))

  pub combiner_none : (s : State) (n : ℕ) → ((r : ℕ) → r < n → is_combining (phase_at s r) ≡ false) → combiner_among c x s n ≡ Phase.Idle
  combiner_none s zero none = refl
  combiner_none s (suc n) none = one_more (phase_at s n) (combiner_among c x s n) false (none n (omega arith)) ∙ combiner_none s n (λ r l. none r (omega (arith, l)))

  -- each as it was, or out of it before and after
  pub combiner_same : (s t : State) (n : ℕ) → ((r : ℕ) → r < n → (phase_at t r ≡ phase_at s r) ⊎ ((is_combining (phase_at s r) ≡ false) × (is_combining (phase_at t r) ≡ false))) → combiner_among c x t n ≡ combiner_among c x s n
  combiner_same s t zero same = refl
  combiner_same s t (suc n) same =
      let rest : combiner_among c x t n ≡ combiner_among c x s n = combiner_same s t n (λ r l. same r (omega (arith, l))) in
      elim (same n (omega arith)) [
        | inl is ↦ λ i. cond (is_combining (is i)) (is i) (rest i)
        | inr out ↦ one_more (phase_at t n) (combiner_among c x t n) false out.1 ∙ rest ∙ sym (one_more (phase_at s n) (combiner_among c x s n) false out.0)
      ]

-- ---- phases

pub five_combining : (x : Chain) (own : ℕ) (at : Phase) → (post_of x own at).rank ≡ 5 → is_combining at ≡ true
five_combining x own at is = grind arith

-- the stage of a service whose answer is decided
decided_send : (service : Sending) → (post_of Chain.Send 0 (Phase.Sending record { round = record { at = 0; served = 0 }; next = 0 } service)).stage ≡ 1 + decided (Phase.Sending record { round = record { at = 0; served = 0 }; next = 0 } service)
decided_send service = grind arith

pub two_decided : (x : Chain) (own : ℕ) (at : Phase) → (post_of x own at).stage ≡ 2 → decided at ≡ 1
two_decided x own (Phase.Sending job service) two = omega (arith, two, decided_send service)
two_decided x own at two = grind arith

-- and of one whose answer isn't
pub not_two_decided : (x : Chain) (own : ℕ) (at : Phase) → (post_of x own at).stage ≢ 2 → decided at ≡ 0
not_two_decided x own at ne = grind arith

pub not_decided : (c : Setting) (at : Phase) (found : ℕ) → is_combining at ≡ false → decides c at found ≡ None
not_decided c at found is = grind arith

-- only the read of a state makes a pass combine
exchange_out : (x : Chain) (own : ℕ) (call : Entry) → is_combining (after_exchange x own call) ≡ false
exchange_out x own call = grind arith

taken_out : (ret : ℕ) (one two : Bool) → is_combining (cond one (Phase.ReadAnswerTag (value_of ret)) (cond two (Phase.Finished (Answer.Take TakeAnswer.Empty)) (Phase.Finished (Answer.Take (TakeAnswer.Ended (value_of ret)))))) ≡ false
taken_out ret one two = grind arith

ret_out : (what : Served) (x : Chain) (ret : ℕ) → is_combining (after_ret what x ret) ≡ false
ret_out what Chain.Send ret = refl
ret_out what (Chain.Take g) ret = taken_out ret (code_of ret == 1) (code_of ret == 2)

pub stays_out : (c : Setting) (x : Chain) (own : ℕ) (at : Phase) (found : ℕ) → is_combining at ≡ false → (at ≡ Phase.ReadState → found ≢ 0) → is_combining (goes c x own at found) ≡ false
stays_out c x own (Phase.Exchange call) found is state = exchange_out x own call
stays_out c x own (Phase.WriteBody put request i) found is state = behind_word (λ (z : Phase). is_combining z ≡ false) (further_words request.tag) i _ _ (λ more. refl) (λ last. refl)
stays_out c x own Phase.ReadState found is state = read found (state refl)
  where
    read : (n : ℕ) → n ≢ 0 → is_combining (after_state own n) ≡ false
    read n ne = grind arith
stays_out c x own Phase.ReadAnswer found is state = ret_out c.served x found
stays_out c x own (Phase.ReadAnswerBody p i) found is state = behind_word (λ (z : Phase). is_combining z ≡ false) (further_words p.tag) i _ _ (λ more. refl) (λ last. refl)
stays_out c x own at found is state = grind arith
