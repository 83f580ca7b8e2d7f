-- Refused claims: for each kind of mistake a small case, and a claim about it that the clause doesn't admit.
use Rattle.std.specs.Prelude.{◌≡◌, ◌≢◌, ℕ, List, [], ◌∷◌}
use Rattle.std.specs.Borrow.{Bor}
use Rattle.cc_model.specs.declared.config.Config.{Config}
use Rattle.cc_steps.specs.Topic.{Topic}
use Rattle.cc_steps.specs.Walk.{Walk}
use Rattle.cc_broker.specs.Opened.{AreTheirPasses, HasOpened, Receivers, Senders}
use Rattle.cc_broker.specs.Topics.{asked_settings, settings}
use Rattle.cc_broker.specs.declared.broker.OpenedBroker.{OpenedBroker}

-- a claim that doesn't hold
abbrev pub Refused : Type 0 → Type 0
Refused claim = claim → ⊥

pub record RefusedClaims : Type 0 where
  -- of two topics each has the other's configuration
  pub configurations_swapped : (a b : Bor (List ℕ)) (c d : Config) (o : OpenedBroker) → c ≢ d → settings o.broker ≡ asked_settings ((a, d) ∷ (b, c) ∷ []) → Refused (HasOpened ((a, c) ∷ (b, d) ∷ []) o)
  -- of two queues each has the other's passes
  pub passes_of_two_topics_swapped : (y z : Topic) (p q : Senders × Receivers) → y.setting.config.senders ≢ z.setting.config.senders → AreTheirPasses (y ∷ z ∷ []) (p ∷ q ∷ []) → Refused (AreTheirPasses (y ∷ z ∷ []) (q ∷ p ∷ []))
  -- two names have the queue of the first of them, and each has its own passes
  pub one_queue_for_two_names : (y z : Topic) (p q : Senders × Receivers) (first : Walk) (rest : List Walk) → y.table_id ≢ z.table_id → q.0.items ≡ first ∷ rest → AreTheirPasses (y ∷ z ∷ []) (p ∷ q ∷ []) → Refused (AreTheirPasses (y ∷ y ∷ []) (p ∷ q ∷ []))
