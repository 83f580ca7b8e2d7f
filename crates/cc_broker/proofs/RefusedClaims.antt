-- The clauses refuse these claims.
use Rattle.std.proofs.Common.{◌≡◌, ◌≢◌, ℕ, List, [], ◌∷◌, sym, ap, subst, ◌∙◌}
use Rattle.std.specs.Borrow.{Bor}
use Rattle.cc_model.specs.declared.config.Config.{Config}
use Rattle.cc_runs.specs.declared.setting.Setting.{Setting}
use Rattle.cc_steps.specs.Topic.{Topic}
use Rattle.cc_steps.specs.Walk.{Walk, fresh_from}
use Rattle.cc_broker.specs.Opened.{AreTheirPasses, HasOpened, Receivers, Senders}
use Rattle.cc_broker.specs.Topics.{asked_settings, settings}
use Rattle.cc_broker.specs.declared.broker.OpenedBroker.{OpenedBroker}
use Rattle.cc_broker.specs.Refused.{RefusedClaims}

-- the configuration of the first queue of some
abbrev first_config : Config → List Setting → Config
first_config c [] = c
first_config c (s ∷ settings) = s.config

swapped : (a b : Bor (List ℕ)) (c d : Config) (o : OpenedBroker) → c ≢ d → settings o.broker ≡ asked_settings ((a, d) ∷ (b, c) ∷ []) → HasOpened ((a, c) ∷ (b, d) ∷ []) o → ⊥
swapped a b c d o differ other opened =
    let both : asked_settings ((a, c) ∷ (b, d) ∷ []) ≡ asked_settings ((a, d) ∷ (b, c) ∷ []) = sym opened.settings_are ∙ other in
    differ (ap (first_config c) both)

passes_swapped : (y z : Topic) (p q : Senders × Receivers) → y.setting.config.senders ≢ z.setting.config.senders → AreTheirPasses (y ∷ z ∷ []) (p ∷ q ∷ []) → AreTheirPasses (y ∷ z ∷ []) (q ∷ p ∷ []) → ⊥
passes_swapped y z p q differ own other = differ (sym own.0.count_senders ∙ other.1.0.count_senders)

-- passes of one table aren't those of another
of_one_table : (y z : Topic) (walks : List Walk) (first : Walk) (rest : List Walk) → walks ≡ first ∷ rest → fresh_from y 0 walks → fresh_from z 0 walks → y.table_id ≡ z.table_id
of_one_table y z walks first rest is of_y of_z =
    let by_y : fresh_from y 0 (first ∷ rest) = subst (fresh_from y 0) is of_y in
    let by_z : fresh_from z 0 (first ∷ rest) = subst (fresh_from z 0) is of_z in
    sym (ap (λ (w : Walk). w.table_id) by_y.0) ∙ ap (λ (w : Walk). w.table_id) by_z.0

one_queue : (y z : Topic) (p q : Senders × Receivers) (first : Walk) (rest : List Walk) → y.table_id ≢ z.table_id → q.0.items ≡ first ∷ rest → AreTheirPasses (y ∷ z ∷ []) (p ∷ q ∷ []) → AreTheirPasses (y ∷ y ∷ []) (p ∷ q ∷ []) → ⊥
one_queue y z p q first rest apart is own shared = apart (of_one_table y z q.0.items first rest is shared.1.0.senders own.1.0.senders)

pub claims_refused : RefusedClaims
claims_refused = record {
  configurations_swapped = swapped;
  passes_of_two_topics_swapped = passes_swapped;
  one_queue_for_two_names = one_queue;
}
