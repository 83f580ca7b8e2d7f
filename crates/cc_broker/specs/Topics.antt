-- A contract sees of a broker its topics in order, each with its name.
use Rattle.std.specs.Prelude.{ℕ, List, map}
use Rattle.std.specs.Borrow.{Bor}
use Rattle.cc_model.specs.declared.config.Config.{Config}
use Rattle.cc_runs.specs.declared.setting.Setting.{Setting}
use Rattle.cc_runs.specs.declared.setting.Served.{Served}
use Rattle.cc_steps.specs.Topic.{Topic}

-- their names, their queues, and what these queues were made with
abbrev pub names : List (List ℕ × Topic) → List (List ℕ)
names topics = map (λ t. t.0) topics

abbrev pub queues : List (List ℕ × Topic) → List Topic
queues topics = map (λ t. t.1) topics

abbrev pub settings : List (List ℕ × Topic) → List Setting
settings topics = map (λ t. t.1.setting) topics

-- the names of topics that are asked for
abbrev pub asked_names : List (Bor (List ℕ) × Config) → List (List ℕ)
asked_names asked = map (λ t. t.0.now) asked

-- and what their queues are to be made with: each is a list with its configuration
abbrev pub asked_settings : List (Bor (List ℕ) × Config) → List Setting
asked_settings asked = map (λ t. record { served = Served.List; config = t.1 }) asked
