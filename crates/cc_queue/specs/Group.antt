-- The group of a receiver.
use Rattle.std.specs.Prelude.{◌≡◌, ℕ, ◌+◌}
use Rattle.cc_model.specs.Config.{group_of}
use Rattle.cc_queue.specs.Names.{Pass, Config}
use Rattle.cc_steps.specs.Walk.{Walk}
use Rattle.cc_queue.specs.Headline.{name}

-- by the number of a receiver; groups count from 1 here
abbrev pub IsGroupOf : Config → Pass → ℕ → Type 0
IsGroupOf c (Pass.Receiver n) group = group ≡ group_of c n + 1
IsGroupOf c (Pass.Sender n) group = ⊥

abbrev pub Ranked : Walk → ℕ → Type 0
Ranked w group = IsGroupOf w.setting.config (name w) group
