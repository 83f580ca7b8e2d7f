-- A queue at its opening.
use Rattle.std.specs.Prelude.{◌≡◌, ◌*◌, length, Ok}
use Rattle.cc_model.specs.Config.{config_fault}
use Rattle.cc_queue.specs.Names.{Config, Served}
use Rattle.cc_runs.specs.Words.{groups}
use Rattle.cc_steps.specs.Walk.{fresh_from}
use Rattle.cc_queue.specs.declared.queue.Opened.{Opened}

-- The configuration is legal, and the queue is a list with it. It has all the senders and then all the receivers of it,
-- each numbered from 1, and none has begun a call or seen anything.
pub record HasOpened (c : Config) (o : Opened) : Type 0 where
  pub valid : config_fault c ≡ Ok tt
  pub setting : o.queue.setting ≡ record { served = Served.List; config = c }
  pub count_senders : length o.senders.items ≡ c.senders
  pub count_receivers : length o.receivers.items ≡ groups c * c.receivers
  pub senders : fresh_from o.queue 0 o.senders.items
  pub receivers : fresh_from o.queue c.senders o.receivers.items
