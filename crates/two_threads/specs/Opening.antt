-- A queue as it was opened.
use Rattle.cc_queue.specs.declared.queue.Opened.{Opened}
use Rattle.cc_queue.specs.Opened.{HasOpened}

-- a queue that was just opened, with its own configuration
abbrev pub IsNew : Opened → Type 0
IsNew o = HasOpened o.queue.setting.config o
