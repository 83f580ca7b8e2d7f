-- A queue as it was opened.
use Rattle.std.proofs.Common.{sym, ap, subst}
use Rattle.cc_queue.specs.Names.{Config, Setting}
use Rattle.cc_queue.specs.declared.queue.Opened.{Opened}
use Rattle.cc_queue.specs.Opened.{HasOpened}
use Rattle.two_threads.specs.Opening.{IsNew}

-- its own configuration is the one that it was opened with
pub is_new : (c : Config) (o : Opened) → HasOpened c o → IsNew o
is_new c o opened = subst (λ (x : Config). HasOpened x o) (sym (ap (λ (s : Setting). s.config) opened.setting)) opened
