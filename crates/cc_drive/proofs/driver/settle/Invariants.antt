use Rattle.cc_queue.proofs.Lasts.{live_row}
use Rattle.cc_drive.proofs.driver.settle.Given as goal

abbrev pub ghost-audit_all : goal.ghost-audit_all
ghost-audit_all a = live_row a.all.now.senders.now a.all.now.receivers.now
