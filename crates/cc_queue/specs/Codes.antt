-- Which answers are a send's, and which a close's.
use Rattle.cc_queue.specs.Names.{Answer}

abbrev pub IsSendAnswer : Answer → Type 0
IsSendAnswer (Answer.Send a) = Unit {0}
IsSendAnswer _ = ⊥

abbrev pub IsCloseAnswer : Answer → Type 0
IsCloseAnswer (Answer.Close a) = Unit {0}
IsCloseAnswer _ = ⊥
