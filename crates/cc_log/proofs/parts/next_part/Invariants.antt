use Rattle.cc_log.specs.Follow.{Spells, numbered}
use Rattle.cc_log.proofs.Following.{SomeTo}
use Rattle.cc_log.proofs.parts.next_part.Given as goal

abbrev pub invariant-loop-line : goal.invariant-loop-line
invariant-loop-line l = Spells l.fn.options l.next × SomeTo (numbered l.lines) (numbered l.next.lines.items) l.line-index
