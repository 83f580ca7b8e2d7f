use Rattle.cc_show.specs.Trace.{item_field_text}
use Rattle.cc_show.proofs.trace.write_item_field.Goals as goal

pub returns-in-Passed : goal.returns-in-Passed
unfolding item_field_text
returns-in-Passed g c = rw c.in-Passed.is c.text-in-Passed.ensures
