use Rattle.std.proofs.Common.{◌≡◌, Option, Some, sym, ◌∙◌, ap}
use Rattle.std.specs.Map.{keys_of}
use Rattle.cc_log.specs.Log.{same_body}
use Rattle.cc_log.proofs.Table.{keys_inserted, of_any}
use Rattle.cc_log.proofs.items.sent.Goals as goal

pub returns-clause-bodies : goal.returns-clause-bodies
returns-clause-bodies c = of_any c.narrow-2.result (ap keys_of c.in_ok-place.ensures.entries ∙ keys_inserted same_body c.args.body (Some c.in_ok-narrow.field-0) c.args.items.now.entries)
