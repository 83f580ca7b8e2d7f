use Rattle.std.proofs.Common.{◌≡◌, Option, None, sym, ◌∙◌, ap, option_and_then, is_some}
use Rattle.std.specs.Map.{keys_of}
use Rattle.cc_log.specs.Line.{Body}
use Rattle.cc_log.specs.Log.{same_body}
use Rattle.cc_log.proofs.Table.{is_none, keys_inserted, keys_kept, of_any, still_unsent}
use Rattle.cc_log.proofs.items.taken.Goals as goal

pub returns-in-Some-clause-bodies : goal.returns-in-Some-clause-bodies
returns-in-Some-clause-bodies c = of_any c.narrow.result (sym (keys_kept same_body c.args.body c.args.items.now.entries (sym c.get_index_of.ensures.found ∙ ap is_some c.in-Some.is)))

pub returns-clause-bodies : goal.returns-clause-bodies
returns-clause-bodies c = of_any c.narrow-2.result (ap keys_of c.in_ok-place.ensures.entries ∙ keys_inserted same_body c.args.body None c.args.items.now.entries)

pub returns-clause-senders : goal.returns-clause-senders
returns-clause-senders c = of_any c.narrow-2.result (λ (q : Body). ap (λ o. option_and_then (λ x. x) o) (c.in_ok-place.ensures.updates.0 q)
    ∙ still_unsent c.args.body q c.args.items.now.entries (is_none _ (sym c.get_index_of.ensures.found ∙ ap is_some c.in_default.is)))
