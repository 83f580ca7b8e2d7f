use Rattle.std.proofs.Common.{rules, tests}
use Rattle.std.proofs.lemmas.Iterator.{YieldsList-from_slice}
use Rattle.std.proofs.lemmas.Iterator.Search.{all_from_yields_List}
use Rattle.std.proofs.lemmas.List.Folds.{list_all-map}
use Rattle.serde_json.specs.View.{view}
use Rattle.cc_plan.specs.Json.{is_number}
use Rattle.cc_plan.proofs.receipts.shape.are_numbers.Goals as goal

pub returns : goal.returns
returns c = rw (list_all-map is_number view c.args.list.now)
    (all_from_yields_List (λ value. is_number (view value)) _ _ c.all.result c.all.ensures.ran (YieldsList-from_slice c.args.list.now cc) (λ x b q k. search (rules, tests)))
