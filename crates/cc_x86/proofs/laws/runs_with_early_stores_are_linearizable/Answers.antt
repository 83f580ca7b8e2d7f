use Rattle.cc_x86.proofs.Early.Law.{linearizable_early}
use Rattle.cc_x86.proofs.laws.runs_with_early_stores_are_linearizable.Goals as goal

pub returns : goal.returns
returns c = linearizable_early c.laws_of_chains.ensures c.laws_of_nodes.ensures c.nodes_are_prepared_alone.ensures c.histories_are_legal.ensures c.answers_are_told.ensures c.runs_are_linearizable.ensures
