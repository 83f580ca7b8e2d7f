use Rattle.cc_x86.proofs.AnyCode.{code_follows_with_buffers}
use Rattle.cc_x86.proofs.laws.code_follows_with_buffers.Goals as goal

pub returns : goal.returns
returns c = code_follows_with_buffers c.laws_of_chains.ensures c.laws_of_nodes.ensures c.nodes_are_prepared_alone.ensures c.driven_runs_are_linearizable.ensures
