use Rattle.cc_runs.proofs.RunPrefixes.{prefixes_begin}
use Rattle.cc_runs.proofs.list_laws.prefixes_of_runs_begin.Goals as goal

pub returns : goal.returns
returns c = prefixes_begin
