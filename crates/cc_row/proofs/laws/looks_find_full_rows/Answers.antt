use Rattle.cc_row.proofs.BoundLooks as looks
use Rattle.cc_row.proofs.laws.looks_find_full_rows.Goals as goal

pub returns : goal.returns
returns c = looks.looks_find_full
