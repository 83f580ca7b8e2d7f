use Rattle.cc_judge.proofs.lists.lists_of.Goals as goal

pub returns : goal.returns
returns c = λ log written at. record {
  written = written;
  lefts = c.in_ok-by_time.ensures log at;
  waits = c.in_ok-by_time-2.ensures log at;
  spells = c.in_ok-spells.ensures log written at;
  latest = c.in_ok-latest.ensures;
}
