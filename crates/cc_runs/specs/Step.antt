-- One atomic step of one pass. Nothing else changes.
use Rattle.std.specs.Prelude.{ℕ}
use Rattle.cc_runs.specs.Names.{Setting, Chain, Stand}
use Rattle.cc_runs.specs.State.{State, chain_of, hold, noted, word_of, stored}
use Rattle.cc_runs.specs.Lines.{operation, node_after, goes, enters, decides}

-- the phase of a pass of chain x after a step that found this
abbrev pub advanced : Setting → Chain → Stand → ℕ → Stand
advanced c x at found = record { begun = at.begun; node = node_after at.node at.phase found; phase = goes c x at.node at.phase found }

-- the state after the step of pass p, of chain x, in this phase
abbrev pub stepped_from : Setting → State → Chain → ℕ → Stand → State
stepped_from c s x p at =
    let does = operation c x at.node at.phase in
    let found = s.mem (word_of does) in
    record {
      mem = stored s.mem does;
      stand = hold s.stand p (advanced c x at found);
      history = noted x s.history (enters at.phase) (decides c at.phase found);
    }

-- the state after the next step of pass p
abbrev pub stepped : Setting → State → ℕ → State
stepped c s p = stepped_from c s (chain_of c.config p) p (s.stand p)
