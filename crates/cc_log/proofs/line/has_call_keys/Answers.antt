use Rattle.std.proofs.Common.{rules}
use Rattle.cc_log.specs.Line.{is_call_key}
use Rattle.cc_log.proofs.line.has_call_keys.Goals as goal

pub returns : goal.returns
returns c = c.has_only.ensures is_call_key (λ x b k. search rules)
