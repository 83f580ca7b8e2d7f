use Rattle.cc_audit.proofs.Clean.{no_fault}
use Rattle.cc_audit.proofs.Legal.{fair_of}
use Rattle.cc_audit.proofs.laws.legal_gives_clean.Goals as goal

pub returns : goal.returns
returns c = λ cfg h g inside legal. no_fault _ _ _ (fair_of cfg h g inside legal)
