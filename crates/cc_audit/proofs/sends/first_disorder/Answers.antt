use Rattle.std.proofs.Common.{◌∙◌, sym, arith}
use Rattle.std.proofs.lemmas.Bool.{false≢true}
use Rattle.cc_audit.specs.Least.{referred}
use Rattle.cc_audit.proofs.Referred.{as_many, referred_on, referred_into}
use Rattle.cc_audit.proofs.Turns.{all_walked}
use Rattle.cc_audit.proofs.sends.first_disorder.Goals as goal
use Rattle.cc_audit.proofs.sends.first_disorder.Goals.{then-is_out_of_turn, else-is_out_of_turn}

pub loop-i-preserved : goal.loop-i-preserved
loop-i-preserved c = elim c.if-is_out_of_turn.branch [
  | then-is_out_of_turn w ↦ rw (w.first-is, w.sooner-first.ensures) (referred_into c.args.sends.now c.loop-i.i c.loop-i.first _ _ (omega arith) (omega arith) _ c.requires.places c.loop-i.invariant (c.is_out_of_turn.ensures.0 w.if-is_out_of_turn.true))
  | else-is_out_of_turn w ↦ rw w.first-is (referred_on c.args.sends.now c.loop-i.i c.loop-i.first _ _ (omega arith) (omega arith) c.loop-i.invariant (λ out. absurd (false≢true (sym w.if-is_out_of_turn.false ∙ c.is_out_of_turn.ensures.1 out))))
]

pub returns : goal.returns
returns c = all_walked (referred c.args.sends.now) _ _ c.requires.senders c.requires.places (omega (arith, as_many c.args.sends.now)) c.loop-i.invariant
