use Rattle.std.proofs.Common.{◌∙◌, sym, rules}
use Rattle.std.proofs.lemmas.Bool.{OnTrue_from, OnFalse_from, false≢true}
use Rattle.std.proofs.lemmas.List.Sorted.{answers_always}
use Rattle.cc_audit.proofs.Referred.{referred_altered, referred_same, referred_miss}
use Rattle.cc_audit.proofs.sends.is_altered.Goals as goal

pub returns-in-Ok-clause-altered : goal.returns-in-Ok-clause-altered
returns-in-Ok-clause-altered c =
    OnTrue_from c.differs.result _ (λ differ. referred_altered c.args.sends.now c.args.item.now c.in-Ok.i _ c.in-Ok.ensures.bound (c.in-Ok.ensures.position (λ s. s.now.place) (answers_always _ _ _ (λ f a r g h. search rules))) (c.differs.ensures.0 differ))

pub returns-in-Ok-clause-same : goal.returns-in-Ok-clause-same
returns-in-Ok-clause-same c =
    OnFalse_from c.differs.result _ (λ same. referred_same c.args.sends.now c.args.item.now c.in-Ok.i _ c.in-Ok.ensures.bound (c.in-Ok.ensures.position (λ s. s.now.place) (answers_always _ _ _ (λ f a r g h. search rules))) (λ differ. absurd (false≢true (sym same ∙ c.differs.ensures.1 differ))))

pub returns-in-Err-clause-same : goal.returns-in-Err-clause-same
returns-in-Err-clause-same c = λ h. absurd (referred_miss c.args.sends.now c.args.item.now _ c.requires (c.in-Err.ensures.position (λ s. s.now.place) (answers_always _ _ _ (λ f a r g h. search rules))) h)
