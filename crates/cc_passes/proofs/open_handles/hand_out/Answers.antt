use Rattle.cc_passes.specs.Names.{AnyPass}
use Rattle.cc_passes.proofs.Filling.{filled}
use Rattle.cc_passes.proofs.open_handles.hand_out.Goals as goal

pub returns-clause-opened : goal.returns-clause-opened
returns-clause-opened c = record {
  queue = c.args.opened.queue;
  setting = c.requires.opened.setting;
  senders_hold = filled (λ h. h.boxed.value) (λ b. b.value) AnyPass.Sender c.args.words c.args.opened.queue 0 c.fill.new.handles c.in_ok-sending.sending.items c.fill.ensures c.in_ok-sending.ensures.fresh;
  receivers_hold = filled (λ h. h.boxed.value) (λ b. b.value) AnyPass.Receiver c.args.words c.args.opened.queue c.args.config.now.senders c.fill-2.new.handles c.in_ok-taking.taking.items c.fill-2.ensures c.in_ok-taking.ensures.fresh;
}
