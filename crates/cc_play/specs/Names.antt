-- The types that specs, proofs and contracts of this crate speak of. A variant comes after its type, as `Phase.Idle`.
pub use Rattle.cc_model.specs.declared.call.Pass.{Pass}
pub use Rattle.cc_model.specs.declared.call.Call.{Call}
pub use Rattle.cc_model.specs.declared.call.Answer.{Answer}
pub use Rattle.cc_model.specs.declared.config.Config.{Config}
pub use Rattle.cc_runs.specs.declared.phase.Kind.{Kind}
pub use Rattle.cc_runs.specs.declared.phase.Event.{Event}
pub use Rattle.cc_runs.specs.declared.phase.Phase.{Phase}
pub use Rattle.cc_runs.specs.declared.phase.Stand.{Stand}
pub use Rattle.cc_runs.specs.declared.run.Move.{Move}
pub use Rattle.cc_runs.specs.declared.setting.Served.{Served}
pub use Rattle.cc_runs.specs.declared.setting.Setting.{Setting}
pub use Rattle.cc_runs.specs.declared.word.Chain.{Chain}
pub use Rattle.cc_machine.specs.declared.fault.BeginFault.{BeginFault}
pub use Rattle.cc_audit.specs.declared.receipt.Verdict.{Verdict}
pub use Rattle.cc_plan.specs.declared.fault.PlanFault.{PlanFault}
pub use Rattle.cc_play.specs.declared.fault.PlayFault.{PlayFault}
pub use Rattle.cc_io.specs.declared.input.InputFault.{InputFault}
-- what clauses have of a source and of a sink, which they write `R.Source` and `W.Sink`
pub use Rattle.cc_io.specs.declared.device.Source.{Ghosts as SourceOf}
pub use Rattle.cc_io.specs.declared.device.Sink.{Ghosts as SinkOf}
