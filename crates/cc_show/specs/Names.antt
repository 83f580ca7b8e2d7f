-- The types that specs, proofs and contracts of this crate speak of. A variant comes after its type, as `Event.Idle`.
pub use Rattle.cc_model.specs.declared.call.Pass.{Pass}
pub use Rattle.cc_model.specs.declared.call.Call.{Call}
pub use Rattle.cc_runs.specs.declared.phase.Kind.{Kind}
pub use Rattle.cc_runs.specs.declared.phase.Event.{Event}
pub use Rattle.cc_runs.specs.declared.phase.Phase.{Phase}
pub use Rattle.cc_runs.specs.declared.run.Move.{Move}
pub use Rattle.cc_runs.specs.declared.word.Chain.{Chain}
pub use Rattle.cc_runs.specs.declared.word.NodeField.{NodeField}
pub use Rattle.cc_runs.specs.declared.word.ItemField.{ItemField}
pub use Rattle.cc_runs.specs.declared.word.Object.{Object}
pub use Rattle.cc_runs.specs.declared.word.Word.{Word}
pub use Rattle.cc_audit.specs.declared.receipt.Verdict.{Verdict}
pub use Rattle.cc_plan.specs.declared.fault.PlanFault.{PlanFault}
pub use Rattle.cc_play.specs.declared.fault.PlayFault.{PlayFault}
pub use Rattle.cc_show.specs.declared.fault.ShowFault.{ShowFault}
pub use Rattle.cc_show.specs.declared.player.ShownEvent.{ShownEvent}
pub use Rattle.cc_show.specs.declared.form.Form.{Form}
