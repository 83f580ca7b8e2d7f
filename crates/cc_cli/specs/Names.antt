-- The types in specs, proofs and contracts of this crate. A variant comes after its type, as `Task.Play`.
pub use Rattle.cc_audit.specs.declared.receipt.Verdict.{Verdict}
pub use Rattle.cc_judge.specs.declared.log.Call.{Call}
pub use Rattle.cc_judge.specs.declared.log.Rules.{Rules}
pub use Rattle.cc_judge.specs.declared.log.Tie.{Tie}
pub use Rattle.cc_play.specs.declared.fault.PlayFault.{PlayFault}
pub use Rattle.cc_show.specs.declared.fault.ShowFault.{ShowFault}
pub use Rattle.cc_show.specs.declared.form.Form.{Form}
pub use Rattle.cc_cli.specs.declared.task.Task.{Task}
pub use Rattle.cc_drive.specs.declared.config.DriveConfig.{DriveConfig}
pub use Rattle.cc_log.specs.declared.fault.LogFault.{LogFault}
pub use Rattle.cc_log.specs.declared.parse.Log.{Log}
pub use Rattle.cc_log.specs.declared.parse.Options.{Options}
pub use Rattle.cc_cli.specs.declared.judging.page.AnswerFault.{AnswerFault}
pub use Rattle.cc_cli.specs.declared.input.Input.{Input}
pub use Rattle.cc_cli.specs.declared.paint.Head.{Head}
pub use Rattle.cc_cli.specs.declared.paint.Mark.{Mark}
pub use Rattle.cc_cli.specs.declared.paint.Painter.{Painter}
