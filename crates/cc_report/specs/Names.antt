-- The types that specs, proofs and contracts of this crate speak of. A variant comes after its type, as `Pass.Sender`.
pub use Rattle.cc_model.specs.declared.call.Pass.{Pass}
pub use Rattle.cc_model.specs.declared.call.Call.{Call}
pub use Rattle.cc_model.specs.declared.call.Item.{Item}
pub use Rattle.cc_model.specs.declared.call.SendAnswer.{SendAnswer}
pub use Rattle.cc_model.specs.declared.call.CloseAnswer.{CloseAnswer}
pub use Rattle.cc_model.specs.declared.call.TakeAnswer.{TakeAnswer}
pub use Rattle.cc_model.specs.declared.call.Answer.{Answer}
pub use Rattle.cc_model.specs.declared.call.Entry.{Entry}
pub use Rattle.cc_audit.specs.declared.receipt.Verdict.{Verdict}
pub use Rattle.cc_report.specs.declared.report.Caller.{Caller}
