-- The types that specs and proofs of this crate speak of.
pub use Rattle.cc_model.specs.declared.call.Call.{Call}
pub use Rattle.cc_model.specs.declared.call.Item.{Item}
pub use Rattle.cc_model.specs.declared.call.Answer.{Answer}
pub use Rattle.cc_model.specs.declared.call.SendAnswer.{SendAnswer}
pub use Rattle.cc_model.specs.declared.call.CloseAnswer.{CloseAnswer}
pub use Rattle.cc_model.specs.declared.call.TakeAnswer.{TakeAnswer}
pub use Rattle.cc_model.specs.declared.config.Config.{Config}
pub use Rattle.cc_model.specs.declared.call.Pass.{Pass}
pub use Rattle.cc_model.specs.declared.call.Entry.{Entry}
