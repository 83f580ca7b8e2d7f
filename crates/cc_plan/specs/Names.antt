-- The types that specs, proofs and contracts of this crate speak of. A variant comes after its type, as `Pass.Sender`.
pub use Rattle.cc_model.specs.declared.body.Body.{Body}
pub use Rattle.cc_model.specs.declared.call.Pass.{Pass}
pub use Rattle.cc_model.specs.declared.call.Call.{Call}
pub use Rattle.cc_model.specs.declared.config.Config.{Config}
pub use Rattle.cc_audit.specs.declared.receipt.SendReceipt.{SendReceipt}
pub use Rattle.cc_audit.specs.declared.receipt.TakeReceipt.{TakeReceipt}
pub use Rattle.cc_plan.specs.declared.fault.PlanFault.{PlanFault}
pub use Rattle.cc_plan.specs.declared.plan.Plan.{Plan}
pub use Rattle.cc_plan.specs.declared.receipts.Receipts.{Receipts}
