-- The types that specs, proofs and contracts of this crate speak of. A variant comes after its type, as `Kind.Plan`.
pub use Rattle.cc_plan.specs.declared.fault.PlanFault.{PlanFault}
pub use Rattle.cc_place.specs.declared.place.wanted.Kind.{Kind}
