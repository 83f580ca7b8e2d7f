-- The types that specs, proofs and contracts of this crate speak of.
pub use Rattle.cc_io.specs.declared.device.Device.{Device}
pub use Rattle.cc_io.specs.declared.input.InputFault.{InputFault}
