use base.Shift.{Keyless}
use denote.Param.Send.{IsSend, owning_send, struct_send}
use denote.Struct.Struct.{exits_of}
use denote.Struct.Owning.{shape, fields, to}
use Rattle.std.specs.Prelude.{Option, Some, None}
use Rattle.cc_queue.proofs.GivenUp.TheSendSync as given_up_sent
use Rattle.cc_passes.proofs.Quiet.{quiet}
use Rattle.cc_passes.specs.Abandoned.{abandoned_owns}
use Rattle.cc_queue.specs.contracts.GivenUp as given_up
use Rattle.cc_passes.specs.contracts.abandoned.Abandoned as abandoned

owned : (m : Option given_up.the_row.Denot) → Keyless (abandoned_owns given_up.the_row m)
owned None = tt
owned (Some x) = λ vs. given_up_sent.the_send.owned x vs

pub send : IsSend abandoned.the_row
send = owning_send abandoned.the_type tt (λ d. owned d.value) (λ k. quiet (to abandoned.the_type) (exits_of k (fields abandoned.the_type)) ((struct_send (shape abandoned.the_type) tt).leaving k))
