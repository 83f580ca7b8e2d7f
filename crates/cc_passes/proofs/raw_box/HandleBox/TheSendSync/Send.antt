use mir.Raw.{raw}
use base.Shift.{Keyless}
use denote.Memory.{lone}
use denote.Param.Send.{IsSend, owning_send, struct_send, sendable}
use denote.Builtin.{RawPtr}
use denote.Struct.Struct.{exits_of}
use denote.Struct.Owning.{shape, fields, to}
use Rattle.std.specs.Prelude.{Option, Some, None}
use denote.RattleType.{RattleType}
use denote.RawPtr.{Ptr, block_ptr, null_ptr, lies_at}
use base.Fraction.{full_share}
use denote.Param.Send.{part_keyless}
use Rattle.std.proofs.Crossing.{frees}
use Rattle.cc_passes.proofs.Quiet.{quiet}
use Rattle.cc_passes.proofs.handle_inner.HandleInner.TheSendSync as held_sent
use Rattle.std.specs.contracts.impls.GlobalAllocator.TheImpl.{ghosts}
use Rattle.std.specs.contracts.alloc.Global as heap
use Rattle.cc_passes.specs.HandleBox.{boxed_owns}
use Rattle.cc_passes.specs.contracts.handle_inner.HandleInner as held
use Rattle.cc_passes.specs.contracts.raw_box.HandleBox as boxed

lies : (R : RattleType) → IsSend R → (p : Ptr) (x : R.Denot) → Keyless (lies_at R full_share p x)
lies R s (block_ptr b o) x = part_keyless R s full_share x b o
lies R s null_ptr x = tt

held_send : IsSend held.the_row
held_send = held_sent.the_send

heap_send : IsSend (heap.the_field).row
heap_send = search sendable

owned : (d : boxed.the_row.Denot) (m : Option held.the_row.Denot) → Keyless (boxed_owns (ghosts.dealloc_token d.alloc) held.the_row d.at m)
owned d None = tt
owned d (Some x) = (lies held.the_row held_send d.at x, frees.frees d.alloc (raw (lone held.the_row.mir)) d.at)

pub send : IsSend boxed.the_row
send = let ps : IsSend RawPtr = search sendable in
    owning_send boxed.the_type (ps, (heap_send, tt)) (λ d. owned d d.value) (λ k. quiet (to boxed.the_type) (exits_of k (fields boxed.the_type)) ((struct_send (shape boxed.the_type) (ps, (heap_send, tt))).leaving k))
