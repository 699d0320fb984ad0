-- A handle may go to another thread, since its content may.
use mir.Raw.{raw}
use base.Shift.{Keyless}
use denote.Memory.{lone}
use denote.RawPtr.{Ptr}
use denote.Struct.Struct.{exits_of}
use denote.Struct.Owning.{shape, fields, to}
use denote.Param.Send.{IsSend, AllSend, owning_send, struct_send, sendable}
use Rattle.std.specs.Prelude.{Option, Some, None}
use Rattle.std.specs.Global.{Global}
use Rattle.std.proofs.Crossing as heap
use Rattle.std_alloc.proofs.SendSync.{quiet, lies}
use Rattle.std_heap.proofs.Global.TheSendSync as allocator
use Rattle.th_c.specs.Held.{held}
use Rattle.th_c.specs.contracts.content.Content as Content
use Rattle.th_c.proofs.content.Content.TheSendSync.{the_send as content}
use Rattle.th_c.specs.contracts.handle.Handle.{the_row, the_type}

crosses : (alloc : Global) (at : Ptr) (value : Option (Content.the_row).Denot) → Keyless (held alloc at value)
crosses alloc at None = tt
crosses alloc at (Some c) = (lies Content.the_row content at c, heap.frees.frees alloc (raw (lone (Content.the_row).mir)) at)

pub send : IsSend the_row
send =
    let all : AllSend (fields the_type) = (search sendable, (allocator.the_field_send, tt)) in
    owning_send the_type all (λ h. crosses h.alloc h.at h.value)
    (λ k. quiet (to the_type) (exits_of k (fields the_type)) ((struct_send (shape the_type) all).leaving k))
