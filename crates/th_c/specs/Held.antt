-- What a handle owns: nothing where it is null, else what a box of its content owns.
use base.Fml.{Fml, feq}
use base.Stored.{Coded}
use denote.RawPtr.{Ptr, null_ptr}
use Rattle.std.specs.Prelude.{Option, Some, None}
use Rattle.std.specs.Coded.{coded_option}
use Rattle.std.specs.Box.Ownership.{box_owns}
use Rattle.std.specs.Global.{Global}
use Rattle.std_heap.specs.contracts.GlobalAllocator.TheImpl.{ghosts}
use Rattle.th_c.specs.contracts.content.Content.{the_row}

abbrev pub held : Global → Ptr → Option the_row.Denot → Fml
held alloc at None = feq Ptr at null_ptr
held alloc at (Some content) = box_owns (ghosts.dealloc_token alloc) the_row at content

abbrev pub content_coded : Coded (Option the_row.Denot)
content_coded = coded_option the_row.coded
