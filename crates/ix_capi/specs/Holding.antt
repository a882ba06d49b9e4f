-- What a handle owns.
use Rattle.std.specs.Prelude.{Option, Some, None}
use mir.Syntax.{Ty}
use base.Fml.{Fml, ftrue}
use denote.RattleType.{RattleType}
use denote.RawPtr.{Ptr}
use Rattle.std.specs.Box.Ownership.{box_owns}
use Rattle.std.specs.Global.{Global}
use Rattle.std_heap.specs.contracts.GlobalAllocator.TheImpl.{ghosts}

-- the heap's allocator, which is one value
abbrev pub heap : Global
heap = record { memory = record { seal = tt } }

-- the right to free a block of the heap
abbrev pub may_free : Ty → Ptr → Fml
may_free = ghosts.dealloc_token heap

-- nothing, or a value at the pointer with the right to free its block
abbrev pub held : (R : RattleType) → Ptr → Option R.Denot → Fml
held R p None = ftrue
held R p (Some x) = box_owns may_free R p x
