-- What the owner of an allocation of bytes owns, and what it lends.
use Rattle.std.specs.Prelude.{ℕ, ◌+◌, ◌^◌, List, length}
use Rattle.std.specs.Borrow.{u8}
use Rattle.std.specs.contracts.impls.GlobalAllocator.TheImpl.{ghosts}
use Rattle.std.specs.declared.alloc.Global.{Global}
use base.Fml.{Lft, Fml, ffalse, fsep, flt, froom}
use mir.Syntax.{Ty, w8, ty_int, ty_array}
use types.SemTy.{cells}
use denote.Memory.{mem}
use denote.Slice.{elements_shared}
use denote.Sharing.{said, beside}
use denote.RawPtr.{Ptr, block_ptr, null_ptr}

-- n bytes side by side
abbrev pub bytes_row : ℕ → Ty
bytes_row n = ty_array (ty_int w8) n

-- the allocation at a pointer: fewer than 2 ^ 63 bytes, of which the first are bs and n more hold nothing yet, and the right to free it
abbrev pub cells_own : Global → Ptr → List ℕ → ℕ → Fml
cells_own heap (block_ptr b o) bs n = fsep (flt (length bs + n) (2 ^ 63)) (fsep (cells (mem u8) bs b o) (fsep (froom (bytes_row n) b (length bs + o)) (ghosts.dealloc_token heap (bytes_row (length bs + n)) (block_ptr b o))))
cells_own heap null_ptr bs n = ffalse

-- what a `&` to the owner holds: that there are so few, and a `&` to each byte
abbrev pub cells_lent : Ptr → List ℕ → ℕ → Lft → Fml
cells_lent (block_ptr b o) bs n = beside (said (flt (length bs + n) (2 ^ 63))) (elements_shared u8 bs b o)
cells_lent null_ptr bs n = said ffalse
