-- A `&` to the owner of an allocation is made of one to each byte. Assumes `Logic`.
use Rattle.std.proofs.Common.{◌≡◌, ℕ, ◌+◌, ◌^◌, List, [], ◌∷◌, length, refl, ap, subst}
use seplogic.Ra.Ura.{Ura}
use base.Fraction.{full_share}
use base.Fml.{Fml, Lft, ffalse, fsep, flt, froom}
use types.Logic.{Logic}
use types.SemTy.{cells}
use denote.Builtin.{u8}
use denote.Index.{row}
use denote.Memory.{mem, shared_of, part_at}
use denote.Plain.{uint_row_laws}
use denote.RawPtr.{Ptr, block_ptr, null_ptr}
use denote.Param.Shared.{copy_shared}
use denote.Shares.{shares_each}
use denote.Sharing.{ShrLaws, said}
use denote.SharingLaws.{beside_shr_laws, said_shr_laws}
use denote.Slice.{elements_shared, elements_shr_laws}
use denote.Struct.Field.{u8-field}
use denote.Struct.Laws.{u8-copy}
use denote.Struct.Lending.{Lends, Lends-both, Lends-first, Lends-said, Lends-false}
use mir.Syntax.{w8}
use Rattle.std.specs.declared.alloc.Global.{Global}
use Rattle.std.specs.contracts.impls.GlobalAllocator.TheImpl.{ghosts}
use Rattle.phys_mem.specs.Ownership.{bytes_row, cells_own, cells_lent}

pub cells_lent_laws : (p : Ptr) (bs : List ℕ) (n : ℕ) → ShrLaws (cells_lent p bs n)
cells_lent_laws (block_ptr b o) bs n = beside_shr_laws (said (flt (length bs + n) (2 ^ 63))) (elements_shared u8 bs b o) (said_shr_laws (flt (length bs + n) (2 ^ 63)) tt) (elements_shr_laws u8 (uint_row_laws w8) bs b o)
cells_lent_laws null_ptr bs n = said_shr_laws ffalse tt

row_cells : (bs : List ℕ) (b o : ℕ) → row u8 full_share bs b o ≡ cells (mem u8) bs b o
row_cells [] b o = refl
row_cells (x ∷ bs) b o = ap (fsep (part_at u8 full_share x b o)) (row_cells bs b (o + 1))

module _ {M : Type 1} {𝓤 : Ura M} (𝓛 : Logic 𝓤) where
  abbrev l : Lft
  l = u8.lives

  Lends-bytes : (bs : List ℕ) (b o : ℕ) → Lends 𝓛 (cells (mem u8) bs b o) (elements_shared u8 bs b o) l
  Lends-bytes bs b o =
      subst (λ (F : Fml). Lends 𝓛 F (elements_shared u8 bs b o) l) (row_cells bs b o)
      (λ κ ts. shares_each 𝓛 u8 (shared_of u8) l ((copy_shared u8-field u8-copy).shares M 𝓤 𝓛) bs κ ts b o)

  pub Lends-cells : (heap : Global) (p : Ptr) (bs : List ℕ) (n : ℕ) → Lends 𝓛 (cells_own heap p bs n) (cells_lent p bs n) l
  Lends-cells heap (block_ptr b o) bs n =
      let few = flt (length bs + n) (2 ^ 63) in
      let rest = fsep (froom (bytes_row n) b (length bs + o)) (ghosts.dealloc_token heap (bytes_row (length bs + n)) (block_ptr b o)) in
      Lends-both 𝓛 few (fsep (cells (mem u8) bs b o) rest) (said few) (elements_shared u8 bs b o) l (Lends-said 𝓛 few tt l)
      (Lends-first 𝓛 (cells (mem u8) bs b o) rest (elements_shared u8 bs b o) l (Lends-bytes bs b o))
  Lends-cells heap null_ptr bs n = Lends-false 𝓛 (said ffalse) l
