-- The kinds of frames: which rights a leaf may grant to a frame of a kind, and the tests beside them.
use Rattle.std.specs.Prelude.{ℕ, Bool, true, false, not, ◌&&◌, ◌||◌, List, slice_index_or}
use Rattle.nk_bits.specs.declared.leaf.Rights.{Rights}
use Rattle.nk_bits.specs.declared.kind.Kind.{Kind}
use Rattle.nk_bits.specs.declared.kind.Kind.TheVariants.{Data, Table, Trap, Guarded, Hidden}

-- the kind of frame f in a list of kinds by frame; Hidden past the end, so that no leaf may name a frame outside memory
abbrev pub kind_of : List Kind → ℕ → Kind
kind_of kinds f = slice_index_or kinds f Hidden

-- the level of a table, 0 for every other kind
abbrev pub level_of : Kind → ℕ
level_of (Table level) = level
level_of _ = 0

-- the frame is data of the outer kernel, or free
abbrev pub is_data : Kind → Bool
is_data Data = true
is_data _ = false

-- a writable leaf may name a frame of this kind: Data or Trap
abbrev pub is_storable : Kind → Bool
is_storable Data = true
is_storable Trap = true
is_storable _ = false

-- the frame holds bytes of protected regions
abbrev pub is_guarded : Kind → Bool
is_guarded Guarded = true
is_guarded _ = false

-- no leaf may name a frame of this kind
abbrev pub is_hidden : Kind → Bool
is_hidden Hidden = true
is_hidden _ = false

-- a leaf outside the kernel slot may name a frame of this kind with these rights
abbrev pub allows : Kind → Rights → Bool
allows Data r = r.user || not r.exec
allows Trap r = not r.user && not r.exec
allows Hidden r = false
allows _ r = not r.can_write && not r.user && not r.exec
