-- ModRM, SIB and displacement (SDM volume 2, 2.1.5, tables 2-2 and 2-3; with REX 2.2.1). A byte past the end reads
-- as 0, so each word has a value on a list that ends too early, and `modrm_of` says where that is.
use Rattle.std.specs.Prelude.{◌≡◌, ◌⊎◌, ◌≤◌, ◌<◌, ℕ, ◌+◌, ◌*◌, ◌/◌, ◌%◌, ◌^◌, ◌==◌, Bool, false, not, ◌&&◌, ◌||◌, if◌then◌else◌, nat_lt, Option, Some, None, List, length, drop, slice_index}
use Rattle.decode_fields.specs.declared.parts.ModRm.{ModRm}
use Rattle.decode_fields.specs.declared.place.Address.{Address}
use Rattle.decode_fields.specs.declared.place.Place.{Place}
use Rattle.decode_fields.specs.declared.place.Place.TheVariants.{Reg, Mem}
use Rattle.decode_fields.specs.Immediates.{signed_number}

-- the fields mod, reg and rm of a ModRM byte; scale, index and base of an SIB byte have the same places
abbrev pub mod_field : ℕ → ℕ
mod_field byte = byte / 64

abbrev pub reg_field : ℕ → ℕ
reg_field byte = byte / 8 % 8

abbrev pub rm_field : ℕ → ℕ
rm_field byte = byte % 8

-- a REX byte, or 0 for none
abbrev pub IsRex : ℕ → Type 0
IsRex rex = (rex ≡ 0) ⊎ ((0x40 ≤ rex) × (rex < 0x50))

-- the bits W, R, X and B of REX
abbrev pub rex_w : ℕ → ℕ
rex_w rex = rex / 8 % 2

abbrev pub rex_r : ℕ → ℕ
rex_r rex = rex / 4 % 2

abbrev pub rex_x : ℕ → ℕ
rex_x rex = rex / 2 % 2

abbrev pub rex_b : ℕ → ℕ
rex_b rex = rex % 2

-- the ModRM byte, and the SIB byte behind it
abbrev pub modrm_byte : List ℕ → ℕ
modrm_byte bytes = slice_index bytes 0

abbrev pub sib_byte : List ℕ → ℕ
sib_byte bytes = slice_index bytes 1

-- mod 3 names a register
abbrev pub is_register : ℕ → Bool
is_register modrm = mod_field modrm == 3

-- rm 4 of a memory form stands for an SIB byte
abbrev pub has_sib : ℕ → Bool
has_sib modrm = not (is_register modrm) && rm_field modrm == 4

-- mod 0 with rm 5 is relative to the next instruction
abbrev pub is_rip_relative : ℕ → Bool
is_rip_relative modrm = mod_field modrm == 0 && rm_field modrm == 5

-- mod 0 with base 5 in the SIB byte has no base
abbrev pub lacks_base : ℕ → ℕ → Bool
lacks_base modrm sib = has_sib modrm && mod_field modrm == 0 && rm_field sib == 5

-- the bytes of the displacement: one for mod 1, four for mod 2 and where mod 0 has no base, else none
abbrev pub displacement_size : ℕ → ℕ → ℕ
displacement_size modrm sib =
    if mod_field modrm == 1 then 1
    else if mod_field modrm == 2 || is_rip_relative modrm || lacks_base modrm sib then 4
    else 0

-- the bytes of ModRM and SIB
abbrev pub front_size : ℕ → ℕ
front_size modrm = if has_sib modrm then 2 else 1

-- the bytes of ModRM, SIB and displacement
unfoldable pub modrm_length : List ℕ → ℕ
modrm_length bytes = front_size (modrm_byte bytes) + displacement_size (modrm_byte bytes) (sib_byte bytes)

-- the displacement of this size behind ModRM and SIB, extended by its sign
abbrev pub displacement_from : ℕ → ℕ → List ℕ → ℕ
displacement_from front size bytes = if size == 0 then 0 else signed_number (8 * size) (drop front bytes)

-- the displacement that stands there
abbrev pub displacement : List ℕ → ℕ
displacement bytes = displacement_from (front_size (modrm_byte bytes)) (displacement_size (modrm_byte bytes) (sib_byte bytes)) bytes

-- the register that an SIB byte adds: index 4 stands for none
abbrev pub index_of : ℕ → ℕ → Option ℕ
index_of sib rex = let number = reg_field sib + 8 * rex_x rex in if number == 4 then None else Some number

-- an index is scaled by 1, 2, 4 or 8
abbrev pub scale_of : ℕ → ℕ → ℕ
scale_of sib rex = if reg_field sib + 8 * rex_x rex == 4 then 1 else 2 ^ mod_field sib

-- the place by an SIB byte: base, index and displacement
abbrev pub sib_address : ℕ → ℕ → ℕ → ℕ → Address
sib_address modrm sib rex disp = record {
  base = if lacks_base modrm sib then None else Some (rm_field sib + 8 * rex_b rex);
  index = index_of sib rex;
  scale = scale_of sib rex;
  disp = disp;
  rip = false;
}

-- the place by rm alone: a register, or the next instruction, and displacement
abbrev pub plain_address : ℕ → ℕ → ℕ → Address
plain_address modrm rex disp = record {
  base = if is_rip_relative modrm then None else Some (rm_field modrm + 8 * rex_b rex);
  index = None;
  scale = 1;
  disp = disp;
  rip = is_rip_relative modrm;
}

-- the register or the place in memory by these fields
abbrev pub place_by : ℕ → ℕ → ℕ → ℕ → Place
place_by modrm sib rex disp =
    if is_register modrm then Reg (rm_field modrm + 8 * rex_b rex)
    else Mem (if has_sib modrm then sib_address modrm sib rex disp else plain_address modrm rex disp)

-- the place that ModRM names, with REX
unfoldable pub place_of : List ℕ → ℕ → Place
place_of bytes rex = place_by (modrm_byte bytes) (sib_byte bytes) rex (displacement bytes)

-- the register that reg names, with REX
abbrev pub reg_by : ℕ → ℕ → ℕ
reg_by modrm rex = reg_field modrm + 8 * rex_r rex

abbrev pub reg_of : List ℕ → ℕ → ℕ
reg_of bytes rex = reg_by (modrm_byte bytes) rex

-- the fields of ModRM, unless the bytes end before the last that is needed
abbrev pub modrm_of : List ℕ → ℕ → Option ModRm
modrm_of bytes rex =
    if nat_lt (length bytes) (modrm_length bytes) then None
    else Some (record { reg = reg_of bytes rex; place = place_of bytes rex; length = modrm_length bytes })

abbrev byte_count : List ℕ → ℕ
byte_count bytes = length bytes

-- these are the fields of ModRM, and all its bytes are there
pub record IsModRm (modrm : ModRm) (bytes : List ℕ) (rex : ℕ) : Type 0 where
  pub reg : modrm.reg ≡ reg_of bytes rex
  pub place : modrm.place ≡ place_of bytes rex
  pub length : modrm.length ≡ modrm_length bytes
  pub there : modrm_length bytes ≤ byte_count bytes
