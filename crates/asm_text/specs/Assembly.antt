-- The bytes of a spelling, put together from its parts.
use Rattle.std.specs.Prelude.{ℕ, ◌/◌, ◌%◌, Bool, true, false, Option, Some, None, List, [], ◌∷◌, ◌++◌, zero, suc}
use Rattle.decode_fields.specs.declared.parts.Rep.{Rep}
use Rattle.decode_fields.specs.declared.parts.Rep.TheVariants.{No, WhileEqual, WhileNot}
use Rattle.decode_fields.specs.ModRm.{displacement_size, has_sib}
use Rattle.x86_decode.specs.declared.shape.RowLayout.{RowLayout}
use Rattle.x86_decode.specs.declared.shape.RowLayout.TheVariants.{Plain, AnyForm, Memory, Register, Ignored}

-- a byte, where it stands
abbrev pub byte_if : Bool → ℕ → List ℕ
byte_if true byte = byte ∷ []
byte_if false byte = []

abbrev pub rep_bytes : Rep → List ℕ
rep_bytes No = []
rep_bytes WhileEqual = 0xF3 ∷ []
rep_bytes WhileNot = 0xF2 ∷ []

abbrev pub rex_bytes : Option ℕ → List ℕ
rex_bytes None = []
rex_bytes (Some rex) = rex ∷ []

-- prefix bytes that say so much and no more, in ascending order but for REX, which has to be the last
abbrev pub front_of : Bool → Bool → Rep → Option ℕ → List ℕ
front_of narrow lock rep rex = byte_if narrow 0x66 ++ (byte_if lock 0xF0 ++ (rep_bytes rep ++ rex_bytes rex))

-- this many bytes of a number, the least first
abbrev pub number_bytes_of : ℕ → ℕ → List ℕ
number_bytes_of zero number = []
number_bytes_of (suc size) number = (number % 256) ∷ number_bytes_of size (number / 256)

-- ModRM, SIB where ModRM asks for it, and as much of the displacement as they ask for
abbrev pub place_bytes : ℕ → ℕ → ℕ → List ℕ
place_bytes modrm sib disp =
    modrm ∷ (byte_if (has_sib modrm) sib ++ number_bytes_of (displacement_size modrm sib) disp)

-- what stands between an opcode and the row's number, by the layout of the row
abbrev pub operand_bytes : RowLayout → ℕ → ℕ → ℕ → List ℕ
operand_bytes Plain modrm sib disp = []
operand_bytes AnyForm modrm sib disp = place_bytes modrm sib disp
operand_bytes Memory modrm sib disp = place_bytes modrm sib disp
operand_bytes Register modrm sib disp = place_bytes modrm sib disp
operand_bytes Ignored modrm sib disp = modrm ∷ []
