-- The bytes of a spelling: its opcode is one, and what follows its prefix bytes are some.
use Rattle.std.proofs.Common.{◌≡◌, ℕ, zero, suc, ◌<◌, List, [], ◌∷◌, ◌++◌, length, get_or, refl, sym, subst, arith}
use Rattle.std.proofs.Math.Seq.{drop-append_seam}
use Rattle.std.proofs.lemmas.List.Elements.{All-append, All-cons, All-drop}
use Rattle.x86_decode.specs.declared.instruction.Instr.{Instr}
use Rattle.x86_decode.specs.declared.reader.Map.{Map}
use Rattle.x86_decode.specs.declared.reader.Map.TheVariants.{OneByte, TwoByte}
use Rattle.x86_decode.specs.Spelling.{AreBytes, Parts, Spells, opcode_bytes}

code_byte : (where_from : Map) (opcode : ℕ) (operands : List ℕ) → AreBytes (opcode_bytes where_from opcode ++ operands) → opcode < 256
code_byte OneByte opcode operands bytes = bytes 0 0 (omega arith)
code_byte TwoByte opcode operands bytes = bytes 1 0 (omega arith)

pub opcode_byte : (instr : Instr) (bytes : List ℕ) (s : Spells instr bytes) → s.parts.opcode < 256
opcode_byte instr bytes s =
    let parts : Parts = s.parts in
    let code : List ℕ = opcode_bytes parts.map parts.opcode ++ parts.operands in
    let whole : AreBytes (parts.front ++ code) = subst AreBytes s.spelled s.are_bytes in
    code_byte parts.map parts.opcode parts.operands
    (subst AreBytes (drop-append_seam parts.front code) (All-drop (λ b. b < 256) (length parts.front) (parts.front ++ code) whole))

pub none_are : AreBytes []
none_are k d below = absurd (omega arith)

pub one_is : (byte : ℕ) → byte < 256 → AreBytes (byte ∷ [])
one_is byte small = All-cons (λ b. b < 256) byte [] small none_are

pub both_are : (bytes more : List ℕ) → AreBytes bytes → AreBytes more → AreBytes (bytes ++ more)
both_are bytes more some others = All-append (λ b. b < 256) bytes more some others

same_default : (bytes : List ℕ) (k d : ℕ) → k < length bytes → get_or bytes k d ≡ get_or bytes k 0
same_default [] k d below = absurd (omega arith)
same_default (byte ∷ bytes) zero d below = refl
same_default (byte ∷ bytes) (suc k) d below = same_default bytes k d (omega arith)

-- a slice of bytes has bytes alone
pub slice_are : (bytes : List ℕ) → ((k : ℕ) → get_or bytes k 0 < 256) → AreBytes bytes
slice_are bytes small k d below = subst (λ (n : ℕ). n < 256) (sym (same_default bytes k d below)) (small k)
