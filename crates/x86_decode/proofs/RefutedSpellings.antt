-- What spells no instruction, and what decodes no bytes, each named by the sentence that it guards.
use Rattle.std.proofs.Common.{◌≡◌, ◌≢◌, ℕ, ◌<◌, ◌++◌, false, List, [], ◌∷◌, length, sym, ◌∙◌, arith}
use Rattle.std.specs.Prelude.{take}
use Rattle.std.specs.List.{Contains, list_all}
use Rattle.std.proofs.lemmas.Bool.{false≢true}
use Rattle.std.proofs.lemmas.List.Elements.{All-head}
use Rattle.decode_fields.specs.Prefixes.{is_prefix, prefixes_of}
use Rattle.x86_decode.specs.declared.instruction.Instr.{Instr}
use Rattle.x86_decode.specs.Decoding.{IsFront, IsUnknown}
use Rattle.x86_decode.specs.Meaning.{instr_of, operand_length, row_stands}
use Rattle.x86_decode.specs.OpcodeTable.{rows_at}
use Rattle.x86_decode.specs.Spelling.{Fit, IsCutOff, IsLawful, Parts, Spells, bytes_of}

-- parts of which one doesn't fit: no prefix in front, a row of another opcode, one that asks for something else, and a byte
-- too many
module _ (parts : Parts) (it : Fit parts) where
  no_prefix : list_all is_prefix parts.front ≡ false → ⊥
  no_prefix none = false≢true (sym none ∙ it.prefixes)

  unlisted_row : (Contains (rows_at parts.map parts.opcode) parts.row → ⊥) → ⊥
  unlisted_row none = none it.listed

  row_for_others : row_stands parts.row (prefixes_of parts.front) parts.operands ≡ false → ⊥
  row_for_others none = false≢true (sym none ∙ it.stands)

  longer_operands : operand_length parts.row.shape (prefixes_of parts.front) parts.operands < length parts.operands → ⊥
  longer_operands more = let whole = it.whole in omega (arith, more, whole)

module _ (instr : Instr) (bytes : List ℕ) where
  -- bytes of other parts, and another instruction than theirs
  other_bytes : ((parts : Parts) → Fit parts → bytes ≢ bytes_of parts) → Spells instr bytes → ⊥
  other_bytes none it = none it.parts it.fit it.spelled

  other_meaning : ((parts : Parts) → bytes ≡ bytes_of parts
      → instr ≢ instr_of parts.row.op parts.row.shape (prefixes_of parts.front) parts.opcode parts.operands) → Spells instr bytes → ⊥
  other_meaning none it = none it.parts it.spelled it.meaning

  -- sixteen bytes, whatever they spell
  sixteen_bytes : length bytes ≡ 16 → IsLawful instr bytes → ⊥
  sixteen_bytes is it = let few = it.few in omega (arith, is, few)

  -- an instruction of more bytes than there are, or of a part of its bytes
  beyond_the_end : (size : ℕ) → length bytes < size → IsFront instr bytes size → ⊥
  beyond_the_end size past it = let within = it.within in omega (arith, past, within)

  unlawful_front : (size : ℕ) → (IsLawful instr (take size bytes) → ⊥) → IsFront instr bytes size → ⊥
  unlawful_front size none it = none it.lawful

  -- bytes that have a lawful spelling in front, or begin one, aren't unknown
  known : (size : ℕ) → IsFront instr bytes size → IsUnknown bytes → ⊥
  known size front it = it.no_front instr size front

begun : (bytes : List ℕ) → IsCutOff bytes → IsUnknown bytes → ⊥
begun bytes cut it = it.no_cut cut

-- a number past 255 is no byte
no_byte : (instr : Instr) (rest : List ℕ) → Spells instr (256 ∷ rest) → ⊥
no_byte instr rest it =
    let small : 256 < 256 = All-head (λ byte. byte < 256) 256 rest it.are_bytes in omega (arith, small)

-- bytes that spell another instruction, and no more bytes than there are
unspelled : (instr : Instr) (bytes : List ℕ) → (Spells instr bytes → ⊥) → IsLawful instr bytes → ⊥
unspelled instr bytes none it = none it.spells

nothing_more : (bytes : List ℕ) → ((more : List ℕ) → more ≢ [] → (instr : Instr) → Spells instr (bytes ++ more) → ⊥)
    → IsCutOff bytes → ⊥
nothing_more bytes none it = none it.more it.some it.instr it.spells
