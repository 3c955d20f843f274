-- What the bytes of the instruction at a gate point decode to, as it is computed and by the relation of bytes and
-- instructions.
use Rattle.std.proofs.Common.{◌≡◌, ℕ, ◌+◌, ◌<◌, true, sym, subst, arith}
use Rattle.std.proofs.lemmas.List.Elements.{All-from_get_or}
use Rattle.x86_decode.specs.declared.instruction.Decoded.{Decoded}
use Rattle.x86_decode.specs.Decoding.{Decodes}
use Rattle.x86_decode.specs.Reader.{decoded_of}
use Rattle.x86_decode.specs.Spelling.{AreBytes}
use Rattle.gate_text.specs.GatePoints.{instruction_bytes, is_point}
use Rattle.gate_state.proofs.LowerLaws.{LowerLaws}
use Rattle.gate_state.proofs.GateTextPoints.{point_few, point_within}

module _ (laws : LowerLaws) (offset : ℕ) (point : is_point offset ≡ true) where
  point_bytes : AreBytes (instruction_bytes offset)
  point_bytes =
      let few = point_few offset point in
      let inside = point_within offset point in
      All-from_get_or (λ (byte : ℕ). byte < 256) (instruction_bytes offset) 0 (λ k below.
      subst (λ (byte : ℕ). byte < 256) (laws.listing.instructions offset k point below)
      (laws.listing.bytes (offset + k) (omega (arith, few, inside, below))))

  pub listed_right : (answer : Decoded) → decoded_of (instruction_bytes offset) ≡ answer → Decodes (instruction_bytes offset) answer
  listed_right answer is =
      subst (Decodes (instruction_bytes offset)) is (laws.decoding.right (instruction_bytes offset) point_bytes (point_few offset point))

  pub listed_only : (answer : Decoded) → Decodes (instruction_bytes offset) answer → decoded_of (instruction_bytes offset) ≡ answer
  listed_only answer is =
      sym (laws.decoding.only (instruction_bytes offset) answer point_bytes (point_few offset point) is)
