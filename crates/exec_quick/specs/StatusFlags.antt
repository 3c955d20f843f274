-- A flags word whose status flags are told one by one, and the word that the parts of one stand for.
use Rattle.std.specs.Prelude.{ℕ, Bool, ◌==◌}
use Rattle.x86_alu.specs.SignedNumbers.{bit}
use Rattle.x86_alu.specs.Flags.{auxiliary_carry_flag, carry_flag, even_parity, overflow_flag, parity_flag, sign_flag, with_flag, zero_flag}
use Rattle.exec_quick.specs.declared.flags.parts.Parts.{Parts}

-- this word, with each of its six status flags as told
unfoldable pub packed : ℕ → Bool → Bool → Bool → Bool → Bool → Bool → ℕ
packed word carry auxiliary overflow zero sign parity =
    with_flag carry_flag carry
    (with_flag auxiliary_carry_flag auxiliary
    (with_flag overflow_flag overflow
    (with_flag zero_flag zero (with_flag sign_flag sign (with_flag parity_flag parity word)))))

-- CF is told; AF is bit 4 of a number, OF and SF are the highest bits of numbers of 64 bits, ZF is set where a number is 0,
-- and PF is the parity of a low byte
unfoldable pub flags_word : Parts → ℕ
flags_word parts =
    packed parts.rest parts.carry (bit parts.auxiliary 4) (bit parts.overflow 63)
    (parts.zero == 0) (bit parts.sign 63) (even_parity parts.parity)
