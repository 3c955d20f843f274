-- AND, OR and XOR of two numbers of w bits.
use Rattle.std.specs.Prelude.{ℕ, false, bit_and, bit_or, bit_xor}
use Rattle.x86_alu.specs.declared.choices.Logic.{Logic}
use Rattle.x86_alu.specs.declared.choices.Logic.TheVariants.{And, Or, Xor}
use Rattle.x86_alu.specs.Flags.{carry_flag, overflow_flag, result_flags, with_flag}

-- the bits of both, of either, or of exactly one
abbrev pub combined : Logic → ℕ → ℕ → ℕ
combined And a b = bit_and a b
combined Or a b = bit_or a b
combined Xor a b = bit_xor a b

-- CF and OF become 0, and the flags of the result follow it
abbrev pub logic_flags : ℕ → ℕ → ℕ → ℕ
logic_flags w value flags =
    with_flag carry_flag false (with_flag overflow_flag false (result_flags w value flags))
