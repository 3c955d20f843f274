-- The status flags in a flags word.
use Rattle.std.specs.Prelude.{ℕ, ◌+◌, ◌*◌, ◌/◌, ◌%◌, ◌^◌, Bool, ◌==◌, count_ones}
use Rattle.x86_alu.specs.SignedNumbers.{sign, one_if}

-- the places of the status flags (SDM volume 1, figure 3-8)
abbrev pub carry_flag : ℕ
carry_flag = 0

abbrev pub parity_flag : ℕ
parity_flag = 2

abbrev pub auxiliary_carry_flag : ℕ
auxiliary_carry_flag = 4

abbrev pub zero_flag : ℕ
zero_flag = 6

abbrev pub sign_flag : ℕ
sign_flag = 7

abbrev pub overflow_flag : ℕ
overflow_flag = 11

-- the flags with bit k as told, and every other bit kept
unfoldable pub with_flag : ℕ → Bool → ℕ → ℕ
with_flag k set flags = flags / 2 ^ (k + 1) * 2 ^ (k + 1) + one_if set * 2 ^ k + flags % 2 ^ k

-- the low byte has an even number of ones
abbrev pub even_parity : ℕ → Bool
even_parity n = count_ones (n % 256) % 2 == 0

-- ZF, SF and PF follow a result of w bits
abbrev pub result_flags : ℕ → ℕ → ℕ → ℕ
result_flags w value flags =
    with_flag zero_flag (value == 0)
    (with_flag sign_flag (sign w value) (with_flag parity_flag (even_parity value) flags))
