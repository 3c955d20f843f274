-- The widths of operands (SDM volume 1, 4.1).
use Rattle.std.specs.Prelude.{◌≡◌, ◌⊎◌, ℕ}

-- a byte, a word, a doubleword or a quadword, in bits
abbrev pub IsWidth : ℕ → Type 0
IsWidth width = (width ≡ 8) ⊎ ((width ≡ 16) ⊎ ((width ≡ 32) ⊎ (width ≡ 64)))
