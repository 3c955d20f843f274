-- The ports of the machine, each one byte wide. The state is the list of the input's bytes that are still to be taken.
use Rattle.std.specs.Prelude.{ℕ, ◌==◌, if◌then◌else◌, List, [], ◌∷◌, Option, Some, None, length}

-- the next byte of the input, 0 at its end
abbrev pub next_byte : List ℕ → ℕ
next_byte [] = 0
next_byte (byte ∷ rest) = byte

-- 1 while a byte is left, and then 0
abbrev pub ready_byte : List ℕ → ℕ
ready_byte input = if length input == 0 then 0 else 1

abbrev pub rest_of : List ℕ → List ℕ
rest_of [] = []
rest_of (byte ∷ rest) = rest

-- what IN gives: port 0xEA is the input, port 0xEB tells whether a byte of it is left, and no device is at another port
unfoldable pub port_byte : List ℕ → ℕ → ℕ
port_byte input port = if port == 0xEA then next_byte input else if port == 0xEB then ready_byte input else 0xFF

-- what IN leaves of the input
unfoldable pub input_after : List ℕ → ℕ → List ℕ
input_after input port = if port == 0xEA then rest_of input else input

-- what OUT tells the console: port 0xE9 takes the byte, and no other port does
unfoldable pub console_byte : ℕ → ℕ → Option ℕ
console_byte port byte = if port == 0xE9 then Some byte else None
