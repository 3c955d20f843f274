-- What each port gives and tells at worked values, and at every port that has no device.
use Rattle.std.proofs.Common.{◌≡◌, ◌≢◌, ℕ, List, [], ◌∷◌, None, Some, ne_eqb, refl}
use Rattle.port_bus.specs.PortWords.{console_byte, input_after, port_byte}

-- the console takes a byte at its port
told : (console_byte 0xE9 0x41 ≡ Some 0x41) × (console_byte 0xE9 0 ≡ Some 0) × (console_byte 0xE9 255 ≡ Some 255)
unfolding console_byte
told = (refl, refl, refl)

-- and at no other: neither beside it, nor at the input's ports, at a serial line, or at a firmware's console
untold :
    (console_byte 0xE8 0x41 ≡ None) ×
    (console_byte 0xEA 0x41 ≡ None) ×
    (console_byte 0xEB 0x41 ≡ None) ×
    (console_byte 0 0x41 ≡ None) ×
    (console_byte 0x1E9 0x41 ≡ None) ×
    (console_byte 0x3F8 0x41 ≡ None) ×
    (console_byte 0x402 0x41 ≡ None) ×
    (console_byte 0xFFFF 0x41 ≡ None)
unfolding console_byte
untold = (refl, refl, refl, refl, refl, refl, refl, refl)

silent : (port byte : ℕ) → port ≢ 0xE9 → console_byte port byte ≡ None
unfolding console_byte
silent port byte other = rw (ne_eqb port 0xE9 other) refl

-- the input gives its bytes one by one, and 0 at its end
given :
    (port_byte (7 ∷ 8 ∷ []) 0xEA ≡ 7) ×
    (input_after (7 ∷ 8 ∷ []) 0xEA ≡ 8 ∷ []) ×
    (port_byte [] 0xEA ≡ 0) ×
    (input_after [] 0xEA ≡ [])
unfolding port_byte input_after
given = (refl, refl, refl, refl)

-- whether a byte is left is told without taking it
left :
    (port_byte (0 ∷ []) 0xEB ≡ 1) ×
    (input_after (0 ∷ []) 0xEB ≡ 0 ∷ []) ×
    (port_byte [] 0xEB ≡ 0)
unfolding port_byte input_after
left = (refl, refl, refl)

-- any other port gives FF, and leaves the input
absent : (input : List ℕ) (port : ℕ) → port ≢ 0xEA → port ≢ 0xEB
    → (port_byte input port ≡ 0xFF) × (input_after input port ≡ input)
unfolding port_byte input_after
absent input port other another = (
  rw (ne_eqb port 0xEA other, ne_eqb port 0xEB another) refl,
  rw (ne_eqb port 0xEA other) refl,
)
