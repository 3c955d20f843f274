-- Packets of GDB's remote serial protocol: `$`, a body, `#`, and the sum of the body's bytes modulo 256 as two hexadecimal
-- digits. Other bytes between packets, as acknowledgements and interrupts, are passed over.
use Rattle.std.specs.Prelude.{◌≡◌, ℕ, ◌+◌, ◌-◌, ◌%◌, ◌==◌, ◌||◌, Bool, true, false, nat_lt, if◌then◌else◌, List, [], ◌∷◌, ◌++◌, fold, All, Option, Some, None}
use Rattle.text_lines.specs.Numerals.{numeral}
use Rattle.hex.specs.Hex.{encode_lower}
use Rattle.gdb_packets.specs.declared.heard.Heard.{Heard}
use Rattle.gdb_packets.specs.declared.heard.Heard.TheVariants.{Body, Damaged, End}

-- no byte of the text has this value
abbrev pub IsWithout : ℕ → List ℕ → Type 0
IsWithout mark text = All (λ byte. (byte == mark) ≡ false) text

-- the sum of a body's bytes, in a byte
abbrev pub body_sum : List ℕ → ℕ
body_sum body = fold (λ total byte. (total + byte) % 256) 0 body

-- a packet of a body as it is sent: `#`, `$`, `*` and `}` are sent as `}` and the byte with bit 5 the other way round
abbrev pub is_marked : ℕ → Bool
is_marked byte = byte == 0x23 || (byte == 0x24 || (byte == 0x2A || byte == 0x7D))

abbrev pub with_bit_5_turned : ℕ → ℕ
with_bit_5_turned byte = if nat_lt (byte % 0x40) 0x20 then byte + 0x20 else byte - 0x20

unfoldable pub escaped : List ℕ → List ℕ
escaped [] = []
escaped (byte ∷ later) =
    if is_marked byte then 0x7D ∷ with_bit_5_turned byte ∷ escaped later else byte ∷ escaped later

unfoldable pub packet_of : List ℕ → List ℕ
packet_of body = 0x24 ∷ escaped body ++ (0x23 ∷ encode_lower (body_sum (escaped body) ∷ []))

-- the two bytes behind `#` write the body's sum, in digits of either case
abbrev pub is_sum : List ℕ → Option ℕ → Bool
is_sum body None = false
is_sum body (Some sum) = sum == body_sum body

abbrev pub heard_by : Bool → Heard
heard_by true = Body
heard_by false = Damaged

-- some bytes begin with a packet of this body, behind bytes that are passed over
pub record IsFirstPacket (bytes body : List ℕ) (high low : ℕ) (behind : List ℕ) : Type 0 where
  pub noise : List ℕ
  pub whole : bytes ≡ noise ++ (0x24 ∷ body ++ (0x23 ∷ high ∷ low ∷ behind))
  pub outside : IsWithout 0x24 noise
  pub inside : IsWithout 0x23 body

-- a packet was heard, or one whose digits don't write its sum
pub record IsPacketHeard (before after body : List ℕ) (heard : Heard) : Type 0 where
  pub high : ℕ
  pub low : ℕ
  pub first : IsFirstPacket before body high low after
  pub judged : heard ≡ heard_by (is_sum body (numeral 16 2 (high ∷ low ∷ [])))

-- none is whole in what was left
pub record IsEnd (before after : List ℕ) : Type 0 where
  pub none : (body behind : List ℕ) (high low : ℕ) → IsFirstPacket before body high low behind → ⊥
  pub all : after ≡ []

-- what was heard in the bytes that were left
abbrev pub IsHeard : List ℕ → List ℕ → List ℕ → Heard → Type 0
IsHeard before after body End = IsEnd before after
IsHeard before after body heard = IsPacketHeard before after body heard
