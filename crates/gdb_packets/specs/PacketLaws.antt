-- What follows of packets, and of what is heard of one that was put.
use Rattle.std.specs.Prelude.{◌≡◌, ℕ, true, List, [], ◌∷◌, ◌++◌}
use Rattle.text_lines.specs.Numerals.{numeral}
use Rattle.gdb_packets.specs.declared.heard.Heard.{Heard}
use Rattle.gdb_packets.specs.declared.heard.Heard.TheVariants.{Body}
use Rattle.gdb_packets.specs.Packets.{IsFirstPacket, IsHeard, IsWithout, escaped, is_sum, packet_of}

-- a packet with bytes behind it begins with that of the body as it is sent, and with its sum
pub record IsSentPacket (body later : List ℕ) : Type 0 where
  pub high : ℕ
  pub low : ℕ
  pub first : IsFirstPacket (packet_of body ++ later) (escaped body) high low later
  pub good : is_sum (escaped body) (numeral 16 2 (high ∷ low ∷ [])) ≡ true

-- two first packets of the same bytes are one
pub record AreOnePacket (body other : List ℕ) (high low other_high other_low : ℕ) (behind other_behind : List ℕ) : Type 0 where
  pub bodies : body ≡ other
  pub highs : high ≡ other_high
  pub lows : low ≡ other_low
  pub behinds : behind ≡ other_behind

-- the body was heard as it is sent, and what is behind the packet is left
pub record IsHeardBack (body later after found : List ℕ) (heard : Heard) : Type 0 where
  pub whole : heard ≡ Body
  pub same : found ≡ escaped body
  pub rest : after ≡ later

pub record PacketLaws : Type 0 where
  pub no_end : (body : List ℕ) → IsWithout 0x23 (escaped body)
  pub no_start : (body : List ℕ) → IsWithout 0x24 (escaped body)
  pub sent : (body later : List ℕ) → IsSentPacket body later
  pub once : (bytes body other : List ℕ) (high low other_high other_low : ℕ) (behind other_behind : List ℕ)
      → IsFirstPacket bytes body high low behind → IsFirstPacket bytes other other_high other_low other_behind
      → AreOnePacket body other high low other_high other_low behind other_behind
  pub heard : (noise body later after found : List ℕ) (heard : Heard) → IsWithout 0x24 noise
      → IsHeard (noise ++ (packet_of body ++ later)) after found heard → IsHeardBack body later after found heard
