-- What the laws of packets give, each part by itself.
use Rattle.std.proofs.Common.{◌≡◌, ℕ, List, ◌++◌, sym}
use Rattle.gdb_packets.specs.declared.heard.Heard.{Heard}
use Rattle.gdb_packets.specs.declared.heard.Heard.TheVariants.{Body}
use Rattle.gdb_packets.specs.PacketLaws.{PacketLaws}
use Rattle.gdb_packets.specs.Packets.{IsFirstPacket, IsHeard, IsWithout, escaped, packet_of}

module _ (laws : PacketLaws) where
  -- a body is sent without a byte that would end its packet, and without one that would begin another
  pub ends_nowhere : (body : List ℕ) → IsWithout 0x23 (escaped body)
  ends_nowhere body = laws.no_end body

  pub begins_nowhere : (body : List ℕ) → IsWithout 0x24 (escaped body)
  begins_nowhere body = laws.no_start body

  -- the first packet of bytes that begin with one is that one
  pub first_is_sent : (body later other behind : List ℕ) (high low : ℕ)
      → IsFirstPacket (packet_of body ++ later) other high low behind → other ≡ escaped body
  first_is_sent body later other behind high low first =
      let sent = laws.sent body later in
      sym (laws.once (packet_of body ++ later) (escaped body) other sent.high sent.low high low later behind sent.first first).bodies

  -- what is heard where a packet was put is a body, and that one
  pub heard_is_body : (noise body later after found : List ℕ) (heard : Heard) → IsWithout 0x24 noise
      → IsHeard (noise ++ (packet_of body ++ later)) after found heard → heard ≡ Body
  heard_is_body noise body later after found heard without is = (laws.heard noise body later after found heard without is).whole
