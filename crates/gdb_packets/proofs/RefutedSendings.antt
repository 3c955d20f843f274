-- What the law on packets refuses: each of its parts, by what it rules out of any body.
use Rattle.std.proofs.Common.{◌≡◌, ℕ, ◌<◌, ◌==◌, false, List, [], ◌++◌, slice_index, codes, sym, ap, subst, arith, true≢false}
use Rattle.gdb_packets.specs.declared.heard.Heard.TheVariants.{Body, Damaged, End}
use Rattle.gdb_packets.specs.PacketLaws.{PacketLaws}
use Rattle.gdb_packets.specs.Packets.{IsFirstPacket, IsHeard, IsWithout, escaped, packet_of}
use Rattle.gdb_packets.proofs.RefutedPackets.{is_body}

module _ (laws : PacketLaws) where
  -- a body that is sent with a byte that would end its packet, and with one that would begin another
  ended_within : (body : List ℕ) → escaped body ≡ codes "a#b" → ⊥
  ended_within body is =
      let inside : 1 < 3 = omega arith in
      let differs : (0x23 == 0x23) ≡ false = subst (IsWithout 0x23) is (laws.no_end body) 1 0 inside in true≢false differs

  begun_within : (body : List ℕ) → escaped body ≡ codes "a$b" → ⊥
  begun_within body is =
      let inside : 1 < 3 = omega arith in
      let differs : (0x24 == 0x24) ≡ false = subst (IsWithout 0x24) is (laws.no_start body) 1 0 inside in true≢false differs

  -- the end, where a packet was put
  ended_before : (body later found : List ℕ) → IsHeard (packet_of body ++ later) [] found End → ⊥
  ended_before body later found it =
      let whole = laws.sent body later in it.none (escaped body) later whole.high whole.low whole.first

  -- two bodies of one first packet
  two_bodies : (bytes behind other_behind : List ℕ) (high low other_high other_low : ℕ)
      → IsFirstPacket bytes (codes "a") high low behind → IsFirstPacket bytes (codes "b") other_high other_low other_behind → ⊥
  two_bodies bytes behind other_behind high low other_high other_low one two =
      let same : codes "a" ≡ codes "b" =
      (laws.once bytes (codes "a") (codes "b") high low other_high other_low behind other_behind one two).bodies in
      let first : 0x61 ≡ 0x62 = ap (λ (l : List ℕ). slice_index l 0) same in omega (arith, first)

  -- a packet that was put and is heard as damaged, whatever is passed over before it
  put_and_damaged : (noise body later after found : List ℕ) → IsWithout 0x24 noise
      → IsHeard (noise ++ (packet_of body ++ later)) after found Damaged → ⊥
  put_and_damaged noise body later after found lacks it =
      let same : Damaged ≡ Body = (laws.heard noise body later after found Damaged lacks it).whole in
      true≢false (sym (ap is_body same))
