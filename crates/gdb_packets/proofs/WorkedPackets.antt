-- Packets at worked values: what is sent, and what is heard.
use Rattle.std.proofs.Common.{◌≡◌, ℕ, ◌+◌, ◌%◌, ◌<◌, ◌==◌, false, List, [], ◌∷◌, ◌++◌, length, fold, codes, refl, ap, ◌∙◌, arith}
use Rattle.std.proofs.Math.Nat.{mod-lt}
use Rattle.std.proofs.lemmas.List.Elements.{All-cons, All-nil}
use Rattle.text_lines.specs.Numerals.{numeral}
use Rattle.hex.specs.Hex.{encode_with}
use Rattle.gdb_packets.specs.declared.heard.Heard.TheVariants.{Body, Damaged, End}
use Rattle.gdb_packets.proofs.Hearings.{cut_once}
use Rattle.gdb_packets.specs.Packets.{IsHeard, IsWithout, escaped, heard_by, is_sum, packet_of, body_sum, with_bit_5_turned}

-- sums as another program has them, and one that is more than a byte
sums_worked :
    (body_sum [] ≡ 0) ×
    (body_sum (codes "OK") ≡ 0x9A) ×
    (body_sum (codes "S05") ≡ 0xB8) ×
    (body_sum (0xFF ∷ 0x02 ∷ []) ≡ 0x01)
sums_worked = (refl, refl, refl, refl)

-- a sum is that by recursion from the end, which is a byte at each step
abbrev from_end : List ℕ → ℕ
from_end [] = 0
from_end (byte ∷ later) = (byte + from_end later) % 256

from_end_small : (body : List ℕ) → from_end body < 256
from_end_small [] = omega arith
from_end_small (byte ∷ later) = let some : 0 < 256 = omega arith in mod-lt (byte + from_end later) some

summed_on : (total : ℕ) (body : List ℕ) → total < 256
    → fold (λ total byte. (total + byte) % 256) total body ≡ (total + from_end body) % 256
summed_on total [] below = omega (arith, below)
summed_on total (byte ∷ later) below =
    let some : 0 < 256 = omega arith in
    let rest = summed_on ((total + byte) % 256) later (mod-lt (total + byte) some) in
    let same : ((total + byte) % 256 + from_end later) % 256 ≡ (total + (byte + from_end later) % 256) % 256 = omega arith in
    rest ∙ same

sum_is_from_end : (body : List ℕ) → body_sum body ≡ from_end body
sum_is_from_end body =
    let none : 0 < 256 = omega arith in
    let small = from_end_small body in
    let cut : (0 + from_end body) % 256 ≡ from_end body = omega (arith, small) in
    summed_on 0 body none ∙ cut

packets_worked :
    (packet_of [] ≡ codes "$#00") ×
    (packet_of (codes "OK") ≡ codes "$OK#9a") ×
    (packet_of (codes "S05") ≡ codes "$S05#b8") ×
    (packet_of (codes "m0,4") ≡ codes "$m0,4#fd")
unfolding packet_of escaped encode_with
packets_worked = (refl, refl, refl, refl)

-- four bytes are sent as two, and no others are; the sum is that of what is sent
marks_worked :
    (escaped (codes "#$}*") ≡ 0x7D ∷ 0x03 ∷ 0x7D ∷ 0x04 ∷ 0x7D ∷ 0x5D ∷ 0x7D ∷ 0x0A ∷ []) ×
    (escaped (codes "\"%)+|~") ≡ codes "\"%)+|~") ×
    (escaped (0x00 ∷ 0x03 ∷ 0xA3 ∷ 0xFF ∷ []) ≡ 0x00 ∷ 0x03 ∷ 0xA3 ∷ 0xFF ∷ []) ×
    (packet_of (codes "#") ≡ 0x24 ∷ 0x7D ∷ 0x03 ∷ codes "#80")
unfolding packet_of escaped encode_with
marks_worked = (refl, refl, refl, refl)

-- bit 5 is turned, and no other
bits_worked :
    (with_bit_5_turned 0x00 ≡ 0x20) ×
    (with_bit_5_turned 0x20 ≡ 0x00) ×
    (with_bit_5_turned 0x5D ≡ 0x7D) ×
    (with_bit_5_turned 0xDF ≡ 0xFF) ×
    (with_bit_5_turned 0xFF ≡ 0xDF)
bits_worked = (refl, refl, refl, refl, refl)

-- digits of either case write a sum; another sum, one digit, none, and what is no digit do not
judged_worked :
    (heard_by (is_sum (codes "OK") (numeral 16 2 (codes "9a"))) ≡ Body) ×
    (heard_by (is_sum (codes "OK") (numeral 16 2 (codes "9A"))) ≡ Body) ×
    (heard_by (is_sum [] (numeral 16 2 (codes "00"))) ≡ Body) ×
    (heard_by (is_sum (codes "OK") (numeral 16 2 (codes "9b"))) ≡ Damaged) ×
    (heard_by (is_sum (codes "OK") (numeral 16 2 (codes "a9"))) ≡ Damaged) ×
    (heard_by (is_sum [] (numeral 16 2 (codes "zz"))) ≡ Damaged) ×
    (heard_by (is_sum [] (numeral 16 2 (codes "0 "))) ≡ Damaged)
judged_worked = (refl, refl, refl, refl, refl, refl, refl)

-- no byte of a text is this one
pub lacks_one : (mark byte : ℕ) → (byte == mark) ≡ false → IsWithout mark (byte ∷ [])
lacks_one mark byte other =
    All-cons (λ c. (c == mark) ≡ false) byte [] other (All-nil (λ c. (c == mark) ≡ false))

pub lacks_two : (mark first second : ℕ) → (first == mark) ≡ false → (second == mark) ≡ false
    → IsWithout mark (first ∷ second ∷ [])
lacks_two mark first second one two =
    All-cons (λ c. (c == mark) ≡ false) first (second ∷ []) one (lacks_one mark second two)

-- an acknowledgement is passed over, and what is behind a packet is left
heard_whole : IsHeard (codes "+$OK#9a+") (codes "+") (codes "OK") Body
heard_whole = record {
  high = 0x39;
  low = 0x61;
  first = record {
    noise = codes "+";
    whole = refl;
    outside = lacks_one 0x24 0x2B refl;
    inside = lacks_two 0x23 0x4F 0x4B refl refl;
  };
  judged = refl;
}

-- `$` within a body is one of its bytes
heard_inside : IsHeard (codes "$O$#73") [] (codes "O$") Body
heard_inside = record {
  high = 0x37;
  low = 0x33;
  first = record {
    noise = [];
    whole = refl;
    outside = All-nil (λ c. (c == 0x24) ≡ false);
    inside = lacks_two 0x23 0x4F 0x24 refl refl;
  };
  judged = refl;
}

-- a packet whose sum is another one is handed over as damaged
heard_damaged : IsHeard (codes "$OK#9b") [] (codes "OK") Damaged
heard_damaged = record {
  high = 0x39;
  low = 0x62;
  first = record {
    noise = [];
    whole = refl;
    outside = All-nil (λ c. (c == 0x24) ≡ false);
    inside = lacks_two 0x23 0x4F 0x4B refl refl;
  };
  judged = refl;
}

-- one digit is too few for a packet, and the source ends
heard_end : IsHeard (codes "+$OK#9") [] [] End
heard_end = record {
  none = λ body behind high low first.
      let inner = (cut_once 0x24 (codes "+") first.noise (codes "OK#9") (body ++ (0x23 ∷ high ∷ low ∷ behind))
      (lacks_one 0x24 0x2B refl) first.outside first.whole).1 in
      let few = (cut_once 0x23 (codes "OK") body (codes "9") (high ∷ low ∷ behind) (lacks_two 0x23 0x4F 0x4B refl refl)
      first.inside inner).1 in
      let count : 1 ≡ length (high ∷ low ∷ behind) = ap length few in
      omega (arith, count);
  all = refl;
}
