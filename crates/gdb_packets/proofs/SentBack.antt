-- A packet that was put is heard again.
use Rattle.std.proofs.Common.{◌≡◌, ℕ, ◌+◌, ◌%◌, ◌/◌, ◌<◌, ◌==◌, ◌||◌, Bool, true, false, if◌then◌else◌, List, [], ◌∷◌, ◌++◌, slice_index, slice_index_or, drop, fold, Option, Some, None, inl, inr, refl, sym, ap, ap₂, subst, ◌∙◌, arith, append_assoc}
use Rattle.std.proofs.Math.Nat.{mod-lt}
use Rattle.std.proofs.lemmas.Bool.{agree_below_at, eqb-true, or_cases, or_parts}
use Rattle.std.proofs.lemmas.List.Elements.{All-cons, All-nil}
use Rattle.hex.specs.Hex.{encode_with, lower_digits}
use Rattle.text_lines.specs.Numerals.{numeral}
use Rattle.gdb_packets.specs.declared.heard.Heard.{Heard}
use Rattle.gdb_packets.specs.declared.heard.Heard.TheVariants.{Body, Damaged, End}
use Rattle.gdb_packets.specs.PacketLaws.{AreOnePacket, IsHeardBack, IsSentPacket}
use Rattle.gdb_packets.specs.Packets.{IsFirstPacket, IsHeard, IsPacketHeard, IsWithout, escaped, heard_by, is_marked, is_sum, packet_of, body_sum, with_bit_5_turned}
use Rattle.gdb_packets.proofs.Hearings.{cut_once}

-- a marked byte is one of four, so that the one that is sent for it ends and begins no packet
module _ (mark : ℕ) where
  abbrev Differs : ℕ → Type 0
  Differs byte = (byte == mark) ≡ false

  turned : (byte : ℕ) → Differs (with_bit_5_turned 0x23) → Differs (with_bit_5_turned 0x24)
      → Differs (with_bit_5_turned 0x2A) → Differs (with_bit_5_turned 0x7D) → is_marked byte ≡ true
      → Differs (with_bit_5_turned byte)
  turned byte hash dollar star brace marked =
      elim (or_cases (byte == 0x23) (byte == 0x24 || (byte == 0x2A || byte == 0x7D)) marked) [
        | inl is ↦ subst (λ b. Differs (with_bit_5_turned b)) (sym (eqb-true byte 0x23 is)) hash
        | inr others ↦
            elim (or_cases (byte == 0x24) (byte == 0x2A || byte == 0x7D) others) [
              | inl is ↦ subst (λ b. Differs (with_bit_5_turned b)) (sym (eqb-true byte 0x24 is)) dollar
              | inr last ↦
                  elim (or_cases (byte == 0x2A) (byte == 0x7D) last) [
                    | inl is ↦ subst (λ b. Differs (with_bit_5_turned b)) (sym (eqb-true byte 0x2A is)) star
                    | inr is ↦ subst (λ b. Differs (with_bit_5_turned b)) (sym (eqb-true byte 0x7D is)) brace
                  ]
            ]
      ]

  module _ (escape : Differs 0x7D) (other : (byte : ℕ) → is_marked byte ≡ true → Differs (with_bit_5_turned byte))
      (plain : (byte : ℕ) → is_marked byte ≡ false → Differs byte) where
    by_mark : (byte : ℕ) (x : List ℕ) (marked : Bool) → is_marked byte ≡ marked → IsWithout mark x
        → IsWithout mark (if marked then 0x7D ∷ with_bit_5_turned byte ∷ x else byte ∷ x)
    by_mark byte x true is lacks =
        All-cons Differs 0x7D (with_bit_5_turned byte ∷ x) escape
        (All-cons Differs (with_bit_5_turned byte) x (other byte is) lacks)
    by_mark byte x false is lacks = All-cons Differs byte x (plain byte is) lacks

    none_of : (body : List ℕ) → IsWithout mark (escaped body)
    unfolding escaped
    none_of [] = All-nil Differs
    none_of (byte ∷ later) = by_mark byte (escaped later) (is_marked byte) refl (none_of later)

pub no_end : (body : List ℕ) → IsWithout 0x23 (escaped body)
no_end =
    none_of 0x23 refl (λ byte marked. turned 0x23 byte refl refl refl refl marked)
    (λ byte is. (or_parts (byte == 0x23) (byte == 0x24 || (byte == 0x2A || byte == 0x7D)) is).0)

pub no_start : (body : List ℕ) → IsWithout 0x24 (escaped body)
no_start =
    none_of 0x24 refl (λ byte marked. turned 0x24 byte refl refl refl refl marked)
    (λ byte is.
    (or_parts (byte == 0x24) (byte == 0x2A || byte == 0x7D)
    (or_parts (byte == 0x23) (byte == 0x24 || (byte == 0x2A || byte == 0x7D)) is).1).0)

-- a sum is a byte
sum_from : (total : ℕ) (bytes : List ℕ) → total < 256 → fold (λ total byte. (total + byte) % 256) total bytes < 256
sum_from total [] below = below
sum_from total (byte ∷ later) below = sum_from ((total + byte) % 256) later (let few : 0 < 256 = omega arith in mod-lt (total + byte) few)

sum_small : (body : List ℕ) → body_sum body < 256
sum_small body = let few : 0 < 256 = omega arith in sum_from 0 body few

-- the two digits of each byte write it
abbrev high_of : ℕ → ℕ
high_of sum = slice_index lower_digits (sum / 16)

abbrev low_of : ℕ → ℕ
low_of sum = slice_index lower_digits (sum % 16)

abbrev is_value : ℕ → Option ℕ → Bool
is_value sum None = false
is_value sum (Some n) = n == sum

abbrev written : ℕ → Bool
written sum = is_value sum (numeral 16 2 (high_of sum ∷ low_of sum ∷ []))

all_written : (sum : ℕ) → sum < 256 → written sum ≡ true
all_written sum below = agree_below_at written (λ _. true) 256 sum refl below

as_sum : (body : List ℕ) (value : Option ℕ) → is_value (body_sum body) value ≡ is_sum body value
as_sum body None = refl
as_sum body (Some n) = refl

good_sum : (body : List ℕ)
    → is_sum body (numeral 16 2 (high_of (body_sum body) ∷ low_of (body_sum body) ∷ [])) ≡ true
good_sum body =
    sym (as_sum body (numeral 16 2 (high_of (body_sum body) ∷ low_of (body_sum body) ∷ [])))
    ∙ all_written (body_sum body) (sum_small body)

-- a packet by its parts, with bytes behind it
parts : (body later : List ℕ) → packet_of body ++ later
    ≡ 0x24 ∷ (escaped body ++ (0x23 ∷ high_of (body_sum (escaped body)) ∷ low_of (body_sum (escaped body)) ∷ later))
unfolding packet_of encode_with
parts body later =
    ap (λ (l : List ℕ). 0x24 ∷ l)
    (append_assoc (escaped body) (0x23 ∷ high_of (body_sum (escaped body)) ∷ low_of (body_sum (escaped body)) ∷ []) later)

behind_noise : (noise body later : List ℕ) → IsWithout 0x24 noise
    → IsFirstPacket (noise ++ (packet_of body ++ later)) (escaped body) (high_of (body_sum (escaped body)))
    (low_of (body_sum (escaped body))) later
behind_noise noise body later lacks = record {
  noise = noise;
  whole = ap (λ (l : List ℕ). noise ++ l) (parts body later);
  outside = lacks;
  inside = no_end body;
}

pub sent : (body later : List ℕ) → IsSentPacket body later
sent body later = record {
  high = high_of (body_sum (escaped body));
  low = low_of (body_sum (escaped body));
  first = behind_noise [] body later (All-nil (λ byte. (byte == 0x24) ≡ false));
  good = good_sum (escaped body);
}

-- the first packet is cut in one way
pub one_packet : (bytes body other : List ℕ) (high low other_high other_low : ℕ) (behind other_behind : List ℕ)
    → IsFirstPacket bytes body high low behind → IsFirstPacket bytes other other_high other_low other_behind
    → AreOnePacket body other high low other_high other_low behind other_behind
one_packet bytes body other high low other_high other_low behind other_behind one two =
    let inner = (cut_once 0x24 one.noise two.noise (body ++ (0x23 ∷ high ∷ low ∷ behind))
    (other ++ (0x23 ∷ other_high ∷ other_low ∷ other_behind)) one.outside two.outside (sym one.whole ∙ two.whole)).1 in
    let cut = cut_once 0x23 body other (high ∷ low ∷ behind) (other_high ∷ other_low ∷ other_behind) one.inside two.inside inner in
    record {
      bodies = cut.0;
      highs = ap (λ (l : List ℕ). slice_index_or l 0 0) cut.1;
      lows = ap (λ (l : List ℕ). slice_index_or l 1 0) cut.1;
      behinds = ap (λ (l : List ℕ). drop 2 l) cut.1;
    }

-- so what is heard is that one, and judged by its digits
pub record IsHeardAs (body found behind after : List ℕ) (high low : ℕ) (heard : Heard) : Type 0 where
  pub bodies : found ≡ body
  pub behinds : after ≡ behind
  pub judged : heard ≡ heard_by (is_sum body (numeral 16 2 (high ∷ low ∷ [])))

pub heard_as : (bytes body found behind after : List ℕ) (high low : ℕ) (heard : Heard)
    → IsFirstPacket bytes body high low behind → IsPacketHeard bytes after found heard
    → IsHeardAs body found behind after high low heard
heard_as bytes body found behind after high low heard first it =
    let one = one_packet bytes found body it.high it.low high low after behind it.first first in
    let digits : it.high ∷ it.low ∷ [] ≡ high ∷ low ∷ [] = ap₂ (λ (h l : ℕ). h ∷ l ∷ []) one.highs one.lows in
    record {
      bodies = one.bodies;
      behinds = one.behinds;
      judged =
          it.judged
          ∙ ap₂ (λ (b : List ℕ) (d : List ℕ). heard_by (is_sum b (numeral 16 2 d))) one.bodies digits;
    }

-- a packet that was put has its sum
heard_whole : (noise body later after found : List ℕ) (heard : Heard) → IsWithout 0x24 noise
    → IsPacketHeard (noise ++ (packet_of body ++ later)) after found heard → IsHeardBack body later after found heard
heard_whole noise body later after found heard lacks it =
    let it_is = heard_as (noise ++ (packet_of body ++ later)) (escaped body) found later after
    (high_of (body_sum (escaped body))) (low_of (body_sum (escaped body))) heard (behind_noise noise body later lacks) it in
    record { whole = it_is.judged ∙ ap heard_by (good_sum (escaped body)); same = it_is.bodies; rest = it_is.behinds }

pub heard_back : (noise body later after found : List ℕ) (heard : Heard) → IsWithout 0x24 noise
    → IsHeard (noise ++ (packet_of body ++ later)) after found heard → IsHeardBack body later after found heard
heard_back noise body later after found Body lacks it = heard_whole noise body later after found Body lacks it
heard_back noise body later after found Damaged lacks it = heard_whole noise body later after found Damaged lacks it
heard_back noise body later after found End lacks it =
    absurd (it.none (escaped body) later (high_of (body_sum (escaped body))) (low_of (body_sum (escaped body)))
    (behind_noise noise body later lacks))
