-- What is not heard, at concrete values: each part of the definitions made wrong by itself.
use Rattle.std.proofs.Common.{◌≡◌, ℕ, ◌==◌, Bool, true, false, List, [], length, slice_index, codes, refl, sym, ap, arith, true≢false}
use Rattle.std.proofs.lemmas.List.Elements.{All-nil}
use Rattle.gdb_packets.specs.declared.heard.Heard.{Heard}
use Rattle.gdb_packets.specs.declared.heard.Heard.TheVariants.{Body, Damaged, End}
use Rattle.gdb_packets.specs.Packets.{IsFirstPacket, IsHeard, IsWithout}
use Rattle.gdb_packets.proofs.SentBack.{heard_as}
use Rattle.gdb_packets.proofs.WorkedPackets.{lacks_one, lacks_two}

abbrev pub is_body : Heard → Bool
is_body Body = true
is_body Damaged = false
is_body End = false

empty : (mark : ℕ) → IsWithout mark []
empty mark = All-nil (λ c. (c == mark) ≡ false)

ok : IsFirstPacket (codes "$OK#9a+") (codes "OK") 0x39 0x61 (codes "+")
ok = record { noise = []; whole = refl; outside = empty 0x24; inside = lacks_two 0x23 0x4F 0x4B refl refl }

-- another body, and one without its last byte
another_body : IsHeard (codes "$OK#9a+") (codes "+") (codes "OJ") Body → ⊥
another_body it =
    let same : codes "OJ" ≡ codes "OK" = (heard_as _ _ _ _ _ _ _ _ ok it).bodies in
    let last : 0x4A ≡ 0x4B = ap (λ (l : List ℕ). slice_index l 1) same in omega (arith, last)

shorter_body : IsHeard (codes "$OK#9a+") (codes "+") (codes "O") Body → ⊥
shorter_body it =
    let same : codes "O" ≡ codes "OK" = (heard_as _ _ _ _ _ _ _ _ ok it).bodies in
    let count : 1 ≡ 2 = ap length same in omega (arith, count)

-- what is behind the packet is lost, and a digit of the sum is left
lost_behind : IsHeard (codes "$OK#9a+") [] (codes "OK") Body → ⊥
lost_behind it =
    let same : [] ≡ codes "+" = (heard_as _ _ _ _ _ _ _ _ ok it).behinds in
    let count : 0 ≡ 1 = ap length same in omega (arith, count)

left_digit : IsHeard (codes "$OK#9a+") (codes "a+") (codes "OK") Body → ⊥
left_digit it =
    let same : codes "a+" ≡ codes "+" = (heard_as _ _ _ _ _ _ _ _ ok it).behinds in
    let count : 2 ≡ 1 = ap length same in omega (arith, count)

-- a whole packet that is taken as damaged, and a damaged one that is taken as whole
good_as_damaged : IsHeard (codes "$OK#9a+") (codes "+") (codes "OK") Damaged → ⊥
good_as_damaged it =
    let same : Damaged ≡ Body = (heard_as _ _ _ _ _ _ _ _ ok it).judged in true≢false (sym (ap is_body same))

wrong_sum : IsFirstPacket (codes "$OK#9b") (codes "OK") 0x39 0x62 []
wrong_sum = record { noise = []; whole = refl; outside = empty 0x24; inside = lacks_two 0x23 0x4F 0x4B refl refl }

damaged_as_good : IsHeard (codes "$OK#9b") [] (codes "OK") Body → ⊥
damaged_as_good it =
    let same : Body ≡ Damaged = (heard_as _ _ _ _ _ _ _ _ wrong_sum it).judged in true≢false (ap is_body same)

-- a sum that leaves out the first byte: that of "K" alone is 4b
first_left_out : IsFirstPacket (codes "$OK#4b") (codes "OK") 0x34 0x62 []
first_left_out = record { noise = []; whole = refl; outside = empty 0x24; inside = lacks_two 0x23 0x4F 0x4B refl refl }

sum_without_first : IsHeard (codes "$OK#4b") [] (codes "OK") Body → ⊥
sum_without_first it =
    let same : Body ≡ Damaged = (heard_as _ _ _ _ _ _ _ _ first_left_out it).judged in true≢false (ap is_body same)

-- the second packet in place of the first one, which then is noise with `$` in it
two : IsFirstPacket (codes "$a#61$b#62") (codes "a") 0x36 0x31 (codes "$b#62")
two = record { noise = []; whole = refl; outside = empty 0x24; inside = lacks_one 0x23 0x61 refl }

second_packet : IsHeard (codes "$a#61$b#62") [] (codes "b") Body → ⊥
second_packet it =
    let same : codes "b" ≡ codes "a" = (heard_as _ _ _ _ _ _ _ _ two it).bodies in
    let first : 0x62 ≡ 0x61 = ap (λ (l : List ℕ). slice_index l 0) same in omega (arith, first)

-- a body that goes on behind its `#`
two_ends : IsFirstPacket (codes "$a#b#e6") (codes "a") 0x62 0x23 (codes "e6")
two_ends = record { noise = []; whole = refl; outside = empty 0x24; inside = lacks_one 0x23 0x61 refl }

body_with_end : IsHeard (codes "$a#b#e6") [] (codes "a#b") Body → ⊥
body_with_end it =
    let same : codes "a#b" ≡ codes "a" = (heard_as _ _ _ _ _ _ _ _ two_ends it).bodies in
    let count : 3 ≡ 1 = ap length same in omega (arith, count)

-- the end, though a packet is whole, damaged or not, and though bytes are left
end_with_packet : IsHeard (codes "$OK#9a+") [] [] End → ⊥
end_with_packet it = it.none (codes "OK") (codes "+") 0x39 0x61 ok

end_with_damaged : IsHeard (codes "$OK#9b") [] [] End → ⊥
end_with_damaged it = it.none (codes "OK") [] 0x39 0x62 wrong_sum

end_with_rest : IsHeard (codes "$O") (codes "O") [] End → ⊥
end_with_rest it = let all : codes "O" ≡ [] = it.all in let count : 1 ≡ 0 = ap length all in omega (arith, count)
