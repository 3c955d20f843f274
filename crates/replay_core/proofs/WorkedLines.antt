-- Lines of a journal at worked values.
use Rattle.std.proofs.Common.{◌≡◌, ℕ, ◌-◌, ◌^◌, List, ◌++◌, [], ◌∷◌, None, Some, Option, codes, refl}
use Rattle.hex.specs.Hex.{decode_pairs}
use Rattle.nk_body.specs.CallRules.{Bytes, NotTaken, Sourced, Unreadable}
use Rattle.text_lines.specs.TextLines.{words}
use Rattle.replay_core.specs.JournalLines.{Calls, Ends, Heard, Passes, heard_of}

abbrev heard : List ℕ → Option Heard
heard line = heard_of (words line)

-- a call by its number and arguments, and what is noted of it
abbrev called : ℕ → ℕ → ℕ → ℕ → ℕ → Sourced → ℕ → Option ℕ → Option Heard
called number a b c d source value place = Some (Calls (record {
  call = record { number = number; a = a; b = b; c = c; d = d };
  source = source;
  value = value;
  place = place;
}))

-- the console's byte has two digits, in lower case
consoles :
    (heard (codes "c 41") ≡ Some Passes) ×
    (heard (codes "c 00") ≡ Some Passes) ×
    (heard (codes "c ff") ≡ Some Passes) ×
    (heard (codes "c FF") ≡ None) ×
    (heard (codes "c fg") ≡ None) ×
    (heard (codes "c 4") ≡ None) ×
    (heard (codes "c 041") ≡ None) ×
    (heard (codes "c") ≡ None) ×
    (heard (codes "c ") ≡ None) ×
    (heard (codes "c -") ≡ None) ×
    (heard (codes "C 41") ≡ None) ×
    (heard (codes "c  41") ≡ None) ×
    (heard (codes "c 41 ") ≡ None) ×
    (heard (codes " c 41") ≡ None) ×
    (heard (codes "c 41 42") ≡ None) ×
    (heard (codes "c 41" ++ 13 ∷ []) ≡ None)
consoles = (refl, refl, refl, refl, refl, refl, refl, refl, refl, refl, refl, refl, refl, refl, refl, refl)

-- the end has one of two reasons
ends :
    (heard (codes "end halted") ≡ Some Ends) ×
    (heard (codes "end steps") ≡ Some Ends) ×
    (heard (codes "end") ≡ None) ×
    (heard (codes "end ") ≡ None) ×
    (heard (codes "end stop") ≡ None) ×
    (heard (codes "end Halted") ≡ None) ×
    (heard (codes "END steps") ≡ None) ×
    (heard (codes "end steps 5") ≡ None) ×
    (heard (codes "end steps" ++ 13 ∷ []) ≡ None) ×
    (heard (codes "turns 5") ≡ None) ×
    (heard (codes "root 5") ≡ None) ×
    (heard [] ≡ None) ×
    (heard (0 ∷ []) ≡ None)
ends = (refl, refl, refl, refl, refl, refl, refl, refl, refl, refl, refl, refl, refl)

-- a delivery's vector is 0 to 47, in decimal without leading zeros
vectors :
    (heard (codes "i 0 - 0000000000000000 -") ≡ Some Passes) ×
    (heard (codes "i 6 - ffffffff80000000 -") ≡ Some Passes) ×
    (heard (codes "i 47 - ffffffff80000000 -") ≡ Some Passes) ×
    (heard (codes "i 48 - ffffffff80000000 -") ≡ None) ×
    (heard (codes "i 06 - ffffffff80000000 -") ≡ None) ×
    (heard (codes "i 00 - ffffffff80000000 -") ≡ None) ×
    (heard (codes "i -1 - ffffffff80000000 -") ≡ None) ×
    (heard (codes "i a - ffffffff80000000 -") ≡ None) ×
    (heard (codes "i  - ffffffff80000000 -") ≡ None) ×
    (heard (codes "i 99999999999999999999 - ffffffff80000000 -") ≡ None) ×
    (heard (codes "I 6 - ffffffff80000000 -") ≡ None) ×
    (heard (codes "i 6 - ffffffff80000000") ≡ None) ×
    (heard (codes "i 6 - ffffffff80000000 - -") ≡ None)
vectors = (refl, refl, refl, refl, refl, refl, refl, refl, refl, refl, refl, refl, refl)

-- its error code has no leading zeros, at most 16 digits, and isn't tied to the vector
error_codes :
    (heard (codes "i 6 0 ffffffff80000000 -") ≡ Some Passes) ×
    (heard (codes "i 13 100a ffffffff80000000 -") ≡ Some Passes) ×
    (heard (codes "i 13 ffffffffffffffff ffffffff80000000 -") ≡ Some Passes) ×
    (heard (codes "i 13 10000000000000000 ffffffff80000000 -") ≡ None) ×
    (heard (codes "i 13 00 ffffffff80000000 -") ≡ None) ×
    (heard (codes "i 13 0a ffffffff80000000 -") ≡ None) ×
    (heard (codes "i 13 A ffffffff80000000 -") ≡ None) ×
    (heard (codes "i 13  ffffffff80000000 -") ≡ None) ×
    (heard (codes "i 13 -- ffffffff80000000 -") ≡ None)
error_codes = (refl, refl, refl, refl, refl, refl, refl, refl, refl)

-- an address has 16 digits; CR2 comes for vector 14, and for no other
addresses :
    (heard (codes "i 14 3 ffffffff8000004e ffff800000047000") ≡ Some Passes) ×
    (heard (codes "i 14 - 0000000000000001 0000000000000000") ≡ Some Passes) ×
    (heard (codes "i 14 3 ffffffff8000004e -") ≡ None) ×
    (heard (codes "i 14 3 ffffffff8000004e ffff80000004700") ≡ None) ×
    (heard (codes "i 14 3 ffffffff8000004e FFFF800000047000") ≡ None) ×
    (heard (codes "i 13 3 ffffffff8000004e ffff800000047000") ≡ None) ×
    (heard (codes "i 13 3 fffffff8000004e -") ≡ None) ×
    (heard (codes "i 13 3 0ffffffff8000004e -") ≡ None) ×
    (heard (codes "i 13 3 fFffffff8000004e -") ≡ None) ×
    (heard (codes "i 13 3 - -") ≡ None)
addresses = (refl, refl, refl, refl, refl, refl, refl, refl, refl, refl)

-- a call's number and arguments have no leading zeros and at most 16 digits, in lower case
numbers :
    (heard (codes "k 3 46 47 8000000000047021 0 - 0 -") ≡ called 3 0x46 0x47 0x8000000000047021 0 NotTaken 0 None) ×
    (heard (codes "k ffffffffffffffff a b c d - 1 -") ≡ called (2 ^ 64 - 1) 10 11 12 13 NotTaken 1 None) ×
    (heard (codes "k 0 0 0 0 0 - 1 -") ≡ called 0 0 0 0 0 NotTaken 1 None) ×
    (heard (codes "k 03 46 47 0 0 - 0 -") ≡ None) ×
    (heard (codes "k 3 046 47 0 0 - 0 -") ≡ None) ×
    (heard (codes "k 3 46 00 0 0 - 0 -") ≡ None) ×
    (heard (codes "k 3 46 47 10000000000000000 0 - 0 -") ≡ None) ×
    (heard (codes "k 3 46 47 0 00000000000000001 - 0 -") ≡ None) ×
    (heard (codes "k A 46 47 0 0 - 0 -") ≡ None) ×
    (heard (codes "k 3 4G 47 0 0 - 0 -") ≡ None) ×
    (heard (codes "k 3 46 0x47 0 0 - 0 -") ≡ None) ×
    (heard (codes "k 3 46 47 +0 0 - 0 -") ≡ None) ×
    (heard (codes "k 3 46 47 - 0 - 0 -") ≡ None) ×
    (heard (codes "k 3 46  0 0 - 0 -") ≡ None) ×
    (heard (codes "K 3 46 47 0 0 - 0 -") ≡ None) ×
    (heard (codes "k") ≡ None)
numbers = (refl, refl, refl, refl, refl, refl, refl, refl, refl, refl, refl, refl, refl, refl, refl, refl)

-- the source is `-`, `!`, or bytes of two digits each, in lower case
sources :
    (heard (codes "k 9 100 0 1000 2 ! 22 -") ≡ called 9 256 0 0x1000 2 Unreadable 22 None) ×
    (heard (codes "k 9 100 0 1000 2 0aff 0 -") ≡ called 9 256 0 0x1000 2 (Bytes (10 ∷ 255 ∷ [])) 0 None) ×
    (heard (codes "k 9 100 0 1000 0  0 -") ≡ called 9 256 0 0x1000 0 (Bytes []) 0 None) ×
    (heard (codes "k 9 100 0 1000 2 0aff0 0 -") ≡ None) ×
    (heard (codes "k 9 100 0 1000 2 0aFF 0 -") ≡ None) ×
    (heard (codes "k 9 100 0 1000 2 0axx 0 -") ≡ None) ×
    (heard (codes "k 9 100 0 1000 2 !! 0 -") ≡ None) ×
    (heard (codes "k 9 100 0 1000 2 -- 0 -") ≡ None)
unfolding decode_pairs
sources = (refl, refl, refl, refl, refl, refl, refl, refl)

-- the answer is decimal without leading zeros, below 2^64
answers :
    (heard (codes "k 1 0 0 0 0 - 27 -") ≡ called 1 0 0 0 0 NotTaken 27 None) ×
    (heard (codes "k 1 0 0 0 0 - 18446744073709551615 -") ≡ called 1 0 0 0 0 NotTaken (2 ^ 64 - 1) None) ×
    (heard (codes "k 1 0 0 0 0 - 18446744073709551616 -") ≡ None) ×
    (heard (codes "k 1 0 0 0 0 - 027 -") ≡ None) ×
    (heard (codes "k 1 0 0 0 0 - 1b -") ≡ None) ×
    (heard (codes "k 1 0 0 0 0 - - -") ≡ None) ×
    (heard (codes "k 1 0 0 0 0 -  -") ≡ None) ×
    (heard (codes "k 1 0 0 0 0 - -1 -") ≡ None)
answers = (refl, refl, refl, refl, refl, refl, refl, refl)

-- the place has 16 digits
places :
    (heard (codes "k 7 10 1 0 0 - 256 ffffff8000010000") ≡ called 7 16 1 0 0 NotTaken 256 (Some 0xFFFFFF8000010000)) ×
    (heard (codes "k 7 10 1 0 0 - 256 0000000000000000") ≡ called 7 16 1 0 0 NotTaken 256 (Some 0)) ×
    (heard (codes "k 7 10 1 0 0 - 256 ffffff800001000") ≡ None) ×
    (heard (codes "k 7 10 1 0 0 - 256 0ffffff8000010000") ≡ None) ×
    (heard (codes "k 7 10 1 0 0 - 256 FFFFFF8000010000") ≡ None) ×
    (heard (codes "k 7 10 1 0 0 - 256 !") ≡ None) ×
    (heard (codes "k 7 10 1 0 0 - 256 ") ≡ None) ×
    (heard (codes "k 7 10 1 0 0 - 256") ≡ None) ×
    (heard (codes "k 7 10 1 0 0 - 256 - -") ≡ None) ×
    (heard (codes "k 7 10 1 0 0 - 256 - " ++ 13 ∷ []) ≡ None)
places = (refl, refl, refl, refl, refl, refl, refl, refl, refl, refl)
