-- The scan at worked values: 0F 30 is WRMSR and 0F 22 C0 MOV CR0, RAX (SDM volume 2); 90 is NOP.
use Rattle.std.proofs.Common.{◌≡◌, ℕ, zero, suc, ◌^◌, None, Some, List, [], ◌∷◌, ◌++◌, replicate, slice_get, refl, arith}
use Rattle.elf_image.specs.Elf.{field_at, program_header_at, segments}
use Rattle.elf_image.specs.Home.{home_start}
use Rattle.elf_image.specs.Pages.{byte_of, is_executable}
use Rattle.byte_scanner.specs.declared.encoding.Found.{Found}
use Rattle.byte_scanner.specs.declared.kept.Kept.TheVariants.{Nothing, One, Two}
use Rattle.byte_scanner.specs.Escapes.{IsNextFrom, NoneFrom}
use Rattle.byte_scanner.specs.FirstFound.{encoding_from, first_found, found_with, least_from}
use Rattle.byte_scanner.specs.FoundBytes.{IsFoundOf, found_from}
use Rattle.byte_scanner.specs.ImageCode.{code_at}
use Rattle.byte_scanner.specs.KeptBytes.{kept_bytes}
use Rattle.byte_scanner.specs.LeastPlace.{IsLeastPlace, IsNowhere, NoneBelow}
use Rattle.byte_scanner.specs.PieceRuns.{IsBehind, IsFirstIn, last_two, run_before, start_before}
use Rattle.byte_scanner.specs.ScannedCode.{IsCode, NoCode, NoCodeFrom}
use Rattle.byte_scanner.proofs.AllCode.{unfound}

-- NOP, WRMSR, MOV CR0, RAX, and an escape at the end
abbrev four : List ℕ
four = 0x90 ∷ 0x0F ∷ 0x30 ∷ 0x0F ∷ 0x22 ∷ 0xC0 ∷ 0x0F ∷ []

-- the encoding's bytes, 0 past its length, its address and its length
abbrev wrmsr : ℕ → Found
wrmsr at = record { at = at; bytes = 0x0F ∷ 0x30 ∷ 0 ∷ []; count = 2 }

abbrev mov_cr0 : ℕ → Found
mov_cr0 at = record { at = at; bytes = 0x0F ∷ 0x22 ∷ 0xC0 ∷ []; count = 3 }

encodings :
    (encoding_from (slice_get four) 1 ≡ 0x0F ∷ 0x30 ∷ 0 ∷ []) × (encoding_from (slice_get four) 3 ≡ 0x0F ∷ 0x22 ∷ 0xC0 ∷ []) ×
    (found_with (slice_get four) 1 0xFFFFFFFF80000001 ≡ wrmsr 0xFFFFFFFF80000001) × (found_with (slice_get four) 3 103 ≡ mov_cr0 103) ×
    (found_from 101 (Some 0x0F) (Some 0x30) (Some 0x0F) ≡ wrmsr 101) × (found_from 101 (Some 0x0F) (Some 0x30) None ≡ wrmsr 101) ×
    (found_from 103 (Some 0x0F) (Some 0x22) (Some 0xC0) ≡ mov_cr0 103)
encodings = (refl, refl, refl, refl, refl, refl, refl)

-- the least place from one on, among so many: the first is found, then the second, and none behind it
leasts :
    (least_from (slice_get four) 0 7 ≡ Some 1) × (least_from (slice_get four) 1 1 ≡ Some 1) × (least_from (slice_get four) 0 1 ≡ None) ×
    (least_from (slice_get four) 2 5 ≡ Some 3) × (least_from (slice_get four) 2 1 ≡ None) × (least_from (slice_get four) 4 3 ≡ None) ×
    (least_from (slice_get four) 1 0 ≡ None) × (least_from (slice_get []) 0 9 ≡ None)
leasts = (refl, refl, refl, refl, refl, refl, refl, refl)

-- the last two bytes, or all where there are fewer
kept :
    (last_two [] ≡ []) × (last_two (1 ∷ []) ≡ 1 ∷ []) × (last_two (1 ∷ 2 ∷ []) ≡ 1 ∷ 2 ∷ []) × (last_two (1 ∷ 2 ∷ 3 ∷ []) ≡ 2 ∷ 3 ∷ []) ×
    (last_two four ≡ 0xC0 ∷ 0x0F ∷ []) × (kept_bytes Nothing ≡ []) × (kept_bytes (One 1) ≡ 1 ∷ []) × (kept_bytes (Two 1 2) ≡ 1 ∷ 2 ∷ [])
kept = (refl, refl, refl, refl, refl, refl, refl, refl)

-- a piece at the run's end goes on with it; one byte further, or back, another run begins
seams :
    (run_before 102 102 (1 ∷ 2 ∷ []) ≡ 1 ∷ 2 ∷ []) × (run_before 102 103 (1 ∷ 2 ∷ []) ≡ []) × (run_before 102 101 (1 ∷ 2 ∷ []) ≡ []) ×
    (start_before 102 102 100 ≡ 100) × (start_before 102 103 100 ≡ 103) × (start_before 102 101 100 ≡ 101)
seams = (refl, refl, refl, refl, refl, refl)

-- an image by the ELF-64 object file format: one header of 56 bytes at 64, of a segment with these flags, at FFFFFFFF80000000
-- and these two bytes, whose three bytes at 120 of the file are 90 0F 30, and that takes 4,098 bytes of memory
abbrev image : ℕ → ℕ → ℕ → List ℕ
image flags low high =
    replicate 32 0 ++ 64 ∷ replicate 23 0 ++ 1 ∷ replicate 7 0
    ++ 1 ∷ 0 ∷ 0 ∷ 0 ∷ flags ∷ 0 ∷ 0 ∷ 0 ∷ 120 ∷ replicate 7 0
    ++ low ∷ high ∷ 0 ∷ 0x80 ∷ 0xFF ∷ 0xFF ∷ 0xFF ∷ 0xFF ∷ replicate 8 0
    ++ 3 ∷ replicate 7 0 ++ 2 ∷ 0x10 ∷ replicate 6 0 ++ replicate 8 0 ++ 0x90 ∷ 0x0F ∷ 0x30 ∷ []

-- R and X, at the last byte of a page; R and X at an address whose last byte is 1; R and W
abbrev over_the_border : List ℕ
over_the_border = image 5 0xFF 0x0F

abbrev near_the_start : List ℕ
near_the_start = image 5 1 0

abbrev no_code : List ℕ
no_code = image 6 1 0

-- code is each byte of the three pages that a segment with X touches: the file's, else 0, and WRMSR stands over their border
codes :
    (code_at over_the_border 0xFFFFFFFF7FFFFFFF ≡ None) × (code_at over_the_border 0xFFFFFFFF80000000 ≡ Some 0) ×
    (code_at over_the_border 0xFFFFFFFF80000FFF ≡ Some 0x90) × (code_at over_the_border 0xFFFFFFFF80001000 ≡ Some 0x0F) ×
    (code_at over_the_border 0xFFFFFFFF80001001 ≡ Some 0x30) × (code_at over_the_border 0xFFFFFFFF80001002 ≡ Some 0) ×
    (code_at over_the_border 0xFFFFFFFF80002FFF ≡ Some 0) × (code_at over_the_border 0xFFFFFFFF80003000 ≡ None) × (code_at over_the_border 0 ≡ None) ×
    (code_at no_code 0xFFFFFFFF80000001 ≡ None) × (code_at near_the_start 0xFFFFFFFF80000002 ≡ Some 0x0F)
unfolding is_executable byte_of segments field_at program_header_at
codes = (refl, refl, refl, refl, refl, refl, refl, refl, refl, refl, refl)

-- the least address is looked for from the start of the home on; of a file without segments there is none
first_of_image :
    (least_from (code_at near_the_start) home_start 4 ≡ Some 0xFFFFFFFF80000002) × (least_from (code_at near_the_start) home_start 2 ≡ None) ×
    (least_from (code_at no_code) home_start 4 ≡ None) ×
    (found_with (code_at near_the_start) 0xFFFFFFFF80000002 0xFFFFFFFF80000002 ≡ wrmsr 0xFFFFFFFF80000002)
unfolding is_executable byte_of segments field_at program_header_at
first_of_image = (refl, refl, refl, refl)

none_of_nothing : first_found [] ≡ None
unfolding is_executable segments field_at
none_of_nothing = unfound [] (λ a. refl)

shows : IsCode over_the_border 0xFFFFFFFF80000FFF (0x90 ∷ 0x0F ∷ 0x30 ∷ [])
unfolding is_executable byte_of segments field_at program_header_at
shows zero small = refl
shows (suc zero) small = refl
shows (suc (suc zero)) small = refl
shows (suc (suc (suc k))) small = absurd (omega (arith, small))

-- and a file without segments has no code
no_segments : NoCode [] 0 (2 ^ 64) × NoCodeFrom [] 0
unfolding is_executable segments field_at
no_segments = (λ a low below. refl, λ a low. refl)

-- no encoding stands at a place past these bytes, nor at one inside
nops : IsNowhere (slice_get (0x90 ∷ 0x30 ∷ 0x0F ∷ []))
nops zero = refl
nops (suc zero) = refl
nops (suc (suc zero)) = refl
nops (suc (suc (suc place))) = refl

-- so a scanner that kept 30 0F stands behind them, at their end
behind : IsBehind (record { kept = 0x30 ∷ 0x0F ∷ []; end = 103 }) 100 (0x90 ∷ 0x30 ∷ 0x0F ∷ [])
behind = record { ends = refl; keeps = refl; clean = nops }

-- below place 1 there is place 0
none_below_1 : NoneBelow (slice_get four) 1
none_below_1 zero below = refl
none_below_1 (suc place) below = absurd (omega (arith, below))

least : IsLeastPlace (slice_get four) 1
least = record { stands = refl; lowest = none_below_1 }

first : IsFirstIn 100 four (wrmsr 101)
first = record { place = 1; least = least; is = refl }

next : IsNextFrom four 0 1
next = record { low = omega arith; inside = omega arith; clean = λ k low below. none_below_1 k below }

found : IsFoundOf 101 (Some 0x0F) (Some 0x30) None (wrmsr 101)
found = record { stands = refl; is = refl }

-- WRMSR begins at 0, and none at 1 or behind
none_from_1 : NoneFrom (0x0F ∷ 0x30 ∷ []) 1
none_from_1 zero low = absurd (omega (arith, low))
none_from_1 (suc zero) low = refl
none_from_1 (suc (suc k)) low = refl
