-- Lines of a run at worked values.
use Rattle.std.proofs.Common.{◌≡◌, ℕ, ◌-◌, ◌^◌, true, false, List, [], ◌∷◌, None, Some, Option, codes, refl}
use Rattle.std.specs.Fmt.{char_count, digits, padded_integral}
use Rattle.hex.specs.Hex.{encode_with}
use Rattle.nk_bits.specs.declared.kind.Kind.TheVariants.{Data, Code, Table, Fixed, Trap, Guarded, Hidden}
use Rattle.nk_body.specs.CallRules.{Bytes, NotTaken, Sourced, Unreadable}
use Rattle.region_book.specs.RegionRecords.{RegionRecord}
use Rattle.report_text.specs.RunLines.{call_line, console_line, delivery_line, ending_line, entry_line, hex_16, kind_line, log_line, region_line, root_line, trap_line, turns_line}
use Rattle.report_text.specs.RunSummary.{count_line, counts_line, summary_lines}

-- a byte of the console has two digits, in lower case
consoles :
    (console_line 0x41 ≡ codes "c 41\n") ×
    (console_line 0 ≡ codes "c 00\n") ×
    (console_line 0x0A ≡ codes "c 0a\n") ×
    (console_line 255 ≡ codes "c ff\n")
unfolding console_line encode_with
consoles = (refl, refl, refl, refl)

abbrev delivered : ℕ → Option ℕ → ℕ → Option ℕ → List ℕ
delivered vector code rip cr2 = delivery_line (record { vector = vector; code = code; rip = rip; cr2 = cr2 })

-- a delivery: the vector is decimal, the error code has no leading zeros, an address has 16 digits
deliveries :
    (delivered 14 (Some 3) 0xFFFFFFFF8000004E (Some 0xFFFF800000047000)
    ≡ codes "i 14 3 ffffffff8000004e ffff800000047000\n") ×
    (delivered 6 None 0xFFFFFFFF80000000 None ≡ codes "i 6 - ffffffff80000000 -\n") ×
    (delivered 13 (Some 0x102) 0x1000 None ≡ codes "i 13 102 0000000000001000 -\n") ×
    (delivered 14 (Some 0) 0x1000 (Some 0) ≡ codes "i 14 0 0000000000001000 0000000000000000\n") ×
    (delivered 32 None 0 None ≡ codes "i 32 - 0000000000000000 -\n")
unfolding delivery_line hex_16 padded_integral char_count digits
deliveries = (refl, refl, refl, refl, refl)

abbrev called : ℕ → ℕ → ℕ → ℕ → ℕ → Sourced → ℕ → Option ℕ → List ℕ
called number a b c d source value place =
    call_line (record { number = number; a = a; b = b; c = c; d = d }) source
    (record { value = value; place = place; flush = false })

-- a call: its number and arguments are hexadecimal, its answer is decimal, and what is lacking is `-`
calls :
    (called 3 0x46 0x47 0x8000000000047021 0 NotTaken 0 None ≡ codes "k 3 46 47 8000000000047021 0 - 0 -\n") ×
    (called 7 16 1 0 0 NotTaken 256 (Some 0xFFFFFF8000010000) ≡ codes "k 7 10 1 0 0 - 256 ffffff8000010000\n") ×
    (called 9 256 0 0x1000 2 Unreadable 22 None ≡ codes "k 9 100 0 1000 2 ! 22 -\n") ×
    (called 9 256 0 0x1000 2 (Bytes (10 ∷ 255 ∷ [])) 0 None ≡ codes "k 9 100 0 1000 2 0aff 0 -\n") ×
    (called 9 256 0 0x1000 0 (Bytes []) 0 None ≡ codes "k 9 100 0 1000 0  0 -\n") ×
    (called (2 ^ 64 - 1) 10 11 12 13 NotTaken 1 None ≡ codes "k ffffffffffffffff a b c d - 1 -\n")
unfolding call_line hex_16 padded_integral char_count digits encode_with
calls = (refl, refl, refl, refl, refl, refl)

-- the end has one of two reasons
endings :
    (ending_line true ≡ codes "end halted\n") ×
    (ending_line false ≡ codes "end steps\n") ×
    (turns_line 62 ≡ codes "turns 62\n") ×
    (turns_line 0 ≡ codes "turns 0\n") ×
    (turns_line 4294967296 ≡ codes "turns 4294967296\n")
unfolding ending_line turns_line digits
endings = (refl, refl, refl, refl, refl)

-- the root's frame is decimal, the handler's address has 16 digits
roots :
    (root_line 5 ≡ codes "root 5\n") ×
    (root_line 65535 ≡ codes "root 65535\n") ×
    (trap_line 0 ≡ codes "trap 0000000000000000\n") ×
    (trap_line 0xFFFFFFFF80000200 ≡ codes "trap ffffffff80000200\n")
unfolding root_line trap_line hex_16 padded_integral char_count digits
roots = (refl, refl, refl, refl)

-- each kind has a word
kinds :
    (kind_line 71 (Table 1) ≡ codes "f 71 table1\n") ×
    (kind_line 70 (Table 2) ≡ codes "f 70 table2\n") ×
    (kind_line 69 (Table 3) ≡ codes "f 69 table3\n") ×
    (kind_line 68 (Table 4) ≡ codes "f 68 table4\n") ×
    (kind_line 67 Data ≡ codes "f 67 data\n") ×
    (kind_line 72 Guarded ≡ codes "f 72 guarded\n") ×
    (kind_line 40 Code ≡ codes "f 40 code\n") ×
    (kind_line 2 Fixed ≡ codes "f 2 fixed\n") ×
    (kind_line 3 Trap ≡ codes "f 3 trap\n") ×
    (kind_line 4 Hidden ≡ codes "f 4 hidden\n")
unfolding kind_line digits
kinds = (refl, refl, refl, refl, refl, refl, refl, refl, refl, refl)

-- frame and index of an entry are decimal, its value has 16 digits
entries :
    (entry_line 70 71 0x8000000000047021 ≡ codes "t 70 71 8000000000047021\n") ×
    (entry_line 68 511 0x6027 ≡ codes "t 68 511 0000000000006027\n") ×
    (entry_line 70 0 0 ≡ codes "t 70 0 0000000000000000\n")
unfolding entry_line hex_16 padded_integral char_count digits
entries = (refl, refl, refl)

abbrev region : ℕ → ℕ → ℕ → ℕ → RegionRecord
region id policy first size = record {
  id = id;
  policy = policy;
  pooled = true;
  first = first;
  size = size;
  frames = 10 ∷ [];
  place = 0;
  written = [];
  tail = 0;
}

-- a region: its identifier, its policy, its first address, its size, and its bytes by two digits each
regions :
    (region_line (region 256 1 0xFFFFFF8000010000 16)
    (0 ∷ 1 ∷ 2 ∷ 3 ∷ 4 ∷ 5 ∷ 6 ∷ 7 ∷ 0x18 ∷ 0x29 ∷ 0x3A ∷ 0x4B ∷ 0x5C ∷ 0x6D ∷ 0x7E ∷ 0xFF ∷ [])
    ≡ codes "r 256 1 ffffff8000010000 16 000102030405060718293a4b5c6d7eff\n") ×
    (region_line (region 4096 4 0x47FFF 1) (0xA0 ∷ []) ≡ codes "r 4096 4 0000000000047fff 1 a0\n")
unfolding region_line hex_16 padded_integral char_count digits encode_with
regions = (refl, refl)

-- a record of the log: its number, the region and the offset, and the bytes that were written
records :
    (log_line 0 (record { region = 256; offset = 2; bytes = 0x61 ∷ 0x62 ∷ 0x63 ∷ 0x64 ∷ [] })
    ≡ codes "l 0 256 2 61626364\n") ×
    (log_line 11 (record { region = 4096; offset = 0; bytes = 0 ∷ [] }) ≡ codes "l 11 4096 0 00\n")
unfolding log_line digits encode_with
records = (refl, refl)

-- the summary's lines, in their order
summaries :
    summary_lines (record {
      calls = 17;
      accepted = 12;
      deliveries = 5;
      tables = 4;
      regions = 2;
      records = 3;
      log_bytes = 104;
    }) ≡ codes "calls 17 accepted 12\ndeliveries 5\ntables 4\nregions 2\nlog 3 104\n"
unfolding summary_lines counts_line count_line digits
summaries = refl
