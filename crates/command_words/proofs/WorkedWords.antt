-- Words of the command line at worked values.
use Rattle.std.proofs.Common.{◌≡◌, ℕ, List, [], ◌∷◌, None, Some, Option, codes, refl}
use Rattle.command_words.specs.declared.command_line.Command.{Command}
use Rattle.command_words.specs.declared.command_line.Command.TheVariants.{Scan, Map, Run, Replay, Make, Work, Join, Audit, Assemble, Listing}
use Rattle.command_words.specs.CommandLine.{command_of}

-- `scan IMAGE`, whatever the name of the file
scans :
    (command_of (codes "scan" ∷ codes "kernel.elf" ∷ []) ≡ Some Scan) ×
    (command_of (codes "scan" ∷ [] ∷ []) ≡ Some Scan) ×
    (command_of (codes "scan" ∷ []) ≡ None) ×
    (command_of (codes "scan" ∷ codes "a" ∷ codes "b" ∷ []) ≡ None) ×
    (command_of (codes "Scan" ∷ codes "a" ∷ []) ≡ None) ×
    (command_of (codes "scan " ∷ codes "a" ∷ []) ≡ None) ×
    (command_of (codes "sca" ∷ codes "a" ∷ []) ≡ None)
scans = (refl, refl, refl, refl, refl, refl, refl)

abbrev mapped : List ℕ → List ℕ → Option Command
mapped frames va = command_of (codes "map" ∷ codes "a" ∷ frames ∷ va ∷ [])

-- FRAMES is 512 to 65,536, decimal, without sign and without leading zeros
frames :
    (mapped (codes "512") (codes "0") ≡ Some (Map 512 0)) ×
    (mapped (codes "16384") (codes "0") ≡ Some (Map 16384 0)) ×
    (mapped (codes "16385") (codes "0") ≡ Some (Map 16385 0)) ×
    (mapped (codes "65535") (codes "0") ≡ Some (Map 65535 0)) ×
    (mapped (codes "65536") (codes "0") ≡ Some (Map 65536 0)) ×
    (mapped (codes "511") (codes "0") ≡ None) ×
    (mapped (codes "65537") (codes "0") ≡ None) ×
    (mapped (codes "0512") (codes "0") ≡ None) ×
    (mapped (codes "+512") (codes "0") ≡ None) ×
    (mapped (codes "-512") (codes "0") ≡ None) ×
    (mapped (codes " 512") (codes "0") ≡ None) ×
    (mapped (codes "512 ") (codes "0") ≡ None) ×
    (mapped (codes "0x200") (codes "0") ≡ None) ×
    (mapped (codes "2ff") (codes "0") ≡ None) ×
    (mapped [] (codes "0") ≡ None) ×
    (mapped (codes "18446744073709552128") (codes "0") ≡ None)
frames = (refl, refl, refl, refl, refl, refl, refl, refl, refl, refl, refl, refl, refl, refl, refl, refl)

-- VA has 1 to 16 hexadecimal digits of either case, and is canonical
addresses :
    (mapped (codes "512") (codes "ffffffff80000000") ≡ Some (Map 512 0xFFFFFFFF80000000)) ×
    (mapped (codes "512") (codes "FFFFffff80000abc") ≡ Some (Map 512 0xFFFFFFFF80000ABC)) ×
    (mapped (codes "512") (codes "0000000000001000") ≡ Some (Map 512 0x1000)) ×
    (mapped (codes "512") (codes "00000000000001000") ≡ None) ×
    (mapped (codes "512") (codes "7fffffffffff") ≡ Some (Map 512 0x7FFFFFFFFFFF)) ×
    (mapped (codes "512") (codes "800000000000") ≡ None) ×
    (mapped (codes "512") (codes "ffff7fffffffffff") ≡ None) ×
    (mapped (codes "512") (codes "ffff800000000000") ≡ Some (Map 512 0xFFFF800000000000)) ×
    (mapped (codes "512") (codes "ffffffffffffffff") ≡ Some (Map 512 0xFFFFFFFFFFFFFFFF)) ×
    (mapped (codes "512") (codes "0x1000") ≡ None) ×
    (mapped (codes "512") (codes "100g") ≡ None) ×
    (mapped (codes "512") (codes "-1") ≡ None) ×
    (mapped (codes "512") [] ≡ None)
addresses = (refl, refl, refl, refl, refl, refl, refl, refl, refl, refl, refl, refl, refl)

abbrev run_by : List ℕ → List ℕ → Option Command
run_by steps frames = command_of (codes "run" ∷ codes "a" ∷ codes "b" ∷ codes "c" ∷ steps ∷ frames ∷ [])

-- STEPS is 0 to 4,294,967,296; the words of `run` have their order
runs :
    (run_by (codes "0") (codes "512") ≡ Some (Run 0 512)) ×
    (run_by (codes "4294967296") (codes "65536") ≡ Some (Run 4294967296 65536)) ×
    (run_by (codes "4294967297") (codes "512") ≡ None) ×
    (run_by (codes "512") (codes "2000000") ≡ None) ×
    (run_by (codes "00") (codes "512") ≡ None) ×
    (run_by (codes "01") (codes "512") ≡ None) ×
    (run_by (codes "+1") (codes "512") ≡ None) ×
    (run_by (codes "1") (codes "511") ≡ None) ×
    (run_by (codes "4294967296") (codes "512") ≡ Some (Run 4294967296 512)) ×
    (run_by (codes "4294967296") (codes "16384") ≡ Some (Run 4294967296 16384)) ×
    (run_by (codes "1") (codes "16385") ≡ Some (Run 1 16385)) ×
    (run_by (codes "1") (codes "65535") ≡ Some (Run 1 65535)) ×
    (run_by (codes "1") (codes "65537") ≡ None) ×
    (run_by [] (codes "512") ≡ None) ×
    (command_of (codes "run" ∷ codes "a" ∷ codes "b" ∷ codes "c" ∷ codes "1" ∷ []) ≡ None) ×
    (command_of (codes "run" ∷ codes "a" ∷ codes "b" ∷ codes "c" ∷ codes "1" ∷ codes "512" ∷ codes "d" ∷ []) ≡ None) ×
    (command_of (codes "run" ∷ codes "a" ∷ codes "512" ∷ codes "1" ∷ []) ≡ None)
runs = (refl, refl, refl, refl, refl, refl, refl, refl, refl, refl, refl, refl, refl, refl, refl, refl, refl)

-- `replay IMAGE FRAMES JOURNAL`
replays :
    (command_of (codes "replay" ∷ codes "a" ∷ codes "512" ∷ codes "b" ∷ []) ≡ Some (Replay 512)) ×
    (command_of (codes "replay" ∷ codes "a" ∷ codes "16384" ∷ codes "b" ∷ []) ≡ Some (Replay 16384)) ×
    (command_of (codes "replay" ∷ codes "a" ∷ codes "16385" ∷ codes "b" ∷ []) ≡ Some (Replay 16385)) ×
    (command_of (codes "replay" ∷ codes "a" ∷ codes "65535" ∷ codes "b" ∷ []) ≡ Some (Replay 65535)) ×
    (command_of (codes "replay" ∷ codes "a" ∷ codes "65536" ∷ codes "b" ∷ []) ≡ Some (Replay 65536)) ×
    (command_of (codes "replay" ∷ codes "a" ∷ codes "511" ∷ codes "b" ∷ []) ≡ None) ×
    (command_of (codes "replay" ∷ codes "a" ∷ codes "65537" ∷ codes "b" ∷ []) ≡ None) ×
    (command_of (codes "replay" ∷ codes "a" ∷ codes "0512" ∷ codes "b" ∷ []) ≡ None) ×
    (command_of (codes "replay" ∷ codes "a" ∷ codes "b" ∷ codes "512" ∷ []) ≡ None) ×
    (command_of (codes "replay" ∷ codes "a" ∷ codes "512" ∷ []) ≡ None) ×
    (command_of (codes "replays" ∷ codes "a" ∷ codes "512" ∷ codes "b" ∷ []) ≡ None)
replays = (refl, refl, refl, refl, refl, refl, refl, refl, refl, refl, refl)

abbrev making : List ℕ → Option Command
making number = command_of (codes "make" ∷ number ∷ [])

abbrev working : List ℕ → Option Command
working number = command_of (codes "work" ∷ number ∷ [])

-- NUMBER is 1 to 100
made :
    (making (codes "1") ≡ Some (Make 1)) ×
    (making (codes "100") ≡ Some (Make 100)) ×
    (making (codes "0") ≡ None) ×
    (making (codes "101") ≡ None) ×
    (making (codes "01") ≡ None) ×
    (making (codes "+1") ≡ None) ×
    (making (codes "-1") ≡ None) ×
    (making [] ≡ None) ×
    (working (codes "1") ≡ Some (Work 1)) ×
    (working (codes "100") ≡ Some (Work 100)) ×
    (working (codes "0") ≡ None) ×
    (working (codes "101") ≡ None) ×
    (working (codes "007") ≡ None) ×
    (working (codes "+7") ≡ None)
made = (refl, refl, refl, refl, refl, refl, refl, refl, refl, refl, refl, refl, refl, refl)

-- `join IMAGE LIST`, whatever the names of the files
joins :
    (command_of (codes "join" ∷ codes "a" ∷ codes "b" ∷ []) ≡ Some Join) ×
    (command_of (codes "join" ∷ [] ∷ [] ∷ []) ≡ Some Join) ×
    (command_of (codes "join" ∷ codes "a" ∷ []) ≡ None) ×
    (command_of (codes "join" ∷ codes "a" ∷ codes "b" ∷ codes "c" ∷ []) ≡ None) ×
    (command_of (codes "joins" ∷ codes "a" ∷ codes "b" ∷ []) ≡ None) ×
    (command_of (codes "JOIN" ∷ codes "a" ∷ codes "b" ∷ []) ≡ None) ×
    (command_of ([] ∷ codes "a" ∷ codes "b" ∷ []) ≡ None)
joins = (refl, refl, refl, refl, refl, refl, refl)

abbrev auditing : List ℕ → List ℕ → Option Command
auditing frames id = command_of (codes "audit" ∷ codes "a" ∷ frames ∷ codes "b" ∷ id ∷ [])

-- ID is 256 to 8,589,934,591; the words of `audit` have their order
audits :
    (auditing (codes "512") (codes "256") ≡ Some (Audit 512 256)) ×
    (auditing (codes "65536") (codes "8589934591") ≡ Some (Audit 65536 8589934591)) ×
    (auditing (codes "512") (codes "4294967296") ≡ Some (Audit 512 4294967296)) ×
    (auditing (codes "512") (codes "255") ≡ None) ×
    (auditing (codes "512") (codes "8589934592") ≡ None) ×
    (auditing (codes "512") (codes "18446744073709551872") ≡ None) ×
    (auditing (codes "512") (codes "0256") ≡ None) ×
    (auditing (codes "512") (codes "+256") ≡ None) ×
    (auditing (codes "512") (codes "256 ") ≡ None) ×
    (auditing (codes "512") (codes "0x100") ≡ None) ×
    (auditing (codes "512") [] ≡ None) ×
    (auditing (codes "511") (codes "256") ≡ None) ×
    (auditing (codes "65537") (codes "256") ≡ None) ×
    (auditing (codes "0512") (codes "256") ≡ None) ×
    (command_of (codes "audit" ∷ codes "a" ∷ codes "512" ∷ codes "b" ∷ []) ≡ None) ×
    (command_of (codes "audit" ∷ codes "a" ∷ codes "b" ∷ codes "512" ∷ codes "256" ∷ []) ≡ None) ×
    (command_of (codes "audit" ∷ codes "a" ∷ codes "512" ∷ codes "b" ∷ codes "256" ∷ codes "c" ∷ []) ≡ None) ×
    (command_of (codes "audits" ∷ codes "a" ∷ codes "512" ∷ codes "b" ∷ codes "256" ∷ []) ≡ None) ×
    (command_of (codes "replay" ∷ codes "a" ∷ codes "512" ∷ codes "b" ∷ codes "256" ∷ []) ≡ None)
audits = (refl, refl, refl, refl, refl, refl, refl, refl, refl, refl, refl, refl, refl, refl, refl, refl, refl, refl, refl)

abbrev listing_from : List ℕ → List ℕ → Option Command
listing_from address count = command_of (codes "list" ∷ codes "a" ∷ address ∷ count ∷ [])

-- ADDR is of 1 to 16 digits, canonical or not, and COUNT 1 to 4,096; `asm` has one word
listings :
    (listing_from (codes "ffffffff80000000") (codes "1") ≡ Some (Listing 0xFFFFFFFF80000000 1)) ×
    (listing_from (codes "FFFF") (codes "4096") ≡ Some (Listing 65535 4096)) ×
    (listing_from (codes "0000000000000000") (codes "12") ≡ Some (Listing 0 12)) ×
    (listing_from (codes "0000800000000000") (codes "1") ≡ Some (Listing 0x800000000000 1)) ×
    (listing_from (codes "ffffffffffffffff") (codes "1") ≡ Some (Listing 0xFFFFFFFFFFFFFFFF 1)) ×
    (listing_from (codes "00000000000000000") (codes "1") ≡ None) ×
    (listing_from (codes "0x1") (codes "1") ≡ None) ×
    (listing_from (codes "g") (codes "1") ≡ None) ×
    (listing_from [] (codes "1") ≡ None) ×
    (listing_from (codes "0") (codes "0") ≡ None) ×
    (listing_from (codes "0") (codes "4097") ≡ None) ×
    (listing_from (codes "0") (codes "01") ≡ None) ×
    (listing_from (codes "0") [] ≡ None) ×
    (command_of (codes "lists" ∷ codes "a" ∷ codes "0" ∷ codes "1" ∷ []) ≡ None) ×
    (command_of (codes "list" ∷ codes "a" ∷ codes "0" ∷ []) ≡ None) ×
    (command_of (codes "asm" ∷ codes "a" ∷ []) ≡ Some Assemble) ×
    (command_of (codes "asm" ∷ []) ≡ None) ×
    (command_of (codes "asm" ∷ codes "a" ∷ codes "b" ∷ []) ≡ None) ×
    (command_of (codes "ASM" ∷ codes "a" ∷ []) ≡ None)
listings = (refl, refl, refl, refl, refl, refl, refl, refl, refl, refl, refl, refl, refl, refl, refl, refl, refl, refl, refl)

-- no other words have a form
formless :
    (command_of [] ≡ None) ×
    (command_of ([] ∷ []) ≡ None) ×
    (command_of (codes "--help" ∷ []) ≡ None) ×
    (command_of (codes "-h" ∷ codes "a" ∷ []) ≡ None) ×
    (command_of (codes "make" ∷ []) ≡ None) ×
    (command_of (codes "work" ∷ codes "1" ∷ codes "2" ∷ []) ≡ None) ×
    (command_of (codes "map" ∷ codes "a" ∷ codes "512" ∷ []) ≡ None) ×
    (command_of (codes "map" ∷ codes "a" ∷ []) ≡ None) ×
    (command_of (codes "scan" ∷ codes "a" ∷ codes "512" ∷ codes "0" ∷ []) ≡ None)
formless = (refl, refl, refl, refl, refl, refl, refl, refl, refl)
