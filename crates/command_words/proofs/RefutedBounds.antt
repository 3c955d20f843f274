-- Commands whose numbers lie past their bounds, each named by what passes it.
use Rattle.std.proofs.Common.{ℕ, ◌^◌, ◌<◌, ◌≤◌, arith}
use Rattle.command_words.specs.declared.command_line.Command.TheVariants.{Audit, Listing, Replay, Run}
use Rattle.command_words.specs.CommandLine.{IsBounded}

-- an address of 65 bits, and a count of no bytes and of more than a page's
address_of_65_bits : IsBounded (Listing 18446744073709551616 1) → ⊥
address_of_65_bits it = let below = it.0 in omega (arith, below)

no_bytes_listed : IsBounded (Listing 0 0) → ⊥
no_bytes_listed it = let least = it.1 in omega (arith, least)

many_bytes_listed : IsBounded (Listing 0 4097) → ⊥
many_bytes_listed it = let most = it.2 in omega (arith, most)

-- a memory below 2 MiB, and past 256 MiB
small_memory : IsBounded (Replay 511) → ⊥
small_memory it = let least = it.0 in omega (arith, least)

large_memory : IsBounded (Replay 65537) → ⊥
large_memory it = let most = it.1 in omega (arith, most)

-- one turn past the most
many_turns : IsBounded (Run 4294967297 512) → ⊥
many_turns it = let most = it.0 in omega (arith, most)

-- an identifier that no region has, below the first and past the last
low_identifier : IsBounded (Audit 512 255) → ⊥
low_identifier it = let least = it.2 in omega (arith, least)

high_identifier : IsBounded (Audit 512 8589934592) → ⊥
high_identifier it = let most = it.3 in omega (arith, most)
