-- Stores in the handler slot, which no page table and no byte that never changes is part of.
use Rattle.std.proofs.Common.{◌≡◌, ℕ, ◌+◌, ◌/◌, ◌%◌, ◌<◌, ◌≤◌, true, List, All, arith, ap, ◌∙◌}
use Rattle.std.specs.Prelude.{nat_lt, not, ◌&&◌, ◌||◌, ◌==◌}
use Rattle.std.proofs.lemmas.List.Elements.{All-weaker}
use Rattle.std.proofs.lemmas.Bool.{lt-ltb}
use Rattle.nk_bits.specs.declared.kind.Kind.{Kind}
use Rattle.nk_bits.specs.declared.kind.Kind.TheVariants.{Fixed}
use Rattle.nk_bits.specs.Kinds.{kind_of}
use Rattle.phys_mem.specs.Memory.{stores}
use Rattle.page_desc.specs.PageTables.{is_unchanging, is_table, is_unguarded}

-- where the stores of a number lie
abbrev pub Places : Type 0
Places = (n p v : ℕ) → All (λ w. (p ≤ w.0) × (w.0 < p + n)) (stores n p v)

-- a byte of the handler slot
handler_unguarded : (kinds : List Kind) (place : ℕ) → kind_of kinds 2 ≡ Fixed → 0x2000 ≤ place → place < 0x2000 + 8
    → is_unguarded kinds place ≡ true
handler_unguarded kinds place fixed low high =
    let frame : place / 4096 ≡ 2 = omega (arith, low, high) in
    let offset : place % 4096 < 8 = omega (arith, low, high) in
    let within : nat_lt (place % 4096) 8 ≡ true = lt-ltb _ _ offset in
    let kind : kind_of kinds (place / 4096) ≡ Fixed = ap (kind_of kinds) frame ∙ fixed in
    λ i. not (is_table (kind i)) && (not (is_unchanging (kind i)) || ((frame i == 2) && within i))

pub handler_stores : (kinds : List Kind) (address : ℕ) → Places → kind_of kinds 2 ≡ Fixed
    → All (λ w. is_unguarded kinds w.0 ≡ true) (stores 8 0x2000 address)
handler_stores kinds address places fixed =
    All-weaker (λ (w : ℕ × ℕ). (0x2000 ≤ w.0) × (w.0 < 0x2000 + 8)) (λ (w : ℕ × ℕ). is_unguarded kinds w.0 ≡ true)
    (λ w at. handler_unguarded kinds w.0 fixed at.0 at.1) (stores 8 0x2000 address) (places 8 0x2000 address)
