-- The bits of the opening's links and leaves: which frame each names, and what it grants.
use Rattle.std.proofs.Common.{◌≡◌, ◌==◌, ℕ, ◌+◌, ◌*◌, ◌/◌, ◌%◌, ◌^◌, ◌<◌, Bool, true, false, not, arith}
use Rattle.std.proofs.lemmas.Bool.{eq-eqb, ne_eqb, false≢true}
use Rattle.nk_bits.specs.Paging.{frame_of, grants_fetches, is_present, is_user, grants_writes, rights_of}
use Rattle.boot_map.specs.OpeningEntries.{leaf, link, read_leaf, write_leaf}
use Rattle.boot_map.specs.KernelSlot.{readable, writable}

-- 0 isn't present
pub none_present : (A : Type 0) → is_present 0 ≡ true → A
unfolding is_present
none_present A there = absurd (false≢true there)

-- the frame of a leaf
pub frame_of_leaf : (f low : ℕ) (xd : Bool) → f < 2 ^ 40 → low < 4096 → frame_of (leaf f low xd) ≡ f
unfolding frame_of leaf
frame_of_leaf f low true small bits = omega arith
frame_of_leaf f low false small bits = omega arith

-- a leaf that grants reads alone, and one that grants writes too
pub rights_of_read : (g : ℕ) → g < 2 ^ 40 → rights_of (read_leaf g) ≡ (readable g).rights
unfolding leaf grants_writes is_user grants_fetches
rights_of_read g small =
    let write : ((2 ^ 63 + 4096 * g + 33) / 2 % 2 == 1) ≡ false = ne_eqb _ _ (λ e. absurd (omega (arith, e))) in
    let user : ((2 ^ 63 + 4096 * g + 33) / 4 % 2 == 1) ≡ false = ne_eqb _ _ (λ e. absurd (omega (arith, e))) in
    let exec : ((2 ^ 63 + 4096 * g + 33) / 2 ^ 63 % 2 == 1) ≡ true = eq-eqb _ _ (omega arith) in
    λ j. record { can_write = write j; user = user j; exec = not (exec j) }

pub rights_of_write : (g : ℕ) → g < 2 ^ 40 → rights_of (write_leaf g) ≡ (writable g).rights
unfolding leaf grants_writes is_user grants_fetches
rights_of_write g small =
    let write : ((2 ^ 63 + 4096 * g + 99) / 2 % 2 == 1) ≡ true = eq-eqb _ _ (omega arith) in
    let user : ((2 ^ 63 + 4096 * g + 99) / 4 % 2 == 1) ≡ false = ne_eqb _ _ (λ e. absurd (omega (arith, e))) in
    let exec : ((2 ^ 63 + 4096 * g + 99) / 2 ^ 63 % 2 == 1) ≡ true = eq-eqb _ _ (omega arith) in
    λ j. record { can_write = write j; user = user j; exec = not (exec j) }

pub write_present : (g : ℕ) → is_present (write_leaf g) ≡ true
unfolding is_present leaf
write_present g = eq-eqb _ _ (omega arith)

-- a link is present and grants everything
pub link_present : (g : ℕ) → is_present (link g) ≡ true
unfolding is_present link
link_present g = eq-eqb _ _ (omega arith)

pub link_grants : (g : ℕ) → g < 2 ^ 40 → (grants_writes (link g) ≡ true) × (is_user (link g) ≡ true) ×
    (grants_fetches (link g) ≡ true)
unfolding grants_writes is_user grants_fetches link
link_grants g small =
    let exec : ((4096 * g + 39) / 2 ^ 63 % 2 == 1) ≡ false = ne_eqb _ _ (λ e. absurd (omega (arith, e))) in
    (eq-eqb _ _ (omega arith), eq-eqb _ _ (omega arith), λ j. not (exec j))
