-- Which accesses a translation serves: SDM volume 3, 4.6, with the bits that this machine has.
use Rattle.std.specs.Prelude.{ℕ, Bool, not, ◌&&◌, ◌||◌, ◌==◌, if◌then◌else◌}
use Rattle.nk_bits.specs.declared.leaf.Rights.{Rights}
use Rattle.nk_bits.specs.declared.access.Access.{Access}
use Rattle.nk_bits.specs.declared.access.Access.TheVariants.{Read, Write, Fetch}

-- a translation with these rights serves the access at this CPL, WP being bit 16 of CR0 and SMEP bit 20 of CR4
abbrev pub may : Access → Rights → ℕ → Bool → Bool → Bool
may Read r cpl wp smep = cpl == 0 || r.user
may Write r cpl wp smep = if cpl == 0 then r.can_write || not wp else r.user && r.can_write
may Fetch r cpl wp smep = if cpl == 0 then r.exec && not (smep && r.user) else r.exec && r.user
