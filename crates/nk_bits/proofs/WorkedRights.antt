-- Which accesses each combination of rights serves, as SDM volume 3, 4.6.1 lists it for paging with XD and without SMAP:
-- the supervisor reads every page, writes one that is writable, and every page where WP is clear, and fetches from one whose
-- XD is clear, but from no user page where SMEP is set; the user reads user pages alone, writes those that are writable, and
-- fetches from those whose XD is clear.
use Rattle.std.proofs.Common.{◌≡◌, ℕ, Bool, true, false, List, [], ◌∷◌, refl}
use Rattle.std.specs.Prelude.{if◌then◌else◌, ◌==◌}
use Rattle.nk_bits.specs.AccessRights.{may}
use Rattle.nk_bits.specs.declared.leaf.Rights.{Rights}
use Rattle.nk_bits.specs.declared.access.Access.TheVariants.{Read, Write, Fetch}

one : Bool → ℕ
one b = if b then 1 else 0

-- reads, writes and fetches, each at CPL 0 and then at CPL 3; the rights are writable, user, executable
row : Bool → Bool → ℕ → ℕ → ℕ → List ℕ
row wp smep w u x =
    let r : Rights = record { can_write = w == 1; user = u == 1; exec = x == 1 } in
    one (may Read r 0 wp smep) ∷ one (may Read r 3 wp smep) ∷ one (may Write r 0 wp smep) ∷ one (may Write r 3 wp smep)
    ∷ one (may Fetch r 0 wp smep) ∷ one (may Fetch r 3 wp smep) ∷ []

rows : Bool → Bool → List (List ℕ)
rows wp smep =
    row wp smep 0 0 0 ∷ row wp smep 0 0 1 ∷ row wp smep 0 1 0 ∷ row wp smep 0 1 1
    ∷ row wp smep 1 0 0 ∷ row wp smep 1 0 1 ∷ row wp smep 1 1 0 ∷ row wp smep 1 1 1 ∷ []

wp_clear_smep_clear : rows false false ≡
    (1 ∷ 0 ∷ 1 ∷ 0 ∷ 0 ∷ 0 ∷ [])
    ∷ (1 ∷ 0 ∷ 1 ∷ 0 ∷ 1 ∷ 0 ∷ [])
    ∷ (1 ∷ 1 ∷ 1 ∷ 0 ∷ 0 ∷ 0 ∷ [])
    ∷ (1 ∷ 1 ∷ 1 ∷ 0 ∷ 1 ∷ 1 ∷ [])
    ∷ (1 ∷ 0 ∷ 1 ∷ 0 ∷ 0 ∷ 0 ∷ [])
    ∷ (1 ∷ 0 ∷ 1 ∷ 0 ∷ 1 ∷ 0 ∷ [])
    ∷ (1 ∷ 1 ∷ 1 ∷ 1 ∷ 0 ∷ 0 ∷ [])
    ∷ (1 ∷ 1 ∷ 1 ∷ 1 ∷ 1 ∷ 1 ∷ []) ∷ []
unfolding rows row one
wp_clear_smep_clear = refl

wp_set_smep_clear : rows true false ≡
    (1 ∷ 0 ∷ 0 ∷ 0 ∷ 0 ∷ 0 ∷ [])
    ∷ (1 ∷ 0 ∷ 0 ∷ 0 ∷ 1 ∷ 0 ∷ [])
    ∷ (1 ∷ 1 ∷ 0 ∷ 0 ∷ 0 ∷ 0 ∷ [])
    ∷ (1 ∷ 1 ∷ 0 ∷ 0 ∷ 1 ∷ 1 ∷ [])
    ∷ (1 ∷ 0 ∷ 1 ∷ 0 ∷ 0 ∷ 0 ∷ [])
    ∷ (1 ∷ 0 ∷ 1 ∷ 0 ∷ 1 ∷ 0 ∷ [])
    ∷ (1 ∷ 1 ∷ 1 ∷ 1 ∷ 0 ∷ 0 ∷ [])
    ∷ (1 ∷ 1 ∷ 1 ∷ 1 ∷ 1 ∷ 1 ∷ []) ∷ []
unfolding rows row one
wp_set_smep_clear = refl

wp_clear_smep_set : rows false true ≡
    (1 ∷ 0 ∷ 1 ∷ 0 ∷ 0 ∷ 0 ∷ [])
    ∷ (1 ∷ 0 ∷ 1 ∷ 0 ∷ 1 ∷ 0 ∷ [])
    ∷ (1 ∷ 1 ∷ 1 ∷ 0 ∷ 0 ∷ 0 ∷ [])
    ∷ (1 ∷ 1 ∷ 1 ∷ 0 ∷ 0 ∷ 1 ∷ [])
    ∷ (1 ∷ 0 ∷ 1 ∷ 0 ∷ 0 ∷ 0 ∷ [])
    ∷ (1 ∷ 0 ∷ 1 ∷ 0 ∷ 1 ∷ 0 ∷ [])
    ∷ (1 ∷ 1 ∷ 1 ∷ 1 ∷ 0 ∷ 0 ∷ [])
    ∷ (1 ∷ 1 ∷ 1 ∷ 1 ∷ 0 ∷ 1 ∷ []) ∷ []
unfolding rows row one
wp_clear_smep_set = refl

wp_set_smep_set : rows true true ≡
    (1 ∷ 0 ∷ 0 ∷ 0 ∷ 0 ∷ 0 ∷ [])
    ∷ (1 ∷ 0 ∷ 0 ∷ 0 ∷ 1 ∷ 0 ∷ [])
    ∷ (1 ∷ 1 ∷ 0 ∷ 0 ∷ 0 ∷ 0 ∷ [])
    ∷ (1 ∷ 1 ∷ 0 ∷ 0 ∷ 0 ∷ 1 ∷ [])
    ∷ (1 ∷ 0 ∷ 1 ∷ 0 ∷ 0 ∷ 0 ∷ [])
    ∷ (1 ∷ 0 ∷ 1 ∷ 0 ∷ 1 ∷ 0 ∷ [])
    ∷ (1 ∷ 1 ∷ 1 ∷ 1 ∷ 0 ∷ 0 ∷ [])
    ∷ (1 ∷ 1 ∷ 1 ∷ 1 ∷ 0 ∷ 1 ∷ []) ∷ []
unfolding rows row one
wp_set_smep_set = refl
