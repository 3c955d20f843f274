-- What no shelf may tell.
use Rattle.std.proofs.Common.{◌≡◌, ℕ, List, ◌∷◌, Option, Some, IfSome, subst, arith}
use Rattle.nk_host.specs.Files.{AreFilesOfBytes, IsFileOfBytes}

-- a shelf that tells a file with 256 in it doesn't meet the contract
pub told_256_is_no_byte : (files : List ℕ → Option (List ℕ)) (name rest : List ℕ) (first : ℕ)
    → files name ≡ Some (first ∷ 256 ∷ rest) → AreFilesOfBytes files → ⊥
told_256_is_no_byte files name rest first told bytes =
    let at_one = subst (λ file. IfSome file IsFileOfBytes) told (bytes name) 1 in omega (arith, at_one)
