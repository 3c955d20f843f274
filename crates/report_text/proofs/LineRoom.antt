-- A line that stands at the end of its room.
use Rattle.std.proofs.Common.{◌≡◌, ℕ, ◌+◌, List, [], ◌∷◌, length, drop, set, ap, ◌∙◌, arith}
use Rattle.std.proofs.lemmas.List.{drop-set}
use Rattle.std.proofs.Math.ListN.{drop_of_length-le}

-- the room's last place
pub last_place : (room : List ℕ) (i byte : ℕ) → length room ≡ i + 1 → drop i (set room i byte) ≡ byte ∷ []
last_place room i byte count =
    drop-set room i byte (omega arith) ∙ ap (λ l. byte ∷ l) (drop_of_length-le room (omega arith))
