-- Where the bytes of a write stand.
use Rattle.std.proofs.Common.{◌≡◌, ◌⊎◌, ℕ, ◌+◌, ◌-◌, ◌/◌, ◌%◌, ◌^◌, ◌<◌, ◌≤◌, All, arith, refl, inl, inr}
use Rattle.std.proofs.Math.Nat.{min-le_right}
use Rattle.std.proofs.lemmas.List.Elements.{All-append, All-weaker}
use Rattle.nk_bits.specs.declared.leaf.Target.{Target}
use Rattle.nk_bits.specs.Accesses.{IsTarget, first_part}
use Rattle.phys_mem.specs.Memory.{stores}
use Rattle.page_walk.specs.MemoryAccess.{stores_at}

part_room : (va width : ℕ) → first_part va width ≤ 4096 - va % 4096
unfolding first_part
part_room va width = min-le_right width (4096 - va % 4096)

module _ (places : (n p v : ℕ) → All (λ w. (p ≤ w.0) × (w.0 < p + n)) (stores n p v)) where
  -- the stores of a number within a frame are in that frame
  in_frame : (n p v : ℕ) (target : Target) → p % 4096 + n ≤ 4096 → (p ≡ target.first) ⊎ (p ≡ target.second) →
      All (λ w. (w.0 / 4096 ≡ target.first / 4096) ⊎ (w.0 / 4096 ≡ target.second / 4096)) (stores n p v)
  in_frame n p v target fits (inl same) =
      All-weaker (λ w. (p ≤ w.0) × (w.0 < p + n)) (λ w. (w.0 / 4096 ≡ target.first / 4096) ⊎ (w.0 / 4096 ≡ target.second / 4096))
      (λ w h. inl (omega (arith, h.0, h.1, fits, same))) (stores n p v) (places n p v)
  in_frame n p v target fits (inr same) =
      All-weaker (λ w. (p ≤ w.0) × (w.0 < p + n)) (λ w. (w.0 / 4096 ≡ target.first / 4096) ⊎ (w.0 / 4096 ≡ target.second / 4096))
      (λ w h. inr (omega (arith, h.0, h.1, fits, same))) (stores n p v) (places n p v)

  pub stores_at_frames : (size va width value : ℕ) (target : Target) → IsTarget size va width target → width ≤ 4096 →
      All (λ w. (w.0 / 4096 ≡ target.first / 4096) ⊎ (w.0 / 4096 ≡ target.second / 4096)) (stores_at va width target value)
  stores_at_frames size va width value target is few =
      All-append (λ w. (w.0 / 4096 ≡ target.first / 4096) ⊎ (w.0 / 4096 ≡ target.second / 4096))
      (stores (first_part va width) target.first value) (stores (width - first_part va width) target.second (value / 256 ^ first_part va width))
      (in_frame (first_part va width) target.first value target (omega (arith, is.first_agrees, part_room va width)) (inl refl))
      (in_frame (width - first_part va width) target.second (value / 256 ^ first_part va width) target (omega (arith, is.second_agrees, few)) (inr refl))
