-- The gate points one by one: what holds of each of fourteen offsets and of both instructions of sixteen stubs holds of
-- every point.
use Rattle.std.proofs.Common.{◌≡◌, ℕ, ◌+◌, ◌-◌, ◌*◌, ◌/◌, ◌%◌, ◌<◌, ◌≤◌, true, refl, List, [], ◌∷◌, inl, inr, arith, subst}
use Rattle.std.specs.Prelude.{◌==◌, ◌&&◌, nat_le, nat_lt, ⊤}
use Rattle.std.specs.List.{list_any}
use Rattle.std.proofs.lemmas.Bool.{and_parts, or_cases, eqb-true, leb-true, ltb-true, false≢true}
use Rattle.cpu_step.specs.Processor.{Processor}
use Rattle.gate_text.specs.GatePoints.{gate_points, is_point, is_stub_point}
use Rattle.gate_state.specs.GateWindow.{holds_at, is_uninterrupted, stands_on}
use Rattle.gate_state.proofs.WindowRows.{Below, from_32}

-- what holds of each of some offsets
abbrev pub Each : (ℕ → Type 0) → List ℕ → Type 0
Each P [] = ⊤
Each P (point ∷ points) = P point × Each P points

listed_in : (P : ℕ → Type 0) (points : List ℕ) (offset : ℕ) → Each P points
    → list_any (λ point. point == offset) points ≡ true → P offset
listed_in P [] offset all is = absurd (false≢true is)
listed_in P (point ∷ points) offset all is = elim (or_cases (point == offset) (list_any (λ q. q == offset) points) is) [
  | inl here ↦ subst P (eqb-true point offset here) all.0
  | inr later ↦ listed_in P points offset all.1 later
]

-- both instructions of a stub, by the vector
in_stub : (P : ℕ → Type 0) → ((v : ℕ) → 32 ≤ v → v < 48 → P (64 + 8 * v)) → ((v : ℕ) → 32 ≤ v → v < 48 → P (66 + 8 * v))
    → (offset : ℕ) → is_stub_point offset ≡ true → P offset
in_stub P push jump offset is =
    let parts = and_parts (nat_le 320 offset && nat_lt offset 448) _ is in
    let bounds = and_parts (nat_le 320 offset) (nat_lt offset 448) parts.0 in
    let low : 320 ≤ offset = leb-true _ _ bounds.0 in
    let high : offset < 448 = ltb-true _ _ bounds.1 in
    elim (or_cases (offset % 8 == 0) (offset % 8 == 2) parts.1) [
      | inl first ↦
          let even : offset % 8 ≡ 0 = eqb-true _ _ first in
          let there : 64 + 8 * (offset / 8 - 8) ≡ offset = omega arith in
          subst P there (push (offset / 8 - 8) (omega arith) (omega arith))
      | inr second ↦
          let even : offset % 8 ≡ 2 = eqb-true _ _ second in
          let there : 66 + 8 * (offset / 8 - 8) ≡ offset = omega arith in
          subst P there (jump (offset / 8 - 8) (omega arith) (omega arith))
    ]

pub at_points : (P : ℕ → Type 0) → Each P gate_points → ((v : ℕ) → 32 ≤ v → v < 48 → P (64 + 8 * v))
    → ((v : ℕ) → 32 ≤ v → v < 48 → P (66 + 8 * v)) → (offset : ℕ) → is_point offset ≡ true → P offset
unfolding is_point
at_points P all push jump offset is =
    elim (or_cases (list_any (λ point. point == offset) gate_points) (is_stub_point offset) is) [
      | inl listed ↦ listed_in P gate_points offset all listed
      | inr stub ↦ in_stub P push jump offset stub
    ]

-- what holds in a stub: before its PUSH and behind it
abbrev pub HoldsBefore : Processor → ℕ → Type 0
HoldsBefore p v = holds_at (64 + 8 * v) p ≡ (is_uninterrupted p && stands_on 0xFFFFFF8000003FD8 p)

abbrev pub HoldsBehind : Processor → ℕ → Type 0
HoldsBehind p v = holds_at (66 + 8 * v) p ≡ (is_uninterrupted p && stands_on 0xFFFFFF8000003FD0 p)

all_before : (p : Processor) → Below (λ k. HoldsBefore p (32 + k)) 16
all_before p = (
  refl,
  (
    refl,
    (
      refl,
      (
        refl,
        (
          refl,
          (
            refl,
            (
              refl,
              (
                refl,
                (refl, (refl, (refl, (refl, (refl, (refl, (refl, (refl, tt)))))))),
              ),
            ),
          ),
        ),
      ),
    ),
  ),
)

all_behind : (p : Processor) → Below (λ k. HoldsBehind p (32 + k)) 16
all_behind p = (
  refl,
  (
    refl,
    (
      refl,
      (
        refl,
        (
          refl,
          (
            refl,
            (
              refl,
              (
                refl,
                (refl, (refl, (refl, (refl, (refl, (refl, (refl, (refl, tt)))))))),
              ),
            ),
          ),
        ),
      ),
    ),
  ),
)

pub stub_before : (p : Processor) (v : ℕ) → 32 ≤ v → v < 48 → HoldsBefore p v
stub_before p v low high = from_32 (HoldsBefore p) (all_before p) v low high

pub stub_behind : (p : Processor) (v : ℕ) → 32 ≤ v → v < 48 → HoldsBehind p v
stub_behind p v low high = from_32 (HoldsBehind p) (all_behind p) v low high
