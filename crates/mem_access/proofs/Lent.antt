-- The bytes that a page lends: a run within a frame is that run of memory.
use Rattle.std.proofs.Common.{◌≡◌, ℕ, ◌+◌, ◌-◌, ◌*◌, ◌/◌, ◌%◌, ◌≤◌, min, List, take, drop, ap, ◌∙◌, arith}
use Rattle.std.proofs.Math.Nat.{min-le_right}
use Rattle.std.proofs.lemmas.List.{drop-drop, drop-take, take-take}
use Rattle.phys_mem.specs.Memory.{frame_bytes}
use Rattle.page_walk.specs.MemoryAccess.{bytes_left}

run_of_frame : (m : List ℕ) (place start n : ℕ) → start ≡ place % 4096 → start + n ≤ 4096 → take n (drop start (frame_bytes m (place / 4096))) ≡ take n (drop place m)
unfolding frame_bytes
run_of_frame m place start n is within =
    let first : ℕ = 4096 * (place / 4096) in
    let whole : 4096 ≡ start + (4096 - start) = omega (arith, within) in
    let there : first + start ≡ place = omega (arith, is) in
    ap (λ x. take n (drop start (take x (drop first m)))) whole
    ∙ (ap (take n) (drop-take start (4096 - start) (drop first m))
    ∙ (take-take n (4096 - start) (drop start (drop first m)) (omega (arith, within))
    ∙ (ap (take n) (drop-drop start first m) ∙ ap (λ x. take n (drop x m)) there)))

pub lent_run : (m page : List ℕ) (va place count : ℕ) → place % 4096 ≡ va % 4096 → page ≡ frame_bytes m (place / 4096) → count ≡ min 15 (4096 - place % 4096) →
    take (place % 4096 + count - place % 4096) (drop (place % 4096) page) ≡ take (bytes_left va) (drop place m)
unfolding bytes_left
lent_run m page va place count agrees is few =
    let start : ℕ = place % 4096 in
    let same : start + count - start ≡ count = omega arith in
    let all : count ≡ min 15 (4096 - va % 4096) = few ∙ ap (λ x. min 15 (4096 - x)) agrees in
    let room : min 15 (4096 - start) ≤ 4096 - start = min-le_right 15 (4096 - start) in
    ap (λ x. take x (drop start page)) same
    ∙ (ap (λ x. take count (drop start x)) is
    ∙ (run_of_frame m place start count (omega arith) (omega (arith, few, room))
    ∙ ap (λ x. take x (drop place m)) all))

pub run_lent : (m page : List ℕ) (place count : ℕ) → place % 4096 + count ≤ 4096 → page ≡ frame_bytes m (place / 4096) →
    take (place % 4096 + count - place % 4096) (drop (place % 4096) page) ≡ take count (drop place m)
run_lent m page place count within is =
    let start : ℕ = place % 4096 in
    let same : start + count - start ≡ count = omega arith in
    ap (λ x. take x (drop start page)) same
    ∙ (ap (λ x. take count (drop start x)) is ∙ run_of_frame m place start count (omega arith) within)
