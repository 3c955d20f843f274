-- The bytes that are seen from an address on, one after another: those that were put, and those that are left.
use Rattle.std.proofs.Common.{◌≡◌, ◌≤◌, ◌<◌, ℕ, zero, suc, ◌+◌, List, [], ◌∷◌, ◌++◌, ap, sym, ◌∙◌, append_assoc, append-nil, arith}
use Rattle.std.specs.Prelude.{◌-◌, Option, Some, None}
use Rattle.gate_state.specs.MachineStates.{MachineState}
use Rattle.memory_sights.specs.Sights.{byte_seen, bytes_seen, seen_on}

-- the first of those that are left, and the others
first_seen : (s : MachineState) (at left n byte : ℕ) → left ≡ suc n → byte_seen s at ≡ Some byte
    → byte ∷ bytes_seen s (at + 1) n ≡ bytes_seen s at left
unfolding bytes_seen
first_seen s at left n byte is seen =
    ap (λ found. seen_on found (bytes_seen s (at + 1) n)) (sym seen) ∙ ap (λ k. bytes_seen s at k) (sym is)

unseen : (s : MachineState) (at left : ℕ) → byte_seen s at ≡ None → bytes_seen s at left ≡ []
unfolding bytes_seen
unseen s at zero none = λ i. []
unseen s at (suc n) none = ap (λ found. seen_on found (bytes_seen s (at + 1) n)) none

none_asked : (s : MachineState) (at left : ℕ) → left ≡ 0 → bytes_seen s at left ≡ []
unfolding bytes_seen
none_asked s at left is = ap (λ k. bytes_seen s at k) is

module _ (s : MachineState) (address done count : ℕ) (found : Option ℕ) (so_far whole : List ℕ)
    (left : so_far ++ bytes_seen s (address + done) (count - done) ≡ whole) where
  -- one more was put
  pub put_on : (byte : ℕ) (items : List ℕ) → done < count → found ≡ byte_seen s (address + done) → found ≡ Some byte
      → items ≡ so_far ++ byte ∷ [] → items ++ bytes_seen s (address + (done + 1)) (count - (done + 1)) ≡ whole
  put_on byte items more seen is put =
      let rest : ℕ = count - (done + 1) in
      let next : address + (done + 1) ≡ address + done + 1 = omega arith in
      ap (λ at. items ++ bytes_seen s at rest) next
      ∙ ap (λ bytes. bytes ++ bytes_seen s (address + done + 1) rest) put
      ∙ append_assoc so_far (byte ∷ []) (bytes_seen s (address + done + 1) rest)
      ∙ ap (λ bytes. so_far ++ bytes)
      (first_seen s (address + done) (count - done) rest byte (omega (arith, more)) (sym seen ∙ is))
      ∙ left

  -- none is seen there
  pub put_all : found ≡ byte_seen s (address + done) → found ≡ None → so_far ≡ whole
  put_all seen is =
      sym (append-nil so_far)
      ∙ ap (λ bytes. so_far ++ bytes) (sym (unseen s (address + done) (count - done) (sym seen ∙ is))) ∙ left

-- as many as were asked for were put
pub put_whole : (s : MachineState) (address done count : ℕ) (so_far whole : List ℕ)
    → so_far ++ bytes_seen s (address + done) (count - done) ≡ whole → count ≤ done → so_far ≡ whole
put_whole s address done count so_far whole left most =
    sym (append-nil so_far)
    ∙ ap (λ bytes. so_far ++ bytes) (sym (none_asked s (address + done) (count - done) (omega (arith, most)))) ∙ left
