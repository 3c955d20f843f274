-- The tables of a memory after an entry is stored, after a frame is zeroed, and after a new table is made.
use Rattle.std.proofs.Common.{◌≡◌, ◌≢◌, ℕ, ◌+◌, ◌*◌, ◌^◌, ◌<◌, ◌≤◌, true, ◌==◌, List, ◌++◌, length, take, drop, replicate, arith, refl, sym, ap, ◌∙◌, inl, inr}
use Rattle.std.proofs.lemmas.Grind.{common_steps}
use Rattle.std.proofs.lemmas.List.{length-append, length-drop, length-replicate, length-take-le}
use Rattle.std.proofs.lemmas.Bool.{and_from, and_left, and_right, cases_eq, cond-false, cond_both, eq-eqb, ne_eqb}
use Rattle.nk_bits.specs.Paging.{emptied, replaced, slot_value, zeroed}
use Rattle.phys_mem.specs.Memory.{entry_in, frame_zeroed, patched, stored, stores}
use Rattle.phys_mem.specs.MemoryLaws.{FrameLaws}
use Rattle.page_desc.specs.FrameDescriptors.{last_value}
use Rattle.page_desc.proofs.CountLaws.{replaced_elsewhere, replaced_here}
use Rattle.page_desc.proofs.NewTables.{emptied_elsewhere, emptied_here, emptied_slot, zeroed_elsewhere}
use Rattle.page_desc.proofs.TableDescriptors.{last_slot}

-- the tables with a frame's entries 0, there
zero_here : (t : ℕ → ℕ → ℕ) (a i : ℕ) → zeroed t a a i ≡ 0
unfolding zeroed
zero_here t a i = grind (arith, common_steps)

-- a run put into a memory that has room for it leaves its length
length_patched : (p : ℕ) (m bs : List ℕ) → p + length bs ≤ length m → length (patched m p bs) ≡ length m
unfolding patched
length_patched p m bs inside =
    let first : length (take p m) ≡ p = length-take-le p m (omega (arith, inside)) in
    let rest = length-drop (p + length bs) m in
    omega (arith, first, rest, inside, length-append (take p m) bs, length-append (take p m ++ bs) (drop (p + length bs) m))

length_filled : (n p : ℕ) (m : List ℕ) → p + n ≤ length m → length (patched m p (replicate n 0)) ≡ length m
length_filled n p m inside =
    let zeros : List ℕ = replicate n 0 in
    let count : length zeros ≡ n = length-replicate n 0 in
    length_patched p m zeros (omega (arith, inside, count))

length_zeroed : (m : List ℕ) (a : ℕ) → 4096 * a + 4096 ≤ length m → length (frame_zeroed m a) ≡ length m
unfolding frame_zeroed
length_zeroed m a inside = length_filled 4096 (4096 * a) m inside

last_small : (level : ℕ) → last_value level < 2 ^ 64
unfolding slot_value
last_small level = cond_both (level == 4) slot_value 0 (λ v. v < 2 ^ 64) (λ is. omega arith) (λ is. omega arith)

module _ (laws : FrameLaws) (m : List ℕ) (a : ℕ) (inside : 4096 * a + 4096 ≤ length m) where
  pub entry_replaced : (b v f i : ℕ) → b < 512 → v < 2 ^ 64 → i < 512
      → entry_in (stored m (stores 8 (4096 * a + 8 * b) v)) f i ≡ replaced (entry_in m) a b v f i
  entry_replaced b v f i at_b fits small =
      elim (cases_eq f a) [
        | inl frame ↦ elim (cases_eq i b) [
          | inl index ↦
              (λ j. entry_in (stored m (stores 8 (4096 * a + 8 * b) v)) (frame j) (index j))
              ∙ laws.entry_stored m a b v inside at_b fits
              ∙ sym (replaced_here (entry_in m) a b v) ∙ sym (λ j. replaced (entry_in m) a b v (frame j) (index j))
          | inr apart ↦ laws.entry_apart m a b v f i at_b small (λ _ e. apart e)
              ∙ sym (replaced_elsewhere (entry_in m) a b v f i (λ _ e. apart e))
        ]
        | inr apart ↦ laws.entry_apart m a b v f i at_b small (λ e _. apart e)
            ∙ sym (replaced_elsewhere (entry_in m) a b v f i (λ e _. apart e))
      ]

  pub entry_zeroed : (f i : ℕ) → i < 512 → entry_in (frame_zeroed m a) f i ≡ zeroed (entry_in m) a f i
  entry_zeroed f i small =
      elim (cases_eq f a) [
        | inl frame ↦ ap (λ g. entry_in (frame_zeroed m a) g i) frame ∙ laws.entry_zeroed m a i inside small
            ∙ sym (zero_here (entry_in m) a i) ∙ sym (ap (λ g. zeroed (entry_in m) a g i) frame)
        | inr apart ↦ laws.entry_zeroed_elsewhere m a f i inside small apart ∙ sym (zeroed_elsewhere (entry_in m) a f i apart)
      ]

  -- the last entry of a new table, and its others
  new_last : (level : ℕ) → last_value level ≡ emptied (entry_in m) a level a 511
  new_last level =
      elim (cases_eq level 4) [
        | inl four ↦ last_slot level four
            ∙ sym (emptied_slot (entry_in m) a level 511 (and_from (level == 4) true (eq-eqb level 4 four) refl))
        | inr apart ↦ cond-false (level == 4) slot_value 0 (ne_eqb level 4 apart)
            ∙ sym (emptied_here (entry_in m) a level 511 (and_left (level == 4) true (ne_eqb level 4 apart)))
      ]

  new_other : (level i : ℕ) → i ≢ 511 → emptied (entry_in m) a level a i ≡ 0
  new_other level i apart = emptied_here (entry_in m) a level i (and_right (level == 4) (i == 511) (ne_eqb i 511 apart))

  pub entry_emptied : (level f i : ℕ) → i < 512
      → entry_in (stored (frame_zeroed m a) (stores 8 (4096 * a + 8 * 511) (last_value level))) f i ≡ emptied (entry_in m) a level f i
  entry_emptied level f i small =
      let zero : List ℕ = frame_zeroed m a in
      elim (cases_eq f a) [
        | inl frame ↦ elim (cases_eq i 511) [
          | inl index ↦
              (λ j. entry_in (stored zero (stores 8 (4096 * a + 8 * 511) (last_value level))) (frame j) (index j))
              ∙ laws.entry_stored zero a 511 (last_value level) (omega (arith, inside, length_zeroed m a inside)) (omega arith) (last_small level)
              ∙ new_last level ∙ sym (λ j. emptied (entry_in m) a level (frame j) (index j))
          | inr apart ↦
              laws.entry_apart zero a 511 (last_value level) f i (omega arith) small (λ _ e. apart e)
              ∙ ap (λ g. entry_in zero g i) frame ∙ laws.entry_zeroed m a i inside small ∙ sym (new_other level i apart)
              ∙ sym (ap (λ g. emptied (entry_in m) a level g i) frame)
        ]
        | inr apart ↦
            laws.entry_apart zero a 511 (last_value level) f i (omega arith) small (λ e _. apart e)
            ∙ laws.entry_zeroed_elsewhere m a f i inside small apart ∙ sym (emptied_elsewhere (entry_in m) a level f i apart)
      ]
