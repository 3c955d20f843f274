-- A table function with an entry replaced, with a table's entries 0, and with a new table.
use Rattle.std.proofs.Common.{◌≡◌, ◌≢◌, ℕ, true, false, arith}
use Rattle.std.proofs.lemmas.Grind.{common_steps}
use Rattle.nk_bits.specs.Paging.{replaced, zeroed, emptied, is_slot_entry, slot_value}

-- the tables with an entry replaced: at that entry, and at every other
pub replaced_here : (t : ℕ → ℕ → ℕ) (a b c f i : ℕ) → f ≡ a → i ≡ b → replaced t a b c f i ≡ c
unfolding replaced
replaced_here t a b c f i same_f same_i = grind (arith, common_steps)

pub replaced_elsewhere : (t : ℕ → ℕ → ℕ) (a b c f i : ℕ) → (f ≡ a → i ≡ b → ⊥) → replaced t a b c f i ≡ t f i
unfolding replaced
replaced_elsewhere t a b c f i other = grind (arith, common_steps)

-- the tables with a table's entries 0: in that table, and in every other
pub zeroed_here : (t : ℕ → ℕ → ℕ) (a f i : ℕ) → f ≡ a → zeroed t a f i ≡ 0
unfolding zeroed
zeroed_here t a f i same_f = grind (arith, common_steps)

pub zeroed_elsewhere : (t : ℕ → ℕ → ℕ) (a f i : ℕ) → f ≢ a → zeroed t a f i ≡ t f i
unfolding zeroed
zeroed_elsewhere t a f i other = grind (arith, common_steps)

-- the tables with a new table: its kernel slot, its other entries, and every other table
pub emptied_slot : (t : ℕ → ℕ → ℕ) (a level f i : ℕ) → f ≡ a → is_slot_entry level i ≡ true → emptied t a level f i ≡ slot_value
unfolding emptied
emptied_slot t a level f i same_f is = grind (arith, common_steps)

pub emptied_here : (t : ℕ → ℕ → ℕ) (a level f i : ℕ) → f ≡ a → is_slot_entry level i ≡ false → emptied t a level f i ≡ 0
unfolding emptied
emptied_here t a level f i same_f is = grind (arith, common_steps)

pub emptied_elsewhere : (t : ℕ → ℕ → ℕ) (a level f i : ℕ) → f ≢ a → emptied t a level f i ≡ t f i
unfolding emptied
emptied_elsewhere t a level f i other = grind (arith, common_steps)
