-- What the laws on changed tables leave no room for.
use Rattle.std.proofs.Common.{◌≡◌, ◌≢◌, ℕ, true, false}
use Rattle.nk_bits.specs.Paging.{emptied, is_slot_entry, replaced, slot_value, zeroed}
use Rattle.nk_bits.specs.WalkLaws.{TableLaws}

module _ (t : ℕ → ℕ → ℕ) (it : TableLaws) where
  -- where an entry is replaced, another one changes, or it has another value
  other_entry_replaced : (a b c f i : ℕ) → (f ≡ a → i ≡ b → ⊥) → replaced t a b c f i ≢ t f i → ⊥
  other_entry_replaced a b c f i apart other = other (it.replaced_elsewhere t a b c f i apart)

  replaced_by_another : (a b c f i : ℕ) → f ≡ a → i ≡ b → replaced t a b c f i ≢ c → ⊥
  replaced_by_another a b c f i in_table at other = other (it.replaced t a b c f i in_table at)

  -- where a table's entries become 0, another table changes, or an entry stays
  other_table_zeroed : (a f i : ℕ) → f ≢ a → zeroed t a f i ≢ t f i → ⊥
  other_table_zeroed a f i apart other = other (it.zeroed_elsewhere t a f i apart)

  entry_that_stays : (a f i : ℕ) → f ≡ a → zeroed t a f i ≢ 0 → ⊥
  entry_that_stays a f i in_table other = other (it.zeroed t a f i in_table)

  -- a new table lacks the kernel slot's entry, or has another one; and another table changes
  table_without_the_slot : (a level f i : ℕ) → f ≡ a → is_slot_entry level i ≡ true → emptied t a level f i ≢ slot_value → ⊥
  table_without_the_slot a level f i in_table slot other = other (it.emptied_slot t a level f i in_table slot)

  entry_of_a_new_table : (a level f i : ℕ) → f ≡ a → is_slot_entry level i ≡ false → emptied t a level f i ≢ 0 → ⊥
  entry_of_a_new_table a level f i in_table elsewhere other = other (it.emptied t a level f i in_table elsewhere)

  other_table_emptied : (a level f i : ℕ) → f ≢ a → emptied t a level f i ≢ t f i → ⊥
  other_table_emptied a level f i apart other = other (it.emptied_elsewhere t a level f i apart)
