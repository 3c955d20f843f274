-- Walks by their look-ups, and tables that are changed.
use Rattle.std.specs.Prelude.{◌≡◌, ◌≢◌, ℕ, ◌-◌, ◌<◌, ◌≤◌, true, false, [], Some, None, Ok, Err}
use Rattle.nk_bits.specs.declared.leaf.Leaf.{Leaf}
use Rattle.nk_bits.specs.declared.leaf.Rights.{Rights}
use Rattle.nk_bits.specs.declared.leaf.Upper.{Upper}
use Rattle.nk_bits.specs.Paging.{page_index, frame_of, rights_of, common, all_rights, is_missing, is_slot_page, walk, walk_from, upper_from, upper_walk, replaced, zeroed, emptied, is_slot_entry, slot_value}
use Rattle.nk_bits.specs.UpperEntries.{KeptEntry, span_of, first_of_span, serves_page, walk_by}

-- the walk is the recursion on the level
pub record WalkLaws : Type 0 where
  pub by_level : (t : ℕ → ℕ → ℕ) (frames root page : ℕ)
      → walk t frames root page ≡ walk_from t frames page 4 root all_rights
  pub past : (t : ℕ → ℕ → ℕ) (frames page level f : ℕ) (r : Rights) → 1 ≤ level
      → is_missing frames level (t f (page_index page level)) ≡ false
      → walk_from t frames page level f r ≡ walk_from t frames page (level - 1)
      (frame_of (t f (page_index page level))) (common r (rights_of (t f (page_index page level))))
  pub missing : (t : ℕ → ℕ → ℕ) (frames page level f : ℕ) (r : Rights) → 1 ≤ level
      → is_missing frames level (t f (page_index page level)) ≡ true → walk_from t frames page level f r ≡ Err level
  pub end : (t : ℕ → ℕ → ℕ) (frames page f : ℕ) (r : Rights)
      → walk_from t frames page 0 f r ≡ Ok (record { frame = f; rights = r })
  pub in_memory : (t : ℕ → ℕ → ℕ) (frames root page : ℕ) (leaf : Leaf)
      → walk t frames root page ≡ Ok leaf → leaf.frame < frames

-- the first look-ups of a walk, and the rest of it below what they found
pub record UpperLaws : Type 0 where
  pub past : (t : ℕ → ℕ → ℕ) (frames page left level f : ℕ) (r : Rights) → 1 ≤ left → 1 ≤ level
      → is_missing frames level (t f (page_index page level)) ≡ false
      → upper_from t frames page left level f r ≡ upper_from t frames page (left - 1) (level - 1)
      (frame_of (t f (page_index page level))) (common r (rights_of (t f (page_index page level))))
  pub missing : (t : ℕ → ℕ → ℕ) (frames page left level f : ℕ) (r : Rights) → 1 ≤ left → 1 ≤ level
      → is_missing frames level (t f (page_index page level)) ≡ true
      → upper_from t frames page left level f r ≡ None
  pub end : (t : ℕ → ℕ → ℕ) (frames page level f : ℕ) (r : Rights)
      → upper_from t frames page 0 level f r ≡ Some (record { frame = f; rights = r })
  pub walks : (t : ℕ → ℕ → ℕ) (frames page left level f : ℕ) (r : Rights) (it : Upper)
      → upper_from t frames page left level f r ≡ Some it
      → walk_from t frames page level f r ≡ walk_from t frames page (level - left) it.frame it.rights
  pub in_memory : (t : ℕ → ℕ → ℕ) (frames root page level : ℕ) (it : Upper) → level ≤ 4
      → upper_walk t frames root page level ≡ Some it → it.frame < frames
  pub same_span : (t : ℕ → ℕ → ℕ) (frames root page other level : ℕ) → 1 ≤ level → level ≤ 4
      → span_of level page ≡ span_of level other
      → upper_walk t frames root page level ≡ upper_walk t frames root other level
  pub same_slot : (page other level : ℕ) → 1 ≤ level → level ≤ 4 → span_of level page ≡ span_of level other
      → is_slot_page page ≡ is_slot_page other
  pub first_page : (level bits : ℕ) → span_of level (first_of_span level bits) ≡ bits
  pub covers : (page : ℕ) (entry : KeptEntry) → serves_page page entry ≡ true
      → (2 ≤ entry.0) × (entry.0 ≤ 4) × (entry.1 ≡ span_of entry.0 page)
  pub none : (t : ℕ → ℕ → ℕ) (frames root page : ℕ) → walk_by t frames root [] page ≡ walk t frames root page

-- a table function with an entry replaced, with a table's entries 0, and with a new table
pub record TableLaws : Type 0 where
  pub replaced_elsewhere : (t : ℕ → ℕ → ℕ) (a b c f i : ℕ) → (f ≡ a → i ≡ b → ⊥)
      → replaced t a b c f i ≡ t f i
  pub replaced : (t : ℕ → ℕ → ℕ) (a b c f i : ℕ) → f ≡ a → i ≡ b → replaced t a b c f i ≡ c
  pub zeroed_elsewhere : (t : ℕ → ℕ → ℕ) (a f i : ℕ) → f ≢ a → zeroed t a f i ≡ t f i
  pub zeroed : (t : ℕ → ℕ → ℕ) (a f i : ℕ) → f ≡ a → zeroed t a f i ≡ 0
  pub emptied_slot : (t : ℕ → ℕ → ℕ) (a level f i : ℕ) → f ≡ a → is_slot_entry level i ≡ true
      → emptied t a level f i ≡ slot_value
  pub emptied_elsewhere : (t : ℕ → ℕ → ℕ) (a level f i : ℕ) → f ≢ a → emptied t a level f i ≡ t f i
  pub emptied : (t : ℕ → ℕ → ℕ) (a level f i : ℕ) → f ≡ a → is_slot_entry level i ≡ false
      → emptied t a level f i ≡ 0
