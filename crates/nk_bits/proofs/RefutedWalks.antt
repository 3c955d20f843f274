-- Walks, look-ups and kinds that aren't so, each named by the sentence that it guards.
use Rattle.std.proofs.Common.{◌≡◌, ◌≢◌, ◌/◌, ◌<◌, ℕ, true, false, List, [], length, None, Some, Ok, Err, arith}
use Rattle.std.specs.Prelude.{IfOk}
use Rattle.nk_bits.specs.declared.access.Access.{Access}
use Rattle.nk_bits.specs.declared.kind.Kind.{Kind}
use Rattle.nk_bits.specs.declared.leaf.Leaf.{Leaf}
use Rattle.nk_bits.specs.declared.leaf.Rights.{Rights}
use Rattle.nk_bits.specs.AccessLaws.{AccessLaws}
use Rattle.nk_bits.specs.Accesses.{IsWalked, Serves, View, reached}
use Rattle.nk_bits.specs.Claims.{AllPass, Claim}
use Rattle.nk_bits.specs.KindLaws.{KindLaws}
use Rattle.nk_bits.specs.Kinds.{is_storable, kind_of}
use Rattle.nk_bits.specs.Paging.{common, frame_of, is_canonical, is_missing, page_index, rights_of, upper_from, walk, walk_from}
use Rattle.nk_bits.specs.TranslationLaws.{NamedLaws, TranslationLaws}
use Rattle.nk_bits.specs.Translations.{NamesFramesIn, Pairs, Translations, dropped, filled, flushed, look, tlb_after}
use Rattle.nk_bits.specs.UpperEntries.{walk_by}
use Rattle.nk_bits.specs.WalkLaws.{UpperLaws, WalkLaws}

module _ (t : ℕ → ℕ → ℕ) (frames page f : ℕ) (r : Rights) where
  -- a walk doesn't end where an entry is missing, nor at level 0
  walk_past_a_missing_entry : (laws : WalkLaws) (leaf : Leaf) → is_missing frames 4 (t f (page_index page 4)) ≡ true
      → walk_from t frames page 4 f r ≡ Ok leaf → ⊥
  walk_past_a_missing_entry laws leaf lacks found =
      let none = laws.missing t frames page 4 f r (omega arith) lacks in cc

  fault_of_level_0 : (laws : WalkLaws) → walk_from t frames page 0 f r ≡ Err 0 → ⊥
  fault_of_level_0 laws ended = let found = laws.end t frames page f r in cc

  -- or faults for an entry that isn't missing, where what is left finds a leaf
  fault_of_another_level : (laws : WalkLaws) (leaf : Leaf) → is_missing frames 1 (t f (page_index page 1)) ≡ false
      → walk_from t frames page 0 (frame_of (t f (page_index page 1))) (common r (rights_of (t f (page_index page 1))))
      ≡ Ok leaf
      → walk_from t frames page 1 f r ≡ Err 1 → ⊥
  fault_of_another_level laws leaf there found ended =
      let rest = laws.past t frames page 1 f r (omega arith) there in cc

  -- the same of the first look-ups
  upper_past_a_missing_entry : (laws : UpperLaws) → is_missing frames 4 (t f (page_index page 4)) ≡ true
      → upper_from t frames page 1 4 f r ≡ Some (record { frame = 6; rights = r }) → ⊥
  upper_past_a_missing_entry laws lacks found =
      let none = laws.missing t frames page 1 4 f r (omega arith) (omega arith) lacks in cc

  no_look_up_finds_nothing : (laws : UpperLaws) → upper_from t frames page 0 4 f r ≡ None → ⊥
  no_look_up_finds_nothing laws lost = let found = laws.end t frames page 4 f r in cc

  entry_isn't_looked_up : (laws : UpperLaws) → is_missing frames 4 (t f (page_index page 4)) ≡ false
      → upper_from t frames page 1 4 f r
      ≢ upper_from t frames page 0 3 (frame_of (t f (page_index page 4))) (common r (rights_of (t f (page_index page 4))))
      → ⊥
  entry_isn't_looked_up laws there other =
      other (laws.past t frames page 1 4 f r (omega arith) (omega arith) there)

module _ (t : ℕ → ℕ → ℕ) (frames root page : ℕ) where
  -- a leaf is outside memory
  leaf_outside : (laws : WalkLaws) (leaf : Leaf) → walk t frames root page ≡ Ok leaf → leaf.frame ≡ frames → ⊥
  leaf_outside laws leaf found is =
      let inside = laws.in_memory t frames root page leaf found in omega (arith, inside, is)

  -- where nothing is kept the walk is another than from the root
  walk_by_nothing : (laws : UpperLaws) → walk_by t frames root [] page ≢ walk t frames root page → ⊥
  walk_by_nothing laws other = other (laws.none t frames root page)

  -- what is found, and what is kept then, is outside memory
  found_outside : (laws : NamedLaws) (tlb : Translations)
      → (IfOk (walk_by t frames root tlb.upper page) (λ leaf. leaf.frame < frames) → ⊥) → ⊥
  found_outside laws tlb outside = outside (laws.found t frames root page tlb)

  kept_outside : (laws : NamedLaws) (size : ℕ) (tlb : Translations) → frames ≡ size / 4096 → NamesFramesIn size tlb
      → (NamesFramesIn size (tlb_after t frames root tlb page) → ⊥) → ⊥
  kept_outside laws size tlb is named outside = outside (laws.after t frames root page size tlb is named)

flushed_outside : (laws : NamedLaws) → (NamesFramesIn 0 flushed → ⊥) → ⊥
flushed_outside laws outside = outside (laws.flushed 0)

-- a drop of page 7 takes the pair of page 8, and a fill of a page isn't found
module _ (pairs : Pairs) (leaf : Leaf) (laws : TranslationLaws) where
  another_page_dropped : look pairs 8 ≡ Some leaf → look (dropped pairs 7) 8 ≡ None → ⊥
  another_page_dropped kept lost = let same = laws.dropped_other pairs 7 8 (λ is. omega (arith, is)) in cc

  fill_lost : look (filled pairs 7 leaf) 7 ≡ None → ⊥
  fill_lost lost = let found = laws.filled pairs 7 leaf in cc

-- a frame outside memory is storable
storable_outside : (laws : KindLaws) (kinds : List Kind) → length kinds ≡ 512 → is_storable (kind_of kinds 512) ≡ true
    → ⊥
storable_outside laws kinds is storable =
    let inside = laws.storable_in_memory kinds 512 storable in omega (arith, inside, is)

-- an access is answered by a translation that doesn't pass
unserved : (laws : AccessLaws) (view : View) (access : Access) (test : Claim) (tlb : Translations) (va : ℕ)
    → AllPass test tlb → is_canonical va ≡ true → IsWalked view test
    → (IfOk (reached view access tlb va).answer (Serves view access test va) → ⊥) → ⊥
unserved laws view access test tlb va pass canonical walked none =
    none (laws.reached_served view access test tlb va walked canonical pass)
