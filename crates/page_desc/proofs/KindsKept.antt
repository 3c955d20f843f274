-- Tables whose entries are all lawful go on being such where a frame of data becomes a new table or guarded, and where an
-- empty table or a guarded frame becomes data.
use Rattle.std.proofs.Common.{◌≡◌, ℕ, ◌+◌, ◌<◌, ◌≤◌, Bool, true, false, not, ◌&&◌, ◌||◌, ◌==◌, List, length, set, arith, refl, sym, ap, ◌∙◌, inl, inr}
use Rattle.std.proofs.lemmas.Bool.{and_from, and_parts, both_ways, cases_Bool, eq-eqb, le-leb, or_cases, or_left, or_right}
use Rattle.nk_bits.specs.declared.kind.Kind.{Kind}
use Rattle.nk_bits.specs.declared.kind.Kind.TheVariants.{Data, Table, Guarded}
use Rattle.nk_bits.specs.declared.leaf.Rights.{Rights}
use Rattle.nk_bits.specs.Kinds.{allows, kind_of, level_of}
use Rattle.nk_bits.specs.Paging.{emptied, frame_of, grants_fetches, is_present, is_slot_entry, is_user, grants_writes, rights_of, zeroed}
use Rattle.page_desc.specs.FrameCounts.{holds_leaves, holds_links, is_slot_leaf_table, links_in, loose_in}
use Rattle.page_desc.specs.SoundTables.{AreTables}
use Rattle.page_desc.proofs.CountBounds.{links_none, loose_none}
use Rattle.page_desc.proofs.KindChanges.{absent_zero}
use Rattle.page_desc.proofs.NewTables.{emptied_elsewhere, emptied_here, emptied_slot, zeroed_elsewhere}
use Rattle.page_desc.proofs.TablesKept.{lawful_absent, lawful_slot, tables_moved}

-- rights that grant none of the three
grants_none : (w u x : Bool) → w ≡ false → u ≡ false → (u || not x) ≡ true → (not w && not u && not x) ≡ true
grants_none w u x writes users allowed =
    elim (or_cases u (not x) allowed) [
      | inl user ↦ absurd (both_ways u users user)
      | inr fetches ↦ and_from _ _ (and_from _ _ (ap not writes) (ap not users)) fetches
    ]

-- what a table's kind allows data's allows too
none_is_data : (w u x : Bool) → (not w && not u && not x) ≡ true → (u || not x) ≡ true
none_is_data w u x none = or_right u (not x) (and_parts (not w && not u) (not x) none).1

table_allows : (kind : Kind) (r : Rights) → 1 ≤ level_of kind → allows kind r ≡ true
    → (not r.can_write && not r.user && not r.exec) ≡ true
table_allows (Table level) r low allowed = allowed
table_allows _ r low allowed = absurd (omega arith)

-- a leaf of a table of level 1
leaf_holds : (kinds : List Kind) (t : ℕ → ℕ → ℕ) (f : ℕ) → level_of (kind_of kinds f) ≡ 1
    → holds_leaves kinds t f ≡ true
unfolding holds_leaves
leaf_holds kinds t f one = or_left (level_of (kind_of kinds f) == 1) (is_slot_leaf_table t f) (eq-eqb _ 1 one)

link_holds : (kinds : List Kind) (f : ℕ) → 2 ≤ level_of (kind_of kinds f) → level_of (kind_of kinds f) ≤ 4
    → holds_links kinds f ≡ true
unfolding holds_links
link_holds kinds f least most = and_from _ _ (le-leb 2 _ least) (le-leb _ 4 most)

-- tables are in memory
abbrev pub TablesInMemory : List Kind → Type 0
TablesInMemory kinds = (f : ℕ) → 1 ≤ level_of (kind_of kinds f) → f < length kinds

module _ (kinds : List Kind) (t : ℕ → ℕ → ℕ) (a : ℕ) (tables : AreTables kinds t) (inside : a < length kinds)
    (within : TablesInMemory kinds) where
  -- a frame of data with no loose leaf: its leaves grant nothing but reads by the supervisor
  module _ (free : kind_of kinds a ≡ Data) (none : loose_in kinds t a ≡ 0) where
    leaf_plain : (f i : ℕ) → i < 512 → level_of (kind_of kinds f) ≡ 1 → is_present (t f i) ≡ true → frame_of (t f i) ≡ a
        → allows (kind_of kinds a) (rights_of (t f i)) ≡ true
        → (not (grants_writes (t f i)) && not (is_user (t f i)) && not (grants_fetches (t f i))) ≡ true
    leaf_plain f i small one present named allowed =
        let tight =
        loose_none kinds t a f i none (within f (omega (arith, one))) small (leaf_holds kinds t f one) present named in
        grants_none (grants_writes (t f i)) (is_user (t f i)) (grants_fetches (t f i)) tight.0 tight.1 (ap (λ k. allows k (rights_of (t f i))) (sym free) ∙ allowed)

    no_level : (level : ℕ) → 2 ≤ level → level_of (kind_of kinds a) + 1 ≡ level → ⊥
    no_level level least below = absurd (omega (arith, least, below, ap level_of free))

    pub tables_new : (level : ℕ) → AreTables (set kinds a (Table level)) (emptied t a level)
    tables_new level =
        tables_moved kinds t (emptied t a level) a (Table level) tables inside (λ f i apart. emptied_elsewhere t a level f i apart)
        (λ i small least most. elim (cases_Bool (is_slot_entry level i)) [
          | inl slot ↦ lawful_slot (set kinds a (Table level)) level i (emptied t a level a i) slot
              ∙ eq-eqb _ _ (emptied_slot t a level i slot)
          | inr other ↦ lawful_absent (set kinds a (Table level)) level i (emptied t a level a i) other (ap is_present (emptied_here t a level i other) ∙ absent_zero)
        ])
        leaf_plain (λ f i small least most present named below. no_level (level_of (kind_of kinds f)) least below)

    pub tables_guarded : AreTables (set kinds a Guarded) t
    tables_guarded =
        tables_moved kinds t t a Guarded tables inside (λ f i apart. refl) (λ i small least most. absurd (omega (arith, least)))
        leaf_plain (λ f i small least most present named below. no_level (level_of (kind_of kinds f)) least below)

  -- a table that no entry links becomes data
  pub tables_old : 1 ≤ level_of (kind_of kinds a) → links_in kinds t a ≡ 0 → AreTables (set kinds a Data) (zeroed t a)
  tables_old low none =
      tables_moved kinds t (zeroed t a) a Data tables inside (λ f i apart. zeroed_elsewhere t a f i apart) (λ i small least most. absurd (omega (arith, least)))
      (λ f i small one present named allowed. none_is_data (grants_writes (t f i)) (is_user (t f i)) (grants_fetches (t f i)) (table_allows (kind_of kinds a) (rights_of (t f i)) low allowed))
      (λ f i small least most present named below. absurd (links_none kinds t a f i none (within f (omega (arith, least))) small (link_holds kinds f least most) present named))

  -- guarded bytes become data
  pub tables_freed : kind_of kinds a ≡ Guarded → AreTables (set kinds a Data) t
  tables_freed is =
      tables_moved kinds t t a Data tables inside (λ f i apart. refl) (λ i small least most. absurd (omega (arith, least)))
      (λ f i small one present named allowed. none_is_data (grants_writes (t f i)) (is_user (t f i)) (grants_fetches (t f i)) (ap (λ k. allows k (rights_of (t f i))) (sym is) ∙ allowed))
      (λ f i small least most present named below. absurd (omega (arith, least, below, ap level_of is)))
