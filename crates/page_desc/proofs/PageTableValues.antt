-- What memory's sound tables stand for is memory's: the entries of page tables and of fixed frames, and so the counts.
use Rattle.std.proofs.Common.{◌≡◌, ◌≢◌, ℕ, zero, suc, ◌+◌, ◌*◌, ◌<◌, ◌≤◌, true, not, ◌&&◌, ◌==◌, List, arith, refl, ap, ◌∙◌, inl, inr}
use Rattle.std.specs.Prelude.{nat_lt}
use Rattle.std.proofs.lemmas.Bool.{and_from, and_left, and_parts, cond-false, cond-true, leb-true, lt-ltb, ne_eqb}
use Rattle.phys_mem.specs.Memory.{byte_at, entry_in, number_at}
use Rattle.nk_bits.specs.declared.kind.Kind.{Kind}
use Rattle.nk_bits.specs.declared.kind.Kind.TheVariants.{Fixed}
use Rattle.nk_bits.specs.Kinds.{kind_of, level_of}
use Rattle.page_desc.specs.FrameCounts.{is_link_level, links_in, loose_in}
use Rattle.page_desc.specs.PageTables.{HoldsSoundTables, is_handler_byte, is_unchanging, is_table, unchanging_bytes, links_of, loose_of, number_by, table_entries, tables_in, value_in}
use Rattle.page_desc.proofs.CountsWhere.{holds_apart, links_where, loose_where}

-- bytes that are memory's spell memory's number
pub number_of_bytes : (bytes : ℕ → ℕ) (m : List ℕ) (base n place : ℕ)
    → ((k : ℕ) → place ≤ k → k < place + n → bytes k ≡ byte_at m (base + k))
    → number_by bytes n place ≡ number_at m n (base + place)
unfolding number_by number_at
number_of_bytes bytes m base zero place same = refl
number_of_bytes bytes m base (suc n) place same =
    let first : bytes place ≡ byte_at m (base + place) = same place (omega arith) (omega arith) in
    let rest : number_by bytes n (place + 1) ≡ number_at m n (base + (place + 1)) =
    number_of_bytes bytes m base n (place + 1) (λ k least below. same k (omega (arith, least)) (omega (arith, below))) in
    let next : base + (place + 1) ≡ base + place + 1 = omega arith in
    λ j. first j + 256 * (rest ∙ ap (number_at m n) next) j

-- a byte of a fixed frame but 2
pub kept_here : (kinds : List Kind) (m : List ℕ) (f offset : ℕ) → kind_of kinds f ≡ Fixed → f ≢ 2 → offset < 4096
    → unchanging_bytes kinds m f offset ≡ byte_at m (4096 * f + offset)
unfolding unchanging_bytes
kept_here kinds m f offset is apart small =
    cond-true (is_unchanging (kind_of kinds f) && nat_lt offset 4096 && not (is_handler_byte f offset)) _ _
    (and_from _ _ (and_from _ _ (ap is_unchanging is) (lt-ltb offset 4096 small))
    (ap not (and_left (f == 2) (nat_lt offset 8) (ne_eqb f 2 apart))))

pub value_of_table : (kinds : List Kind) (root : ℕ) (m : List ℕ) (f i : ℕ) → i < 512
    → is_table (kind_of kinds f) ≡ true → value_in (tables_in kinds root m) f i ≡ entry_in m f i
unfolding value_in table_entries
value_of_table kinds root m f i small is =
    cond-true (is_table (kind_of kinds f)) _ _ is
    ∙ cond-true (is_table (kind_of kinds f) && nat_lt i 512) _ _ (and_from _ _ is (lt-ltb i 512 small))

pub value_of_fixed : (kinds : List Kind) (root : ℕ) (m : List ℕ) (f i : ℕ) → i < 512 → kind_of kinds f ≡ Fixed → f ≢ 2
    → value_in (tables_in kinds root m) f i ≡ entry_in m f i
unfolding value_in entry_in
value_of_fixed kinds root m f i small is apart =
    cond-false (is_table (kind_of kinds f)) _ _ (ap is_table is)
    ∙ number_of_bytes (unchanging_bytes kinds m f) m (4096 * f) 8 (8 * i)
    (λ k least below. kept_here kinds m f k is apart (omega (arith, small, below)))

-- a table by its level
pub table_at : (kinds : List Kind) (f : ℕ) → 1 ≤ level_of (kind_of kinds f) → is_table (kind_of kinds f) ≡ true
table_at kinds f level = lt-ltb 0 (level_of (kind_of kinds f)) (omega (arith, level))

module _ (kinds : List Kind) (root : ℕ) (m : List ℕ) (sound : HoldsSoundTables kinds root m) where
  directory_is : (i : ℕ) → i < 512 → value_in (tables_in kinds root m) 9 i ≡ entry_in m 9 i
  directory_is i small =
      value_of_fixed kinds root m 9 i small sound.slot.directory (λ two. absurd (omega (arith, two)))

  pub loose_is : (frame : ℕ) → loose_of (tables_in kinds root m) frame ≡ loose_in kinds (entry_in m) frame
  loose_is frame =
      loose_where kinds (entry_in m) (value_in (tables_in kinds root m)) directory_is
      (λ f i small holds. elim (holds_apart kinds (entry_in m) f sound.slot sound.apart holds) [
        | inl level ↦ value_of_table kinds root m f i small (table_at kinds f (omega (arith, level)))
        | inr fixed ↦ value_of_fixed kinds root m f i small fixed.0 fixed.1
      ])
      frame

  pub links_are : (frame : ℕ) → links_of (tables_in kinds root m) frame ≡ links_in kinds (entry_in m) frame
  links_are frame =
      links_where kinds (entry_in m) (value_in (tables_in kinds root m))
      (λ f i small holds. value_of_table kinds root m f i small (table_at kinds f (link_least f holds)))
      frame
    where
      link_least : (f : ℕ) → is_link_level (level_of (kind_of kinds f)) ≡ true → 1 ≤ level_of (kind_of kinds f)
      link_least f holds = omega (arith, leb-true 2 (level_of (kind_of kinds f)) (and_parts _ _ holds).0)
