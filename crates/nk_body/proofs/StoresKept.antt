-- Stores in frames that may be stored to leave what the nested kernel guards.
use Rattle.std.proofs.Common.{◌≡◌, ◌≢◌, ◌⊎◌, ℕ, ◌+◌, ◌/◌, ◌%◌, ◌<◌, ◌≤◌, Bool, true, not, ◌&&◌, ◌||◌, List, All, arith, refl, sym, ap, ◌∙◌, inl, inr}
use Rattle.std.proofs.lemmas.Bool.{cases_lt, false≢true}
use Rattle.std.proofs.lemmas.List.Elements.{All-weaker}
use Rattle.nk_bits.specs.declared.kind.Kind.{Kind}
use Rattle.nk_bits.specs.declared.kind.Kind.TheVariants.{Data, Code, Table, Fixed, Trap, Guarded, Hidden}
use Rattle.nk_bits.specs.Kinds.{is_guarded, is_storable, kind_of}
use Rattle.phys_mem.specs.Memory.{stored}
use Rattle.phys_mem.specs.MemoryLaws.{MemoryLaws}
use Rattle.page_desc.specs.PageTables.{is_handler_byte, is_unchanging, is_table, is_unguarded}
use Rattle.page_desc.specs.PageTableLaws.{PageTablesLaws}
use Rattle.nk_body.specs.NestedRecord.{AreBooks, Books, Ledger, handler_in, held_bytes, nested_in}
use Rattle.nk_body.proofs.HeldBytes.{held_same}

-- what is used of the laws of memory and of page tables
pub record StoringLaws : Type 0 where
  pub memory : MemoryLaws
  pub tables : PageTablesLaws

-- a frame that may be stored to is no page table, its bytes may change, and no region lies in it
unguarded_by : (kind : Kind) (b : Bool) → is_storable kind ≡ true → (not (is_table kind) && (not (is_unchanging kind) || b)) ≡ true
unguarded_by Data b is = refl
unguarded_by Code b is = absurd (false≢true is)
unguarded_by (Table n) b is = absurd (false≢true is)
unguarded_by Fixed b is = absurd (false≢true is)
unguarded_by Trap b is = refl
unguarded_by Guarded b is = absurd (false≢true is)
unguarded_by Hidden b is = absurd (false≢true is)

pub storable_apart : (kind : Kind) → is_storable kind ≡ true → is_guarded kind ≡ true → ⊥
storable_apart Data is guarded = false≢true guarded
storable_apart Code is guarded = false≢true is
storable_apart (Table n) is guarded = false≢true is
storable_apart Fixed is guarded = false≢true is
storable_apart Trap is guarded = false≢true guarded
storable_apart Guarded is guarded = false≢true is
storable_apart Hidden is guarded = false≢true is

module _ (laws : StoringLaws) (kinds : List Kind) (ws : List (ℕ × ℕ)) (are : All (λ w. is_storable (kind_of kinds (w.0 / 4096)) ≡ true) ws) where
  pub unguarded : All (λ w. is_unguarded kinds w.0 ≡ true) ws
  unguarded =
      All-weaker (λ (w : ℕ × ℕ). is_storable (kind_of kinds (w.0 / 4096)) ≡ true) (λ (w : ℕ × ℕ). is_unguarded kinds w.0 ≡ true)
      (λ w is. unguarded_by (kind_of kinds (w.0 / 4096)) (is_handler_byte (w.0 / 4096) (w.0 % 4096)) is) ws are

  -- the handler's frame is fixed
  pub handler_stays : (m : List ℕ) → kind_of kinds 2 ≡ Fixed → handler_in (stored m ws) ≡ handler_in m
  unfolding handler_in
  handler_stays m fixed =
      laws.memory.number_elsewhere m ws 8 0x2000
      (All-weaker (λ (w : ℕ × ℕ). is_storable (kind_of kinds (w.0 / 4096)) ≡ true) (λ (w : ℕ × ℕ). (w.0 < 0x2000) ⊎ (0x2000 + 8 ≤ w.0))
      (λ w is. beside w.0 (λ two. false≢true (sym (ap is_storable fixed) ∙ ap (λ n. is_storable (kind_of kinds n)) (sym two) ∙ is))) ws are)
    where
      beside : (place : ℕ) → place / 4096 ≢ 2 → (place < 0x2000) ⊎ (0x2000 + 8 ≤ place)
      beside place other = elim (cases_lt place 0x2000) [
        | inl below ↦ inl below
        | inr above ↦ inr (elim (cases_lt place 0x3000) [ inl within ↦ absurd (other (omega arith)) | inr past ↦ omega arith ])
      ]

  pub held_stays : (m : List ℕ) → held_bytes kinds (stored m ws) ≡ held_bytes kinds m
  held_stays m =
      held_same kinds kinds m (stored m ws) (λ f. refl)
      (λ p guarded. laws.memory.byte_elsewhere m ws p
      (All-weaker (λ (w : ℕ × ℕ). is_storable (kind_of kinds (w.0 / 4096)) ≡ true) (λ (w : ℕ × ℕ). w.0 ≢ p)
      (λ w is same. storable_apart (kind_of kinds (w.0 / 4096)) is (ap (λ q. is_guarded (kind_of kinds (q / 4096))) same ∙ guarded)) ws are))

  pub nested_stays : (root : ℕ) (ledger : Ledger) (m : List ℕ) → kind_of kinds 2 ≡ Fixed
      → nested_in kinds root ledger (stored m ws) ≡ nested_in kinds root ledger m
  nested_stays root ledger m fixed =
      λ i. record { tables = laws.tables.stays kinds root m ws unguarded i; trap = handler_stays m fixed i; held = held_stays m i; ledger = ledger }

pub books_stay : (laws : StoringLaws) (books : Books) (m : List ℕ) (ws : List (ℕ × ℕ)) → AreBooks books m
    → All (λ w. is_storable (kind_of books.frames.kinds (w.0 / 4096)) ≡ true) ws → AreBooks books (stored m ws)
books_stay laws books m ws are places = record {
  described = laws.tables.described books.frames books.root m ws are.described (unguarded laws books.frames.kinds ws places);
  least = are.least;
  fixed = are.fixed;
  trap = are.trap ∙ sym (handler_stays laws books.frames.kinds ws places m are.described.sound.handler);
  kept = are.kept;
}
