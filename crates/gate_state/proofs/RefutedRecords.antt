-- Records that aren't the same, since memory holds another byte or another entry: what is guarded leaves none of them out.
use Rattle.std.proofs.Common.{◌≡◌, ◌≢◌, ◌∙◌, ℕ, ◌+◌, ◌*◌, true, List, ap, sym}
use Rattle.std.specs.Prelude.{◌&&◌, not, nat_lt}
use Rattle.std.proofs.lemmas.Bool.{cond-true}
use Rattle.nk_bits.specs.declared.kind.Kind.{Kind}
use Rattle.nk_bits.specs.Kinds.{is_guarded, kind_of}
use Rattle.phys_mem.specs.Memory.{byte_at, entry_in}
use Rattle.page_desc.specs.PageTables.{is_handler_byte, is_unchanging, is_table, unchanging_bytes, table_entries}
use Rattle.nk_body.specs.NestedRecord.{Ledger, Nested, held_bytes, nested_in}

-- another byte of code or of a fixed frame, but in the handler slot
kept_byte : (kinds : List Kind) (root : ℕ) (ledger : Ledger) (m n : List ℕ) (f offset : ℕ)
    → (is_unchanging (kind_of kinds f) && nat_lt offset 4096 && not (is_handler_byte f offset)) ≡ true
    → byte_at m (4096 * f + offset) ≢ byte_at n (4096 * f + offset)
    → nested_in kinds root ledger m ≡ nested_in kinds root ledger n → ⊥
unfolding unchanging_bytes
kept_byte kinds root ledger m n f offset is other same =
    other (sym (cond-true (is_unchanging (kind_of kinds f) && nat_lt offset 4096 && not (is_handler_byte f offset))
    (byte_at m (4096 * f + offset)) 0 is)
    ∙ ap (λ (nk : Nested). nk.tables.fixed f offset) same
    ∙ cond-true (is_unchanging (kind_of kinds f) && nat_lt offset 4096 && not (is_handler_byte f offset))
    (byte_at n (4096 * f + offset)) 0 is)

-- another byte of a guarded frame
guarded_byte : (kinds : List Kind) (root : ℕ) (ledger : Ledger) (m n : List ℕ) (f offset : ℕ)
    → (is_guarded (kind_of kinds f) && nat_lt offset 4096) ≡ true
    → byte_at m (4096 * f + offset) ≢ byte_at n (4096 * f + offset)
    → nested_in kinds root ledger m ≡ nested_in kinds root ledger n → ⊥
unfolding held_bytes
guarded_byte kinds root ledger m n f offset is other same =
    other (sym (cond-true (is_guarded (kind_of kinds f) && nat_lt offset 4096) (byte_at m (4096 * f + offset)) 0 is)
    ∙ ap (λ (nk : Nested). nk.held f offset) same
    ∙ cond-true (is_guarded (kind_of kinds f) && nat_lt offset 4096) (byte_at n (4096 * f + offset)) 0 is)

-- another entry of a page table, linked or not
table_entry : (kinds : List Kind) (root : ℕ) (ledger : Ledger) (m n : List ℕ) (f i : ℕ)
    → (is_table (kind_of kinds f) && nat_lt i 512) ≡ true → entry_in m f i ≢ entry_in n f i
    → nested_in kinds root ledger m ≡ nested_in kinds root ledger n → ⊥
unfolding table_entries
table_entry kinds root ledger m n f i is other same =
    other (sym (cond-true (is_table (kind_of kinds f) && nat_lt i 512) (entry_in m f i) 0 is)
    ∙ ap (λ (nk : Nested). nk.tables.entries f i) same
    ∙ cond-true (is_table (kind_of kinds f) && nat_lt i 512) (entry_in n f i) 0 is)
