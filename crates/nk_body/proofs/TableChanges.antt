-- What a call on page tables, or one that sets the handler, leaves of kinds and bytes.
use Rattle.std.proofs.Common.{◌≡◌, ◌≢◌, ◌⊎◌, ℕ, ◌+◌, ◌*◌, ◌/◌, ◌<◌, ◌≤◌, true, false, List, length, arith, refl, sym, ap, subst, ◌∙◌, inl, inr}
use Rattle.std.specs.Prelude.{slice_set}
use Rattle.std.proofs.lemmas.Bool.{cases_Bool, cases_lt, false≢true}
use Rattle.std.proofs.lemmas.Bool.Decides.{eqb_tells}
use Rattle.std.proofs.lemmas.List.Elements.{All-weaker}
use Rattle.std.proofs.lemmas.List.{get_or-set_other, get_or-set_same, length-set}
use Rattle.nk_bits.specs.declared.kind.Kind.{Kind}
use Rattle.nk_bits.specs.declared.kind.Kind.TheVariants.{Data, Code, Table, Fixed, Trap, Guarded, Hidden}
use Rattle.nk_bits.specs.Kinds.{is_guarded, is_storable, kind_of, level_of}
use Rattle.phys_mem.specs.Memory.{IsBytes, byte_at, entry_in, frame_zeroed, stored, stores}
use Rattle.page_desc.specs.FrameCounts.{loose_in}
use Rattle.page_desc.specs.FrameDescriptors.{last_value}
use Rattle.page_desc.specs.PageTables.{HoldsSoundTables, tables_in}
use Rattle.vmmu.specs.AcceptedCalls.{IsDeclarable, IsRemovable, IsWritable}
use Rattle.nk_body.specs.NestedRecord.{IsLedgerKept, Ledger, held_bytes}
use Rattle.nk_body.specs.KindsKept.{is_settled}
use Rattle.nk_body.proofs.CallsMade.{kept_under}
use Rattle.nk_body.proofs.HeldBytes.{held_same}
use Rattle.nk_body.proofs.LowerLaws.{LowerLaws}

-- kinds and bytes before and after
pub record IsTablesLeft (kinds after : List Kind) (m later : List ℕ) : Type 0 where
  pub count : length after ≡ length kinds
  pub settled : (f : ℕ) → is_settled (kind_of kinds f) ≡ true → kind_of after f ≡ kind_of kinds f
  pub given : (f : ℕ) → is_settled (kind_of after f) ≡ true → kind_of after f ≡ kind_of kinds f
  pub loose : (f : ℕ) → 1 ≤ loose_in kinds (entry_in m) f → is_storable (kind_of kinds f) ≡ true
      → is_storable (kind_of after f) ≡ true
  pub bytes : (place : ℕ) → is_settled (kind_of kinds (place / 4096)) ≡ true → (place < 0x2000) ⊎ (0x2008 ≤ place)
      → byte_at later place ≡ byte_at m place
  pub size : length later ≡ length m
  pub are_bytes : IsBytes m → IsBytes later

-- kinds as they were
kinds_same : (kinds : List Kind) (m later : List ℕ)
    → ((place : ℕ) → is_settled (kind_of kinds (place / 4096)) ≡ true → (place < 0x2000) ⊎ (0x2008 ≤ place)
    → byte_at later place ≡ byte_at m place) → length later ≡ length m → (IsBytes m → IsBytes later)
    → IsTablesLeft kinds kinds m later
kinds_same kinds m later bytes size are_bytes = record {
  count = refl;
  settled = λ f is. refl;
  given = λ f is. refl;
  loose = λ f some is. is;
  bytes = bytes;
  size = size;
  are_bytes = are_bytes;
}

-- another kind of one frame, whose bytes alone may change
module _ (kinds : List Kind) (m later : List ℕ) (a : ℕ) (k : Kind) (inside : a < length kinds)
    (unsettled : is_settled (kind_of kinds a) ≡ false) where
  kind_there : kind_of (slice_set kinds a k) a ≡ k
  kind_there = get_or-set_same kinds a k Hidden inside

  kind_elsewhere : (f : ℕ) → f ≢ a → kind_of (slice_set kinds a k) f ≡ kind_of kinds f
  kind_elsewhere f apart = get_or-set_other kinds a f k Hidden apart

  elsewhere : (f : ℕ) → is_settled (kind_of kinds f) ≡ true → f ≢ a
  elsewhere f is same = absurd (false≢true (sym unsettled ∙ ap (λ n. is_settled (kind_of kinds n)) (sym same) ∙ is))

  kind_changed : is_settled k ≡ false
      → (1 ≤ loose_in kinds (entry_in m) a → is_storable (kind_of kinds a) ≡ true → is_storable k ≡ true)
      → ((place : ℕ) → place / 4096 ≢ a → byte_at later place ≡ byte_at m place) → length later ≡ length m
      → (IsBytes m → IsBytes later) → IsTablesLeft kinds (slice_set kinds a k) m later
  kind_changed free storable bytes size are_bytes = record {
    count = length-set kinds a k;
    settled = λ f is. kind_elsewhere f (elsewhere f is);
    given = λ f is. elim (eqb_tells f a) [
      | inl same ↦ absurd (false≢true (sym free ∙ ap is_settled (sym (ap (kind_of (slice_set kinds a k)) same.1 ∙ kind_there)) ∙ is))
      | inr apart ↦ kind_elsewhere f apart.1
    ];
    loose = λ f some is. elim (eqb_tells f a) [
      | inl same ↦
          ap is_storable (ap (kind_of (slice_set kinds a k)) same.1 ∙ kind_there)
          ∙ storable (subst (λ n. 1 ≤ loose_in kinds (entry_in m) n) same.1 some)
          (ap (λ n. is_storable (kind_of kinds n)) (sym same.1) ∙ is)
      | inr apart ↦ ap is_storable (kind_elsewhere f apart.1) ∙ is
    ];
    bytes = λ place is beside. bytes place (elsewhere (place / 4096) is);
    size = size;
    are_bytes = are_bytes;
  }

-- a page table is neither settled nor may it be stored to
table_unsettled : (kind : Kind) → 1 ≤ level_of kind → is_settled kind ≡ false
table_unsettled Data level = absurd (omega (arith, level))
table_unsettled Code level = absurd (omega (arith, level))
table_unsettled (Table n) level = refl
table_unsettled Fixed level = absurd (omega (arith, level))
table_unsettled Trap level = absurd (omega (arith, level))
table_unsettled Guarded level = absurd (omega (arith, level))
table_unsettled Hidden level = absurd (omega (arith, level))

module _ (laws : LowerLaws) (kinds : List Kind) (root : ℕ) (m : List ℕ) (sound : HoldsSoundTables kinds root m) where
  -- a frame of memory lies in it whole
  frame_within : (f : ℕ) → f < length kinds → 4096 * f + 4096 ≤ length m
  frame_within f inside = omega (arith, inside, sound.size)

  -- stores of a number in one frame leave the bytes of every other
  stored_elsewhere : (l : List ℕ) (f place v p : ℕ) → 4096 * f ≤ place → place + 8 ≤ 4096 * f + 4096 → p / 4096 ≢ f
      → byte_at (stored l (stores 8 place v)) p ≡ byte_at l p
  stored_elsewhere l f place v p low high apart =
      laws.byte.memory.byte_elsewhere l (stores 8 place v) p
      (All-weaker (λ (w : ℕ × ℕ). (place ≤ w.0) × (w.0 < place + 8)) (λ (w : ℕ × ℕ). w.0 ≢ p)
      (λ w at same. apart (omega (arith, same, at.0, at.1, low, high))) (stores 8 place v) (laws.byte.memory.places 8 place v))

  stored_bytes : (l : List ℕ) (place v : ℕ) → IsBytes l → IsBytes (stored l (stores 8 place v))
  stored_bytes l place v are = laws.byte.memory.bytes l (stores 8 place v) (laws.byte.memory.values 8 place v) are

  zeroed_bytes : (f : ℕ) → f < length kinds → IsBytes m → IsBytes (frame_zeroed m f)
  zeroed_bytes f inside are p = elim (eqb_tells (p / 4096) f) [
    | inl same ↦ subst (λ n. n < 256) (sym (laws.byte.frame.byte_zeroed m f p (frame_within f inside) same.1)) (omega arith)
    | inr apart ↦ subst (λ n. n < 256) (sym (laws.byte.frame.byte_zeroed_elsewhere m f p (frame_within f inside) apart.1)) (are p)
  ]

  pub handler_left : (address : ℕ) → IsTablesLeft kinds kinds m (stored m (stores 8 0x2000 address))
  handler_left address =
      kinds_same kinds m _
      (λ place is beside. laws.byte.memory.byte_elsewhere m (stores 8 0x2000 address) place
      (All-weaker (λ (w : ℕ × ℕ). (0x2000 ≤ w.0) × (w.0 < 0x2000 + 8)) (λ (w : ℕ × ℕ). w.0 ≢ place)
      (λ w at same. apart w.0 place at beside same) (stores 8 0x2000 address) (laws.byte.memory.places 8 0x2000 address)))
      (laws.byte.memory.length m (stores 8 0x2000 address)) (stored_bytes m 0x2000 address)
    where
      apart : (at place : ℕ) → (0x2000 ≤ at) × (at < 0x2000 + 8) → (place < 0x2000) ⊎ (0x2008 ≤ place) → at ≡ place → ⊥
      apart at place within (inl below) same = absurd (omega (arith, within.0, below, same))
      apart at place within (inr above) same = absurd (omega (arith, within.1, above, same))

  pub declared_left : (level frame : ℕ) → IsDeclarable (tables_in kinds root m) level frame
      → IsTablesLeft kinds (slice_set kinds frame (Table level)) m (stored (frame_zeroed m frame) (stores 8 (4096 * frame + 8 * 511) (last_value level)))
  declared_left level frame is =
      let fits : 4096 * frame + 4096 ≤ length m = frame_within frame is.inside in
      let none : loose_in kinds (entry_in m) frame ≡ 0 = sym (laws.store.loose kinds root m frame sound) ∙ is.none in
      kind_changed kinds m _ frame (Table level) is.inside (ap is_settled is.free) refl
      (λ some storable. absurd (omega (arith, some, none)))
      (λ place apart. stored_elsewhere (frame_zeroed m frame) frame (4096 * frame + 8 * 511) (last_value level) place (omega arith) (omega arith) apart
      ∙ laws.byte.frame.byte_zeroed_elsewhere m frame place fits apart)
      (laws.byte.memory.length (frame_zeroed m frame) _ ∙ laws.byte.frame.length_zeroed m frame fits)
      (λ are. stored_bytes (frame_zeroed m frame) _ _ (zeroed_bytes frame is.inside are))

  pub written_left : (frame index value : ℕ) → IsWritable (tables_in kinds root m) frame index value
      → IsTablesLeft kinds kinds m (stored m (stores 8 (4096 * frame + 8 * index) value))
  written_left frame index value is =
      kinds_same kinds m _
      (λ place settled beside. stored_elsewhere m frame (4096 * frame + 8 * index) value place (omega arith) (omega (arith, is.small))
      (λ same. false≢true (sym (table_unsettled (kind_of kinds frame) is.table)
      ∙ ap (λ n. is_settled (kind_of kinds n)) (sym same) ∙ settled)))
      (laws.byte.memory.length m _) (stored_bytes m _ value)

  pub removed_left : (frame : ℕ) → IsRemovable (tables_in kinds root m) frame
      → IsTablesLeft kinds (slice_set kinds frame Data) m (frame_zeroed m frame)
  removed_left frame is =
      let fits : 4096 * frame + 4096 ≤ length m = frame_within frame is.inside in
      kind_changed kinds m _ frame Data is.inside (table_unsettled (kind_of kinds frame) is.table) refl (λ some storable. refl)
      (λ place apart. laws.byte.frame.byte_zeroed_elsewhere m frame place fits apart) (laws.byte.frame.length_zeroed m frame fits)
      (zeroed_bytes frame is.inside)

  pub nothing_left : IsTablesLeft kinds kinds m m
  nothing_left = kinds_same kinds m m (λ place is beside. refl) refl (λ are. are)

-- the bytes of guarded frames, and the ledger
guarded_settled : (kind : Kind) → is_guarded kind ≡ true → is_settled kind ≡ true
guarded_settled Data is = absurd (false≢true is)
guarded_settled Code is = absurd (false≢true is)
guarded_settled (Table n) is = absurd (false≢true is)
guarded_settled Fixed is = absurd (false≢true is)
guarded_settled Trap is = absurd (false≢true is)
guarded_settled Guarded is = refl
guarded_settled Hidden is = absurd (false≢true is)

module _ (kinds after : List Kind) (m later : List ℕ) (left : IsTablesLeft kinds after m later) where
  pub guarded_left : (f : ℕ) → kind_of kinds f ≡ Guarded → kind_of after f ≡ Guarded
  guarded_left f is = left.settled f (ap is_settled is) ∙ is

  guarded_alike : (f : ℕ) → is_guarded (kind_of after f) ≡ is_guarded (kind_of kinds f)
  guarded_alike f = elim (cases_Bool (is_guarded (kind_of kinds f))) [
    | inl is ↦ ap is_guarded (left.settled f (guarded_settled (kind_of kinds f) is))
    | inr isnt ↦ elim (cases_Bool (is_guarded (kind_of after f))) [
      | inl becomes ↦ ap is_guarded (left.given f (guarded_settled (kind_of after f) becomes))
      | inr stays ↦ stays ∙ sym isnt
    ]
  ]

  pub held_left : kind_of kinds 2 ≡ Fixed → held_bytes after later ≡ held_bytes kinds m
  held_left handler =
      held_same kinds after m later guarded_alike
      (λ p guarded. left.bytes p (guarded_settled (kind_of kinds (p / 4096)) guarded)
      (beside p (λ two. false≢true (sym (ap is_guarded handler) ∙ ap (λ n. is_guarded (kind_of kinds n)) (sym two) ∙ guarded))))
    where
      beside : (q : ℕ) → q / 4096 ≢ 2 → (q < 0x2000) ⊎ (0x2008 ≤ q)
      beside q other = elim (cases_lt q 0x2000) [
        | inl below ↦ inl below
        | inr above ↦ inr (elim (cases_lt q 0x3000) [ inl within ↦ absurd (other (omega (arith, above, within))) | inr past ↦ omega (arith, past) ])
      ]

  pub kept_left : (ledger : Ledger) → IsLedgerKept kinds ledger → IsLedgerKept after ledger
  kept_left ledger kept = kept_under kinds after ledger kept guarded_left
