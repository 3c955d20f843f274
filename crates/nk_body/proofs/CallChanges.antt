-- What a call leaves of kinds and bytes.
use Rattle.std.proofs.Common.{◌≡◌, ◌≢◌, ◌⊎◌, ℕ, suc, ◌+◌, ◌*◌, ◌/◌, ◌<◌, ◌≤◌, Bool, true, false, List, [], ◌∷◌, length, arith, refl, sym, ap, subst, ◌∙◌, inl, inr}
use Rattle.std.specs.Prelude.{All, Option, None, Some, if◌then◌else◌, ◌==◌, ◌||◌}
use Rattle.std.proofs.lemmas.Bool.{cases_Bool, cases_lt, eqb-true, false≢true}
use Rattle.std.proofs.lemmas.List.Elements.{All-weaker}
use Rattle.nk_bits.specs.declared.kind.Kind.{Kind}
use Rattle.nk_bits.specs.declared.kind.Kind.TheVariants.{Data, Code, Table, Fixed, Trap, Guarded, Hidden}
use Rattle.nk_bits.specs.declared.rule.Rule.{Rule}
use Rattle.nk_bits.specs.Kinds.{is_guarded, is_storable, kind_of}
use Rattle.phys_mem.specs.Memory.{IsBytes, byte_at, entry_in, stored}
use Rattle.page_desc.specs.FrameCounts.{loose_in}
use Rattle.page_desc.specs.PageTables.{loose_of}
use Rattle.policy_book.specs.PolicyRules.{stores_written}
use Rattle.region_book.specs.RegionCalls.{guarded}
use Rattle.nk_body.specs.declared.call.Call.{Call}
use Rattle.nk_body.specs.declared.call.Call.TheVariants.{Allocate, DeclarePages, DeclareTable, Free, LoadRoot, NoCall, RemoveTable, SetHandler, Write, WriteEntry}
use Rattle.nk_body.specs.CallLeft.{IsCalled, left_in, memory_left}
use Rattle.nk_body.specs.CallRules.{Sourced, bytes_read, made, made_unless, mapped_by, stand_of, verdict, with_pages, with_pool, accepted_memory, written_unless, zeros_of}
use Rattle.nk_body.specs.KindsKept.{is_reserved, is_settled}
use Rattle.nk_body.specs.NestedRecord.{Ledger, Nested, nested_in}
use Rattle.nk_body.proofs.CallFacts.{write_facts, zeros_small}
use Rattle.nk_body.proofs.GuardedFrames.{among, kind_guarded}
use Rattle.nk_body.proofs.LowerLaws.{LowerLaws}
use Rattle.nk_body.proofs.NumbersLeft.{number_same}
use Rattle.nk_body.proofs.RegionFrames.{InGuarded, in_memory}
use Rattle.nk_body.proofs.RegionRules.{alloc_facts, declare_facts}
use Rattle.nk_body.proofs.RegionStores.{written_bytes, written_guarded, zeros_guarded}
use Rattle.nk_body.proofs.TableChanges.{IsTablesLeft, declared_left, handler_left, nothing_left, removed_left, written_left}

-- kinds and bytes before and after
pub record IsLeft (kinds after : List Kind) (m later : List ℕ) (source : Sourced) : Type 0 where
  pub settled : (f : ℕ) → is_settled (kind_of kinds f) ≡ true → kind_of after f ≡ kind_of kinds f
  pub reserved : (f : ℕ) → is_reserved (kind_of after f) ≡ true → kind_of after f ≡ kind_of kinds f
  pub loose : (f : ℕ) → 1 ≤ loose_in kinds (entry_in m) f → is_storable (kind_of kinds f) ≡ true
      → is_storable (kind_of after f) ≡ true
  pub bytes : (place : ℕ) → is_settled (kind_of kinds (place / 4096)) ≡ true → is_guarded (kind_of kinds (place / 4096)) ≡ false
      → (place < 0x2000) ⊎ (0x2008 ≤ place) → byte_at later place ≡ byte_at m place
  pub size : length later ≡ length m
  pub are_bytes : All (λ b. b < 256) (bytes_read source) → IsBytes m → IsBytes later

reserved_settled : (kind : Kind) → is_reserved kind ≡ true → is_settled kind ≡ true
reserved_settled Data is = absurd (false≢true is)
reserved_settled Code is = refl
reserved_settled (Table n) is = absurd (false≢true is)
reserved_settled Fixed is = refl
reserved_settled Trap is = refl
reserved_settled Guarded is = absurd (false≢true is)
reserved_settled Hidden is = refl

from_tables : (kinds after : List Kind) (m later : List ℕ) (source : Sourced) → IsTablesLeft kinds after m later
    → IsLeft kinds after m later source
from_tables kinds after m later source left = record {
  settled = left.settled;
  reserved = λ f is. left.given f (reserved_settled (kind_of after f) is);
  loose = left.loose;
  bytes = λ place is unguarded beside. left.bytes place is beside;
  size = left.size;
  are_bytes = λ small are. left.are_bytes are;
}

-- stores in guarded frames
guarded_left : LowerLaws → (kinds : List Kind) (m : List ℕ) (source : Sourced) (ws : List (ℕ × ℕ)) → InGuarded kinds ws
    → (All (λ b. b < 256) (bytes_read source) → All (λ w. w.1 < 256) ws) → IsLeft kinds kinds m (stored m ws) source
guarded_left laws kinds m source ws are small = record {
  settled = λ f is. refl;
  reserved = λ f is. refl;
  loose = λ f some is. is;
  bytes = λ place is unguarded beside. laws.byte.memory.byte_elsewhere m ws place
      (All-weaker (λ (w : ℕ × ℕ). kind_of kinds (w.0 / 4096) ≡ Guarded) (λ (w : ℕ × ℕ). w.0 ≢ place)
      (λ w at same. false≢true (sym unguarded ∙ ap (λ p. is_guarded (kind_of kinds (p / 4096))) (sym same) ∙ ap is_guarded at)) ws are);
  size = laws.byte.memory.length m ws;
  are_bytes = λ bytes is. laws.byte.memory.bytes m ws (small bytes) is;
}

-- frames of data that become guarded
among_holds : (P : ℕ → Type 0) (f : ℕ) (fs : List ℕ) → All P fs → among f fs ≡ true → P f
among_holds P f [] all is = absurd (false≢true is)
among_holds P f (g ∷ fs) all is = go (g == f) refl is (λ rest. among_holds P f fs (λ k d below. all (suc k) d (omega (arith, below))) rest)
  where
    go : (b : Bool) → (g == f) ≡ b → (b || among f fs) ≡ true → (among f fs ≡ true → P f) → P f
    go true same is later = subst P (eqb-true g f same) (all 0 g (omega arith))
    go false other is later = later is

pub free_inside : (kinds : List Kind) (fs : List ℕ) → All (λ f. kind_of kinds f ≡ Data) fs → All (λ f. f < length kinds) fs
free_inside kinds fs free =
    All-weaker (λ f. kind_of kinds f ≡ Data) (λ f. f < length kinds) (λ f is. in_memory kinds f Data refl is) fs free

pages_left : (kinds : List Kind) (m : List ℕ) (source : Sourced) (fs : List ℕ) → All (λ f. f < length kinds) fs
    → All (λ f. kind_of kinds f ≡ Data) fs → All (λ f. loose_in kinds (entry_in m) f ≡ 0) fs → IsLeft kinds (guarded kinds fs) m m source
pages_left kinds m source fs inside free none = record {
  settled = λ f is. same_at f (λ is_in. false≢true (sym (ap is_settled (among_holds (λ g. kind_of kinds g ≡ Data) f fs free is_in)) ∙ is));
  reserved = λ f is. same_at f
      (λ is_in. false≢true (sym (ap is_reserved (kind_guarded fs kinds f inside ∙ ap (λ b. if b then Guarded else kind_of kinds f) is_in)) ∙ is));
  loose = λ f some is. ap is_storable (same_at f (λ is_in. none_there f some (among_holds (λ g. loose_in kinds (entry_in m) g ≡ 0) f fs none is_in))) ∙ is;
  bytes = λ place is unguarded beside. refl;
  size = refl;
  are_bytes = λ small are. are;
}
  where
    same_at : (f : ℕ) → (among f fs ≡ true → ⊥) → kind_of (guarded kinds fs) f ≡ kind_of kinds f
    same_at f outside = elim (cases_Bool (among f fs)) [
      | inl is_in ↦ absurd (outside is_in)
      | inr out ↦ kind_guarded fs kinds f inside ∙ ap (λ b. if b then Guarded else kind_of kinds f) out
    ]

    none_there : (f : ℕ) → 1 ≤ loose_in kinds (entry_in m) f → loose_in kinds (entry_in m) f ≡ 0 → ⊥
    none_there f some none_is = absurd (omega (arith, some, none_is))

module _ (laws : LowerLaws) (kinds : List Kind) (root : ℕ) (ledger : Ledger) (m : List ℕ) where
  abbrev nk : Nested
  nk = nested_in kinds root ledger m

  made_left : (call : Call) (source : Sourced) → IsCalled kinds root ledger m call source → verdict nk call source ≡ None
      → IsLeft kinds (made nk call source (stand_of nk call m)).tables.kinds m (accepted_memory nk call source m) source
  made_left (SetHandler address) source is rule = from_tables kinds _ m _ source (handler_left laws kinds root m is.sound address)
  made_left (DeclareTable level frame) source is rule =
      from_tables kinds _ m _ source (declared_left laws kinds root m is.sound level frame (laws.accepted.declared nk.tables level frame rule))
  made_left (WriteEntry table index value) source is rule =
      from_tables kinds _ m _ source (written_left laws kinds root m is.sound table index value (laws.accepted.written nk.tables table index value rule))
  made_left (RemoveTable frame) source is rule =
      from_tables kinds _ m _ source (removed_left laws kinds root m is.sound frame (laws.accepted.removed nk.tables frame rule))
  made_left (LoadRoot frame) source is rule = from_tables kinds _ m _ source (nothing_left laws kinds root m is.sound)
  made_left (DeclarePages address size policy) source is rule =
      let facts = declare_facts ledger.book kinds (loose_of nk.tables) (mapped_by nk) address size policy rule in
      subst (λ o. IsLeft kinds (with_pages nk address size policy (stand_of nk (DeclarePages address size policy) m) o).tables.kinds m m source) (sym facts.1)
      (pages_left kinds m source facts.0 (free_inside kinds facts.0 facts.2.free) facts.2.free
      (λ k d below. sym (laws.store.loose kinds root m _ is.sound) ∙ facts.2.none k d below))
  made_left (Allocate size policy) source is rule =
      let facts = alloc_facts ledger.book size policy rule in
      subst (λ (o : Option ℕ). IsLeft kinds (with_pool nk size policy o).tables.kinds m (stored m (zeros_of nk size policy o)) source) (sym facts.place.1)
      (guarded_left laws kinds m source (zeros_of nk size policy (Some facts.place.0))
      (zeros_guarded kinds ledger is.keeps size policy facts.place.0 facts facts.place.1)
      (λ small. zeros_small nk size policy (Some facts.place.0)))
  made_left (Free region) source is rule = from_tables kinds _ m _ source (nothing_left laws kinds root m is.sound)
  made_left (Write region offset place count) source is rule =
      let facts = write_facts nk region offset place count source is.sourced rule in
      guarded_left laws kinds m source (stores_written ledger.book region offset (bytes_read source))
      (written_guarded kinds ledger is.keeps region offset (bytes_read source) facts.region facts.found facts.range)
      (written_bytes (λ b. b < 256) ledger region offset (bytes_read source))
  made_left NoCall source is rule = cc

  pub call_left : (call : Call) (source : Sourced) → IsCalled kinds root ledger m call source
      → IsLeft kinds (left_in kinds root ledger m call source).tables.kinds m (memory_left kinds root ledger m call source) source
  call_left call source is = by_verdict (verdict nk call source) refl
    where
      by_verdict : (v : Option Rule) → verdict nk call source ≡ v
          → IsLeft kinds (made_unless v nk call source (stand_of nk call m)).tables.kinds m (written_unless v nk call source m) source
      by_verdict None none = made_left call source is none
      by_verdict (Some rule) broken = from_tables kinds kinds m m source (nothing_left laws kinds root m is.sound)

-- the entries of a frame of a settled kind other than the handler's
pub entries_left : (kinds after : List Kind) (m later : List ℕ) (f i : ℕ) (source : Sourced) → IsLeft kinds after m later source
    → is_settled (kind_of kinds f) ≡ true → is_guarded (kind_of kinds f) ≡ false → f ≢ 2 → i < 512 → entry_in later f i ≡ entry_in m f i
unfolding entry_in
entries_left kinds after m later f i source left settled unguarded apart small =
    number_same later m 8 (4096 * f + 8 * i)
    (λ q low high. let frame : q / 4096 ≡ f = omega (arith, low, high, small) in
    left.bytes q (ap (λ n. is_settled (kind_of kinds n)) frame ∙ settled) (ap (λ n. is_guarded (kind_of kinds n)) frame ∙ unguarded) (beside q (λ two. apart (sym frame ∙ two))))
  where
    beside : (q : ℕ) → q / 4096 ≢ 2 → (q < 0x2000) ⊎ (0x2008 ≤ q)
    beside q other = elim (cases_lt q 0x2000) [
      | inl below ↦ inl below
      | inr above ↦ inr (elim (cases_lt q 0x3000) [ inl within ↦ absurd (other (omega (arith, above, within))) | inr past ↦ omega (arith, past) ])
    ]
