-- Memory after a call stands for the record that the call makes, whose tables are sound and whose regions lie in guarded
-- frames.
use Rattle.std.proofs.Common.{◌≡◌, ◌≢◌, ◌⊎◌, ℕ, ◌+◌, ◌*◌, ◌/◌, ◌^◌, ◌<◌, ◌≤◌, Bool, true, false, List, length, arith, refl, sym, ap, subst, ◌∙◌, inl, inr}
use Rattle.std.specs.Prelude.{All, Option, None, Some, ◌&&◌, nat_lt, if◌then◌else◌}
use Rattle.std.proofs.lemmas.Bool.{cases_lt, false≢true}
use Rattle.std.proofs.lemmas.List.Elements.{All-weaker}
use Rattle.std.proofs.Math.Nat.{mod-eq_of_lt}
use Rattle.nk_bits.specs.declared.kind.Kind.{Kind}
use Rattle.nk_bits.specs.declared.kind.Kind.TheVariants.{Data, Fixed, Guarded}
use Rattle.nk_bits.specs.declared.rule.Rule.{Rule}
use Rattle.nk_bits.specs.Kinds.{is_data, is_guarded, kind_of, level_of}
use Rattle.phys_mem.specs.Memory.{byte_at, frame_zeroed, number_at, stored, stores}
use Rattle.page_desc.specs.PageTables.{HoldsSoundTables, Tables, loose_of, tables_in}
use Rattle.policy_book.specs.PolicyRules.{stores_written}
use Rattle.region_book.specs.RegionCalls.{alloc_rule, guarded, room}
use Rattle.region_book.specs.RegionRecords.{IsEachOnce, region_of}
use Rattle.vmmu.specs.AcceptedCalls.{IsDeclarable, IsRemovable, IsWritable}
use Rattle.vmmu.specs.TableCalls.{declare_rule, declared, entry_rule, entry_written, memory_declared, memory_removed, memory_written, remove_rule, removed, root_loaded, root_rule}
use Rattle.nk_body.specs.declared.call.Call.{Call}
use Rattle.nk_body.specs.declared.call.Call.TheVariants.{Allocate, DeclarePages, DeclareTable, Free, LoadRoot, NoCall, RemoveTable, SetHandler, Write, WriteEntry}
use Rattle.nk_body.specs.CallLeft.{IsCalled, IsWide, left_in, memory_left}
use Rattle.nk_body.specs.CallRules.{IsSourceOf, Sourced, bytes_read, bytes_standing, declaring_rule, frames_of_pages, made, wants, made_unless, mapped_by, puts, stand_of, verdict, with_pages, with_pool, accepted_memory, written_unless, zeros_of}
use Rattle.nk_body.specs.NestedRecord.{IsLedgerKept, Ledger, Nested, handler_in, held_bytes, nested_in}
use Rattle.nk_body.proofs.CallChanges.{free_inside}
use Rattle.nk_body.proofs.CallFacts.{write_facts}
use Rattle.nk_body.proofs.GuardedFrames.{among, frames_count, guarded_sound, kind_guarded}
use Rattle.nk_body.proofs.HandlerStores.{handler_stores}
use Rattle.nk_body.proofs.HeldBytes.{held_stored}
use Rattle.nk_body.proofs.KeptLedgers.{kept_free, kept_pages, kept_pool, kept_written}
use Rattle.nk_body.proofs.LowerLaws.{LowerLaws}
use Rattle.nk_body.proofs.NumbersLeft.{number_same}
use Rattle.nk_body.proofs.RegionFrames.{InGuarded, handler_aside, in_memory, unguarded}
use Rattle.nk_body.proofs.RegionRules.{alloc_facts, declare_facts, free_facts}
use Rattle.nk_body.proofs.RegionStores.{written_guarded, zeros_guarded}
use Rattle.nk_body.proofs.TableChanges.{IsTablesLeft, declared_left, handler_left, held_left, kept_left, nothing_left, removed_left, written_left}

fixed_data : Fixed ≡ Data → ⊥
fixed_data same = absurd (false≢true (ap is_data same))

-- the bytes of guarded frames, where more frames become guarded
held_guarded : (kinds : List Kind) (m : List ℕ) (fs : List ℕ) (stand : ℕ → ℕ → ℕ) → All (λ f. f < length kinds) fs
    → ((f o : ℕ) → stand f o ≡ (if among f fs && nat_lt o 4096 then byte_at m (4096 * f + o) else 0))
    → held_bytes (guarded kinds fs) m ≡ (λ f o. if among f fs then stand f o else held_bytes kinds m f o)
unfolding held_bytes
held_guarded kinds m fs stand inside stands = λ i f o. at f o i
  where
    by_bool : (b l : Bool) (k : Kind) (x : ℕ) → (if is_guarded (if b then Guarded else k) && l then x else 0)
        ≡ (if b then (if b && l then x else 0) else (if is_guarded k && l then x else 0))
    by_bool true l k x = refl
    by_bool false l k x = refl

    at : (f o : ℕ) → (if is_guarded (kind_of (guarded kinds fs) f) && nat_lt o 4096 then byte_at m (4096 * f + o) else 0)
        ≡ (if among f fs then stand f o else (if is_guarded (kind_of kinds f) && nat_lt o 4096 then byte_at m (4096 * f + o) else 0))
    at f o =
        ap (λ k. if is_guarded k && nat_lt o 4096 then byte_at m (4096 * f + o) else 0) (kind_guarded fs kinds f inside)
        ∙ by_bool (among f fs) (nat_lt o 4096) (kind_of kinds f) (byte_at m (4096 * f + o))
        ∙ ap (λ s. if among f fs then s else (if is_guarded (kind_of kinds f) && nat_lt o 4096 then byte_at m (4096 * f + o) else 0)) (sym (stands f o))

-- what stood in the frames of pages that are declared
stand_is : (nk : Nested) (address size policy : ℕ) (m : List ℕ) (fs : List ℕ) → frames_of_pages nk address size ≡ Some fs
    → (f o : ℕ) → stand_of nk (DeclarePages address size policy) m f o ≡ (if among f fs && nat_lt o 4096 then byte_at m (4096 * f + o) else 0)
stand_is nk address size policy m fs found f o = ap (λ x. bytes_standing m x f o) found

-- what a call on page tables leaves
abbrev Stands : Tables → List ℕ → Type 0
Stands after m = (tables_in after.kinds after.root m ≡ after) × HoldsSoundTables after.kinds after.root m

module _ (laws : LowerLaws) (kinds : List Kind) (root : ℕ) (ledger : Ledger) (m : List ℕ) (sound : HoldsSoundTables kinds root m)
    (kept : IsLedgerKept kinds ledger) where
  abbrev nk : Nested
  nk = nested_in kinds root ledger m

  -- the record, sound tables and a sound ledger, of kinds, root, ledger and memory
  pub record IsMet (after : Nested) (later : List ℕ) : Type 0 where
    pub nested : nested_in after.tables.kinds after.tables.root after.ledger later ≡ after
    pub holds : HoldsSoundTables after.tables.kinds after.tables.root later
    pub keeps : IsLedgerKept after.tables.kinds after.ledger

  -- tables that stand, and the handler's address as it was
  tables_met : (after : Tables) (later : List ℕ) → Stands after later → handler_in later ≡ handler_in m → IsTablesLeft kinds after.kinds m later
      → IsMet (record nk { tables = after }) later
  tables_met after later stands handler left = record {
    nested = λ i. record { tables = stands.0 i; trap = handler i; held = held_left kinds after.kinds m later left sound.handler i; ledger = ledger };
    holds = stands.1;
    keeps = kept_left kinds after.kinds m later left ledger kept;
  }

  -- the bytes of the handler slot are no table's
  handler_same : (f place v : ℕ) (l : List ℕ) → f ≢ 2 → 4096 * f ≤ place → place + 8 ≤ 4096 * f + 4096
      → handler_in (stored l (stores 8 place v)) ≡ handler_in l
  unfolding handler_in
  handler_same f place v l apart low high =
      laws.byte.memory.number_elsewhere l (stores 8 place v) 8 0x2000
      (All-weaker (λ (w : ℕ × ℕ). (place ≤ w.0) × (w.0 < place + 8)) (λ (w : ℕ × ℕ). (w.0 < 0x2000) ⊎ (0x2000 + 8 ≤ w.0))
      (λ w at. beside w.0 at.0 at.1) (stores 8 place v) (laws.byte.memory.places 8 place v))
    where
      beside : (p : ℕ) → place ≤ p → p < place + 8 → (p < 0x2000) ⊎ (0x2000 + 8 ≤ p)
      beside p least most = elim (cases_lt p 0x2000) [
        | inl below ↦ inl below
        | inr above ↦ inr (elim (cases_lt p (0x2000 + 8)) [
          | inl within ↦ absurd (apart (omega (arith, above, within, least, most, low, high)))
          | inr past ↦ past
        ])
      ]

  handler_zeroed : (f : ℕ) → f < length kinds → f ≢ 2 → handler_in (frame_zeroed m f) ≡ handler_in m
  unfolding handler_in
  handler_zeroed f inside apart =
      number_same (frame_zeroed m f) m 8 0x2000
      (λ q low high. laws.byte.frame.byte_zeroed_elsewhere m f q (omega (arith, inside, sound.size)) (λ same. apart (omega (arith, same, low, high))))

  -- a page table isn't the handler's frame
  table_apart : (frame : ℕ) → 1 ≤ level_of (kind_of kinds frame) → frame ≢ 2
  table_apart frame level same =
      let none : level_of (kind_of kinds frame) ≡ 0 = ap (λ n. level_of (kind_of kinds n)) same ∙ ap level_of sound.handler in
      absurd (omega (arith, level, none))

  trap_met : (address : ℕ) → address < 2 ^ 64 → IsMet (record nk { trap = address }) (stored m (stores 8 0x2000 address))
  unfolding handler_in
  trap_met address wide =
      let ws : List (ℕ × ℕ) = stores 8 0x2000 address in
      let unguarded = handler_stores kinds address laws.byte.memory.places sound.handler in
      let held : held_bytes kinds (stored m ws) ≡ held_bytes kinds m =
      held_left kinds kinds m (stored m ws) (handler_left laws kinds root m sound address) sound.handler in
      let long : 0x2000 + 8 ≤ length m = omega (arith, sound.size, second) in
      let trap : number_at (stored m ws) 8 0x2000 ≡ address =
      laws.byte.memory.number_stored m 8 0x2000 address long ∙ mod-eq_of_lt wide in
      record {
        nested = λ i. record { tables = laws.store.stays kinds root m ws unguarded i; trap = trap i; held = held i; ledger = ledger };
        holds = laws.store.sound kinds root m ws sound unguarded;
        keeps = kept;
      }
    where
      second : 2 < length kinds
      second = in_memory kinds 2 Fixed refl sound.handler

  declared_met : (level frame : ℕ) → declare_rule nk.tables level frame ≡ None
      → IsMet (record nk { tables = declared nk.tables level frame }) (memory_declared m level frame)
  declared_met level frame rule =
      let is : IsDeclarable nk.tables level frame = laws.accepted.declared nk.tables level frame rule in
      let apart : frame ≢ 2 = λ same. fixed_data (sym sound.handler ∙ ap (kind_of kinds) (sym same) ∙ is.free) in
      tables_met _ _ (laws.table.declared kinds root level frame m sound rule)
      (handler_same frame (4096 * frame + 8 * 511) _ (frame_zeroed m frame) apart (omega arith) (omega arith)
      ∙ handler_zeroed frame is.inside apart) (declared_left laws kinds root m sound level frame is)

  written_met : (frame index value : ℕ) → value < 2 ^ 64 → entry_rule nk.tables frame index value ≡ None
      → IsMet (record nk { tables = entry_written nk.tables frame index value }) (memory_written m frame index value)
  written_met frame index value small rule =
      let is : IsWritable nk.tables frame index value = laws.accepted.written nk.tables frame index value rule in
      tables_met _ _ (laws.table.written kinds root frame index value m sound small rule)
      (handler_same frame (4096 * frame + 8 * index) value m (table_apart frame is.table) (omega arith) (omega (arith, is.small)))
      (written_left laws kinds root m sound frame index value is)

  removed_met : (frame : ℕ) → remove_rule nk.tables frame ≡ None
      → IsMet (record nk { tables = removed nk.tables frame }) (memory_removed m frame)
  removed_met frame rule =
      let is : IsRemovable nk.tables frame = laws.accepted.removed nk.tables frame rule in
      tables_met _ _ (laws.table.removed kinds root frame m sound rule)
      (handler_zeroed frame is.inside (table_apart frame is.table)) (removed_left laws kinds root m sound frame is)

  loaded_met : (frame : ℕ) → root_rule nk.tables frame ≡ None → IsMet (record nk { tables = root_loaded nk.tables frame }) m
  loaded_met frame rule =
      tables_met _ m (laws.table.loaded kinds root frame m sound rule) refl (nothing_left laws kinds root m sound)

  -- stores in guarded frames
  stores_met : (l : Ledger) (ws : List (ℕ × ℕ)) → InGuarded kinds ws → IsLedgerKept kinds l
      → IsMet (record nk { held = puts nk.held ws; ledger = l }) (stored m ws)
  stores_met l ws are kept = record {
    nested = λ i. record {
      tables = laws.store.stays kinds root m ws (unguarded kinds ws are) i;
      trap = handler_aside kinds ws are laws m sound.handler i;
      held = held_stored kinds ws m sound.size are i;
      ledger = l;
    };
    holds = laws.store.sound kinds root m ws sound (unguarded kinds ws are);
    keeps = kept;
  }

  pages_met : (address size policy : ℕ) (source : Sourced) → declaring_rule nk address size policy ≡ None
      → IsMet (made nk (DeclarePages address size policy) source (stand_of nk (DeclarePages address size policy) m)) m
  pages_met address size policy source rule =
      let facts = declare_facts ledger.book kinds (loose_of nk.tables) (mapped_by nk) address size policy rule in
      let fs : List ℕ = facts.0 in
      let stand = stand_of nk (DeclarePages address size policy) m in
      let inside : All (λ f. f < length kinds) fs = free_inside kinds fs facts.2.free in
      let once : IsEachOnce fs = laws.declared.once fs facts.2.distinct in
      let guards = guarded_sound laws.guard laws.declared root m fs kinds sound once
      (λ k d below. (facts.2.free k d below, sym (laws.store.loose kinds root m _ sound) ∙ facts.2.none k d below)) in
      subst (λ o. IsMet (with_pages nk address size policy stand o) m) (sym facts.1) (record {
        nested = λ i. record {
          tables = guards.1 i;
          trap = handler_in m;
          held = held_guarded kinds m fs stand inside (stand_is nk address size policy m fs facts.1) i;
          ledger = (with_pages nk address size policy stand (Some fs)).ledger;
        };
        holds = guards.0;
        keeps = kept_pages kinds ledger kept (loose_of nk.tables) address size policy fs facts.2 once
            (frames_count (mapped_by nk) (size / 4096) (address / 4096) fs facts.1);
      })

  pool_met : (size policy : ℕ) → alloc_rule ledger.book size policy ≡ None
      → let place = room ledger.book.regions size in IsMet (with_pool nk size policy place) (stored m (zeros_of nk size policy place))
  pool_met size policy rule =
      let facts = alloc_facts ledger.book size policy rule in
      let p : ℕ = facts.place.0 in
      subst (λ (o : Option ℕ). IsMet (with_pool nk size policy o) (stored m (zeros_of nk size policy o))) (sym facts.place.1)
      (stores_met _ (zeros_of nk size policy (Some p)) (zeros_guarded kinds ledger kept size policy p facts facts.place.1)
      (kept_pool kinds ledger kept size policy p facts facts.place.1))

  made_met : (call : Call) (source : Sourced) → IsWide call → IsSourceOf (wants ledger.book call) source → verdict nk call source ≡ None
      → IsMet (made nk call source (stand_of nk call m)) (accepted_memory nk call source m)
  made_met (SetHandler address) source wide sourced rule = trap_met address wide
  made_met (DeclareTable level frame) source wide sourced rule = declared_met level frame rule
  made_met (WriteEntry table index value) source wide sourced rule = written_met table index value wide rule
  made_met (RemoveTable frame) source wide sourced rule = removed_met frame rule
  made_met (LoadRoot frame) source wide sourced rule = loaded_met frame rule
  made_met (DeclarePages address size policy) source wide sourced rule = pages_met address size policy source rule
  made_met (Allocate size policy) source wide sourced rule = pool_met size policy rule
  made_met (Free region) source wide sourced rule =
      let facts = free_facts (region_of ledger.book region) rule in
      record { nested = refl; holds = sound; keeps = kept_free kinds ledger kept region facts.0 facts.1 facts.2 }
  made_met (Write region offset place count) source wide sourced rule =
      let facts = write_facts nk region offset place count source sourced rule in
      stores_met _ (stores_written ledger.book region offset (bytes_read source))
      (written_guarded kinds ledger kept region offset (bytes_read source) facts.region facts.found facts.range)
      (kept_written kinds ledger kept region offset (bytes_read source) facts.region facts.found facts.range facts.admitted)
  made_met NoCall source wide sourced rule = cc

pub call_met : (laws : LowerLaws) (kinds : List Kind) (root : ℕ) (ledger : Ledger) (m : List ℕ) (call : Call) (source : Sourced)
    → (is : IsCalled kinds root ledger m call source)
    → IsMet laws kinds root ledger m is.sound is.keeps (left_in kinds root ledger m call source) (memory_left kinds root ledger m call source)
call_met laws kinds root ledger m call source is = by_verdict (verdict (nested_in kinds root ledger m) call source) refl
  where
    by_verdict : (v : Option Rule) → verdict (nested_in kinds root ledger m) call source ≡ v
        → IsMet laws kinds root ledger m is.sound is.keeps
        (made_unless v (nested_in kinds root ledger m) call source (stand_of (nested_in kinds root ledger m) call m))
        (written_unless v (nested_in kinds root ledger m) call source m)
    by_verdict None none = made_met laws kinds root ledger m is.sound is.keeps call source is.wide is.sourced none
    by_verdict (Some rule) broken = record { nested = refl; holds = is.sound; keeps = is.keeps }
