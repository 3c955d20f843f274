-- The body keeps the invariant: a call leaves what no call changes and keeps the tables sound, and the supervisor
-- stands behind the body.
use Rattle.std.proofs.Common.{◌≡◌, ℕ, ◌+◌, ◌/◌, ◌≤◌, Bool, true, false, List, refl, sym, ap, subst, ◌∙◌, arith}
use Rattle.std.specs.Prelude.{IfSome, Option, None, Some, not, ◌==◌, if◌then◌else◌}
use Rattle.std.proofs.lemmas.Bool.{and_parts, eqb-true, false≢true}
use Rattle.nk_bits.specs.declared.call.Answer.{Answer}
use Rattle.nk_bits.specs.declared.kind.Kind.{Kind}
use Rattle.nk_bits.specs.declared.kind.Kind.TheVariants.{Code, Fixed, Guarded}
use Rattle.nk_bits.specs.declared.leaf.Leaf.{Leaf}
use Rattle.nk_bits.specs.Accesses.{wp_of}
use Rattle.nk_bits.specs.Claims.{AllPass}
use Rattle.nk_bits.specs.Kinds.{is_guarded, is_storable, kind_of}
use Rattle.nk_bits.specs.Translations.{flushed}
use Rattle.phys_mem.specs.Memory.{entry_in}
use Rattle.boot_map.specs.Division.{division_of}
use Rattle.boot_map.specs.KernelSlot.{IsWrittenInSlot, is_slot_table, slot_leaf}
use Rattle.boot_map.specs.OpeningKinds.{kinds}
use Rattle.boot_map.specs.Parts.{part_at}
use Rattle.page_desc.specs.PageTables.{is_unchanging}
use Rattle.nk_body.specs.declared.call.Call.{Call}
use Rattle.nk_body.specs.CallLeft.{IsCalled, memory_left}
use Rattle.nk_body.specs.CallRules.{Sourced}
use Rattle.nk_body.specs.KindsKept.{is_reserved, is_settled}
use Rattle.nk_body.specs.NestedRecord.{Nested}
use Rattle.x86_regs.specs.declared.registers.Regs.{Regs}
use Rattle.x86_regs.specs.EffectsKept.{AreRegisters}
use Rattle.x86_regs.specs.Operands.{rdx, with_register}
use Rattle.cpu_step.specs.Processor.{Processor}
use Rattle.cpu_step.specs.Turns.{enters_body, is_at_body}
use Rattle.gate_state.specs.GuardedStates.{AreKinds, IsAdmitted, IsGuarded, KeepsOpeningBytes}
use Rattle.gate_state.specs.MachineStates.{MachineState, Opening, nested_of}
use Rattle.gate_state.specs.MachineSteps.{after_reading, answer_in, answered_with, asked_in, call_in, nested_after, served, source_of, wanted, with_place}
use Rattle.gate_state.specs.RespectedKinds.{respecting}
use Rattle.gate_state.specs.SourceBytes.{source_place}
use Rattle.gate_state.proofs.LooseLeaves.{written_loose}
use Rattle.gate_state.proofs.LowerLaws.{LowerLaws}
use Rattle.gate_state.proofs.RegisterBounds.{registers_at, registers_with}
use Rattle.gate_state.proofs.SceneProofsStores.{slot_fixed}
use Rattle.gate_state.proofs.SourceReads.{source_bytes, source_is}
use Rattle.gate_state.proofs.StatesKept.{reading_pass}
use Rattle.gate_state.proofs.Window.{answered_point}

-- at the body's place the supervisor stands, with WP clear
pub body_stands : (p : Processor) → enters_body p ≡ true → (p.regs.cpl ≡ 0) × (wp_of p.control.cr0 ≡ false)
body_stands p enters =
    let parts = and_parts (is_at_body p.regs) (not (wp_of p.control.cr0)) enters in
    (eqb-true p.regs.cpl 0 (and_parts (p.regs.cpl == 0) (p.regs.rip == 0xFFFFFF800000101B) parts.0).0, clear (wp_of p.control.cr0) parts.1)
  where
    clear : (b : Bool) → not b ≡ true → b ≡ false
    clear true is = absurd (false≢true is)
    clear false is = refl

-- a frame whose bytes never change is of a kind that no call gives, and that no call changes
kept_reserved : (kind : Kind) → is_unchanging kind ≡ true → is_reserved kind ≡ true
kept_reserved Code kept = refl
kept_reserved Fixed kept = refl
kept_reserved kind kept = absurd (false≢true kept)

kept_settled : (kind : Kind) → is_unchanging kind ≡ true → is_settled kind ≡ true
kept_settled Code kept = refl
kept_settled Fixed kept = refl
kept_settled kind kept = absurd (false≢true kept)

kept_unguarded : (kind : Kind) → is_unchanging kind ≡ true → is_guarded kind ≡ false
kept_unguarded Guarded kept = absurd (false≢true kept)
kept_unguarded kind kept = refl

-- the handler's frame holds none of the slot's tables
handler_apart : (o : Opening) (f : ℕ) → is_slot_table (part_at (division_of o.image o.frames) f) ≡ true → f ≡ 2 → ⊥
unfolding part_at
handler_apart o f table is =
    let P : ℕ → Type 0 = λ n. is_slot_table (part_at (division_of o.image o.frames) n) ≡ true in
    let none : false ≡ true = subst P is table in
    false≢true none

-- RDX with a place, or without
placed_registers : (regs : Regs) (place : Option ℕ) → AreRegisters regs
    → AreRegisters (record regs { general = with_place place regs.general })
placed_registers regs None are = registers_at regs (record regs { general = with_place None regs.general }) are refl are.rip
placed_registers regs (Some place) are = registers_with regs rdx place (omega arith) are

module _ (laws : LowerLaws) (o : Opening) (admitted : IsAdmitted o) (s : MachineState) (guarded : IsGuarded o s) where
  abbrev call : Call
  call = asked_in s

  abbrev source : Sourced
  source = source_of s

  abbrev after : Nested
  after = nested_after s

  abbrev root : ℕ
  root = s.processor.control.root

  -- the call may be made
  called : IsCalled s.kinds root s.ledger s.memory call source
  called = record {
    sound = guarded.tables;
    keeps = guarded.ledger;
    sourced = source_is s.memory root guarded.memory.are_bytes s.processor.tlb (source_place call) (wanted s);
    wide = laws.call.wide (call_in s.processor.regs) (guarded.control.registers.bounds 6) (guarded.control.registers.bounds 1);
  }

  -- kinds: what the slot's writable leaves name may be stored to still
  still_storable : (found : Option Leaf)
      → IfSome found (λ leaf. leaf.rights.can_write ≡ true → is_storable (kind_of s.kinds leaf.frame) ≡ true)
      → IfSome found (λ leaf. leaf.rights.can_write ≡ true → IsWrittenInSlot o.frames (entry_in s.memory) leaf.frame)
      → IfSome found (λ leaf. leaf.rights.can_write ≡ true → is_storable (kind_of after.tables.kinds leaf.frame) ≡ true)
  still_storable None storable written = tt
  still_storable (Some leaf) storable written = λ write.
      laws.call_leaves.loose s.kinds root leaf.frame s.ledger s.memory call source called
      (written_loose laws s.kinds (entry_in s.memory) leaf.frame o.frames guarded.kinds.count (written write)) (storable write)

  kinds_kept : AreKinds o after.tables.kinds
  kinds_kept = record {
    count = laws.call_leaves.count s.kinds root s.ledger s.memory call source ∙ guarded.kinds.count;
    settled = λ f is.
        let here : kind_of s.kinds f ≡ kind_of (kinds o.image o.frames) f = guarded.kinds.settled f is in
        laws.call_leaves.settled s.kinds root f s.ledger s.memory call source called (ap is_settled here ∙ is) ∙ here;
    reserved = λ f is.
        let same : kind_of after.tables.kinds f ≡ kind_of s.kinds f =
        laws.call_leaves.reserved s.kinds root f s.ledger s.memory call source called is in
        same ∙ guarded.kinds.reserved f (ap is_reserved (sym same) ∙ is);
    writable = λ page low high.
        still_storable (slot_leaf o.image o.frames page) (guarded.kinds.writable page low high)
        (laws.opening_entries.written o.image o.frames page (entry_in s.memory) admitted.layout admitted.pages
        guarded.memory.slot low high);
  }

  -- bytes that never change, and the slot's tables
  memory_kept : KeepsOpeningBytes o after.tables.kinds (memory_left s.kinds root s.ledger s.memory call source)
  memory_kept = record {
    size = laws.call_leaves.length s.kinds root s.ledger s.memory call source called ∙ guarded.memory.size;
    are_bytes =
        laws.call_leaves.are_bytes s.kinds root s.ledger s.memory call source called
        (source_bytes s.memory root guarded.memory.are_bytes s.processor.tlb (source_place call) (wanted s)) guarded.memory.are_bytes;
    bytes = λ place kept beside.
        let same : kind_of after.tables.kinds (place / 4096) ≡ kind_of s.kinds (place / 4096) =
        laws.call_leaves.reserved s.kinds root (place / 4096) s.ledger s.memory call source called
        (kept_reserved (kind_of after.tables.kinds (place / 4096)) kept) in
        let here : is_unchanging (kind_of s.kinds (place / 4096)) ≡ true = ap is_unchanging (sym same) ∙ kept in
        laws.call_leaves.bytes s.kinds root place s.ledger s.memory call source called
        (kept_settled (kind_of s.kinds (place / 4096)) here) (kept_unguarded (kind_of s.kinds (place / 4096)) here) beside
        ∙ guarded.memory.bytes place here beside;
    slot = record {
      entries = λ f i below small table.
          let fixed : kind_of s.kinds f ≡ Fixed = slot_fixed laws o s.kinds admitted guarded.kinds f below table in
          laws.call_leaves.entries s.kinds root f i s.ledger s.memory call source called
          (ap is_settled fixed) (ap is_guarded fixed) (handler_apart o f table) small
          ∙ guarded.memory.slot.entries f i below small table;
    };
  }

  -- translations go, or the kinds are what they were
  pass_kept : (flush : Bool) → (answer_in s).flush ≡ flush
      → AllPass (respecting o after.tables.kinds) (if flush then flushed else (after_reading s).processor.tlb)
  pass_kept true is = laws.kept.flushed (respecting o after.tables.kinds)
  pass_kept false is =
      subst (λ (ks : List Kind). AllPass (respecting o ks) (after_reading s).processor.tlb)
      (sym (laws.call_leaves.same s.kinds root s.ledger s.memory call source is).0) (reading_pass laws o admitted s guarded)

  -- the registers behind the body
  registers_kept : (named : ℕ) → AreRegisters (answered_with (answer_in s) named (after_reading s).processor).regs
  registers_kept named =
      let p : Processor = (after_reading s).processor in
      let answer : Answer = answer_in s in
      let first : Regs = record p.regs { general = with_register p.regs.general 9 answer.value } in
      let both : Regs = record first { general = with_place answer.place first.general } in
      registers_at both (answered_with answer named p).regs
      (placed_registers first answer.place (registers_with p.regs 9 answer.value (omega arith) guarded.control.registers))
      refl (omega arith)

pub body_guarded : LowerLaws → (o : Opening) → IsAdmitted o → (s : MachineState) → enters_body s.processor ≡ true
    → IsGuarded o s → IsGuarded o (served s)
unfolding served
body_guarded laws o admitted s enters guarded =
    let stands = body_stands s.processor enters in
    let named : ℕ = (nested_after s).tables.root in
    let runs : s.processor.halted ≡ false = (guarded.window stands.1).stands.runs in
    let may : IsCalled s.kinds s.processor.control.root s.ledger s.memory (asked_in s) (source_of s) =
    called laws o admitted s guarded in
    record {
      control = record {
        cr0 = guarded.control.cr0;
        cr2 = guarded.control.cr2;
        cr4 = guarded.control.cr4;
        efer = guarded.control.efer;
        tables = guarded.control.tables;
        cpl = guarded.control.cpl;
        registers = registers_kept laws o admitted s guarded named;
        pending = guarded.control.pending;
      };
      kinds = kinds_kept laws o admitted s guarded;
      tables = laws.call.sound s.kinds s.processor.control.root s.ledger s.memory (asked_in s) (source_of s) may;
      memory = memory_kept laws o admitted s guarded;
      ledger = laws.call.kept s.kinds s.processor.control.root s.ledger s.memory (asked_in s) (source_of s) may;
      next = next_kept _ s.ledger.book.next s.turns (laws.call_leaves.next s.kinds s.processor.control.root s.ledger s.memory (asked_in s) (source_of s)) guarded.next;
      translations = pass_kept laws o admitted s guarded (answer_in s).flush refl;
      window = λ clear. answered_point (after_reading s).processor (answer_in s) named stands.0 runs;
    }
  where
    next_kept : (now before turns : ℕ) → now ≤ before + 1 → before ≤ 256 + turns → now ≤ 256 + (turns + 1)
    next_kept now before turns one most = omega arith

-- the record after the body is what the call makes of it
pub body_serves : LowerLaws → (o : Opening) (s : MachineState) → IsAdmitted o → IsGuarded o s
    → nested_of (served s) ≡ nested_after s
unfolding served
body_serves laws o s admitted guarded =
    laws.call.nested s.kinds s.processor.control.root s.ledger s.memory (asked_in s) (source_of s)
    (called laws o admitted s guarded)
