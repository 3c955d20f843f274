-- States that are not safe or not guarded, each named by the sentence that it guards.
use Rattle.std.proofs.Common.{◌≡◌, ◌≢◌, ℕ, suc, zero, ◌+◌, ◌/◌, ◌%◌, ◌++◌, true, false, List, [], ◌∷◌, length, All, Err, refl, sym, ap, subst, ◌∙◌, ◌≤◌, arith}
use Rattle.std.specs.Prelude.{None, Some, slice_get, ◌&&◌}
use Rattle.std.specs.Int.Count.{count_leading_zeros}
use Rattle.std.specs.List.{Contains}
use Rattle.std.proofs.lemmas.Bool.{and_parts, false≢true}
use Rattle.std.proofs.lemmas.List.Elements.{All-contains, All-head}
use Rattle.nk_bits.specs.declared.kind.Kind.{Kind}
use Rattle.nk_bits.specs.declared.kind.Kind.TheVariants.{Data, Table}
use Rattle.nk_bits.specs.declared.leaf.Leaf.{Leaf}
use Rattle.nk_bits.specs.declared.leaf.Upper.{Upper}
use Rattle.nk_bits.specs.Accesses.{accessed, completed, crosses, first_part, has_canonical_bytes, reached, smep_of, wp_of}
use Rattle.nk_bits.specs.Kinds.{is_storable, kind_of, level_of}
use Rattle.nk_bits.specs.Paging.{has_all, is_slot_page}
use Rattle.nk_bits.specs.Translations.{IsLive}
use Rattle.nk_bits.specs.UpperEntries.{first_of_span}
use Rattle.phys_mem.specs.Memory.{entry_in, number_at, stored, stores}
use Rattle.page_walk.specs.MemoryAccess.{view_of}
use Rattle.x86_regs.specs.declared.faults.Fault.{Fault}
use Rattle.trap_unit.specs.DeliveryStores.{delivery_stores, push_stores}
use Rattle.trap_unit.specs.TrapDelivery.{delivered, entry_found, gate_read, pushed}
use Rattle.x86_decode.specs.declared.instruction.Decoded.TheVariants.{Whole}
use Rattle.x86_decode.specs.Decoding.{Decodes}
use Rattle.cpu_step.specs.declared.fetch.Fetched.{Fetched}
use Rattle.cpu_step.specs.InstructionFetch.{instruction_at}
use Rattle.cpu_step.specs.Processor.{Processor, deliverable}
use Rattle.cpu_step.specs.TurnStores.{turn_stores}
use Rattle.cpu_step.specs.Turns.{enters_body, trapped, turned}
use Rattle.nk_body.specs.NestedRecord.{Ledger}
use Rattle.gate_text.specs.GatePoints.{instruction_bytes, is_point}
use Rattle.nk_bits.specs.KernelLayout.{gate_address}
use Rattle.gate_state.specs.GuardedStates.{IsGuarded}
use Rattle.gate_state.specs.MachineStates.{MachineState, Opening}
use Rattle.gate_state.specs.MachineSteps.{waits}
use Rattle.gate_state.specs.RespectedKinds.{respecting, respects}
use Rattle.gate_state.specs.SafeStates.{IsGateInstruction, IsSafe, TakesTurn}
use Rattle.gate_state.proofs.SceneProofsUppers.{Leading, entry_passes, leading}

-- with WP clear, a turn that stores a byte outside frame 3 isn't safe, whatever stood at that place
outside_store : (o : Opening) (s : MachineState) (place byte : ℕ) → TakesTurn s.processor → wp_of s.processor.control.cr0 ≡ false
    → Contains (turn_stores s.processor s.memory) (place, byte) → place / 4096 ≢ 3 → IsSafe o s → ⊥
outside_store o s place byte takes clear stores outside safe =
    outside (All-contains (λ (w : ℕ × ℕ). w.0 / 4096 ≡ 3) (turn_stores s.processor s.memory) (place, byte) (safe.window_stores takes clear) stores)

-- a turn that stores a byte in a frame of another kind than Data and Trap isn't safe, with WP set as with WP clear
guarded_store : (o : Opening) (s : MachineState) (place byte : ℕ) → TakesTurn s.processor
    → Contains (turn_stores s.processor s.memory) (place, byte) → is_storable (kind_of s.kinds (place / 4096)) ≡ false
    → IsSafe o s → ⊥
guarded_store o s place byte takes stores other safe =
    false≢true (sym other ∙ All-contains (λ (w : ℕ × ℕ). is_storable (kind_of s.kinds (w.0 / 4096)) ≡ true)
    (turn_stores s.processor s.memory) (place, byte) (safe.stores takes) stores)

-- with WP clear, a processor that is to take an instruction at no gate point isn't safe
off_the_gates : (o : Opening) (s : MachineState) → TakesTurn s.processor → wp_of s.processor.control.cr0 ≡ false
    → deliverable s.processor ≡ None
    → ((offset : ℕ) → is_point offset ≡ true → s.processor.regs.rip ≢ gate_address + offset) → IsSafe o s → ⊥
off_the_gates o s takes clear none off safe =
    let it : IsGateInstruction s.processor s.memory = safe.gates takes clear none in
    off it.offset it.point.point it.point.rip

-- with WP clear, a user that is to take an instruction isn't safe, wherever it stands
users_instruction : (o : Opening) (s : MachineState) → TakesTurn s.processor → wp_of s.processor.control.cr0 ≡ false
    → deliverable s.processor ≡ None → s.processor.regs.cpl ≡ 3 → IsSafe o s → ⊥
users_instruction o s takes clear none user safe =
    let it : IsGateInstruction s.processor s.memory = safe.gates takes clear none in
    absurd (omega (arith, user, it.point.supervisor))

-- the bytes of 64-bit words, least significant first
abbrev bytes_of : ℕ → ℕ → List ℕ
bytes_of zero word = []
bytes_of (suc n) word = (word % 256) ∷ bytes_of n (word / 256)

abbrev words : List ℕ → List ℕ
words [] = []
words (word ∷ rest) = bytes_of 8 word ++ words rest

-- a user whose vector 32 is due, with WP clear; gate 32 stands at the first byte of memory, IST1 in its seventh word
abbrev user : Processor
user = record {
  regs = record {
    general = 0 ∷ 1 ∷ 2 ∷ 3 ∷ 0x7008 ∷ 5 ∷ 6 ∷ 7 ∷ 8 ∷ 9 ∷ 10 ∷ 11 ∷ 12 ∷ 13 ∷ 14 ∷ 15 ∷ [];
    rip = 0x401234;
    flags = 0x246;
    cpl = 3;
    ss = 0x23;
  };
  control = record { cr0 = 0x80000001; cr2 = 0; root = 5; cr4 = 0x100020; efer = 0xD00 };
  tables = record { idt = 0xFFFFFF7FFFFFFE00; limit = 527; tss = 0xFFFFFF800000000C };
  tlb = record {
    pairs = (0xFFFFFF8000000, record { frame = 0; rights = record { can_write = true; user = false; exec = false } }) ∷ [];
    upper = [];
  };
  input = [];
  pending = 1;
  shielded = false;
  halted = false;
}

-- memory in which the frame of that delivery stands already
abbrev memory : List ℕ
memory = words (0x00008E0100081040 ∷ 0xFFFFFF80 ∷ 0 ∷ 0 ∷ 0 ∷ 0 ∷ 0xFFFFFF8000000088 ∷ 0 ∷ 0 ∷ 0 ∷ 0
    ∷ 0x401234 ∷ 0x1B ∷ 0x246 ∷ 0x7008 ∷ 0x23 ∷ [])

-- its turn changes no byte
same_memory : (turned user memory).memory ≡ memory
unfolding turned trapped delivered entry_found gate_read pushed accessed completed reached crosses has_canonical_bytes first_part number_at stores stored wp_of smep_of count_leading_zeros
same_memory = refl

-- but stores the 40 bytes of its frame in the first frame of memory, SS's least byte first
abbrev later : List (ℕ × ℕ)
later = stores 7 0x79 0 ++ stores 8 0x70 0x7008 ++ stores 8 0x68 0x246 ++ stores 8 0x60 0x1B ++ stores 8 0x58 0x401234

stores_in_frame_0 : turn_stores user memory ≡ (0x78, 0x23) ∷ later
unfolding turn_stores delivery_stores push_stores entry_found gate_read pushed accessed completed reached crosses has_canonical_bytes first_part number_at stores stored wp_of smep_of count_leading_zeros
stores_in_frame_0 = refl

-- with WP clear, a delivery that stores the bytes that stood in frame 0 isn't safe, though no byte changes
equal_bytes : (o : Opening) (kinds : List Kind) (ledger : Ledger) (turns taken : ℕ)
    → IsSafe o (record { processor = user; memory = memory; kinds = kinds; ledger = ledger; turns = turns; taken = taken }) → ⊥
unfolding wp_of
equal_bytes o kinds ledger turns taken safe =
    let all = subst (All (λ (w : ℕ × ℕ). w.0 / 4096 ≡ 3)) stores_in_frame_0 (safe.window_stores (record { no_body = refl; runs = refl }) refl) in
    let first : 0x78 / 4096 ≡ 3 = All-head (λ (w : ℕ × ℕ). w.0 / 4096 ≡ 3) (0x78, 0x23) later all in
    absurd (omega (arith, first))

-- nor is that delivery where frame 0 is a page table
delivered_in_a_table : (o : Opening) (kinds : List Kind) (ledger : Ledger) (turns taken : ℕ) → kind_of kinds 0 ≡ Table 1
    → IsSafe o (record { processor = user; memory = memory; kinds = kinds; ledger = ledger; turns = turns; taken = taken }) → ⊥
unfolding wp_of
delivered_in_a_table o kinds ledger turns taken table safe =
    let storable : ℕ × ℕ → Type 0 = λ w. is_storable (kind_of kinds (w.0 / 4096)) ≡ true in
    let all = subst (All storable) stores_in_frame_0 (safe.stores (record { no_body = refl; runs = refl })) in
    let first : is_storable (kind_of kinds 0) ≡ true = All-head storable (0x78, 0x23) later all in
    false≢true (ap is_storable (sym table) ∙ first)

-- a state that keeps an upper entry outside the kernel slot isn't guarded where it names a frame of data, where it doesn't
-- grant all rights, and where it is of level 1
module _ (o : Opening) (s : MachineState) (place level bits : ℕ) (it : Upper)
    (kept : slice_get s.processor.tlb.upper place ≡ Some (level, bits, it))
    (outside : is_slot_page (first_of_span level bits) ≡ false) where
  leads_so : IsGuarded o s → Leading o s.kinds (level, bits, it)
  leads_so guarded =
      leading o s.kinds (level, bits, it)
      (entry_passes (respecting o s.kinds) s.processor.tlb place (level, bits, it) kept guarded.translations)

  entry_to_data : kind_of s.kinds it.frame ≡ Data → IsGuarded o s → ⊥
  entry_to_data is guarded =
      let lead : Leading o s.kinds (level, bits, it) = leads_so guarded in
      let named : level_of Data + 1 ≡ level = ap (λ (k : Kind). level_of k + 1) (sym is) ∙ (lead.outside outside).0 in
      absurd (omega (arith, named, lead.least))

  entry_without_writes : it.rights.can_write ≡ false → IsGuarded o s → ⊥
  entry_without_writes none guarded =
      let all : has_all it.rights ≡ true = ((leads_so guarded).outside outside).1 in
      let both = and_parts (it.rights.can_write && it.rights.user) it.rights.exec all in
      false≢true (sym none ∙ (and_parts it.rights.can_write it.rights.user both.0).0)

  entry_of_level_1 : level ≡ 1 → IsGuarded o s → ⊥
  entry_of_level_1 is guarded =
      let least : 2 ≤ level = (leads_so guarded).least in
      absurd (omega (arith, is, least))

-- a live translation that doesn't respect the kinds of frames
module _ (o : Opening) (s : MachineState) (page : ℕ) (leaf : Leaf) (it : IsSafe o s) where
  disrespecting_translation : IsLive (entry_in s.memory) (length s.memory / 4096) s.processor.control.root s.processor.tlb page leaf
      → respects o s.kinds (page, leaf) ≡ false → ⊥
  disrespecting_translation live other = false≢true (sym other ∙ it.respected page leaf live)

-- the place of the nested kernel's body has no instruction of the gates, nor has bytes that decode to another than the listed
module _ (p : Processor) (m : List ℕ) (it : IsGateInstruction p m) where
  instruction_of_the_body : p.regs.rip ≡ gate_address + 27 → ⊥
  instruction_of_the_body is = let at = it.point.rip in absurd (it.elsewhere (omega (arith, is, at)))

  unfetched_instruction : (fault : Fault) → (instruction_at m (view_of m p.control p.regs.cpl) p.regs.rip p.tlb).answer ≡ Err fault → ⊥
  unfetched_instruction fault is = let found = it.found in cc

  unlisted_instruction : ((offset : ℕ) (fetched : Fetched) → offset ≢ 27
      → Decodes (instruction_bytes offset) (Whole fetched.instr fetched.size) → ⊥) → ⊥
  unlisted_instruction other = other it.offset it.fetched it.elsewhere it.listed

-- no turn is taken where the body is to run, nor where the processor waits
module _ (p : Processor) (it : TakesTurn p) where
  turn_of_the_body : enters_body p ≡ true → ⊥
  turn_of_the_body enters = false≢true (sym it.no_body ∙ enters)

  turn_while_waiting : waits p ≡ true → ⊥
  turn_while_waiting is = false≢true (sym it.runs ∙ is)
