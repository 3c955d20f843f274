-- Each instruction of the gates that changes registers alone, or loads CR0, keeps the window.
use Rattle.std.proofs.Common.{◌≡◌, ℕ, ◌+◌, ◌-◌, ◌*◌, ◌%◌, ◌^◌, ◌<◌, ◌≤◌, false, true, refl, List, inr, arith, ap, sym, ◌∙◌}
use Rattle.std.specs.Prelude.{not, bit_and, bit_or, slice_index, None}
use Rattle.std.proofs.lemmas.Bool.{and_from, eq-eqb, eqb-true, false≢true, not-true}
use Rattle.decode_fields.specs.declared.place.Place.TheVariants.{Reg}
use Rattle.x86_alu.specs.Bitwise.{logic_flags}
use Rattle.x86_alu.specs.Flags.{with_flag, zero_flag}
use Rattle.x86_alu.specs.SignedNumbers.{bit, cut}
use Rattle.nk_bits.specs.Accesses.{wp_of}
use Rattle.nk_bits.specs.Paging.{is_canonical}
use Rattle.nk_bits.specs.Translations.{Translations}
use Rattle.x86_regs.specs.declared.effects.Act.TheVariants as act
use Rattle.x86_regs.specs.Combinations.{condition_stands, interrupt_flag}
use Rattle.x86_regs.specs.Operands.{next_of, rax, with_register, wrapped}
use Rattle.x86_regs.specs.OperandOutcomes.{going_on, is_cr0}
use Rattle.x86_regs.specs.Registers.{held, written}
use Rattle.cpu_step.specs.Processor.{Processor}
use Rattle.cpu_step.specs.Turns.{kept_in_cr0}
use Rattle.gate_text.specs.GatePoints.{is_point}
use Rattle.nk_bits.specs.KernelLayout.{gate_address}
use Rattle.gate_state.specs.GateWindow.{IsAtPoint, has_rax, holds_at}
use Rattle.gate_state.specs.GuardedStates.{IsControlled}
use Rattle.gate_state.specs.WindowLeft.{left, left_at}
use Rattle.gate_state.proofs.LowerLaws.{LowerLaws}
use Rattle.gate_state.proofs.CallThroughWords.{interrupt_stays}
use Rattle.gate_state.proofs.ControlWord.{IsRaised, cr0_kept, raised_cr0, tested_clear}
use Rattle.gate_state.proofs.WindowEffects.{cli_effect, jmp_effect, jz_effect, load_row, mov_effect, or_effect, read_effect, test_effect}
use Rattle.gate_state.proofs.WindowKept.{Goes, Leads, goes_quietly, leads_from, low_same, moved, register_same, zero_set}
use Rattle.gate_state.proofs.WindowNearer.{Closer, closer_cleared, closer_same, jump_closer, points_closer}
use Rattle.gate_state.proofs.WindowPoints.{stub_behind}
use Rattle.gate_state.proofs.WindowRows.{cli, jmp, jz, mov_cr0_rax, mov_rax_cr0, mov_rsp, or_eax, test_eax}

module _ (lower : LowerLaws) (p : Processor) (m : List ℕ) (tlb : Translations) (controlled : IsControlled p) where
  raised_here : IsRaised p.control.cr0
  raised_here = raised_cr0 p.control.cr0 controlled.cr0

  -- CLI clears IF
  pub goes_16 : IsAtPoint 16 p → Goes p m tlb cli 1
  unfolding is_point
  goes_16 at =
      goes_quietly p m tlb cli 1 p.regs.general (with_flag 9 false p.regs.flags) (next_of p.regs 1) 17 controlled.cr0
      (leads_from p 16 1 17 at refl refl)
      (closer_cleared p 16 17 (with_flag 9 false p.regs.flags) at.rip (lower.flag.same 9 p.regs.flags false) points_closer.from_16)
      (cli_effect 1 p.regs p.control m tlb at.supervisor)
      (ap not (lower.flag.same 9 p.regs.flags false))

  -- MOV RSP takes the nested stack
  pub goes_17 : IsAtPoint 17 p → Goes p m tlb (mov_rsp 0xFFFFFF8000005000) 10
  unfolding is_point
  goes_17 at =
      let stack = register_same p.regs.general 4 0xFFFFFF8000005000 controlled.registers.count (omega arith) in
      goes_quietly p m tlb (mov_rsp 0xFFFFFF8000005000) 10 (with_register p.regs.general 4 (cut 64 0xFFFFFF8000005000))
      p.regs.flags (next_of p.regs 10) 27 controlled.cr0
      (leads_from p 17 10 27 at refl refl) (closer_same p 17 27 p.regs.flags at.rip refl points_closer.from_17)
      (mov_effect 10 p.regs p.control m tlb at.supervisor 0xFFFFFF8000005000)
      (and_from _ _ at.holds (eq-eqb _ _ stack))

  -- MOV RAX, CR0 leads to an offset at which RAX is CR0
  pub goes_reading : (next : ℕ) → Leads p (next_of p.regs 3) next
      → left_at next (bit p.regs.flags interrupt_flag) < left p
      → ((q : Processor) → has_rax q.control.cr0 q ≡ true → holds_at next q ≡ true) → Goes p m tlb mov_rax_cr0 3
  goes_reading next leads nearer holds =
      let general : List ℕ = with_register p.regs.general 0 p.control.cr0 in
      let same = register_same p.regs.general 0 p.control.cr0 controlled.registers.count (omega arith) in
      goes_quietly p m tlb mov_rax_cr0 3 general p.regs.flags (next_of p.regs 3) next controlled.cr0 leads nearer
      (read_effect 3 p.regs p.control m tlb leads.supervisor)
      (holds (moved p general p.regs.flags (next_of p.regs 3)) (eq-eqb _ _ (same ∙ raised_here.whole)))

  -- OR EAX leads to one at which it is CR0 with WP
  pub goes_raising : (offset next : ℕ) → p.regs.rip ≡ gate_address + offset → Closer offset next
      → Leads p (next_of p.regs 5) next → has_rax p.control.cr0 p ≡ true
      → ((q : Processor) → has_rax (with_flag 16 true q.control.cr0) q ≡ true → holds_at next q ≡ true)
      → Goes p m tlb or_eax 5
  goes_raising offset next rip closer leads has holds =
      let result : ℕ = bit_or (cut 32 (held p.regs.general (Reg 0) 32)) 0x10000 in
      let here : slice_index p.regs.general 0 ≡ p.control.cr0 = eqb-true _ _ has in
      let raised : result % 2 ^ 32 ≡ with_flag 16 true p.control.cr0 =
      ap (λ a. bit_or (cut 32 (a % 2 ^ 32)) 0x10000 % 2 ^ 32) here ∙ raised_here.raised in
      let general : List ℕ = written p.regs.general (Reg 0) 32 result in
      let flags : ℕ = logic_flags 32 result p.regs.flags in
      let written_is = low_same p.regs.general result controlled.registers.count in
      goes_quietly p m tlb or_eax 5 general flags (next_of p.regs 5) next controlled.cr0 leads
      (closer_same p offset next flags rip (interrupt_stays lower 32 result p.regs.flags) closer)
      (or_effect 5 p.regs p.control m tlb leads.supervisor)
      (holds (moved p general flags (next_of p.regs 5)) (eq-eqb _ _ (written_is ∙ raised)))

  -- MOV CR0, RAX sets WP
  pub goes_loading : p.regs.cpl ≡ 0 → has_rax (with_flag 16 true p.control.cr0) p ≡ true → Goes p m tlb mov_cr0_rax 3
  goes_loading supervisor has =
      let value : ℕ = cut 64 (held p.regs.general (Reg 0) 64) in
      let here : slice_index p.regs.general 0 ≡ with_flag 16 true p.control.cr0 = eqb-true _ _ has in
      let is : value ≡ with_flag 16 true p.control.cr0 = ap (λ a. cut 64 (a % 2 ^ 64)) here ∙ raised_here.raised_whole in
      let admitted : is_cr0 value ≡ true = ap is_cr0 is ∙ raised_here.admitted in
      let set : wp_of (kept_in_cr0 value) ≡ true = ap (λ v. wp_of (kept_in_cr0 v)) is ∙ raised_here.set in
      record {
        effect = record {
          regs = going_on p.regs p.regs.general p.regs.flags (next_of p.regs 3);
          write = None;
          act = act.Cr0 value;
        };
        answer = load_row 3 p.regs p.control m tlb supervisor admitted;
        keeps = record {
          act_is = inr (value, refl);
          cr0_is = cr0_kept value admitted;
          window = λ still. absurd (false≢true (sym still ∙ set));
          nearer = λ still. absurd (false≢true (sym still ∙ set));
          write_is = tt;
        };
      }

  -- TEST EAX leads to an offset at which ZF is set, where WP is clear in RAX
  pub goes_testing : (offset next : ℕ) → p.regs.rip ≡ gate_address + offset → Closer offset next
      → Leads p (next_of p.regs 5) next → not (bit (slice_index p.regs.general rax) 16) ≡ true
      → ((q : Processor) → bit q.regs.flags zero_flag ≡ true → holds_at next q ≡ true) → Goes p m tlb test_eax 5
  goes_testing offset next rip closer leads cleared holds =
      let result : ℕ = bit_and (cut 32 (held p.regs.general (Reg 0) 32)) 0x10000 in
      let none : result ≡ 0 = tested_clear (slice_index p.regs.general 0) (not-true _ cleared) in
      let flags : ℕ = logic_flags 32 result p.regs.flags in
      goes_quietly p m tlb test_eax 5 p.regs.general flags (next_of p.regs 5) next controlled.cr0 leads
      (closer_same p offset next flags rip (interrupt_stays lower 32 result p.regs.flags) closer)
      (test_effect 5 p.regs p.control m tlb leads.supervisor)
      (holds (moved p p.regs.general flags (next_of p.regs 5)) (zero_set lower 32 result p.regs.flags none))

  -- JZ back is taken
  pub goes_back : (next by : ℕ) → Leads p (wrapped (next_of p.regs 2 + by)) next
      → left_at next (bit p.regs.flags interrupt_flag) < left p
      → is_canonical (gate_address + next) ≡ true → bit p.regs.flags zero_flag ≡ true → ((q : Processor) → holds_at next q ≡ true)
      → Goes p m tlb (jz by) 2
  unfolding condition_stands
  goes_back next by leads nearer canonical set holds =
      let rip : ℕ = wrapped (next_of p.regs 2 + by) in
      goes_quietly p m tlb (jz by) 2 p.regs.general p.regs.flags rip next controlled.cr0 leads nearer
      (jz_effect 2 p.regs p.control m tlb leads.supervisor by set (ap is_canonical leads.there ∙ canonical))
      (holds (moved p p.regs.general p.regs.flags rip))

  -- JMP of a stub leads to the trap gate
  pub goes_jumping : (v : ℕ) → 32 ≤ v → v < 48 → IsAtPoint (66 + 8 * v) p → Goes p m tlb (jmp (377 - 8 * v)) 5
  unfolding is_point
  goes_jumping v low high at =
      let rip : ℕ = wrapped (next_of p.regs 5 + (377 - 8 * v)) in
      let there : rip ≡ gate_address + 448 = omega (arith, at.rip) in
      goes_quietly p m tlb (jmp (377 - 8 * v)) 5 p.regs.general p.regs.flags rip 448 controlled.cr0
      (record { supervisor = at.supervisor; runs = at.runs; there = there; point = refl })
      (closer_same p (66 + 8 * v) 448 p.regs.flags at.rip refl (jump_closer v low high))
      (jmp_effect 5 p.regs p.control m tlb at.supervisor (377 - 8 * v) (ap is_canonical there))
      (sym (stub_behind p v low high) ∙ at.holds)
