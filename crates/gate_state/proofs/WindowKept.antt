-- What it is for an instruction to keep the window, and two ways to do so: by registers alone, and by a push.
use Rattle.std.proofs.Common.{◌≡◌, ◌⊎◌, ℕ, ◌+◌, ◌%◌, ◌^◌, ◌<◌, false, true, refl, List, length, inl, arith, ap, subst, sym, ◌∙◌}
use Rattle.std.specs.Prelude.{◌==◌, slice_index, IfSome, None, Some, Ok}
use Rattle.std.proofs.lemmas.Bool.{eq-eqb}
use Rattle.std.proofs.lemmas.List.{get_or-set_same}
use Rattle.decode_fields.specs.declared.place.Place.TheVariants.{Reg}
use Rattle.x86_decode.specs.declared.instruction.Instr.{Instr}
use Rattle.x86_alu.specs.Bitwise.{logic_flags}
use Rattle.x86_alu.specs.Flags.{zero_flag}
use Rattle.x86_alu.specs.SignedNumbers.{bit}
use Rattle.nk_bits.specs.declared.leaf.Target.{Target}
use Rattle.nk_bits.specs.Accesses.{crosses, wp_of}
use Rattle.nk_bits.specs.Paging.{page_of}
use Rattle.nk_bits.specs.Translations.{Translations}
use Rattle.boot_map.specs.KernelSlot.{slot_start}
use Rattle.x86_regs.specs.declared.effects.Act.{Act}
use Rattle.x86_regs.specs.declared.effects.Act.TheVariants as act
use Rattle.x86_regs.specs.declared.effects.Effect.{Effect}
use Rattle.x86_regs.specs.Combinations.{interrupt_flag}
use Rattle.x86_regs.specs.Effects.{effect_of}
use Rattle.x86_regs.specs.Operands.{next_of, with_register, wrapped}
use Rattle.x86_regs.specs.OperandOutcomes.{going_on}
use Rattle.x86_regs.specs.Registers.{written}
use Rattle.cpu_step.specs.Processor.{Processor}
use Rattle.cpu_step.specs.Turns.{kept_in_cr0}
use Rattle.gate_text.specs.GatePoints.{is_point}
use Rattle.nk_bits.specs.KernelLayout.{gate_address}
use Rattle.gate_state.specs.GateWindow.{IsAtPoint, IsGatePoint, holds_at}
use Rattle.gate_state.specs.GuardedStates.{IsCr0}
use Rattle.gate_state.specs.WindowLeft.{left, left_at}
use Rattle.gate_state.proofs.LowerLaws.{LowerLaws}
use Rattle.gate_state.proofs.WindowEffects.{quiet}
use Rattle.gate_state.proofs.WindowNearer.{left_there}

-- CR0 after an act
abbrev pub cr0_after : Act → ℕ → ℕ
cr0_after (act.Cr0 value) cr0 = kept_in_cr0 value
cr0_after _ cr0 = cr0

-- an instruction of the window: it doesn't fault, sets at most CR0, writes at most to the trap stack, and stays in the
-- window unless it sets WP, with fewer turns left of it
pub record KeepsWindow (p : Processor) (effect : Effect) : Type 0 where
  pub act_is : (effect.act ≡ act.Quiet) ⊎ ((value : ℕ) × (effect.act ≡ act.Cr0 value))
  pub cr0_is : IsCr0 (cr0_after effect.act p.control.cr0)
  pub window : wp_of (cr0_after effect.act p.control.cr0) ≡ false
      → IsGatePoint (record p {
        regs = effect.regs;
        control = record p.control { cr0 = cr0_after effect.act p.control.cr0 };
      })
  pub nearer : wp_of (cr0_after effect.act p.control.cr0) ≡ false → left (record p { regs = effect.regs }) < left p
  pub write_is : IfSome effect.write (λ w. (page_of w.va ≡ slot_start + 3) × (crosses w.va w.width ≡ false))

-- what an instruction does at a state: its effect keeps the window
pub record Goes (p : Processor) (m : List ℕ) (tlb : Translations) (i : Instr) (size : ℕ) : Type 0 where
  pub effect : Effect
  pub answer : (effect_of i size p.regs p.control m tlb).answer ≡ Ok effect
  pub keeps : KeepsWindow p effect

-- a register after a write of 64 bits, and RAX after one of 32
pub register_same : (general : List ℕ) (n value : ℕ) → length general ≡ 16 → n < 16
    → slice_index (with_register general n value) n ≡ value % 2 ^ 64
register_same general n value count within =
    let place : n < length general = omega arith in
    get_or-set_same general n (value % 2 ^ 64) 0 place

pub low_same : (general : List ℕ) (value : ℕ) → length general ≡ 16
    → slice_index (written general (Reg 0) 32 value) 0 ≡ value % 2 ^ 32
low_same general value count =
    let place : 0 < length general = omega arith in
    get_or-set_same general 0 (value % 2 ^ 32) 0 place

-- ZF says that a result is zero
pub zero_set : LowerLaws → (w value flags : ℕ) → value ≡ 0 → bit (logic_flags w value flags) zero_flag ≡ true
zero_set lower w value flags none =
    lower.flag.others 6 0 _ false (λ e. absurd (omega arith))
    ∙ lower.flag.others 6 11 _ false (λ e. absurd (omega arith))
    ∙ lower.flag.same 6 _ (value == 0)
    ∙ eq-eqb value 0 none

-- the supervisor runs, and goes on at this address, that of a gate point
pub record Leads (p : Processor) (rip next : ℕ) : Type 0 where
  pub supervisor : p.regs.cpl ≡ 0
  pub runs : p.halted ≡ false
  pub there : rip ≡ gate_address + next
  pub point : is_point next ≡ true

-- behind an instruction of this size
pub leads_from : (p : Processor) (offset size next : ℕ) → IsAtPoint offset p
    → wrapped (gate_address + offset + size) ≡ gate_address + next → is_point next ≡ true
    → Leads p (next_of p.regs size) next
leads_from p offset size next at behind point = record {
  supervisor = at.supervisor;
  runs = at.runs;
  there = ap (λ rip. wrapped (rip + size)) at.rip ∙ behind;
  point = point;
}

-- behind a branch from its end by this number
pub leads_back : (p : Processor) (offset size next by : ℕ) → IsAtPoint offset p
    → wrapped (wrapped (gate_address + offset + size) + by) ≡ gate_address + next → is_point next ≡ true
    → Leads p (wrapped (next_of p.regs size + by)) next
leads_back p offset size next by at behind point = record {
  supervisor = at.supervisor;
  runs = at.runs;
  there = ap (λ rip. wrapped (wrapped (rip + size) + by)) at.rip ∙ behind;
  point = point;
}

-- with these registers at that address
abbrev pub moved : Processor → List ℕ → ℕ → ℕ → Processor
moved p general flags rip = record p { regs = going_on p.regs general flags rip }

arrives : (p : Processor) (general : List ℕ) (flags rip next : ℕ) → Leads p rip next
    → holds_at next (moved p general flags rip) ≡ true → IsGatePoint (moved p general flags rip)
arrives p general flags rip next leads holds = record {
  offset = next;
  stands = record {
    supervisor = leads.supervisor;
    runs = leads.runs;
    rip = leads.there;
    point = leads.point;
    holds = holds;
  };
}

-- with fewer turns left there
arrives_nearer : (p : Processor) (general : List ℕ) (flags rip next : ℕ) → Leads p rip next
    → left_at next (bit flags interrupt_flag) < left p → left (moved p general flags rip) < left p
arrives_nearer p general flags rip next leads nearer =
    subst (λ (n : ℕ). n < left p) (sym (left_there rip next (bit flags interrupt_flag) leads.there)) nearer

-- an instruction that only changes registers
pub goes_quietly : (p : Processor) (m : List ℕ) (tlb : Translations) (i : Instr) (size : ℕ) (general : List ℕ)
    (flags rip next : ℕ) → IsCr0 p.control.cr0 → Leads p rip next
    → left_at next (bit flags interrupt_flag) < left p
    → (effect_of i size p.regs p.control m tlb).answer ≡ quiet (going_on p.regs general flags rip)
    → holds_at next (moved p general flags rip) ≡ true → Goes p m tlb i size
goes_quietly p m tlb i size general flags rip next cr0 leads nearer answer holds = record {
  effect = record { regs = going_on p.regs general flags rip; write = None; act = act.Quiet };
  answer = answer;
  keeps = record {
    act_is = inl refl;
    cr0_is = cr0;
    window = λ clear. arrives p general flags rip next leads holds;
    nearer = λ clear. arrives_nearer p general flags rip next leads nearer;
    write_is = tt;
  };
}

-- an instruction that writes eight bytes on one page of the trap stack as well
pub goes_writing : (p : Processor) (m : List ℕ) (tlb : Translations) (i : Instr) (size : ℕ) (general : List ℕ)
    (flags rip next va value : ℕ) (target : Target) → IsCr0 p.control.cr0 → Leads p rip next
    → left_at next (bit flags interrupt_flag) < left p
    → (effect_of i size p.regs p.control m tlb).answer ≡ Ok (record {
      regs = going_on p.regs general flags rip;
      write = Some (record { va = va; width = 8; value = value; target = target });
      act = act.Quiet;
    })
    → page_of va ≡ slot_start + 3 → crosses va 8 ≡ false → holds_at next (moved p general flags rip) ≡ true
    → Goes p m tlb i size
goes_writing p m tlb i size general flags rip next va value target cr0 leads nearer answer page within holds = record {
  effect = record {
    regs = going_on p.regs general flags rip;
    write = Some (record { va = va; width = 8; value = value; target = target });
    act = act.Quiet;
  };
  answer = answer;
  keeps = record {
    act_is = inl refl;
    cr0_is = cr0;
    window = λ clear. arrives p general flags rip next leads holds;
    nearer = λ clear. arrives_nearer p general flags rip next leads nearer;
    write_is = (page, within);
  };
}
