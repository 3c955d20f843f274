-- The effect of an instruction of flow that no condition refuses is that of its form.
use Rattle.std.proofs.Common.{◌≡◌, ℕ, List, None, sym, ap, ◌∙◌}
use Rattle.x86_decode.specs.declared.instruction.Instr.{Instr}
use Rattle.nk_bits.specs.declared.control.Control.{Control}
use Rattle.nk_bits.specs.Outcomes.{answered}
use Rattle.nk_bits.specs.Translations.{Translations}
use Rattle.page_walk.specs.MemoryAccess.{view_of}
use Rattle.x86_regs.specs.declared.effects.Effect.{Effect}
use Rattle.x86_regs.specs.declared.form.Form.{Form}
use Rattle.x86_regs.specs.declared.registers.Regs.{Regs}
use Rattle.x86_regs.specs.Effects.{effect_by, effect_of, refusal, unless_refused}
use Rattle.x86_regs.specs.OperandPlans.{instr_form}

pub unrefused : (form : Form) (i : Instr) (size : ℕ) (regs : Regs) (control : Control) (m : List ℕ) (tlb : Translations) (effect : Effect) →
    form ≡ instr_form i → refusal i regs.cpl ≡ None →
    answered effect tlb ≡ effect_by form i size regs control m (view_of m control regs.cpl) tlb →
    answered effect tlb ≡ effect_of i size regs control m tlb
unfolding effect_of
unrefused form i size regs control m tlb effect same lawful is =
    is
    ∙ (ap (λ (f : Form). effect_by f i size regs control m (view_of m control regs.cpl) tlb) same
    ∙ sym (ap (λ r. unless_refused r tlb (effect_by (instr_form i) i size regs control m (view_of m control regs.cpl) tlb)) lawful))
