-- The frame that IRETQ pops, where its bytes lie on one page that is kept.
use Rattle.std.proofs.Common.{◌≡◌, ℕ, ◌+◌, ◌*◌, ◌^◌, ◌<◌, List, false, arith, refl, sym, ap, ◌∙◌}
use Rattle.std.specs.Prelude.{slice_index}
use Rattle.nk_bits.specs.declared.access.Access.TheVariants.{Read}
use Rattle.nk_bits.specs.declared.control.Control.{Control}
use Rattle.nk_bits.specs.declared.fault.AccessFault.{AccessFault}
use Rattle.nk_bits.specs.declared.leaf.Target.{Target}
use Rattle.nk_bits.specs.Accesses.{View, crosses}
use Rattle.nk_bits.specs.Outcomes.{Outcome, and_then, answered}
use Rattle.nk_bits.specs.Translations.{Translations}
use Rattle.phys_mem.specs.Memory.{number_at}
use Rattle.page_walk.specs.AccessPlans.{in_span}
use Rattle.page_walk.specs.MemoryAccess.{loaded, value_at, view_of}
use Rattle.mem_access.specs.KeptRuns.{IsKeptRun}
use Rattle.x86_regs.specs.declared.faults.Fault.{Fault}
use Rattle.x86_regs.specs.declared.registers.Regs.{Regs}
use Rattle.x86_regs.specs.Effects.{frame_popped, in_faults, popped}
use Rattle.x86_regs.specs.Operands.{rsp, stack_span, wrapped}

module _ (values : (m : List ℕ) (va width : ℕ) (target : Target) → crosses va width ≡ false → value_at m va width target ≡ number_at m width target.first)
    (size : ℕ) (m : List ℕ) (control : Control) (tlb : Translations) (regs : Regs) (place : ℕ) (fits : slice_index regs.general rsp < 2 ^ 64)
    (run : IsKeptRun size control regs.cpl Read tlb (slice_index regs.general rsp) 40 place) where
  abbrev top : ℕ
  top = slice_index regs.general rsp

  -- eight bytes of it
  popped_there : (k offset : ℕ) → k < 5 → offset ≡ 8 * k → answered (number_at m 8 (place + offset)) tlb ≡ popped m (view_of m control regs.cpl) regs k tlb
  popped_there k offset few is =
      let view : View = view_of m control regs.cpl in
      let target : Target = record { first = place + offset; second = 0 } in
      let here : top + offset ≡ wrapped (top + 8 * k) = omega (arith, few, is, fits, run.page) in
      ap (λ (n : ℕ). answered {F = Fault} n tlb) (sym (values m (top + offset) 8 target (run.one offset 8 (omega (arith, few, is)))))
      ∙ (ap (λ (o : Outcome AccessFault Target). in_faults (in_span (stack_span (top + offset) 64) (and_then o (λ target after. answered (value_at m (top + offset) 8 target) after))))
      (run.found m offset 8 (omega arith) (omega (arith, few, is)))
      ∙ ap (λ (at : ℕ). in_faults (in_span (stack_span at 64) (loaded m view tlb at 8))) here)

  pub popped_kept : (k at n : ℕ) → k < 5 → at ≡ place + 8 * k → n ≡ number_at m 8 at → answered n tlb ≡ popped m (view_of m control regs.cpl) regs k tlb
  popped_kept k at n few there is =
      ap (λ (n : ℕ). answered {F = Fault} n tlb) (is ∙ ap (number_at m 8) there) ∙ popped_there k (8 * k) few refl

-- all of it
pub frame_kept : (m : List ℕ) (view : View) (regs : Regs) (tlb : Translations) (rip cs flags old_rsp ss : ℕ) →
    answered rip tlb ≡ popped m view regs 0 tlb → answered cs tlb ≡ popped m view regs 1 tlb → answered flags tlb ≡ popped m view regs 2 tlb →
    answered old_rsp tlb ≡ popped m view regs 3 tlb → answered ss tlb ≡ popped m view regs 4 tlb →
    answered (record { rip = rip; cs = cs; flags = flags; rsp = old_rsp; ss = ss }) tlb ≡ frame_popped m view regs tlb
unfolding frame_popped
frame_kept m view regs tlb rip cs flags old_rsp ss one two three four five =
    ap (λ (o : Outcome Fault ℕ). and_then o (λ ss after. answered (record { rip = rip; cs = cs; flags = flags; rsp = old_rsp; ss = ss }) after)) five
    ∙ (ap (λ (o : Outcome Fault ℕ). and_then o (λ old_rsp after_rsp.
    and_then (popped m view regs 4 after_rsp) (λ ss after. answered (record { rip = rip; cs = cs; flags = flags; rsp = old_rsp; ss = ss }) after))) four
    ∙ (ap (λ (o : Outcome Fault ℕ). and_then o (λ flags after_flags.
    and_then (popped m view regs 3 after_flags) (λ old_rsp after_rsp.
    and_then (popped m view regs 4 after_rsp) (λ ss after. answered (record { rip = rip; cs = cs; flags = flags; rsp = old_rsp; ss = ss }) after)))) three
    ∙ (ap (λ (o : Outcome Fault ℕ). and_then o (λ cs after_cs.
    and_then (popped m view regs 2 after_cs) (λ flags after_flags.
    and_then (popped m view regs 3 after_flags) (λ old_rsp after_rsp.
    and_then (popped m view regs 4 after_rsp) (λ ss after. answered (record { rip = rip; cs = cs; flags = flags; rsp = old_rsp; ss = ss }) after))))) two
    ∙ ap (λ (o : Outcome Fault ℕ). and_then o (λ rip after_rip.
    and_then (popped m view regs 1 after_rip) (λ cs after_cs.
    and_then (popped m view regs 2 after_cs) (λ flags after_flags.
    and_then (popped m view regs 3 after_flags) (λ old_rsp after_rsp.
    and_then (popped m view regs 4 after_rsp) (λ ss after. answered (record { rip = rip; cs = cs; flags = flags; rsp = old_rsp; ss = ss }) after)))))) one)))
