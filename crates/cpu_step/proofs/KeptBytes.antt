-- The bytes of code that a kept page lends.
use Rattle.std.proofs.Common.{◌≡◌, ℕ, ◌+◌, List, take, drop, arith, sym, ap, ◌∙◌}
use Rattle.nk_bits.specs.declared.access.Access.TheVariants.{Fetch}
use Rattle.nk_bits.specs.declared.control.Control.{Control}
use Rattle.nk_bits.specs.declared.fault.AccessFault.{AccessFault}
use Rattle.nk_bits.specs.declared.leaf.Target.{Target}
use Rattle.nk_bits.specs.Accesses.{accessed}
use Rattle.nk_bits.specs.Outcomes.{Outcome, and_then, answered}
use Rattle.nk_bits.specs.Translations.{Translations}
use Rattle.page_walk.specs.MemoryAccess.{bytes_left, page_fetched, view_of}
use Rattle.mem_access.specs.KeptRuns.{IsKeptRun}
use Rattle.x86_regs.specs.declared.faults.Fault.{Fault}
use Rattle.cpu_step.specs.InstructionFetch.{in_fetch}
use Rattle.cpu_step.proofs.LentPages.{before_the_end}

pub lent_kept : (size : ℕ) (m : List ℕ) (control : Control) (cpl : ℕ) (tlb : Translations) (rip place : ℕ) (lent : List ℕ) →
    IsKeptRun size control cpl Fetch tlb rip 16 place → lent ≡ take 15 (drop place m) →
    answered lent tlb ≡ in_fetch (page_fetched m (view_of m control cpl) tlb rip)
lent_kept size m control cpl tlb rip place lent run is =
    let here : rip + 0 ≡ rip = omega arith in
    let there : place ≡ place + 0 = omega arith in
    let fifteen : 15 ≡ bytes_left rip = sym (before_the_end rip (omega (arith, run.page))) in
    ap (λ (bytes : List ℕ). answered {F = Fault} bytes tlb) (is ∙ ap (λ n. take n (drop place m)) fifteen)
    ∙ ap (λ (o : Outcome AccessFault Target). in_fetch (and_then o (λ target after. answered (take (bytes_left rip) (drop target.first m)) after)))
    (ap (λ (first : ℕ). answered {F = AccessFault} (record { first = first; second = 0 }) tlb) there
    ∙ (run.found m 0 1 (omega arith) (omega arith) ∙ ap (λ (at : ℕ). accessed (view_of m control cpl) Fetch tlb at 1) here))
