-- The reads of a delivery from a page that is kept.
use Rattle.std.proofs.Common.{◌≡◌, ℕ, ◌+◌, ◌≤◌, ◌^◌, ◌<◌, List, false, arith, sym, ap, ◌∙◌}
use Rattle.nk_bits.specs.declared.access.Access.TheVariants.{Read}
use Rattle.nk_bits.specs.declared.control.Control.{Control}
use Rattle.nk_bits.specs.declared.fault.AccessFault.{AccessFault}
use Rattle.nk_bits.specs.declared.leaf.Target.{Target}
use Rattle.nk_bits.specs.Accesses.{crosses}
use Rattle.nk_bits.specs.Outcomes.{Outcome, and_then, answered, outcome_of}
use Rattle.nk_bits.specs.Translations.{Translations}
use Rattle.phys_mem.specs.Memory.{number_at}
use Rattle.page_walk.specs.MemoryAccess.{value_at}
use Rattle.mem_access.specs.KeptRuns.{IsKeptRun}
use Rattle.x86_regs.specs.declared.delivery.Tables.{Tables}
use Rattle.x86_regs.specs.Operands.{wrapped}
use Rattle.trap_unit.specs.declared.shutdown.Shut.{Shut}
use Rattle.trap_unit.specs.TrapDelivery.{descriptor_address, gate_read, or_shut, read_at}

abbrev read_by : List ℕ → ℕ → Outcome AccessFault Target → Outcome Shut ℕ
read_by m va check =
    let read : Outcome AccessFault ℕ = and_then check (λ target after. answered (value_at m va 8 target) after) in
    outcome_of (or_shut read.answer) read.tlb

module _ (values : (m : List ℕ) (va width : ℕ) (target : Target) → crosses va width ≡ false → value_at m va width target ≡ number_at m width target.first) where
  pub read_kept : (size : ℕ) (m : List ℕ) (control : Control) (tlb : Translations) (va count place offset n : ℕ) →
      IsKeptRun size control 0 Read tlb va count place → offset + 8 ≤ count → n ≡ number_at m 8 (place + offset) → answered n tlb ≡ read_at control (va + offset) m tlb
  read_kept size m control tlb va count place offset n run within is =
      ap (λ (n : ℕ). answered {F = Shut} n tlb) (is ∙ sym (values m (va + offset) 8 (record { first = place + offset; second = 0 }) (run.one offset 8 within)))
      ∙ ap (read_by m (va + offset)) (run.found m offset 8 (omega arith) within)

  pub gate_kept : (size : ℕ) (m : List ℕ) (control : Control) (tables : Tables) (vector : ℕ) (tlb : Translations) (va place low high : ℕ) →
      va ≡ descriptor_address tables vector → va < 2 ^ 64 → IsKeptRun size control 0 Read tlb va 16 place →
      low ≡ number_at m 8 place → high ≡ number_at m 8 (place + 8) →
      answered (record { low = low; high = high }) tlb ≡ gate_read control tables vector m tlb
  unfolding gate_read
  gate_kept size m control tables vector tlb va place low high there fits run first second =
      let same : place + 0 ≡ place = omega arith in
      let here : va + 0 ≡ descriptor_address tables vector = omega (arith, there) in
      let next : va + 8 ≡ wrapped (descriptor_address tables vector + 8) = omega (arith, there, fits, run.page) in
      let one : answered low tlb ≡ read_at control (descriptor_address tables vector) m tlb =
      read_kept size m control tlb va 16 place 0 low run (omega arith) (first ∙ sym (ap (number_at m 8) same)) ∙ ap (λ (at : ℕ). read_at control at m tlb) here in
      let two : answered high tlb ≡ read_at control (wrapped (descriptor_address tables vector + 8)) m tlb =
      read_kept size m control tlb va 16 place 8 high run (omega arith) second ∙ ap (λ (at : ℕ). read_at control at m tlb) next in
      ap (λ (o : Outcome Shut ℕ). and_then o (λ high last. answered (record { low = low; high = high }) last)) two
      ∙ ap (λ (o : Outcome Shut ℕ). and_then o (λ low after.
      and_then (read_at control (wrapped (descriptor_address tables vector + 8)) m after) (λ high last. answered (record { low = low; high = high }) last))) one
