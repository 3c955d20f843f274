-- The reads of a delivery over two memories that are alike are the same.
use Rattle.std.proofs.Common.{◌≡◌, ℕ, ◌+◌, ◌*◌, ◌^◌, ◌<◌, Bool, true, false, List, refl, ap, ◌∙◌, inr, lit<, mod-lt, arith}
use Rattle.std.specs.Prelude.{Result, Ok, Err, if◌then◌else◌, nat_le}
use Rattle.nk_bits.specs.declared.access.Access.TheVariants.{Read}
use Rattle.nk_bits.specs.declared.control.Control.{Control}
use Rattle.nk_bits.specs.declared.fault.AccessFault.{AccessFault}
use Rattle.nk_bits.specs.declared.leaf.Target.{Target}
use Rattle.nk_bits.specs.Translations.{Translations}
use Rattle.nk_bits.specs.Claims.{AllPass, Claim}
use Rattle.nk_bits.specs.Outcomes.{Outcome, and_then, answered, choice_on, outcome_of, refused, then_by, then_on}
use Rattle.nk_bits.specs.Accesses.{IsWalked, accessed}
use Rattle.nk_bits.specs.AccessLaws.{AccessLaws}
use Rattle.page_walk.specs.MemoryAccess.{value_at, view_of}
use Rattle.x86_regs.specs.declared.delivery.Tables.{Tables}
use Rattle.x86_regs.specs.AlikeMemories.{AreAlike}
use Rattle.x86_regs.specs.Operands.{wrapped}
use Rattle.x86_regs.specs.AlikeLaws.{AlikeLaws}
use Rattle.trap_unit.specs.declared.gate.Gate.{Gate}
use Rattle.trap_unit.specs.declared.shutdown.Shut.{Shut}
use Rattle.trap_unit.specs.TrapDelivery.{entry_found, descriptor_address, gate_found, gate_read, gate_level, if_good, interrupt_allowed, is_good, or_shut, passes_limit, read_at, shut}

-- what is used of the laws below
pub record ReadLaws : Type 0 where
  pub access : AccessLaws
  pub alike : AlikeLaws

-- two steps are the same where the first ones are, and the next ones from each answer
then_same : {F A B : Type 0} (answer : Result A F) (tlb : Translations) (next later : A → Translations → Outcome F B) →
    ((x : A) → next x tlb ≡ later x tlb) → then_by answer tlb next ≡ then_by answer tlb later
then_same (Ok x) tlb next later same = same x
then_same (Err fault) tlb next later same = refl

same_on : {F A B : Type 0} (one other : Outcome F A) (next later : A → Translations → Outcome F B) →
    one ≡ other → ((x : A) → next x one.tlb ≡ later x one.tlb) → and_then one next ≡ and_then other later
same_on {F} {A} one other next later same step =
    then_same one.answer one.tlb next later step ∙ ap (λ (o : Outcome F A). and_then o later) same

chosen_same : {A : Type 0} (b : Bool) (first one other : A) → one ≡ other →
    (if b then first else one) ≡ (if b then first else other)
chosen_same true first one other same = refl
chosen_same false first one other same = same

below_64 : (n : ℕ) → wrapped n < 2 ^ 64
below_64 n = mod-lt n (lit< tt)

module _ (laws : ReadLaws) (test : Claim) (control : Control) (tables : Tables) (m n : List ℕ)
    (alike : AreAlike test control.root m n) (walked : IsWalked (view_of m control 0) test) where
  read_same : (address : ℕ) (tlb : Translations) → AllPass test tlb →
      read_at control (wrapped address) m tlb ≡ read_at control (wrapped address) n tlb
  read_same address tlb pass =
      ap (λ (read : Outcome AccessFault ℕ). outcome_of (or_shut read.answer) read.tlb)
      (laws.alike.loaded test control 0 m n tlb (wrapped address) 8 alike walked pass (below_64 address)
      (inr (inr (inr refl))))

  read_passes : (address : ℕ) (tlb : Translations) → AllPass test tlb →
      AllPass test (read_at control (wrapped address) m tlb).tlb
  read_passes address tlb pass =
      let va : ℕ = wrapped address in
      let access : Outcome AccessFault Target = accessed (view_of m control 0) Read tlb va 8 in
      let kept = laws.access.kept (view_of m control 0) Read test tlb va 8 walked (below_64 address) (omega arith) pass in
      then_on (AllPass test) access.answer access.tlb (λ target after. answered (value_at m va 8 target) after) kept
      (λ target. kept)

  module _ (vector : ℕ) where
    gate_same : (tlb : Translations) → AllPass test tlb →
        gate_read control tables vector m tlb ≡ gate_read control tables vector n tlb
    unfolding gate_read
    gate_same tlb pass =
        let va : ℕ = descriptor_address tables vector in
        let address : ℕ = tables.idt + 16 * vector in
        let low = read_at control va m tlb in
        let high = read_at control (wrapped (va + 8)) m low.tlb in
        same_on low (read_at control va n tlb) _ _ (read_same address tlb pass)
        (λ _. same_on high (read_at control (wrapped (va + 8)) n low.tlb) _ _
        (read_same (va + 8) low.tlb (read_passes address tlb pass)) (λ _. refl))

    gate_passes : (tlb : Translations) → AllPass test tlb → AllPass test (gate_read control tables vector m tlb).tlb
    unfolding gate_read
    gate_passes tlb pass =
        let va : ℕ = descriptor_address tables vector in
        let low = read_at control va m tlb in
        let kept_low = read_passes (tables.idt + 16 * vector) tlb pass in
        let high = read_at control (wrapped (va + 8)) m low.tlb in
        let kept_high = read_passes (va + 8) low.tlb kept_low in
        then_on (AllPass test) low.answer low.tlb _ kept_low
        (λ _. then_on (AllPass test) high.answer high.tlb _ kept_high (λ _. kept_high))

    found_same : (tlb : Translations) → AllPass test tlb →
        gate_found control tables vector m tlb ≡ gate_found control tables vector n tlb
    found_same tlb pass =
        chosen_same (passes_limit tables vector) _ _ _
        (ap (λ (o : Outcome Shut Gate). and_then o if_good) (gate_same tlb pass))

    found_passes : (tlb : Translations) → AllPass test tlb → AllPass test (gate_found control tables vector m tlb).tlb
    found_passes tlb pass =
        let gate = gate_read control tables vector m tlb in
        let kept = gate_passes tlb pass in
        choice_on (AllPass test) (passes_limit tables vector) (refused shut tlb) (and_then gate if_good) pass
        (then_on (AllPass test) gate.answer gate.tlb if_good kept
        (λ gate. choice_on (AllPass test) (is_good gate) _ _ kept kept))

    pub entry_same : (tlb : Translations) → AllPass test tlb →
        entry_found control tables vector m tlb ≡ entry_found control tables vector n tlb
    unfolding entry_found
    entry_same tlb pass =
        let gate = gate_found control tables vector m tlb in
        let stack = read_at control (wrapped (tables.tss + 36)) m gate.tlb in
        same_on gate (gate_found control tables vector n tlb) _ _ (found_same tlb pass)
        (λ _. same_on stack (read_at control (wrapped (tables.tss + 36)) n gate.tlb) _ _
        (read_same (tables.tss + 36) gate.tlb (found_passes tlb pass)) (λ _. refl))

    pub allowed_same : (cpl : ℕ) (tlb : Translations) → AllPass test tlb →
        interrupt_allowed control tables cpl vector m tlb ≡ interrupt_allowed control tables cpl vector n tlb
    unfolding interrupt_allowed
    allowed_same cpl tlb pass =
        chosen_same (passes_limit tables vector) _ _ _
        (ap (λ (o : Outcome Shut ℕ). and_then o (λ low after. answered (nat_le cpl (gate_level low)) after))
        (read_same (tables.idt + 16 * vector) tlb pass))
