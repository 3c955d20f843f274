-- What the reads of a delivery find in a scene: the numbers that stand in the first frame.
use Rattle.std.proofs.Common.{◌≡◌, ℕ, ◌+◌, ◌*◌, ◌-◌, ◌%◌, ◌^◌, ◌<◌, ◌≤◌, List, refl, sym, ap, subst, ◌∙◌, arith}
use Rattle.std.specs.Prelude.{Some, Result, Ok}
use Rattle.nk_bits.specs.declared.access.Access.TheVariants.{Read}
use Rattle.nk_bits.specs.declared.control.Control.{Control}
use Rattle.nk_bits.specs.declared.fault.AccessFault.{AccessFault}
use Rattle.nk_bits.specs.declared.kind.Kind.{Kind}
use Rattle.nk_bits.specs.declared.leaf.Target.{Target}
use Rattle.nk_bits.specs.Accesses.{accessed, first_part}
use Rattle.nk_bits.specs.Claims.{AllPass, Claim}
use Rattle.nk_bits.specs.Outcomes.{Outcome, and_then, answered, then_by}
use Rattle.nk_bits.specs.Paging.{page_of}
use Rattle.nk_bits.specs.Translations.{Translations}
use Rattle.phys_mem.specs.Memory.{number_at}
use Rattle.nk_bits.specs.KernelLayout.{idt_and_tss, trap_stack}
use Rattle.boot_map.specs.KernelSlot.{readable, slot_leaf, slot_start, writable}
use Rattle.page_walk.specs.MemoryAccess.{loaded, value_at, view_of}
use Rattle.trap_unit.specs.declared.shutdown.Shut.{Shut}
use Rattle.trap_unit.specs.TrapDelivery.{or_shut, read_at}
use Rattle.gate_state.specs.MachineStates.{Opening}
use Rattle.gate_state.specs.RespectedKinds.{respecting}
use Rattle.gate_state.proofs.Scene.{IsScene, SceneLaws}

-- a step answers this, and the translations that it leaves pass a test
pub record Gives (test : Claim) (F A : Type 0) (outcome : Outcome F A) (x : A) : Type 0 where
  pub answers : outcome.answer ≡ Ok x
  pub pass : AllPass test outcome.tlb

-- and so does the next step from its answer, and hence both
pub then_gives : (test : Claim) (F A B : Type 0) (outcome : Outcome F A) (x : A)
    (next : A → Translations → Outcome F B) (y : B)
    → Gives test F A outcome x → ((after : Translations) → AllPass test after → Gives test F B (next x after) y)
    → Gives test F B (and_then outcome next) y
then_gives test F A B outcome x next y first later =
    subst (λ (r : Result A F). Gives test F B (then_by r outcome.tlb next) y) (sym first.answers)
    (later outcome.tlb first.pass)

-- the leaf of the slot's first page, and of its trap stack
pub first_leaf : (b : List ℕ) (frames : ℕ) → slot_leaf b frames slot_start ≡ Some (readable idt_and_tss)
unfolding slot_leaf
first_leaf b frames = refl

pub stack_leaf : (b : List ℕ) (frames : ℕ) → slot_leaf b frames (slot_start + 3) ≡ Some (writable trap_stack)
unfolding slot_leaf
stack_leaf b frames = refl

-- all bytes of an access on one page are in its first part
pub whole_part : (va width : ℕ) → va % 4096 + width ≤ 4096 → first_part va width ≡ width
unfolding first_part
whole_part va width within = omega arith

no_number : (m : List ℕ) (n p : ℕ) → n ≡ 0 → number_at m n p ≡ 0
unfolding number_at
no_number m n p none = ap (λ k. number_at m k p) none

value_whole : (m : List ℕ) (va width first place : ℕ) → va % 4096 + width ≤ 4096 → first ≡ place
    → value_at m va width (record { first = first; second = 0 }) ≡ number_at m width place
value_whole m va width first place within at =
    let part : first_part va width ≡ width = whole_part va width within in
    let rest : number_at m (width - first_part va width) 0 ≡ 0 =
    no_number m (width - first_part va width) 0 (omega (arith, part)) in
    let nothing : 256 ^ first_part va width * number_at m (width - first_part va width) 0 ≡ 0 =
    ap (λ x. 256 ^ first_part va width * x) rest ∙ omega arith in
    let low : number_at m (first_part va width) first ≡ number_at m width place =
    ap (λ (x : ℕ × ℕ). number_at m x.0 x.1) (λ j. (part j, at j)) in
    omega (arith, nothing, low)

-- a read that faults shuts the machine down
shut_gives : (test : Claim) (outcome : Outcome AccessFault ℕ) (x : ℕ) → Gives test AccessFault ℕ outcome x
    → Gives test Shut ℕ (record { answer = or_shut outcome.answer; tlb = outcome.tlb }) x
shut_gives test outcome x gives = record { answers = ap or_shut gives.answers; pass = gives.pass }

module _ (o : Opening) (ks : List Kind) (scenes : SceneLaws o ks) (m : List ℕ) (control : Control)
    (scene : IsScene o ks m control) where
  -- the eight bytes at an offset of the slot's first page
  pub read_gives : (va place : ℕ) (tlb : Translations) → va ≡ 0xFFFFFF8000000000 + place → place + 8 ≤ 4096
      → AllPass (respecting o ks) tlb
      → Gives (respecting o ks) Shut ℕ (read_at control va m tlb) (number_at m 8 place)
  read_gives va place tlb is within pass =
      let page : page_of va ≡ slot_start = omega (arith, is, within) in
      let laid : slot_leaf o.image o.frames (page_of va) ≡ Some (readable idt_and_tss) =
      ap (slot_leaf o.image o.frames) page ∙ first_leaf o.image o.frames in
      let fits : va < 2 ^ 64 = omega (arith, is, within) in
      let low : 4096 * slot_start ≤ va = omega (arith, is) in
      let short : va % 4096 + 8 ≤ 4096 = omega (arith, is, within) in
      let first : 4096 * 0 + va % 4096 ≡ place = omega (arith, is, within) in
      let target : Target = record { first = 4096 * 0 + va % 4096; second = 0 } in
      let found : Gives (respecting o ks) AccessFault Target (accessed (view_of m control 0) Read tlb va 8) target =
      record {
        answers = scenes.slot_accessed m control 0 Read tlb va 8 (readable idt_and_tss) scene pass fits low
            (omega arith) short laid refl;
        pass = scenes.accessed_pass m control 0 Read tlb va 8 scene pass fits (omega arith);
      } in
      shut_gives (respecting o ks) (loaded m (view_of m control 0) tlb va 8) (number_at m 8 place)
      (then_gives (respecting o ks) AccessFault Target ℕ (accessed (view_of m control 0) Read tlb va 8) target
      (λ target after. answered (value_at m va 8 target) after) (number_at m 8 place) found
      (λ after kept. record {
        answers = ap Ok (value_whole m va 8 (4096 * 0 + va % 4096) place short first);
        pass =
            kept;
      }))
