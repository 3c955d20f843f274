-- The gates of the 48 vectors and IST1, by the bytes of the frame that has them at the opening.
use Rattle.std.proofs.Common.{◌≡◌, ℕ, zero, suc, ◌+◌, ◌*◌, ◌/◌, ◌%◌, ◌<◌, ◌≤◌, ◌==◌, ◌&&◌, true, List, refl, ap, ◌∙◌, arith, inl}
use Rattle.std.proofs.lemmas.Bool.{agree_below, agree_below_at, and_parts, eqb-true}
use Rattle.nk_bits.specs.declared.kind.Kind.{Kind}
use Rattle.nk_bits.specs.Kinds.{kind_of}
use Rattle.phys_mem.specs.Memory.{byte_at, number_at}
use Rattle.boot_map.specs.Division.{Division, division_of}
use Rattle.boot_map.specs.Opening.{division_byte, byte_of_number, byte_of_part, gate_of, idt_and_tss_byte}
use Rattle.boot_map.specs.Parts.{part_at}
use Rattle.trap_unit.specs.declared.gate.Gate.{Gate}
use Rattle.trap_unit.specs.TrapDelivery.{gate_offset, is_good}
use Rattle.page_desc.specs.PageTables.{is_unchanging}
use Rattle.gate_state.specs.GuardedStates.{KeepsOpeningBytes}
use Rattle.gate_state.specs.MachineStates.{Opening}

-- the number that n bytes from place p on spell, by a function from places to bytes
abbrev pub number_from : (ℕ → ℕ) → ℕ → ℕ → ℕ
number_from bytes zero p = 0
number_from bytes (suc n) p = bytes p + 256 * number_from bytes n (p + 1)

pub number_is : (m : List ℕ) (bytes : ℕ → ℕ) (n p : ℕ) → ((q : ℕ) → p ≤ q → q < p + n → byte_at m q ≡ bytes q)
    → number_at m n p ≡ number_from bytes n p
unfolding number_at
number_is m bytes zero p same = refl
number_is m bytes (suc n) p same =
    let first : byte_at m p ≡ bytes p = same p (omega arith) (omega arith) in
    let rest : number_at m n (p + 1) ≡ number_from bytes n (p + 1) =
    number_is m bytes n (p + 1) (λ q low high. same q (omega arith) (omega arith)) in
    omega (arith, first, rest)

-- the gate of a vector as the opening lays it
abbrev pub laid_gate : ℕ → Gate
laid_gate v = record {
  low = number_from idt_and_tss_byte 8 (16 * v);
  high =
      number_from idt_and_tss_byte 8 (16 * v + 8);
}

gates_lead : agree_below (λ v. is_good (laid_gate v) && gate_offset (laid_gate v) == 0xFFFFFF8000001040 + 8 * v)
    (λ _. true) 48 ≡ true
unfolding idt_and_tss_byte gate_of byte_of_number
gates_lead = refl

-- each is good, and leads to the stub of its vector
pub gate_leads : (v : ℕ) → v < 48 → (is_good (laid_gate v) ≡ true) × (gate_offset
    (laid_gate v) ≡ 0xFFFFFF8000001040 + 8 * v)
gate_leads v few =
    let parts = and_parts (is_good (laid_gate v)) (gate_offset (laid_gate v) == 0xFFFFFF8000001040 + 8 * v)
    (agree_below_at (λ v. is_good (laid_gate v) && gate_offset (laid_gate v) == 0xFFFFFF8000001040 + 8 * v)
    (λ _. true) 48 v gates_lead few) in
    (parts.0, eqb-true _ _ parts.1)

-- IST1 is the top of the trap stack
pub stack_is : number_from idt_and_tss_byte 8 1060 ≡ 0xFFFFFF8000004000
unfolding idt_and_tss_byte byte_of_number
stack_is = refl

-- the bytes of the first frame
first_frame : (b : List ℕ) (d : Division) (p : ℕ) → byte_of_part b d (part_at d 0) p ≡ idt_and_tss_byte p
unfolding part_at
first_frame b d p = refl

byte_is : (b : List ℕ) (frames p : ℕ) → p < 4096 → division_byte b frames p ≡ idt_and_tss_byte p
unfolding division_byte
byte_is b frames p small =
    let d : Division = division_of b frames in
    let frame : p / 4096 ≡ 0 = omega arith in
    let place : p % 4096 ≡ p = omega arith in
    ap (λ (x : ℕ × ℕ). byte_of_part b d (part_at d x.0) x.1) (λ j. (frame j, place j)) ∙ first_frame b d p

-- memory that holds what is guarded has them
pub number_held : (o : Opening) (ks : List Kind) (m : List ℕ) → KeepsOpeningBytes o ks m → is_unchanging (kind_of ks 0) ≡ true
    → (n p : ℕ) → p + n ≤ 4096
    → number_at m n p ≡ number_from idt_and_tss_byte n p
number_held o ks m held kept n p within =
    number_is m idt_and_tss_byte n p (λ q low high.
    let small : q < 4096 = omega arith in
    let frame : q / 4096 ≡ 0 = omega arith in
    held.bytes q (ap (λ f. is_unchanging (kind_of ks f)) frame ∙ kept) (inl (omega arith)) ∙ byte_is o.image o.frames q small)
