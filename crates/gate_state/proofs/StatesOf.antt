-- Where the processor stands in each of the machine's states, and what can be delivered there.
use Rattle.std.proofs.Common.{◌≡◌, ◌≢◌, ℕ, ◌+◌, true, false, sym, ap, subst, ◌∙◌, arith}
use Rattle.std.specs.Prelude.{not, ◌==◌, ◌&&◌}
use Rattle.std.proofs.lemmas.Bool.{and_parts, eqb-true, false≢true}
use Rattle.nk_bits.specs.Accesses.{wp_of}
use Rattle.cpu_step.specs.Processor.{Processor}
use Rattle.cpu_step.specs.Turns.{enters_body, is_at_body}
use Rattle.nk_bits.specs.KernelLayout.{gate_address}
use Rattle.gate_state.specs.GateWindow.{IsAtPoint, IsGatePoint}
use Rattle.gate_state.specs.MachineOf.{IsAtBody, IsInGates}
use Rattle.gate_state.proofs.BodyKept.{body_stands}

-- the body runs at the gate point 27 alone
at_body_point : (p : Processor) (offset : ℕ) → IsAtPoint offset p → enters_body p ≡ true → offset ≡ 27
at_body_point p offset at enters =
    let parts = and_parts (is_at_body p.regs) (not (wp_of p.control.cr0)) enters in
    let rip : p.regs.rip ≡ 0xFFFFFF800000101B =
    eqb-true p.regs.rip 0xFFFFFF800000101B (and_parts (p.regs.cpl == 0) (p.regs.rip == 0xFFFFFF800000101B) parts.0).1 in
    let there : gate_address + offset ≡ 0xFFFFFF800000101B = sym at.rip ∙ rip in
    omega (arith, there)

pub at_body : (p : Processor) → enters_body p ≡ true → IsGatePoint p → IsAtBody p
at_body p enters at = record {
  clear = (body_stands p enters).1;
  point = subst (λ (offset : ℕ). IsAtPoint offset p) (at_body_point p at.offset at.stands enters) at.stands;
}

-- at any other gate point it doesn't
elsewhere : (p : Processor) (offset : ℕ) → wp_of p.control.cr0 ≡ false → enters_body p ≡ false
    → IsAtPoint offset p → offset ≢ 27
elsewhere p offset clear outside at is =
    let rip : p.regs.rip ≡ 0xFFFFFF800000101B = at.rip ∙ ap (λ (n : ℕ). gate_address + n) is in
    let enters : enters_body p ≡ true = λ i. (at.supervisor i == 0 && rip i == 0xFFFFFF800000101B) && not (clear i) in
    false≢true (sym outside ∙ enters)

pub in_gates : (p : Processor) → wp_of p.control.cr0 ≡ false → enters_body p ≡ false → IsGatePoint p → IsInGates p
in_gates p clear outside at = record {
  clear = clear;
  offset = at.offset;
  point = at.stands;
  elsewhere = elsewhere p at.offset clear outside at.stands;
}
