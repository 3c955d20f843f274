-- The pushes of the trap gate and of its stubs are served, write to the trap stack, and keep the window.
use Rattle.std.proofs.Common.{◌≡◌, ℕ, ◌+◌, ◌*◌, ◌%◌, ◌^◌, ◌<◌, ◌≤◌, refl, List, arith, ap, sym, ◌∙◌}
use Rattle.std.specs.Prelude.{slice_index, Ok}
use Rattle.std.proofs.lemmas.Bool.{and_from, and_parts, eq-eqb, eqb-true, not-true}
use Rattle.decode_fields.specs.declared.place.Place.TheVariants.{Reg}
use Rattle.x86_alu.specs.SignedNumbers.{cut}
use Rattle.nk_bits.specs.declared.access.Access.TheVariants as access
use Rattle.nk_bits.specs.declared.control.Control.{Control}
use Rattle.nk_bits.specs.declared.kind.Kind.{Kind}
use Rattle.nk_bits.specs.declared.leaf.Target.{Target}
use Rattle.nk_bits.specs.Accesses.{accessed, crosses, place_in}
use Rattle.nk_bits.specs.Claims.{AllPass}
use Rattle.nk_bits.specs.Paging.{page_of}
use Rattle.nk_bits.specs.Translations.{Translations}
use Rattle.boot_map.specs.KernelSlot.{slot_leaf, slot_start, writable}
use Rattle.page_walk.specs.MemoryAccess.{view_of}
use Rattle.x86_regs.specs.Operands.{lowered, next_of, with_register}
use Rattle.x86_regs.specs.Registers.{held}
use Rattle.cpu_step.specs.Processor.{Processor}
use Rattle.gate_text.specs.GatePoints.{is_point}
use Rattle.gate_state.specs.GateWindow.{IsAtPoint, is_uninterrupted, stands_on}
use Rattle.gate_state.specs.GuardedStates.{IsControlled}
use Rattle.gate_state.specs.MachineStates.{Opening}
use Rattle.gate_state.specs.RespectedKinds.{respecting}
use Rattle.gate_state.proofs.Scene.{IsScene, SceneLaws}
use Rattle.gate_state.proofs.WindowEffects.{push_rax_effect, push_value_effect}
use Rattle.gate_state.proofs.WindowKept.{Goes, goes_writing, leads_from, moved, register_same}
use Rattle.gate_state.proofs.WindowNearer.{closer_cleared, closer_same, points_closer, push_closer}
use Rattle.gate_state.proofs.WindowPoints.{stub_before, stub_behind}
use Rattle.gate_state.proofs.WindowRows.{push_rax, push_value, stub_points}

-- where eight bytes of the trap stack stand
abbrev in_trap_frame : ℕ → Target
in_trap_frame va = record { first = place_in (writable 3) va; second = 0 }

module _ (o : Opening) (ks : List Kind) (laws : SceneLaws o ks) where
  trap_served : (m : List ℕ) (control : Control) (tlb : Translations) (va : ℕ) → IsScene o ks m control
      → AllPass (respecting o ks) tlb → page_of va ≡ slot_start + 3 → va % 4096 + 8 ≤ 4096
      → (accessed (view_of m control 0) access.Write tlb va 8).answer ≡ Ok (in_trap_frame va)
  unfolding slot_leaf
  trap_served m control tlb va scene pass page room =
      laws.slot_accessed m control 0 access.Write tlb va 8 (writable 3) scene pass (omega arith) (omega arith)
      (omega arith) room (ap (slot_leaf o.image o.frames) page) refl

  module _ (p : Processor) (m : List ℕ) (tlb : Translations) (controlled : IsControlled p)
      (scene : IsScene o ks m p.control) (pass : AllPass (respecting o ks) tlb) where
    -- PUSH of a stub's vector
    pub goes_pushing : (v : ℕ) → 32 ≤ v → v < 48 → IsAtPoint (64 + 8 * v) p → Goes p m tlb (push_value v) 2
    unfolding crosses
    goes_pushing v low high at =
        let va : ℕ = lowered (slice_index p.regs.general 4) 8 in
        let general : List ℕ = with_register p.regs.general 4 va in
        let parts = and_parts (is_uninterrupted p) (stands_on 0xFFFFFF8000003FD8 p)
        (sym (stub_before p v low high) ∙ at.holds) in
        let top : slice_index p.regs.general 4 ≡ 0xFFFFFF8000003FD8 = eqb-true _ _ parts.1 in
        let place : va ≡ 0xFFFFFF8000003FD0 = ap (λ a. lowered a 8) top in
        let room : va % 4096 + 8 ≤ 4096 = omega arith in
        let stack : slice_index general 4 ≡ 0xFFFFFF8000003FD0 =
        register_same p.regs.general 4 va controlled.registers.count (omega arith) ∙ ap (λ a. a % 2 ^ 64) place in
        let points = stub_points v low high in
        goes_writing p m tlb (push_value v) 2 general p.regs.flags (next_of p.regs 2) (66 + 8 * v) va (cut 64 v)
        (in_trap_frame va) controlled.cr0 (leads_from p (64 + 8 * v) 2 (66 + 8 * v) at (omega arith) points.1)
        (closer_same p (64 + 8 * v) (66 + 8 * v) p.regs.flags at.rip refl (push_closer v low high))
        (push_value_effect 2 p.regs p.control m tlb at.supervisor v (in_trap_frame va)
        (trap_served m p.control tlb va scene pass (ap page_of place) room))
        (ap page_of place) (ap (λ a. crosses a 8) place)
        (stub_behind (moved p general p.regs.flags (next_of p.regs 2)) v low high
        ∙ and_from _ _ parts.0 (eq-eqb _ _ stack))

    -- PUSH RAX at the beginning of the trap gate
    pub goes_448 : IsAtPoint 448 p → Goes p m tlb push_rax 1
    unfolding crosses is_point
    goes_448 at =
        let va : ℕ = lowered (slice_index p.regs.general 4) 8 in
        let parts = and_parts (is_uninterrupted p) (stands_on 0xFFFFFF8000003FD0 p) at.holds in
        let top : slice_index p.regs.general 4 ≡ 0xFFFFFF8000003FD0 = eqb-true _ _ parts.1 in
        let place : va ≡ 0xFFFFFF8000003FC8 = ap (λ a. lowered a 8) top in
        let room : va % 4096 + 8 ≤ 4096 = omega arith in
        goes_writing p m tlb push_rax 1 (with_register p.regs.general 4 va) p.regs.flags (next_of p.regs 1) 449 va
        (cut 64 (held p.regs.general (Reg 0) 64)) (in_trap_frame va) controlled.cr0 (leads_from p 448 1 449 at refl refl)
        (closer_cleared p 448 449 p.regs.flags at.rip (not-true _ parts.0) points_closer.from_448)
        (push_rax_effect 1 p.regs p.control m tlb at.supervisor (in_trap_frame va)
        (trap_served m p.control tlb va scene pass (ap page_of place) room))
        (ap page_of place) (ap (λ a. crosses a 8) place) refl
