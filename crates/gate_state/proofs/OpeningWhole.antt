-- The whole machine as a run begins.
use Rattle.std.proofs.Common.{◌≡◌, ℕ, ◌*◌, ◌<◌, true, List, refl, sym, ap, subst, ◌∙◌, arith}
use Rattle.std.proofs.lemmas.List.{ext_get_or}
use Rattle.std.proofs.lemmas.List.FromFn.{get_or-map-range_with_len, length-map-range_with_len}
use Rattle.nk_bits.specs.Accesses.{wp_of}
use Rattle.boot_map.specs.Opening.{IsOpening, division_byte}
use Rattle.boot_map.specs.OpeningKinds.{kinds}
use Rattle.phys_mem.specs.MaskedMemory.{seen}
use Rattle.page_desc.specs.DescriptorBytes.{kinds_in}
use Rattle.nk_body.specs.NestedRecord.{HoldsBooks, OwnState, books_in}
use Rattle.nk_body.specs.SourceWords.{opening_ledger}
use Rattle.cpu_step.specs.Processor.{Processor, started}
use Rattle.gate_state.specs.GuardedStates.{IsAdmitted, IsGuarded}
use Rattle.gate_state.specs.MachineOpening.{opening_control, opening_memory, opening_regs, opening_state, opening_tables}
use Rattle.gate_state.specs.MachineStates.{Opening}
use Rattle.gate_state.specs.WholeMachine.{IsWhole}
use Rattle.gate_state.proofs.WholeLemmas.{state_by}

-- memory, known by each of its bytes, is the list of them
opening_list : (o : Opening) (m : List ℕ) → IsOpening o.image o.frames m → m ≡ opening_memory o
unfolding opening_memory
opening_list o m opening =
    ext_get_or 0 m _ (opening.length ∙ sym (length-map-range_with_len (division_byte o.image o.frames) 0 (4096 * o.frames)))
    (λ i below. let inside : i < 4096 * o.frames = omega (arith, below, opening.length) in
    opening.bytes i inside ∙ sym (get_or-map-range_with_len (division_byte o.image o.frames) 0 (4096 * o.frames) i i 0 inside (omega arith)))

module _ (o : Opening) (input : List ℕ) (p : Processor) where
  abbrev Starts : Type 0
  Starts = p ≡ started (opening_regs o) opening_control opening_tables input

  pub starts_at : (m : List ℕ) (own : OwnState) → Starts → IsOpening o.image o.frames (seen m) → kinds_in m ≡ kinds o.image o.frames
      → (books_in own m).ledger ≡ opening_ledger → state_by p m own 0 0 ≡ opening_state o input
  starts_at m own starts opening kinds_are ledger_is =
      let memory : seen m ≡ opening_memory o = opening_list o (seen m) opening in
      λ i. record { processor = starts i; memory = memory i; kinds = kinds_are i; ledger = ledger_is i; turns = 0; taken = 0 }

  pub starts_set : Starts → wp_of p.control.cr0 ≡ true
  unfolding wp_of
  starts_set starts = ap (λ (q : Processor). wp_of q.control.cr0) starts

  pub opening_whole : (m : List ℕ) (own : OwnState) → IsAdmitted o → ((o : Opening) (input : List ℕ) → IsAdmitted o → IsGuarded o (opening_state o input)) → Starts
      → IsOpening o.image o.frames (seen m) → kinds_in m ≡ kinds o.image o.frames → (books_in own m).ledger ≡ opening_ledger
      → own.root ≡ 5 → HoldsBooks own m → IsWhole o (state_by p m own 0 0) own m
  opening_whole m own admitted guarded starts opening kinds_are ledger_is root_is held = record {
    admitted = admitted;
    guarded = subst (IsGuarded o) (sym (starts_at m own starts opening kinds_are ledger_is)) (guarded o input admitted);
    memory = refl;
    kept = held;
    root = root_is ∙ sym (ap (λ (q : Processor). q.control.root) starts);
  }
