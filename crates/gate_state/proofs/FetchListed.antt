-- The supervisor fetches the gates' text as it is listed.
use Rattle.std.proofs.Common.{◌≡◌, ◌≢◌, ℕ, ◌+◌, ◌*◌, ◌<◌, ◌≤◌, Bool, true, List, [], length, get_or, ap, ◌∙◌, arith, lit≤}
use Rattle.std.specs.Prelude.{Some, Result, Ok}
use Rattle.nk_bits.specs.declared.access.Access.TheVariants.{Fetch}
use Rattle.nk_bits.specs.declared.control.Control.{Control}
use Rattle.nk_bits.specs.declared.fault.AccessFault.{AccessFault}
use Rattle.nk_bits.specs.declared.kind.Kind.{Kind}
use Rattle.nk_bits.specs.declared.leaf.Target.{Target}
use Rattle.nk_bits.specs.AccessRights.{may}
use Rattle.nk_bits.specs.Accesses.{View, accessed, place_in, smep_of, wp_of}
use Rattle.nk_bits.specs.Claims.{AllPass}
use Rattle.nk_bits.specs.Outcomes.{answered, then_by}
use Rattle.nk_bits.specs.Paging.{page_of}
use Rattle.nk_bits.specs.Translations.{Translations}
use Rattle.phys_mem.specs.Memory.{byte_at}
use Rattle.page_walk.specs.MemoryAccess.{view_of}
use Rattle.x86_decode.specs.declared.instruction.Decoded.TheVariants.{Whole}
use Rattle.x86_decode.specs.Reader.{decoded_of}
use Rattle.x86_regs.specs.Operands.{wrapped}
use Rattle.gate_text.specs.GatePoints.{instruction_bytes, is_point}
use Rattle.nk_bits.specs.KernelLayout.{gate_address, gate_text}
use Rattle.gate_text.specs.Listing.{gate_byte}
use Rattle.boot_map.specs.KernelSlot.{fetchable, slot_leaf}
use Rattle.cpu_step.specs.declared.fetch.Fetched.{Fetched}
use Rattle.cpu_step.specs.InstructionFetch.{byte_fetched, instruction_at, raised_by_fetch}
use Rattle.gate_state.specs.MachineStates.{Opening}
use Rattle.gate_state.specs.RespectedKinds.{respecting}
use Rattle.gate_state.proofs.LowerLaws.{LowerLaws}
use Rattle.gate_state.proofs.Scene.{IsScene, SceneLaws}
use Rattle.gate_state.proofs.FetchBytes.{byte_pass, gate_page}
use Rattle.gate_state.proofs.FetchKnown.{IsRead, read_known, reads_on}
use Rattle.gate_state.proofs.GateTextBytes.{gate_there}
use Rattle.gate_state.proofs.GateTextPoints.{point_few, point_reads, point_within}

-- the leaf of the gates' page, which the supervisor may fetch by
gate_leaf : (b : List ℕ) (frames page : ℕ) → page ≡ gate_page → slot_leaf b frames page ≡ Some (fetchable gate_text)
unfolding slot_leaf
gate_leaf b frames page is = ap (slot_leaf b frames) is

gate_serves : (wp smep : Bool) → smep ≡ true → may Fetch (fetchable gate_text).rights 0 wp smep ≡ true
gate_serves wp smep is = ap (may Fetch (fetchable gate_text).rights 0 wp) is

-- the byte that is fetched at a place that the access found
byte_found : (m : List ℕ) (answer : Result Target AccessFault) (target : Target) (tlb : Translations)
    → answer ≡ Ok target
    → raised_by_fetch (then_by answer tlb (λ target after. answered (byte_at m target.first) after)).answer
    ≡ Ok (byte_at m target.first)
byte_found m answer target tlb is =
    ap (λ (a : Result Target AccessFault). raised_by_fetch
    (then_by a tlb (λ target after. answered (byte_at m target.first) after)).answer) is

module _ (laws : LowerLaws) (o : Opening) (ks : List Kind) (scenes : SceneLaws o ks) where
  module _ (m : List ℕ) (control : Control) (scene : IsScene o ks m control) where
    -- a byte of the gates' text
    gate_fetched : (tlb : Translations) (va p : ℕ) → va ≡ gate_address + p → p < 4096 → AllPass (respecting o ks) tlb
        → (byte_fetched m (view_of m control 0) va tlb).answer ≡ Ok (gate_byte p)
    gate_fetched tlb va p is below all =
        let view : View = view_of m control 0 in
        let page : page_of va ≡ gate_page = omega (arith, is, below) in
        let target : Target = record { first = place_in (fetchable gate_text) va; second = 0 } in
        let found : (accessed view Fetch tlb va 1).answer ≡ Ok target =
        scenes.slot_accessed m control 0 Fetch tlb va 1 (fetchable gate_text) scene all (omega (arith, is, below))
        (omega (arith, is))
        (lit≤ tt) (omega (arith, is, below)) (gate_leaf o.image o.frames (page_of va) page)
        (gate_serves (wp_of control.cr0) (smep_of control.cr4) scene.smep) in
        let there : place_in (fetchable gate_text) va ≡ 4096 * 1 + p = omega (arith, is, below) in
        byte_found m (accessed view Fetch tlb va 1).answer target (accessed view Fetch tlb va 1).tlb found
        ∙ ap (λ (x : ℕ). Ok x) (ap (byte_at m) there ∙ gate_there laws o ks m control scene p below)

    -- bytes of the gates' text that decode to an instruction at last are fetched as that
    pub gate_read : (offset : ℕ) (bytes : List ℕ) (tlb : Translations) → offset + length bytes ≤ 4096
        → length bytes ≤ 15
        → ((k : ℕ) → k < length bytes → gate_byte (offset + k) ≡ get_or bytes k 0) → reads_on [] bytes ≡ true
        → AllPass (respecting o ks) tlb
        → IsRead bytes (instruction_at m (view_of m control 0) (gate_address + offset) tlb)
    gate_read offset bytes tlb within few stand reads all =
        read_known m (view_of m control 0) (respecting o ks)
        (λ now va fits passed. byte_pass laws o ks scenes m control scene 0 now va fits passed)
        (gate_address + offset) bytes
        (λ now k passed below.
        gate_fetched now (wrapped (gate_address + offset + k)) (offset + k) (omega (arith, within, below))
        (omega (arith, within, below)) passed
        ∙ ap (λ (x : ℕ). Ok x) (stand k below))
        tlb few all reads

  -- at a gate point but the body's place the supervisor fetches the instruction of the listing
  pub fetch_listed : (m : List ℕ) (control : Control) (tlb : Translations) (offset : ℕ) → IsScene o ks m control
      → AllPass (respecting o ks) tlb → is_point offset ≡ true → offset ≢ 27
      → (it : Fetched) × (decoded_of (instruction_bytes offset) ≡ Whole it.instr it.size)
      × ((instruction_at m (view_of m control 0) (gate_address + offset) tlb).answer ≡ Ok it)
  fetch_listed m control tlb offset scene all point elsewhere =
      let few : length (instruction_bytes offset) ≤ 15 = point_few offset point in
      let inside : offset < 480 = point_within offset point in
      let bytes : List ℕ = instruction_bytes offset in
      let read : IsRead bytes (instruction_at m (view_of m control 0) (gate_address + offset) tlb) =
      gate_read m control scene offset (instruction_bytes offset) tlb (omega (arith, few, inside)) few
      (λ k below. laws.listing.instructions offset k point below) (point_reads offset point) all in
      (read.it, read.listed, read.found)
