-- The code of modules stands in every state of a run where it was put: its frames are code, which nothing changes.
use Rattle.std.proofs.Common.{◌≡◌, ℕ, ◌+◌, ◌*◌, ◌/◌, ◌%◌, ◌<◌, ◌≤◌, true, List, [], ◌∷◌, zero, suc, inr, Some, refl, sym, ap, ◌∙◌, arith}
use Rattle.std.specs.Prelude.{nat_le, slice_get, slice_index}
use Rattle.std.proofs.lemmas.Bool.{and_from, le-leb, or_left, or_right}
use Rattle.phys_mem.specs.Memory.{byte_at}
use Rattle.nk_bits.specs.declared.kind.Kind.TheVariants.{Code}
use Rattle.nk_bits.specs.Kinds.{kind_of}
use Rattle.irq_plan.specs.declared.event.Event.{Event}
use Rattle.irq_plan.specs.PlannedEvents.{IsPlan}
use Rattle.elf_image.specs.Pages.{byte_of, is_executable, page_count, pages_of}
use Rattle.boot_map.specs.Division.{IsLayout, division_of, pages_start}
use Rattle.boot_map.specs.KernelSlot.{IsCodePage}
use Rattle.boot_map.specs.Opening.{division_byte}
use Rattle.boot_map.specs.OpeningKinds.{kinds}
use Rattle.boot_map.specs.OpeningLaws.{OpeningBytesLaws, OpeningKindsLaws}
use Rattle.boot_map.specs.SlotLaws.{SlotLeafLaws}
use Rattle.page_desc.specs.PageTables.{is_unchanging}
use Rattle.nk_body.specs.KindsKept.{is_settled}
use Rattle.gate_state.specs.GuardedStates.{IsAdmitted, IsGuarded}
use Rattle.gate_state.specs.MachineOpening.{opening_memory, opening_state}
use Rattle.gate_state.specs.MachineStates.{MachineState, Opening}
use Rattle.gate_state.specs.MachineSteps.{state}
use Rattle.code_modules.specs.JoinAnswers.{part_first, part_last}
use Rattle.code_modules.specs.JoinedImage.{IsJoined, is_page_in, part_touches}
use Rattle.code_modules.specs.JoinedParts.{CodeModule, JoinedPart, modules_behind}
use Rattle.nk_run.specs.Clauses.{IsSafeRun}
use Rattle.nk_run.specs.JoinedRuns.{IsCodeByte, KeepsCode}
use Rattle.nk_run.proofs.JournalOpening.{is_opening}

-- a part that is listed has its own pages
listed_page : (parts : List JoinedPart) (i n : ℕ) (part : JoinedPart) → slice_get parts i ≡ Some part → part_touches n part ≡ true
    → is_page_in parts n ≡ true
listed_page [] i n part is here = absurd (cc)
listed_page (p ∷ later) zero n part is here =
    let same : p ≡ part = cc in
    or_left (part_touches n p) (is_page_in later n) (ap (part_touches n) same ∙ here)
listed_page (p ∷ later) (suc i) n part is here =
    or_right (part_touches n p) (is_page_in later n) (listed_page later i n part is here)

touched : (part : JoinedPart) (k : ℕ) → k < part.memory_size → part_touches ((part.address + k) / 4096) part ≡ true
touched part k within =
    let n = (part.address + k) / 4096 in
    let low : part_first part ≤ n = omega arith in
    let high : n ≤ part_last part = omega (arith, within) in
    and_from (nat_le (part_first part) n) (nat_le n (part_last part)) (le-leb (part_first part) n low) (le-leb n (part_last part) high)

module _ (kinds_hold : OpeningKindsLaws) (bytes_hold : OpeningBytesLaws) (leaf_holds : SlotLeafLaws) where
  -- a byte of the image's code, in a state that has the invariant
  code_byte : (o : Opening) (s : MachineState) (va byte : ℕ) → IsAdmitted o → IsGuarded o s
      → is_executable o.image (va / 4096) ≡ true → byte_of o.image va ≡ byte → IsCodeByte o s.memory va byte
  code_byte o s va byte admitted guarded may_run is =
      let b : List ℕ = o.image in
      let (i, within, page_is) = admitted.pages.complete (va / 4096) (admitted.pages.executable (va / 4096) may_run) in
      let frame : ℕ = pages_start (division_of b o.frames) + i in
      let code_page : IsCodePage b o.frames (va / 4096) frame =
      record { place = i; within = within; page_is = page_is; executable = may_run; frame_is = refl } in
      let room : pages_start (division_of b o.frames) + page_count b + 2 + (o.frames + 511) / 512 ≤ o.frames = admitted.layout.room in
      let in_memory : frame < o.frames = omega (arith, room, within) in
      let at : ℕ = 4096 * frame + va % 4096 in
      let code : kind_of (kinds b o.frames) frame ≡ Code =
      kinds_hold.each b o.frames frame in_memory ∙ leaf_holds.code b o.frames (va / 4096) frame code_page in
      let still : kind_of s.kinds frame ≡ Code = guarded.kinds.settled frame (ap is_settled code) ∙ code in
      let frame_at : at / 4096 ≡ frame = omega arith in
      let fixed : is_unchanging (kind_of s.kinds (at / 4096)) ≡ true =
      ap (λ f. is_unchanging (kind_of s.kinds f)) frame_at ∙ ap is_unchanging still in
      let late : 0x2008 ≤ at = omega arith in
      let now : byte_at s.memory at ≡ division_byte b o.frames at = guarded.memory.bytes at fixed (inr late) in
      let first : byte_at (opening_memory o) at ≡ division_byte b o.frames at =
      (is_opening o).bytes at (omega (arith, in_memory)) in
      let loaded : byte_at (opening_memory o) at ≡ byte_of b (4096 * slice_index (pages_of b) i + va % 4096) =
      bytes_hold.image b (opening_memory o) o.frames i (va % 4096) (is_opening o) admitted.layout within (omega arith) in
      let whole : 4096 * (va / 4096) + va % 4096 ≡ va = omega arith in
      record {
        frame = frame;
        page = code_page;
        stands =
            now ∙ sym first ∙ loaded ∙ ap (λ n. byte_of b (4096 * n + va % 4096)) page_is ∙ ap (byte_of b) whole ∙ is;
      }

  pub code_kept : ((o : Opening) (input : List ℕ) (plan : List Event) → IsAdmitted o → IsPlan plan → IsSafeRun plan o input)
      → (b : List ℕ) (modules : List CodeModule) (file : List ℕ) → IsJoined b modules file
      → ((o : Opening) → o.image ≡ file → IsLayout o.image (division_of o.image o.frames) → IsAdmitted o)
      → KeepsCode (modules_behind b modules) file
  code_kept safe b modules file joined admits o input plan step same layout in_form i k part listed within =
      let va : ℕ = part.address + k in
      let admitted : IsAdmitted o = admits o same layout in
      let runs : is_executable o.image (va / 4096) ≡ true =
      ap (λ f. is_executable f (va / 4096)) same ∙ joined.loaded.executable (va / 4096)
      ∙ or_right (is_executable b (va / 4096)) (is_page_in (modules_behind b modules) (va / 4096))
      (listed_page (modules_behind b modules) i (va / 4096) part listed (touched part k within)) in
      code_byte o (state plan (opening_state o input) step) va (slice_index part.bytes k) admitted
      ((safe o input plan admitted in_form).guarded step) runs
      (ap (λ f. byte_of f va) same ∙ joined.loaded.module_bytes i k part listed within)
