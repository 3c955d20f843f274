-- What a replay begins from: memory of which the opening's is seen, with the opening's books in it, stands for the opening's
-- record.
use Rattle.std.proofs.Common.{◌≡◌, ℕ, ◌*◌, List}
use Rattle.std.proofs.lemmas.List.FromFn.{fill_by_all}
use Rattle.boot_map.specs.Opening.{IsOpening, division_byte}
use Rattle.boot_map.specs.OpeningKinds.{kinds}
use Rattle.phys_mem.specs.MaskedMemory.{seen}
use Rattle.page_desc.specs.DescriptorBytes.{kinds_in}
use Rattle.nk_body.specs.NestedRecord.{OwnState, books_in, nested_in}
use Rattle.nk_body.specs.SourceWords.{opening_ledger}
use Rattle.gate_state.specs.MachineOpening.{opening_memory}
use Rattle.gate_state.specs.MachineStates.{Opening}
use Rattle.replay_core.specs.ReplayedCalls.{standing_held}
use Rattle.nk_run.specs.Outcome.{opened}

-- the opening has one memory
pub same_opening : (o : Opening) (m : List ℕ) → IsOpening o.image o.frames m → m ≡ opening_memory o
unfolding opening_memory
same_opening o m is = fill_by_all (division_byte o.image o.frames) m (4096 * o.frames) 0 is.length is.bytes

pub stands_opened : (o : Opening) (own : OwnState) (m : List ℕ) → IsOpening o.image o.frames (seen m)
    → kinds_in m ≡ kinds o.image o.frames → own.root ≡ 5 → (books_in own m).ledger ≡ opening_ledger
    → standing_held own m ≡ opened o
stands_opened o own m is kinds_are root_is ledger_is =
    let memory_is = same_opening o (seen m) is in
    λ i. record {
      nested = nested_in (kinds_are i) (root_is i) (ledger_is i) (memory_is i);
      memory = memory_is i;
    }
