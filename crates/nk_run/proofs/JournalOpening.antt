-- A replay stands beside a run at the opening.
use Rattle.std.proofs.Common.{ℕ, ◌*◌, List, [], sym, subst, arith}
use Rattle.std.proofs.Math.Bool.{or-false}
use Rattle.std.proofs.lemmas.List.FromFn.{get_or-map-range_with_len, length-map-range_with_len}
use Rattle.boot_map.specs.Opening.{IsOpening, division_byte}
use Rattle.nk_body.specs.ReplayBeside.{IsBeside, is_opening_table}
use Rattle.nk_body.specs.BookLaws.{BesideLaws}
use Rattle.gate_state.specs.MachineOpening.{opening_memory, opening_state}
use Rattle.gate_state.specs.MachineStates.{Opening, nested_of}
use Rattle.nk_run.specs.ReplayedRuns.{was_table}
use Rattle.nk_run.proofs.ToldSections.{opened}

pub is_opening : (o : Opening) → IsOpening o.image o.frames (opening_memory o)
unfolding opening_memory
is_opening o = record {
  length = length-map-range_with_len (division_byte o.image o.frames) 0 (4096 * o.frames);
  bytes = λ p inside.
      get_or-map-range_with_len (division_byte o.image o.frames) 0 (4096 * o.frames) p p 0 inside (omega arith);
}

pub opening_beside : BesideLaws → (o : Opening) (input : List ℕ)
    → IsBeside (opened o) (was_table o []) (nested_of (opening_state o input))
    (nested_of (opening_state o input)).held (opening_memory o)
opening_beside laws o input =
    subst (λ tabled. IsBeside (opened o) tabled (nested_of (opening_state o input))
    (nested_of (opening_state o input)).held (opening_memory o))
    (λ i f. sym (or-false (is_opening_table o.image o.frames f)) i)
    (laws.begins o.image (opening_memory o) o.frames (is_opening o))
