-- What is no gate point, and no listing. Each lemma is named by what it refuses.
use Rattle.std.proofs.Common.{◌≡◌, ◌+◌, ◌*◌, false, ◌==◌, ◌&&◌, ◌||◌, [], ◌∷◌, length, refl}
use Rattle.std.specs.List.{list_any, range_with_len}
use Rattle.gate_text.specs.GatePoints.{instruction_bytes, is_point}
use Rattle.gate_text.specs.Listing.{ascend, entry_and_exit, listing, row, trap_gate}

-- WP is set until the entry gate's load of CR0 is done
nothing_up_to_the_first_load_is_a_point : list_any is_point (range_with_len 0 16) ≡ false
unfolding is_point
nothing_up_to_the_first_load_is_a_point = refl

-- behind its test the exit gate has WP set, and so do the bytes up to the stubs of the vectors that can be masked
nothing_behind_the_exit_gate's_test_is_a_point : list_any is_point (range_with_len 46 274) ≡ false
unfolding is_point
nothing_behind_the_exit_gate's_test_is_a_point = refl

-- exceptions aren't delivered with WP clear
stubs_of_exceptions_are_no_points : list_any (λ v. is_point (64 + 8 * v) || is_point (66 + 8 * v)) (range_with_len 0 32) ≡ false
unfolding is_point
stubs_of_exceptions_are_no_points = refl

nothing_behind_the_trap_gate's_test_is_a_point : list_any is_point (range_with_len 466 30) ≡ false
unfolding is_point
nothing_behind_the_trap_gate's_test_is_a_point = refl

-- a point is where an instruction of the listing begins
no_point_is_inside_an_instruction : list_any (λ at. is_point at && length (instruction_bytes at) == 0) (range_with_len 0 480) ≡ false
unfolding is_point instruction_bytes listing entry_and_exit trap_gate
no_point_is_inside_an_instruction = refl

-- rows of which one begins before the other ends, or that pass the end, are no listing
rows_that_overlap_do_not_ascend : ascend 0 4096 (row 0 (1 ∷ 2 ∷ []) ∷ row 1 (3 ∷ []) ∷ []) ≡ false
rows_that_overlap_do_not_ascend = refl

rows_that_descend_do_not_ascend : ascend 0 4096 (row 2 (1 ∷ []) ∷ row 0 (3 ∷ []) ∷ []) ≡ false
rows_that_descend_do_not_ascend = refl

a_row_past_the_end_does_not_ascend : ascend 0 4096 (row 4095 (1 ∷ 2 ∷ []) ∷ []) ≡ false
a_row_past_the_end_does_not_ascend = refl
