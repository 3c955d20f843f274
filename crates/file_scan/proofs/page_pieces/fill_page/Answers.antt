use Rattle.std.proofs.Common.{ℕ, arith, length-take}
use Rattle.file_scan.proofs.page_pieces.fill_page.Goals as goal

pub overflow_cast-from : goal.overflow_cast-from
overflow_cast-from g c = omega arith

pub overflow_cast-upto : goal.overflow_cast-upto
overflow_cast-upto g c = omega arith

pub overflow_add-upto : goal.overflow_add-upto
overflow_add-upto g c = omega arith

pub slice_bounds-fill-end : goal.slice_bounds-fill-end
slice_bounds-fill-end g c = omega arith

pub slice_bounds-fill-count : goal.slice_bounds-fill-count
slice_bounds-fill-count g c = omega arith

pub slice_bounds-fill-start : goal.slice_bounds-fill-start
slice_bounds-fill-start g c = omega arith

pub slice_bounds-fill-end-3 : goal.slice_bounds-fill-end-3
slice_bounds-fill-end-3 g c = omega arith

pub slice_bounds-piece_of-count : goal.slice_bounds-piece_of-count
slice_bounds-piece_of-count g c = omega arith

pub slice_bounds-piece_of-start : goal.slice_bounds-piece_of-start
slice_bounds-piece_of-start g c = omega arith

pub slice_bounds-piece_of-end : goal.slice_bounds-piece_of-end
slice_bounds-piece_of-end g c = omega arith

pub piece_of-requires : goal.piece_of-requires
piece_of-requires g c = record { within = λ b held. omega (arith, c.requires.within b held, length-take {A = ℕ}) }
