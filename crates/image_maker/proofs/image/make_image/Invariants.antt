use Rattle.std.proofs.Common.{◌≡◌, ◌≤◌, map}
use Rattle.std.specs.List.{range_with_len}
use Rattle.std.specs.Vec.{vec_capacity}
use Rattle.image_maker.specs.MadeImage.{image_byte}
use Rattle.image_maker.proofs.image.make_image.Given as goal

abbrev pub invariant-loop-at : goal.invariant-loop-at
invariant-loop-at l = record {
  made : l.file.items ≡ map (image_byte l.number) (range_with_len 0 l.at);
  room : l.len ≤ vec_capacity l.file;
}
