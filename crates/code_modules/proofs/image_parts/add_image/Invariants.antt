use Rattle.std.proofs.Common.{◌≡◌, ◌+◌, ◌*◌, ◌^◌, ◌≤◌, drop, map}
use Rattle.arrayvec.specs.ArrayVec.{array_vec_len}
use Rattle.elf_image.specs.Elf.{segments}
use Rattle.code_modules.specs.JoinedParts.{image_part}
use Rattle.code_modules.specs.PartWords.{Leads, as_file_part}
use Rattle.code_modules.proofs.image_parts.add_image.Given as goal

abbrev pub invariant-loop-i : goal.invariant-loop-i
invariant-loop-i l = record {
  placed : Leads (map as_file_part l.initial.layout.parts.items) l.initial.layout.end (map as_file_part l.layout.parts.items) l.layout.end
      (map (image_part l.bytes) (segments l.bytes)) (map (image_part l.bytes) (drop l.i (segments l.bytes)));
  count : array_vec_len l.layout.parts ≡ array_vec_len l.initial.layout.parts + l.i;
  small : l.layout.end ≤ l.initial.layout.end + (2 ^ 30 + 4096) * l.i;
}
