use Rattle.std.proofs.Common.{◌≡◌, ◌+◌, ◌*◌, ◌++◌, drop, map}
use Rattle.std.specs.List.{flat_map}
use Rattle.arrayvec.specs.ArrayVec.{array_vec_len}
use Rattle.code_modules.specs.JoinedParts.{directory_entry, directory_of}
use Rattle.code_modules.specs.PartWords.{part_of}
use Rattle.code_modules.proofs.module_parts.directory_of.Given as goal

abbrev pub invariant-loop-module : goal.invariant-loop-module
invariant-loop-module l = record {
  bytes : l.directory.items ++ flat_map directory_entry (map part_of (drop l.module-index l.modules))
      ≡ directory_of (map part_of l.modules);
  count : array_vec_len l.directory ≡ 8 + 16 * l.module-index;
}
