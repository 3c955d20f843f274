use Rattle.std.proofs.Common.{◌≡◌, ◌+◌, ◌*◌, ◌^◌, ◌≤◌, drop, map}
use Rattle.std.specs.List.{list_all}
use Rattle.arrayvec.specs.ArrayVec.{array_vec_len}
use Rattle.elf_image.specs.Home.{home_end, home_start}
use Rattle.code_modules.specs.JoinAnswers.{ends_before_directory, modules_with}
use Rattle.code_modules.specs.JoinedParts.{module_parts}
use Rattle.code_modules.specs.PartWords.{Leads, as_file_part}
use Rattle.code_modules.proofs.module_parts.add_modules.Given as goal

abbrev pub invariant-loop-i : goal.invariant-loop-i
invariant-loop-i l = record {
  placed : Leads (map as_file_part l.initial.layout.parts.items) l.initial.layout.end (map as_file_part l.layout.parts.items) l.layout.end
      (module_parts l.from (modules_with l.guards (map (λ m. m.items) l.modules)))
      (module_parts l.end (modules_with (drop l.i l.guards) (drop l.i (map (λ m. m.items) l.modules))));
  ends : list_all ends_before_directory (module_parts l.from (modules_with l.guards (map (λ m. m.items) l.modules)))
      ≡ list_all ends_before_directory (module_parts l.end (modules_with (drop l.i l.guards) (drop l.i (map (λ m. m.items) l.modules))));
  low : home_start ≤ l.end;
  high : l.end ≤ home_end;
  count : array_vec_len l.layout.parts ≡ array_vec_len l.initial.layout.parts + l.i;
  small : l.layout.end ≤ l.initial.layout.end + (2 ^ 30 + 4096) * l.i;
}
