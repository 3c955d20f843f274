use Rattle.std.proofs.Common.{◌∷◌, [], ℕ, ◌+◌, add-one, arith, ap, sym, drop, get_or, length, map, ◌∙◌}
use Rattle.std.proofs.Math.Seq.{drop-cons}
use Rattle.std.proofs.lemmas.List.{length-map}
use Rattle.code_modules.specs.declared.part.FilePart as code_file_part
use Rattle.code_modules.specs.JoinedParts.{directory_of}
use Rattle.code_modules.specs.PartWords.{part_of}
use Rattle.code_modules.proofs.PlacingSteps.{directory_begun, directory_more}
use Rattle.code_modules.proofs.module_parts.directory_of.Goals as goal

abbrev no_part : code_file_part.FilePart
no_part = record {
  offset = 0;
  part = record { flags = 0; address = 0; memory_size = 0; bytes = record { ref_ptr = (0, 0); now = [] } };
}

pub loop-module-init : goal.loop-module-init
loop-module-init c = record {
  bytes = directory_begun (map part_of c.args.modules.now) (length c.args.modules.now) c.new-directory.result.items c.put.new.directory.items
      c.new-directory.ensures c.put.ensures.bytes (sym (length-map c.args.modules.now part_of));
  count = omega (arith, ap length c.new-directory.ensures);
}

pub loop-module-preserved : goal.loop-module-preserved
loop-module-preserved c =
    let i : ℕ = c.loop-module.module-index in
    let first = drop-cons c.args.modules.now c.loop-module.module-index no_part c.loop-module-test.true in
    record {
      bytes = directory_more (map part_of (drop i c.args.modules.now)) (map part_of (drop (i + 1) c.args.modules.now))
          (part_of (get_or c.args.modules.now i no_part)) (directory_of (map part_of c.args.modules.now)) c.loop-module.directory.items
          c.put-in-loop-module.new.directory.items c.put-in-loop-module-2.new.directory.items
          (ap (map part_of) first ∙ ap (λ n. part_of (get_or c.args.modules.now i no_part) ∷ map part_of (drop n c.args.modules.now)) (sym (add-one i)))
          c.loop-module.invariant.bytes c.put-in-loop-module.ensures.bytes c.put-in-loop-module-2.ensures.bytes;
      count = omega arith;
    }
