use Rattle.std.proofs.Common.{◌∙◌}
use Rattle.std.specs.String.{string_bytes}
use Rattle.command_words.proofs.Forms.{run_spelled}
use Rattle.command_words.proofs.command_line.read_long.Goals as goal

pub returns : goal.returns
returns c = record {
  command =
      c.read_run.ensures.command
      ∙ run_spelled string_bytes c.args.words.now _ _ _ c.type_inv.words (_, c.as_str.ensures.value) (_, c.as_str-2.ensures.value)
      (_, c.as_str-3.ensures.value);
  bounds = c.read_run.ensures.bounds;
}
