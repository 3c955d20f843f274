use Rattle.std.proofs.Common.{◌∙◌, ap, length, map}
use Rattle.std.specs.String.{string_bytes}
use Rattle.command_words.specs.CommandLine.{command_of}
use Rattle.command_words.proofs.Forms.{audit_spelled, formless, middle_spelled, pair_spelled, short_spelled}
use Rattle.command_words.proofs.command_line.read_command.Goals as goal

pub returns-clause-command : goal.returns-clause-command
returns-clause-command c =
    formless string_bytes c.args.words.now c.in_default.ensures.cases c.in_default-as_array.ensures.cases c.in_default-as_array-2.ensures.cases
    c.in_default-as_array-3.ensures.cases c.in_default-as_array-4.ensures.cases

pub returns-in-Some : goal.returns-in-Some
returns-in-Some c =
    let it = c.in-Some in
    record {
      command =
          c.read_short.ensures.command
          ∙ short_spelled string_bytes it.field-0.now _ _ (ap length it.ensures.cases.same ∙ it.ensures.cases.long)
          (_, c.as_str.ensures.value) (_, c.as_str-in-Some.ensures.value)
          ∙ ap command_of (ap (map string_bytes) it.ensures.cases.same);
      bounds = c.read_short.ensures.bounds;
    }

pub returns-in-Some-as_array : goal.returns-in-Some-as_array
returns-in-Some-as_array c =
    let it = c.in-Some-as_array in
    record {
      command =
          c.read_pair.ensures.command
          ∙ pair_spelled string_bytes it.field-0.now _ (ap length it.ensures.cases.same ∙ it.ensures.cases.long)
          (_, c.as_str-in-Some-as_array.ensures.value)
          ∙ ap command_of (ap (map string_bytes) it.ensures.cases.same);
      bounds = c.read_pair.ensures.bounds;
    }

pub returns-in-Some-as_array-2 : goal.returns-in-Some-as_array-2
returns-in-Some-as_array-2 c =
    let it = c.in-Some-as_array-2 in
    record {
      command =
          c.read_middle.ensures.command
          ∙ middle_spelled string_bytes it.field-0.now _ _ _ (ap length it.ensures.cases.same ∙ it.ensures.cases.long)
          (_, c.as_str-in-Some-as_array-2.ensures.value) (_, c.as_str-in-Some-as_array-2-2.ensures.value) (_, c.as_str-in-Some-as_array-2-3.ensures.value)
          ∙ ap command_of (ap (map string_bytes) it.ensures.cases.same);
      bounds = c.read_middle.ensures.bounds;
    }

pub returns-in-Some-as_array-3 : goal.returns-in-Some-as_array-3
returns-in-Some-as_array-3 c =
    let it = c.in-Some-as_array-3 in
    record {
      command =
          c.read_audit.ensures.command
          ∙ audit_spelled string_bytes it.field-0.now _ _ _ (ap length it.ensures.cases.same ∙ it.ensures.cases.long)
          (_, c.as_str-in-Some-as_array-3.ensures.value) (_, c.as_str-in-Some-as_array-3-2.ensures.value) (_, c.as_str-in-Some-as_array-3-3.ensures.value)
          ∙ ap command_of (ap (map string_bytes) it.ensures.cases.same);
      bounds = c.read_audit.ensures.bounds;
    }

pub returns-in-Some-as_array-4 : goal.returns-in-Some-as_array-4
returns-in-Some-as_array-4 c = record {
  command = c.read_long.ensures.command ∙ ap command_of (ap (map string_bytes) c.in-Some-as_array-4.ensures.cases.same);
  bounds = c.read_long.ensures.bounds;
}
