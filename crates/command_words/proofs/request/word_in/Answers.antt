use Rattle.std.proofs.Common.{[], ap, sym, ◌∙◌}
use Rattle.std.specs.String.{string_bytes}
use Rattle.std.proofs.lemmas.List.{get_or-map}
use Rattle.command_words.proofs.request.word_in.Goals as goal

pub returns : goal.returns
returns c =
    let word = c.index-words-place.result in
    c.as_str.ensures.value ∙ ap string_bytes c.index-words-place.is
    ∙ sym (get_or-map string_bytes c.args.words.now c.args.place word [] c.requires)
