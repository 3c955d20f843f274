use Rattle.std.proofs.Common.{◌≡◌, not, ap, ◌∙◌, rules}
use Rattle.std.specs.Prelude.{filter}
use Rattle.std.proofs.lemmas.Fn.{filter_same}
use Rattle.nk_bits.specs.UpperEntries.{span_of}
use Rattle.tlb_model.proofs.EntryLaws.{serves}
use Rattle.tlb_model.proofs.entries.remove_spans.Goals as goal

filtered : (c : goal.After-retain) → c.retain.new.self.items ≡ filter (λ entry. not (serves c.args.second c.args.third c.args.fourth entry)) c.args.list.now.items
filtered c = filter_same _ _ _ (λ x b f' k. search rules) _ _ c.retain.ensures.filtered

pub returns-clause-uncovered : goal.returns-clause-uncovered
returns-clause-uncovered c =
    λ page second third fourth.
    filtered c
    ∙ ap (λ bits. filter (λ entry. not (serves bits c.args.third c.args.fourth entry)) c.args.list.now.items) second
    ∙ ap (λ bits. filter (λ entry. not (serves (span_of 2 page) bits c.args.fourth entry)) c.args.list.now.items) third
    ∙ ap (λ bits. filter (λ entry. not (serves (span_of 2 page) (span_of 3 page) bits entry)) c.args.list.now.items) fourth
