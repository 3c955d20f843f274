use Rattle.std.proofs.Common.{◌≡◌, ap, ◌∙◌, sym, rules}
use Rattle.std.specs.List.{find}
use Rattle.std.specs.Option.{option_map}
use Rattle.tlb_model.proofs.EntryLaws.{has, kept_find}
use Rattle.tlb_model.proofs.entries.find_upper.Goals as goal

mapped : (c : goal.After-map) → c.map.result ≡ option_map (λ entry. entry.2) c.find_entry.result
mapped c = search rules

pub returns : goal.returns
returns c =
    λ page is. mapped c ∙ ap (option_map (λ entry. entry.2)) c.find_entry.ensures
    ∙ ap (λ bits. option_map (λ entry. entry.2) (find (has c.args.level bits) c.args.list.now)) is ∙ sym (kept_find c.args.list.now c.args.level page)
