use Rattle.std.proofs.Common.{◌≤◌, ◌∙◌, ap, arith, filter, length}
use Rattle.std.proofs.lemmas.List.{take_all}
use Rattle.page_desc.specs.DescriptorBytes.{kinds_in}
use Rattle.page_desc.specs.PageTables.{is_table}
use Rattle.nk_run.proofs.count.count_tables.Goals as goal

pub returns : goal.returns
returns c =
    let kinds = kinds_in c.args.mem.now in
    let count = (c.stored_law.ensures.count c.args.frames.now c.args.mem.now c.requires).0 in
    let whole : length kinds ≤ c.loop-frame.frame = omega (arith, count, c.loop-frame-test.false, c.frames-frame-end.ensures.frames) in
    c.loop-frame.invariant.0 ∙ ap (λ it. length (filter is_table it)) (take_all c.loop-frame.frame kinds whole)
