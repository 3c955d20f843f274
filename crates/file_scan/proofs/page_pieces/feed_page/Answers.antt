use Rattle.std.proofs.Common.{◌∙◌, arith}
use Rattle.file_scan.proofs.PageReads.{counted, fed_there, may_run}
use Rattle.file_scan.proofs.page_pieces.feed_page.Goals as goal

pub returns-clause-fed : goal.returns-clause-fed
returns-clause-fed c = λ b has walked page.
    let h = c.args.headers.now in
    let told = c.image_law.ensures b h has.image in
    let there = fed_there h b told c.args.scanner.now c.feed.new.self c.args.i c.page.result.va c.args.page.now c.feed.result c.page.ensures.va c.feed.ensures.found in
    c.page_pieces_law.ensures.fed b c.args.scanner.now c.feed.new.self c.args.i c.args.page.now c.feed.result
    (c.pages_law.ensures b has.image.form) walked (omega (arith, c.requires.inside, counted h b told)) (may_run h b told c.args.i ∙ c.requires.exec) page there
