use Rattle.file_scan.proofs.PageReads.{page_read}
use Rattle.file_scan.proofs.page_pieces.read_page.Goals as goal

pub returns-clause-page : goal.returns-clause-page
returns-clause-page g c = λ b held.
    let told = c.image_law.ensures b c.args.headers.now (c.requires.headers b held).image in
    page_read c.args.headers.now c.args.i _ _ _ _ _ b told c.part.ensures c.requires.size (c.in_default.ensures.page b held)
