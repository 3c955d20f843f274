use Rattle.std.proofs.lemmas.Bool.{not-true}
use Rattle.file_scan.proofs.PageReads.{may_not_run}
use Rattle.file_scan.proofs.page_pieces.scan_page.Goals as goal

pub returns-then-not-info-clause-walked : goal.returns-then-not-info-clause-walked
returns-then-not-info-clause-walked g c = λ b held.
    let h = c.args.headers.now in
    let told = c.image_law.ensures b h (c.requires.headers b held).image in
    c.page_pieces_law.ensures.passed b c.args.scanner.now c.args.i (c.requires.walked b held)
    (may_not_run h b told c.args.i _ c.page-info.ensures.exec (not-true _ c.if-not-info.true))

pub returns-in-None-clause-walked : goal.returns-in-None-clause-walked
returns-in-None-clause-walked g c = λ b held.
    c.in-None.ensures.fed b (c.requires.headers b held) (c.requires.walked b held) (c.in_default.ensures.page b held)

pub returns-in-Some-clause-walked : goal.returns-in-Some-clause-walked
returns-in-Some-clause-walked g c = (
  c.in-Some.ensures.length.0,
  c.in-Some.ensures.length.1,
  λ b held.
      let has = c.requires.headers b held in
      record {
        within = has.within;
        formed = has.image.form;
        first = c.in-Some.ensures.fed b has (c.requires.walked b held) (c.in_default.ensures.page b held);
      },
)
