use Rattle.report_text.proofs.CodeRuns.{code_in_home}
use Rattle.report_text.proofs.code_listing.home_law.Goals as goal

pub returns : goal.returns
returns c = code_in_home c.args.image.now c.pages.ensures.list
