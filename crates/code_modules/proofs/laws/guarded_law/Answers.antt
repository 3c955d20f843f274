use Rattle.code_modules.proofs.GuardedModules.{refused_by_module}
use Rattle.code_modules.proofs.JoinableParts.{modules_between}
use Rattle.code_modules.proofs.JoinedHeaders.{HeaderLaws}
use Rattle.code_modules.proofs.JoinedPages.{joined_loaded}
use Rattle.code_modules.specs.JoinAnswers.{joined_file}
use Rattle.code_modules.proofs.laws.guarded_law.Goals as goal

pub returns : goal.returns
returns c = λ b modules form clean some guarded full fits.
    let laws : HeaderLaws = record { file = c.written_law.ensures.file; program = c.written_law.ensures.program; form = c.form_law.ensures.form } in
    let rows = c.form_law.ensures.rows b form in
    let list = c.pages_law.ensures b form in
    let loaded = joined_loaded laws b modules rows list some full fits in
    refused_by_module b modules list (c.clean_law.ensures.clean b list clean) (modules_between b modules rows list some full fits) full fits guarded loaded
    (c.clean_law.ensures.clean (joined_file b modules) (c.pages_law.ensures (joined_file b modules) loaded.form))
