use Rattle.std.proofs.Common.{ℕ, ◌<◌, List, subst, sym}
use Rattle.std.specs.Prelude.{slice_index}
use Rattle.code_modules.specs.JoinedImage.{IsLoadedWith}
use Rattle.code_modules.proofs.JoinSteps.{file_means}
use Rattle.code_modules.proofs.JoinedBytes.{joined_bytes}
use Rattle.code_modules.proofs.JoinedHeaders.{HeaderLaws}
use Rattle.code_modules.proofs.JoinedPages.{joined_loaded}
use Rattle.code_modules.proofs.laws.joined_law.Goals as goal

pub returns-clause-joined : goal.returns-clause-joined
returns-clause-joined c = λ b modules file form some ok.
    let laws : HeaderLaws = record { file = c.written_law.ensures.file; program = c.written_law.ensures.program; form = c.form_law.ensures.form } in
    let means = file_means b modules file ok in
    let P : List ℕ → Type 0 = λ f. IsLoadedWith b modules f in
    record {
      loaded = subst P (sym means.2) (joined_loaded laws b modules (c.form_law.ensures.rows b form) (c.pages_law.ensures b form) some means.0 means.1);
      clean = means.3;
    }

pub returns-clause-bytes : goal.returns-clause-bytes
returns-clause-bytes c = λ b modules file image each ok.
    let P : List ℕ → Type 0 = λ f. (i : ℕ) → slice_index f i < 256 in
    subst P (sym (file_means b modules file ok).2) (joined_bytes b modules image each)
