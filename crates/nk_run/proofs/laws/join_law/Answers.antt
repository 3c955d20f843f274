use Rattle.nk_run.proofs.AdmittedImages.{joined_admitted}
use Rattle.nk_run.proofs.CodeKept.{code_kept}
use Rattle.nk_run.proofs.JoinRows.{joined_where_join}
use Rattle.nk_run.proofs.laws.join_law.Goals as goal

pub returns : goal.returns
returns c =
    joined_where_join c.joined_law.ensures.joined c.joined_law.ensures.bytes c.list_law.ensures
    (λ b modules file joined bytes.
    let admits = joined_admitted c.pages_law.ensures c.clean_law.ensures.clean b modules file joined bytes in
    record {
      joined = joined;
      bytes = bytes;
      safe = λ o input plan same layout in_form. c.safe_law.ensures o input plan (admits o same layout) in_form;
      kept = code_kept c.opening_kinds_law.ensures c.opening_bytes_law.ensures c.slot_leaf_law.ensures c.safe_law.ensures
          b modules file joined admits;
    })
