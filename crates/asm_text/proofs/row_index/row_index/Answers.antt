use Rattle.std.proofs.Common.{false}
use Rattle.std.proofs.lemmas.List.{get_or-replicate}
use Rattle.asm_text.proofs.RowIndexes.{none_put}
use Rattle.asm_text.proofs.row_index.row_index.Goals as goal

pub loop-i-init : goal.loop-i-init
loop-i-init c =
    none_put _ (λ n below. get_or-replicate 856 n 4096 0 below) (λ p below. get_or-replicate 4096 p false false below)
