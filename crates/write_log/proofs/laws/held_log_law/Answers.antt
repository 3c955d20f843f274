use Rattle.write_log.proofs.HeldLogs.{change_unseen, counted, log_agrees, log_held, used_by}
use Rattle.write_log.proofs.laws.held_log_law.Goals as goal

pub returns : goal.returns
returns c = record {
  counts = λ counts m held. (counted counts m held, used_by counts m held);
  agree = λ counts m n held size same. (log_agrees counts m n held size same, log_held counts m n held size same);
  unseen = λ m n room differs. change_unseen c.mask_law.ensures.alike m n differs;
}
