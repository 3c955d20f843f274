use Rattle.page_desc.proofs.MemoryTables.{entry_emptied, entry_replaced, entry_zeroed}
use Rattle.page_desc.proofs.laws.memory_tables_law.Goals as goal

pub returns : goal.returns
returns c = record {
  replaced = λ m a b v f i inside at_b fits small. entry_replaced c.frame_law.ensures m a inside b v f i at_b fits small;
  zeroed = λ m a f i inside small. entry_zeroed c.frame_law.ensures m a inside f i small;
  emptied = λ m a level f i inside small. entry_emptied c.frame_law.ensures m a inside level f i small;
}
