-- What is used of the laws of the crates below.
use Rattle.phys_mem.specs.MemoryLaws.{FrameLaws, MemoryLaws}
use Rattle.page_desc.specs.PageTableLaws.{MemoryTablesLaws, PageTablesLaws}
use Rattle.page_desc.specs.SoundLaws.{SoundLaws}
use Rattle.table_rules.specs.ValueLaws.{ValueLaws}

pub record LowerLaws : Type 0 where
  pub memory : MemoryLaws
  pub frame : FrameLaws
  pub entries : MemoryTablesLaws
  pub sound : SoundLaws
  pub value : ValueLaws
  pub counts : PageTablesLaws
