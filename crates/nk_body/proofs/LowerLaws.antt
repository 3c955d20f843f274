-- What is used of the laws of the crates below.
use Rattle.phys_mem.specs.MemoryLaws.{FrameLaws, MemoryLaws}
use Rattle.page_desc.specs.PageTableLaws.{GuardedLaws, PageTablesLaws}
use Rattle.region_book.specs.RegionLaws.{ApartLaws, DeclaredLaws}
use Rattle.vmmu.specs.TableCallLaws.{AcceptedLaws, TableCallsLaws}

-- memory after stores, and after a frame is zeroed
pub record ByteLaws : Type 0 where
  pub memory : MemoryLaws
  pub frame : FrameLaws

pub record LowerLaws : Type 0 where
  pub byte : ByteLaws
  pub store : PageTablesLaws
  pub table : TableCallsLaws
  pub accepted : AcceptedLaws
  pub guard : GuardedLaws
  pub declared : DeclaredLaws

-- what is used over calls that are made once more
pub record ReplayLaws : Type 0 where
  pub byte : ByteLaws
  pub region : ApartLaws
  pub accepted : AcceptedLaws
  pub declared : DeclaredLaws
