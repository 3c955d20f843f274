use Rattle.nk_host.specs.ShelfInMemory.{named_files}
use Rattle.nk_host.proofs.HeldBytes.{AreBytesBelow}
use Rattle.nk_host.proofs.mem_shelf.are_files_of_bytes.Given as goal

abbrev pub invariant-loop-file : goal.invariant-loop-file
invariant-loop-file l = AreBytesBelow l.file-index (named_files l.held)
