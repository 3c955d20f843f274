use Rattle.std.proofs.Common.{subst}
use Rattle.nk_host.specs.Files.{IsFileOfBytes}
use Rattle.nk_host.specs.ShelfInMemory.{named_files}
use Rattle.nk_host.proofs.HeldBytes.{all_of_bytes, none_below, one_more}
use Rattle.nk_host.proofs.mem_shelf.are_files_of_bytes.Goals as goal

pub loop-file-init : goal.loop-file-init
loop-file-init c = none_below (named_files c.args.held.now)

pub loop-file-preserved : goal.loop-file-preserved
loop-file-preserved c =
    one_more c.args.held.now c.loop-file.file-index c.file-item.result c.loop-file-test.true c.file-item.is
    (subst IsFileOfBytes c.deref.ensures.value c.are_bytes.ensures) c.loop-file.invariant

pub returns : goal.returns
returns c = all_of_bytes c.args.held.now c.loop-file.file-index c.loop-file-test.false c.loop-file.invariant
