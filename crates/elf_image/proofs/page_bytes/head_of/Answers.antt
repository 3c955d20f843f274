use Rattle.std.proofs.Common.{sym, arith, take_all}
use Rattle.elf_image.proofs.page_bytes.head_of.Goals as goal

pub returns-then-bytes-lt-EHDR_SIZE : goal.returns-then-bytes-lt-EHDR_SIZE
returns-then-bytes-lt-EHDR_SIZE c = sym (take_all 64 c.args.bytes.now (omega (arith, c.if-bytes-lt-EHDR_SIZE.true)))
