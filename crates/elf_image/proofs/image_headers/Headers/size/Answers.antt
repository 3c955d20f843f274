use Rattle.std.proofs.Common.{ap}
use Rattle.elf_image.specs.HeaderRows.{FileHeaders}
use Rattle.elf_image.proofs.image_headers.Headers.size.Goals as goal

pub returns : goal.returns
returns c = ap (λ (h : FileHeaders). h.size) c.self.view_is
