use Rattle.std.proofs.Common.{◌*◌, ℕ, length, take, drop, refl, ap, ◌∙◌, arith, length-take}
use Rattle.std.specs.Prelude.{Ok}
use Rattle.elf_image.specs.Elf.{phdr_size}
use Rattle.elf_image.specs.FileParts.{IsShapeOf}
use Rattle.elf_image.specs.HeaderRows.{FileShape}
use Rattle.elf_image.proofs.ImageLaws.{faulty_head, head_judged, table_judged}
use Rattle.elf_image.proofs.image_file.read_headers.Goals as goal

pub new-requires : goal.new-requires
new-requires c = omega (arith, ap length c.head_of-head.ensures, length-take 64 c.args.bytes.now)

pub returns-in-Err : goal.returns-in-Err
returns-in-Err c = faulty_head _ _ _ c.head_of-head.ensures c.in-Err.ensures

pub returns : goal.returns
returns c =
    let shaped : IsShapeOf c.args.bytes.now c.in-Ok.shape = head_judged _ _ _ (Ok c.in-Ok.shape) refl c.head_of-head.ensures c.in-Ok.ensures in
    let is_table =
    c.run-table.ensures.run
    ∙ ap (λ (n : ℕ). take n (drop c.table_at-at.result c.args.bytes.now)) c.table_len-size.ensures.len
    ∙ ap (λ (p : ℕ). take (phdr_size * c.in-Ok.shape.count) (drop p c.args.bytes.now)) c.table_at-at.ensures.at
    ∙ ap (λ (s : FileShape). take (phdr_size * s.count) (drop s.table c.args.bytes.now)) shaped.is in
    table_judged _ _ _ shaped is_table c.headers.result c.headers.ensures
