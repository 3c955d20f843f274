use Rattle.std.proofs.Common.{◌+◌, ◌%◌, ◌^◌, ◌++◌, length, sym, ap, ◌∙◌, arith}
use Rattle.std.specs.Prelude.{◌-◌}
use Rattle.std.proofs.lemmas.List.{append-nil}
use Rattle.step_trace.specs.CodePlaces.{bytes_judged}
use Rattle.step_trace.proofs.ToldPlaces.{both_pages, first_page}
use Rattle.step_trace.proofs.code.next_code.Goals as goal

-- a byte of the first page can't be fetched
pub returns-then-first-left-clause-bytes : goal.returns-then-first-left-clause-bytes
returns-then-first-left-clause-bytes c =
    first_page c.args.cpu.now c.args.mem.now c.args.left (15 - c.args.left) 15 c.args.va (omega arith)
    (λ all. c.if-first-left.true (ap length c.requires.first ∙ all))
    ∙ (sym c.requires.first ∙ sym (append-nil c.args.first.now))

-- all of them can
pub returns-clause-bytes : goal.returns-clause-bytes
returns-clause-bytes c =
    both_pages c.args.cpu.now c.args.mem.now c.args.left (15 - c.args.left) 15 c.args.va (omega arith) (omega arith)
    (sym (ap length c.requires.first) ∙ c.if-first-left.false)
    ∙ (ap (λ front. front ++ bytes_judged c.args.cpu.now c.args.mem.now ((c.args.va + c.args.left) % 2 ^ 64) (15 - c.args.left)) (sym c.requires.first)
    ∙ ap (λ later. c.args.first.now ++ later) (sym c.page_code.ensures.bytes))
