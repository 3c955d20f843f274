use Rattle.std.proofs.Common.{sym, ◌∙◌, arith}
use Rattle.step_trace.proofs.ToldPlaces.{no_bytes, none_asked, page_bytes}
use Rattle.step_trace.proofs.code.page_code.Goals as goal

-- none is asked for
pub returns-then-most-eq0-clause-bytes : goal.returns-then-most-eq0-clause-bytes
returns-then-most-eq0-clause-bytes c =
    sym (none_asked c.args.cpu.now c.args.mem.now c.args.most c.args.va (omega arith))

-- the bytes stand one behind the other
pub returns-in-Some-clause-bytes : goal.returns-in-Some-clause-bytes
returns-in-Some-clause-bytes c =
    c.run_on_page.ensures.bytes
    ∙ sym (page_bytes c.args.cpu.now c.args.mem.now c.args.most c.args.va c.in-Some.place (omega arith) c.requires.page (omega (arith, c.in-Some.ensures))
    (sym c.code_place.ensures.place ∙ c.in-Some.is))

-- none can be fetched
pub returns-in-None-clause-bytes : goal.returns-in-None-clause-bytes
returns-in-None-clause-bytes c =
    sym (no_bytes c.args.cpu.now c.args.mem.now c.args.most c.args.va (sym c.code_place.ensures.place ∙ c.in-None.is))
