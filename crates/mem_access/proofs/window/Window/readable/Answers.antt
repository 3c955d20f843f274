use Rattle.std.proofs.Common.{rules, ◌≡◌, arith, length, subst, sym}
use Rattle.nk_bits.specs.Outcomes.{answered}
use Rattle.nk_bits.specs.Accesses.{accessed}
use Rattle.nk_bits.specs.declared.access.Access.TheVariants.{Read}
use Rattle.page_walk.specs.MemoryAccess.{view_of}
use Rattle.mem_access.proofs.Spans.{bytes_fit, target_of_one}
use Rattle.mem_access.proofs.window.Window.readable.Goals as goal

pub returns-in-Some-clause-place : goal.returns-in-Some-clause-place
returns-in-Some-clause-place c =
    subst (λ at. answered (record { first = at; second = 0 }) c.args.tlb.now
    ≡ accessed (view_of c.args.mem.now c.args.control.now c.args.cpl) Read c.args.tlb.now c.args.va c.args.width) (sym c.in-Some.ensures.place)
    (((c.requires.window.read c.page_slot.result (record { start = 0; base = 0; room = 0; spare = 0 }) (search rules)).kept c.in-Some.ensures.room).found c.args.mem.now c.args.va c.args.width c.in-Some.ensures.page (omega arith) (c.in-Some.ensures.one c.args.width (omega arith)))

pub returns-in-Some-clause-target : goal.returns-in-Some-clause-target
returns-in-Some-clause-target c =
    let kept = (c.requires.window.read c.page_slot.result (record { start = 0; base = 0; room = 0; spare = 0 }) (search rules)).kept c.in-Some.ensures.room in
    target_of_one (length c.args.mem.now) c.args.va c.args.width c.in-Some.place
    (omega (arith, c.in-Some.ensures.place, kept.base)) (omega (arith, c.in-Some.ensures.place, kept.inside)) (c.in-Some.ensures.one c.args.width (omega arith))

pub returns-in-Some-clause-fits : goal.returns-in-Some-clause-fits
returns-in-Some-clause-fits c =
    let kept = (c.requires.window.read c.page_slot.result (record { start = 0; base = 0; room = 0; spare = 0 }) (search rules)).kept c.in-Some.ensures.room in
    bytes_fit (length c.args.mem.now) c.args.va c.args.width c.in-Some.place
    (omega (arith, c.in-Some.ensures.place, kept.inside)) (c.in-Some.ensures.one c.args.width (omega arith))
