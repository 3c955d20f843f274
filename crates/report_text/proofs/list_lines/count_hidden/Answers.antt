use Rattle.std.proofs.Common.{◌≡◌, ◌+◌, ◌-◌, ◌∙◌, arith, ap}
use Rattle.std.specs.Int.{from_bool}
use Rattle.std.specs.Prelude.{is_some}
use Rattle.std.specs.List.{range_with_len}
use Rattle.proc_audit.specs.ProcessList.{slot_count}
use Rattle.report_text.proofs.CountedLists.{counted_all, counts_begin, counts_on, from_number}
use Rattle.report_text.proofs.list_lines.count_hidden.Goals as goal

pub loop-slot-init : goal.loop-slot-init
loop-slot-init c =
    let n = slot_count c.args.audit.now in
    let all : n - 0 ≡ n = omega arith in
    counts_begin _ (range_with_len 0 n) (range_with_len 0 (n - 0)) (ap (range_with_len 0) all)

pub loop-slot-preserved : goal.loop-slot-preserved
loop-slot-preserved c =
    let n = slot_count c.args.audit.now in
    let slot = c.loop-slot.slot in
    counts_on _ (range_with_len 0 n) (range_with_len slot (n - slot)) (range_with_len (slot + 1) (n - (slot + 1))) slot
    c.loop-slot.count c.from-count.result slot c.loop-slot.invariant (from_number n slot (omega arith))
    (c.from-count.ensures ∙ ap from_bool (c.is_some.ensures ∙ ap is_some c.hidden.ensures))

pub returns : goal.returns
returns c =
    let n = slot_count c.args.audit.now in
    let none : n - c.loop-slot.slot ≡ 0 = omega arith in
    counted_all _ (range_with_len 0 n) (range_with_len c.loop-slot.slot (n - c.loop-slot.slot)) c.loop-slot.slot
    c.loop-slot.count c.loop-slot.invariant (ap (range_with_len c.loop-slot.slot) none)
