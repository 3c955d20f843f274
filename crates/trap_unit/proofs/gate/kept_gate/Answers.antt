use Rattle.std.proofs.Common.{length, arith}
use Rattle.trap_unit.proofs.KeptReads.{gate_kept}
use Rattle.trap_unit.proofs.gate.kept_gate.Goals as goal

pub returns-in-Some : goal.returns-in-Some
returns-in-Some c =
    gate_kept c.one_page_law.ensures.value (length c.args.mem.now) c.args.mem.now c.args.control.now c.args.tables.now c.args.vector c.args.tlb.now c.gate_address-address.result c.in-Some.place _ _
    c.gate_address-address.ensures (omega arith) c.in-Some.ensures c.kept_number.ensures.value c.kept_number-in-Some.ensures.value
