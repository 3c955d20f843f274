use Rattle.std.proofs.Common.{◌∙◌, arith, sym}
use Rattle.report_text.proofs.two_states.Auditing.put_record.Goals as goal

pub invariant_of-self : goal.invariant_of-self
invariant_of-self g c =
    let size = c.put_bytes.ensures.size in
    let room = c.self.invariant.1 in
    (c.put_bytes.ensures.after ∙ sym c.put_bytes.ensures.before, omega (arith, size, room))
