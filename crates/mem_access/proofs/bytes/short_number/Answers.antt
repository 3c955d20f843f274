use Rattle.std.proofs.Common.{◌≡◌, sym, ◌∙◌}
use Rattle.phys_mem.specs.Memory.{byte_at}
use Rattle.mem_access.proofs.Numbers.{number_of_one}
use Rattle.mem_access.proofs.bytes.short_number.Goals as goal

pub returns-in-1-clause-value : goal.returns-in-1-clause-value
returns-in-1-clause-value c =
    let byte : c.from.result ≡ byte_at c.args.mem.now c.args.at = c.from.ensures ∙ c.load8.ensures in
    byte ∙ sym (number_of_one c.args.mem.now c.args.count c.args.at c.in-1.is)
