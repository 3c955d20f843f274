use Rattle.std.proofs.Common.{ap, ◌∙◌, ℕ, ◌/◌, length, nat_lt}
use Rattle.step_trace.proofs.ToldChanges.{stored_told}
use Rattle.step_trace.proofs.line.put_stored.Goals as goal

pub returns-clause-told : goal.returns-clause-told
returns-clause-told c before it =
    ap (λ (n : ℕ). nat_lt n c.len.result) (c.len-begin.ensures ∙ c.args.line.now.ok.0)
    ∙ ap (λ (n : ℕ). nat_lt (length c.args.line.now.items) n) (c.len.ensures ∙ c.put_memory.new.line.ok.0)
    ∙ stored_told c.args.line.now.items c.put_memory.new.line.items (length c.args.mem.now / 4096) before
    c.args.mem.now (c.in_ok-put_memory.ensures.text before it)
