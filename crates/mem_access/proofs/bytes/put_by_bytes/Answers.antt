use Rattle.std.proofs.Common.{◌≡◌, ◌+◌, ◌-◌, ◌/◌, ◌%◌, arith, refl, ap, sym, ◌∙◌}
use Rattle.phys_mem.specs.Memory.{stores, stored}
use Rattle.mem_access.proofs.Numbers.{store_first, store_none}
use Rattle.mem_access.proofs.bytes.put_by_bytes.Goals as goal

pub loop-offset-preserved : goal.loop-offset-preserved
loop-offset-preserved c =
    let place : c.args.at + c.from-in-loop-offset.result ≡ c.args.at + c.loop-offset.offset = omega arith in
    record {
      to_do =
          store_first c.loop-offset.mem c.store8.new.self (c.args.count - c.loop-offset.offset) (c.args.count - (c.loop-offset.offset + 1)) (c.args.at + c.loop-offset.offset) (c.args.at + (c.loop-offset.offset + 1))
          c.loop-offset.rest (c.loop-offset.rest % 256) (c.loop-offset.rest / 256) (omega arith) (omega arith) refl refl
          (c.store8.ensures.stored ∙ ap (λ x. stored c.loop-offset.mem (stores 1 x (c.loop-offset.rest % 256))) place)
          ∙ c.loop-offset.invariant.to_do;
      same_length = c.store8.ensures.length ∙ c.loop-offset.invariant.same_length;
    }

pub returns-clause-stored : goal.returns-clause-stored
returns-clause-stored c =
    sym (store_none c.loop-offset.mem (c.args.count - c.loop-offset.offset) (c.args.at + c.loop-offset.offset) c.loop-offset.rest (omega arith)) ∙ c.loop-offset.invariant.to_do
