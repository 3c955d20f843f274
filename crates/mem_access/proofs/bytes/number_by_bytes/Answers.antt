use Rattle.std.proofs.Common.{◌≡◌, ◌+◌, ◌-◌, ◌*◌, ◌^◌, ◌<◌, arith, ap, sym, ◌∙◌}
use Rattle.std.proofs.Math.Nat.{one-le-pow}
use Rattle.phys_mem.specs.Memory.{byte_at}
use Rattle.mem_access.proofs.Numbers.{number_none, next_bound, next_value, eight_bytes}
use Rattle.mem_access.proofs.bytes.number_by_bytes.Goals as goal

pub loop-offset-init : goal.loop-offset-init
loop-offset-init c = record {
  value = sym (number_none c.args.mem.now (c.args.count - c.args.count) (c.args.at + c.args.count) (omega arith));
  bound = one-le-pow (c.args.count - c.args.count) 256 (omega arith);
}

pub overflow_mul-value : goal.overflow_mul-value
overflow_mul-value c =
    let bound = next_bound c.args.count c.loop-offset.offset 0 c.loop-offset.value (omega arith) (omega arith) (omega arith) c.loop-offset.invariant.bound in
    let fits : 256 * c.loop-offset.value + 0 < 2 ^ 64 = eight_bytes (c.args.count - (c.loop-offset.offset - 1)) (256 * c.loop-offset.value + 0) (omega arith) bound in
    omega arith

pub overflow_add-value : goal.overflow_add-value
overflow_add-value c =
    let bound = next_bound c.args.count c.loop-offset.offset c.from-in-loop-offset-2.result c.loop-offset.value (omega arith) (omega arith) (omega arith) c.loop-offset.invariant.bound in
    let fits : 256 * c.loop-offset.value + c.from-in-loop-offset-2.result < 2 ^ 64 =
    eight_bytes (c.args.count - (c.loop-offset.offset - 1)) (256 * c.loop-offset.value + c.from-in-loop-offset-2.result) (omega arith) bound in
    omega arith

pub loop-offset-preserved : goal.loop-offset-preserved
loop-offset-preserved c =
    let place : c.args.at + c.from-in-loop-offset.result ≡ c.args.at + (c.loop-offset.offset - 1) = omega arith in
    let same : c.from-in-loop-offset-2.result ≡ c.load8.result = omega arith in
    record {
      value =
          next_value c.args.mem.now c.args.at c.args.count c.loop-offset.offset c.from-in-loop-offset-2.result c.loop-offset.value (omega arith) (omega arith)
          (same ∙ c.load8.ensures ∙ ap (λ x. byte_at c.args.mem.now x) place) c.loop-offset.invariant.value;
      bound = next_bound c.args.count c.loop-offset.offset c.from-in-loop-offset-2.result c.loop-offset.value (omega arith) (omega arith) (omega arith) c.loop-offset.invariant.bound;
    }
