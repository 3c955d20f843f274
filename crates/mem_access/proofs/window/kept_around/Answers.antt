use Rattle.std.proofs.Common.{◌≡◌, ◌-◌, ◌/◌, ◌%◌, arith, sym, ◌∙◌}
use Rattle.nk_bits.specs.declared.access.Access.TheVariants.{Read}
use Rattle.mem_access.proofs.Frames.{serves_on_page}
use Rattle.mem_access.proofs.window.kept_around.Goals as goal

pub returns-in-Some-clause-kept : goal.returns-in-Some-clause-kept
returns-in-Some-clause-kept c = record {
  start = omega arith;
  base = omega (arith, c.in-Some.ensures.agrees);
  inside = omega (arith, c.in-Some.ensures.agrees, c.in-Some.ensures.inside);
  found = λ m at width same some one.
      let on : at / 4096 ≡ c.args.va / 4096 = omega (arith, same) in
      serves_on_page (record { held = c.access_law.ensures.held; found_again = c.access_law.ensures.found_again }) c.args.mem.now m c.args.access c.args.control.now c.args.cpl
      c.args.tlb.now c.args.va c.in-Some.place (sym c.canonical.ensures.value ∙ c.if-not-canonical.false) c.in-Some.ensures.place
      at width (c.in-Some.place - c.args.va % 4096) (omega (arith, c.in-Some.ensures.agrees)) (omega (arith, on, c.ranges.va.fits)) on some one;
}

pub returns-in-Some-clause-read : goal.returns-in-Some-clause-read
returns-in-Some-clause-read c = λ write. record {
  start = omega arith;
  base = omega (arith, c.in-Some.ensures.agrees);
  inside = omega (arith, c.in-Some.ensures.agrees, c.in-Some.ensures.inside);
  found = λ m at width same some one.
      let on : at / 4096 ≡ c.args.va / 4096 = omega (arith, same) in
      serves_on_page (record { held = c.access_law.ensures.held; found_again = c.access_law.ensures.found_again }) c.args.mem.now m Read c.args.control.now c.args.cpl
      c.args.tlb.now c.args.va c.in-Some.place (sym c.canonical.ensures.value ∙ c.if-not-canonical.false) (c.in-Some.ensures.read write)
      at width (c.in-Some.place - c.args.va % 4096) (omega (arith, c.in-Some.ensures.agrees)) (omega (arith, on, c.ranges.va.fits)) on some one;
}
