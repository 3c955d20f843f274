use Rattle.std.proofs.Common.{◌==◌, arith, ap, sym, map, Vec, Global, ℕ, List, ◌∙◌}
use Rattle.std.proofs.lemmas.List.{get_or-map, length-map}
use Rattle.code_modules.proofs.PlacingSteps.{empty_here, empty_later}
use Rattle.code_modules.proofs.image_join.first_empty.Goals as goal

abbrev bytes_of : Vec ℕ Global → List ℕ
bytes_of m = m.items

pub returns-then-is_empty : goal.returns-then-is_empty
returns-then-is_empty c =
    let m : Vec ℕ Global = c.index-modules-i.result in
    empty_here (map bytes_of c.args.modules.now) c.loop-i.i c.index-modules-i.result.items
    (omega (arith, length-map c.args.modules.now bytes_of))
    (ap bytes_of c.index-modules-i.is ∙ sym (get_or-map bytes_of c.args.modules.now c.loop-i.i m m.items c.loop-i-test.true))
    (ap (λ n. n == 0) (sym c.index-modules-i.result.ok.0) ∙ sym c.is_empty.ensures ∙ c.if-is_empty.true)
    ∙ sym c.loop-i.invariant

pub loop-i-preserved : goal.loop-i-preserved
loop-i-preserved c =
    let m : Vec ℕ Global = c.index-modules-i.result in
    c.loop-i.invariant
    ∙ empty_later (map bytes_of c.args.modules.now) c.loop-i.i c.index-modules-i.result.items
    (omega (arith, length-map c.args.modules.now bytes_of))
    (ap bytes_of c.index-modules-i.is ∙ sym (get_or-map bytes_of c.args.modules.now c.loop-i.i m m.items c.loop-i-test.true))
    (ap (λ n. n == 0) (sym c.index-modules-i.result.ok.0) ∙ sym c.is_empty.ensures ∙ c.if-is_empty.false)
