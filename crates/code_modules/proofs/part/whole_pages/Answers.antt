use Rattle.std.proofs.Common.{arith, refl}
use Rattle.code_modules.proofs.part.whole_pages.Goals as goal

pub overflow_add-result : goal.overflow_add-result
overflow_add-result c = omega (arith, c.requires)

pub overflow_mul-result : goal.overflow_mul-result
overflow_mul-result c = omega (arith, c.requires)

pub returns : goal.returns
returns c = refl
