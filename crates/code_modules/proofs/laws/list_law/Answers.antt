use Rattle.code_modules.proofs.ListSteps.{some_listed}
use Rattle.code_modules.proofs.laws.list_law.Goals as goal

pub returns : goal.returns
returns c = some_listed
