-- Turns in a row that show nothing, each by one instruction that changes registers and memory alone.
use Rattle.std.specs.Prelude.{◌≡◌, ℕ, zero, suc, false, List}
use Rattle.cpu_step.specs.declared.stepped.Stepped.TheVariants.{Ran}
use Rattle.cpu_step.specs.Processor.{Processor}
use Rattle.cpu_step.specs.Turns.{enters_body, turned}

-- the processor runs, no body is to run, and its turn shows nothing and leaves the control registers
pub record IsQuickTurn (p : Processor) (m : List ℕ) : Type 0 where
  pub no_body : enters_body p ≡ false
  pub runs : p.halted ≡ false
  pub ran : (turned p m).stepped ≡ Ran
  pub control : (turned p m).processor.control ≡ p.control

-- so many of them lead from the one processor and memory to the other
unfoldable pub AreQuickTurns : ℕ → Processor → List ℕ → Processor → List ℕ → Type 0
AreQuickTurns zero p m q n = (q ≡ p) × (n ≡ m)
AreQuickTurns (suc k) p m q n = IsQuickTurn p m × AreQuickTurns k (turned p m).processor (turned p m).memory q n
