-- Where a copy of memory has to be memory as it was before a step: in the frames that the step may have changed.
use Rattle.std.specs.Prelude.{◌≡◌, ◌⊎◌, ◌<◌, ⊤, ℕ, ◌/◌, List, length}
use Rattle.phys_mem.specs.Memory.{byte_at}
use Rattle.gate_state.specs.declared.touched.StepTouched.{StepTouched}
use Rattle.gate_state.specs.declared.touched.StepTouched.TheVariants.{Nothing, Frames, Body, Any}
use Rattle.gate_state.specs.StepsTouched.{KeepsOutside}

-- a byte lies in what was touched
abbrev pub IsTouched : StepTouched → ℕ → Type 0
IsTouched Nothing p = ⊥
IsTouched (Frames one two) p = (p / 4096 ≡ one) ⊎ (p / 4096 ≡ two)
IsTouched (Body below one two) p = (p / 4096 < below) ⊎ ((p / 4096 ≡ one) ⊎ (p / 4096 ≡ two))
IsTouched Any p = ⊤

-- a copy has the bytes of a memory there
abbrev pub AgreesIn : StepTouched → List ℕ → List ℕ → Type 0
AgreesIn it copy m = (p : ℕ) → IsTouched it p → byte_at copy p ≡ byte_at m p

-- a copy does for telling a step from one memory to another that touched no more than this
pub record IsCopyFor (it : StepTouched) (copy before after : List ℕ) : Type 0 where
  pub size : length before ≡ length after
  pub outside : KeepsOutside it before after
  pub agrees : AgreesIn it copy before
