-- What a turn is told to touch, where a delivery pushes to the trap stack alone.
use Rattle.std.proofs.Common.{◌≡◌, ◌≢◌, ℕ, ◌/◌, List, refl}
use Rattle.phys_mem.specs.Memory.{byte_at}
use Rattle.cpu_step.specs.declared.touched.Touched.{Touched}
use Rattle.cpu_step.specs.declared.touched.Touched.TheVariants as touched
use Rattle.cpu_step.specs.FramesTouched.{StaysOutside}
use Rattle.gate_state.specs.StepsTouched.{KeepsOutside, of_turn}

pub kept_outside : (it : Touched) (before after : List ℕ) → StaysOutside it before after
    → (it ≡ touched.Any → (p : ℕ) → p / 4096 ≢ 3 → byte_at after p ≡ byte_at before p)
    → KeepsOutside (of_turn it) before after
kept_outside touched.Nothing before after stays trapped = stays
kept_outside (touched.Frames one two) before after stays trapped = stays
kept_outside touched.Any before after stays trapped = λ p out. trapped refl p out.0
