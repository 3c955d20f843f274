use Rattle.std.proofs.Common.{◌≡◌, ◌<◌, true, false, refl}
use Rattle.exec_quick.specs.declared.quick.Kind.{Kind}
use Rattle.exec_quick.specs.declared.quick.Kind.TheVariants as kind
use Rattle.exec_quick.specs.QuickForms.{is_slow}
use Rattle.execution_tests.proofs.quick.form_of.Goals as goal

-- a kind that isn't Slow is a quick one
not_slow : (k : Kind) → (k ≡ kind.Slow → ⊥) → is_slow k ≡ false
not_slow kind.Slow other = absurd (other refl)
not_slow _ other = refl

pub returns-in_default : goal.returns-in_default
returns-in_default c =
    let stands = c.quick_of-quick.ensures.stands (not_slow c.quick_of-quick.result.kind c.in_default.not-Slow) in
    record { ready = stands.ready; register = stands.register }
