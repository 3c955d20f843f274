use denote.Enum.Bare.{sameb}
use Rattle.std.proofs.Common.{◌≡◌, Bool, true, false, refl, sym, ◌∙◌}
use Rattle.exec_quick.specs.contracts.quick.Kind.{the_type}
use Rattle.exec_quick.specs.declared.quick.Kind.{Kind}
use Rattle.exec_quick.specs.declared.quick.Kind.TheVariants as kind
use Rattle.exec_quick.specs.QuickForms.{is_slow}
use Rattle.cpu_step.proofs.lines.whole_quick.Goals as goal

-- a kind that isn't Slow is a quick one
not_slow : (k : Kind) (same : Kind → Bool) → same kind.Slow ≡ true → same k ≡ false → is_slow k ≡ false
not_slow kind.Slow same is other = sym is ∙ other
not_slow _ same is other = refl

pub returns-else-eq-clause-ready : goal.returns-else-eq-clause-ready
returns-else-eq-clause-ready c =
    (c.quick_of-quick.ensures.stands
    (not_slow c.quick_of-quick.result.kind (λ (k : Kind). sameb the_type k kind.Slow) refl (sym c.eq.ensures ∙ c.if-eq.false))).ready
