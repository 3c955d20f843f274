-- The accesses of an instruction, made in the order of its faults: the check of an operand that is both read and
-- written, the reads, and at last the check of a write to a place that isn't read. Each is made over the translations
-- that the one before left.
use Rattle.std.specs.Prelude.{ℕ, ◌≡◌, ◌^◌, ◌<◌, List, Option, Some, None, Result, Ok, Err, IfSome}
use Rattle.nk_bits.specs.declared.access.Access.TheVariants.{Write}
use Rattle.nk_bits.specs.declared.fault.AccessFault.{AccessFault}
use Rattle.nk_bits.specs.declared.leaf.Target.{Target}
use Rattle.nk_bits.specs.Translations.{Translations}
use Rattle.nk_bits.specs.Outcomes.{Outcome, outcome_of, answered, and_then}
use Rattle.nk_bits.specs.Accesses.{View, IsAccessSize, IsTarget, accessed}
use Rattle.page_walk.specs.declared.plan.Span.{Span}
use Rattle.page_walk.specs.declared.plan.Origin.{Origin}
use Rattle.page_walk.specs.declared.plan.Origin.TheVariants.{Is, At}
use Rattle.page_walk.specs.declared.plan.AccessPlan.{AccessPlan}
use Rattle.page_walk.specs.declared.plan.Gathered.{Gathered}
use Rattle.page_walk.specs.declared.plan.SpanFault.{SpanFault}
use Rattle.page_walk.specs.MemoryAccess.{loaded}

-- the fault of an access, with whether the stack was addressed
abbrev pub with_stack : {A : Type 0} → Span → Result A AccessFault → Result A SpanFault
with_stack span (Ok answer) = Ok answer
with_stack span (Err fault) = Err (record { fault = fault; stack = span.stack })

abbrev pub in_span : {A : Type 0} → Span → Outcome AccessFault A → Outcome SpanFault A
in_span span outcome = outcome_of (with_stack span outcome.answer) outcome.tlb

-- the check of a write, where there is one
abbrev pub checked : View → Option Span → Translations → Outcome SpanFault (Option Target)
checked view None tlb = answered None tlb
checked view (Some span) tlb =
    and_then (in_span span (accessed view Write tlb span.va span.width)) (λ target after. answered (Some target) after)

-- the value of a source: a load where it stands in memory
abbrev pub taken : List ℕ → View → Origin → Translations → Outcome SpanFault ℕ
taken m view (Is value) tlb = answered value tlb
taken m view (At span) tlb = in_span span (loaded m view tlb span.va span.width)

-- the accesses of a plan but the last check, in order
unfoldable pub gathered : List ℕ → View → AccessPlan → Translations → Outcome SpanFault Gathered
gathered m view plan tlb =
    and_then (checked view plan.both tlb) (λ both after_both.
    and_then (taken m view plan.to after_both) (λ to after_to.
    and_then (taken m view plan.from after_to) (λ from after_from.
    answered (record { both = both; to = to; from = from }) after_from)))

-- an operand in memory has 1, 2, 4 or 8 bytes
abbrev pub IsSource : Origin → Type 0
IsSource (Is value) = Unit {0}
IsSource (At span) = IsAccessSize span.width

abbrev pub IsSized : Option Span → Type 0
IsSized span = IfSome span (λ span. IsAccessSize span.width)

-- each place that a plan addresses has 1, 2, 4 or 8 bytes
pub record IsAccessPlan (plan : AccessPlan) : Type 0 where
  pub both_sized : IsSized plan.both
  pub to_sized : IsSource plan.to
  pub from_sized : IsSource plan.from
  pub last_sized : IsSized plan.last

-- a value is that of its source, or fits the bytes that it was read from
abbrev pub FitsSource : Origin → ℕ → Type 0
FitsSource (Is value) taken = taken ≡ value
FitsSource (At span) taken = taken < 256 ^ span.width

-- the places of a check lie in a memory of so many bytes, and there are some exactly where there is a write to check
abbrev pub IsChecked : ℕ → Option Span → Option Target → Type 0
IsChecked size None None = Unit {0}
IsChecked size None (Some target) = ⊥
IsChecked size (Some span) None = ⊥
IsChecked size (Some span) (Some target) = IsTarget size span.va span.width target
