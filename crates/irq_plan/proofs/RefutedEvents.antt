-- What is no event of a plan, and no plan.
use Rattle.std.proofs.Common.{ℕ, ◌≤◌, List, [], ◌∷◌, arith}
use Rattle.std.proofs.lemmas.Bool.{false≢true}
use Rattle.std.proofs.lemmas.List.Elements.{All-head}
use Rattle.irq_plan.specs.declared.event.Event.{Event}
use Rattle.irq_plan.specs.declared.event.What.{What}
use Rattle.irq_plan.specs.declared.event.What.TheVariants.{Irq, Drop, Fill, Keep, Forget}
use Rattle.irq_plan.specs.PlannedEvents.{IsEvent, IsPlan, IsPlannable}

-- an event that is due after 2^32 + 1 turns
late : (what : What) → IsEvent (record { due = 4294967297; what = what }) → ⊥
late what is = let due = is.due in omega arith

-- vector 31, which isn't an interrupt's from outside, and 48, which has no gate
too_low : IsPlannable (Irq 31) → ⊥
too_low is = let low = is.0 in omega arith

too_high : IsPlannable (Irq 48) → ⊥
too_high is = let high = is.1 in omega arith

-- an address inside a page, and one between the canonical halves
inside : IsPlannable (Drop 0x1001) → ⊥
inside is = false≢true is

between : IsPlannable (Fill 0x800000000000) → ⊥
between is = false≢true is

-- an entry of level 1, which holds a leaf, and one of level 5, which no walk has
lowest : IsPlannable (Keep 1 0x1000) → ⊥
lowest is = let low = is.0 in omega arith

above : IsPlannable (Forget 5 0x1000) → ⊥
above is = let high = is.1 in omega arith

-- a plan with such an event, and one whose second event is due before its first
late_plan : (what : What) (later : List Event) → IsPlan (record { due = 4294967297; what = what } ∷ later) → ⊥
late_plan what later is = late what (All-head IsEvent (record { due = 4294967297; what = what }) later is.each)

falling : (one other : What) → IsPlan (record { due = 5; what = one } ∷ record { due = 4; what = other } ∷ []) → ⊥
falling one other is =
    let rises : 5 ≤ 4 = is.order 0 1 (record { due = 0; what = one }) (omega arith) (omega arith) in omega (arith, rises)

-- an event of a vector that has no gate
event_without_a_gate : (due : ℕ) → IsEvent (record { due = due; what = Irq 48 }) → ⊥
event_without_a_gate due is = too_high is.what
