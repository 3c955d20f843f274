-- What holds of each event of a plan, and of their order.
use Rattle.std.specs.Prelude.{ℕ, ◌==◌, ◌%◌, ◌≤◌, Bool, ◌&&◌, IsTrue, List}
use Rattle.std.specs.List.{All}
use Rattle.std.specs.List.Sorted.{IsNonDecreasingBy}
use Rattle.nk_bits.specs.Paging.{is_canonical}
use Rattle.irq_plan.specs.declared.event.Event.{Event}
use Rattle.irq_plan.specs.declared.event.What.{What}
use Rattle.irq_plan.specs.declared.event.What.TheVariants.{Irq, Drop, Fill, Keep, Forget}

-- the linear address is canonical, and a page begins there
abbrev pub is_page_address : ℕ → Bool
is_page_address va = is_canonical va && va % 4096 == 0

-- a vector of an external interrupt that the machine has, or a page; an entry that may be kept is of level 2, 3 or 4
abbrev pub IsPlannable : What → Type 0
IsPlannable (Irq vector) = (32 ≤ vector) × (vector ≤ 47)
IsPlannable (Drop page) = IsTrue (is_page_address page)
IsPlannable (Fill page) = IsTrue (is_page_address page)
IsPlannable (Keep level page) = (2 ≤ level) × (level ≤ 4) × IsTrue (is_page_address page)
IsPlannable (Forget level page) = (2 ≤ level) × (level ≤ 4) × IsTrue (is_page_address page)

-- an event that a line in form can give; it is due after at most 2^32 turns
pub record IsEvent (event : Event) : Type 0 where
  pub due : event.due ≤ 4294967296
  pub what : IsPlannable event.what

-- the events of a plan, in the order in which they are due
pub record IsPlan (events : List Event) : Type 0 where
  pub each : All IsEvent events
  pub order : IsNonDecreasingBy (λ event. event.due) events
