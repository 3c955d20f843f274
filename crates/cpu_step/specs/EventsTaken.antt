-- The events of a plan, as the processor takes them.
use Rattle.std.specs.Prelude.{ℕ, ◌-◌, ◌/◌, true, List, None, length}
use Rattle.phys_mem.specs.Memory.{entry_in}
use Rattle.nk_bits.specs.Paging.{page_of, upper_walk}
use Rattle.nk_bits.specs.UpperEntries.{walk_by}
use Rattle.nk_bits.specs.Translations.{entry_forgotten, entry_kept, fill_walked, forgotten}
use Rattle.x86_alu.specs.Flags.{with_flag}
use Rattle.irq_plan.specs.declared.event.What.{What}
use Rattle.irq_plan.specs.declared.event.What.TheVariants.{Irq, Drop, Fill, Keep, Forget}
use Rattle.cpu_step.specs.Processor.{Processor}

-- a vector is pending, once; the translation of a page goes, or the one comes that a walk of the tables finds, if it finds
-- one; the upper entry of a page comes that a walk from the root finds, if it finds one, or it goes
abbrev pub event_taken : What → List ℕ → Processor → Processor
event_taken (Irq vector) m p = record p { pending = with_flag (vector - 32) true p.pending }
event_taken (Drop page) m p = record p { tlb = forgotten p.tlb (page_of page) }
event_taken (Fill page) m p =
    record p { tlb = fill_walked p.tlb (page_of page) None (walk_by (entry_in m) (length m / 4096) p.control.root p.tlb.upper (page_of page)) }
event_taken (Keep level page) m p =
    record p { tlb = entry_kept p.tlb level (page_of page) (upper_walk (entry_in m) (length m / 4096) p.control.root (page_of page) level) }
event_taken (Forget level page) m p = record p { tlb = entry_forgotten p.tlb level (page_of page) }
