-- States that aren't safe, since their turn shuts the machine down, and in which a vector can't be delivered, at
-- concrete values.
use Rattle.std.proofs.Common.{◌≡◌, ◌<◌, ℕ, false, List, [], Err, refl, sym, ◌∙◌, arith}
use Rattle.std.specs.Prelude.{Option}
use Rattle.std.specs.Int.Count.{count_leading_zeros}
use Rattle.nk_bits.specs.declared.kind.Kind.{Kind}
use Rattle.trap_unit.specs.TrapDelivery.{delivered, entry_found, shut}
use Rattle.cpu_step.specs.declared.stepped.Stepped.TheVariants as stepped
use Rattle.cpu_step.specs.Processor.{Processor}
use Rattle.cpu_step.specs.Turns.{trapped, turned}
use Rattle.nk_body.specs.NestedRecord.{Ledger}
use Rattle.gate_state.specs.AnyVector.{DeliversAny}
use Rattle.gate_state.specs.MachineStates.{MachineState, Opening}
use Rattle.gate_state.specs.SafeStates.{IsSafe}

-- a processor with these general registers, at this CPL and with this CR0, whose vector 32 is due, and whose interrupt
-- descriptor table has this limit
abbrev waiting : List ℕ → ℕ → ℕ → ℕ → Processor
waiting general cpl cr0 limit = record {
  regs = record { general = general; rip = 0xFFFFFFFF80000000; flags = 0x202; cpl = cpl; ss = 0x10 };
  control = record { cr0 = cr0; cr2 = 0; root = 5; cr4 = 0x100020; efer = 0xD00 };
  tables = record { idt = 0xFFFFFF8000000000; limit = limit; tss = 0xFFFFFF8000000400 };
  tlb = record { pairs = []; upper = [] };
  input = [];
  pending = 1;
  shielded = false;
  halted = false;
}

abbrev with_memory : Processor → List ℕ → List Kind → Ledger → ℕ → ℕ → MachineState
with_memory p m kinds ledger turns taken = record {
  processor = p;
  memory = m;
  kinds = kinds;
  ledger = ledger;
  turns = turns;
  taken = taken;
}

-- gate 32 has its last byte at 527: a table that ends one byte before has none, and the delivery shuts the machine down
gate_32_is_past_the_limit : (general m : List ℕ) (cpl cr0 : ℕ)
    → (turned (waiting general cpl cr0 526) m).stepped ≡ stepped.Shutdown
unfolding turned trapped delivered entry_found count_leading_zeros
gate_32_is_past_the_limit general m cpl cr0 = refl

-- so such a state isn't safe, of the supervisor or the user, with WP set or clear
module _ (o : Opening) (general m : List ℕ) (kinds : List Kind) (ledger : Ledger) (turns taken : ℕ) where
  abbrev state_of : Processor → MachineState
  state_of p = with_memory p m kinds ledger turns taken

  shutdown_of_the_supervisor : IsSafe o (state_of (waiting general 0 0x80010001 526)) → ⊥
  shutdown_of_the_supervisor safe =
      safe.runs (record { no_body = refl; runs = refl }) (gate_32_is_past_the_limit general m 0 0x80010001)

  shutdown_of_the_user : IsSafe o (state_of (waiting general 3 0x80010001 526)) → ⊥
  shutdown_of_the_user safe =
      safe.runs (record { no_body = refl; runs = refl }) (gate_32_is_past_the_limit general m 3 0x80010001)

  shutdown_in_the_gates : IsSafe o (state_of (waiting general 3 0x80000001 526)) → ⊥
  shutdown_in_the_gates safe =
      safe.runs (record { no_body = refl; runs = refl }) (gate_32_is_past_the_limit general m 3 0x80000001)

-- a state in which some vector below 48 shuts the machine down isn't one in which each can be delivered
undelivered : (s : MachineState) (vector : ℕ) (code : Option ℕ) → vector < 48
    → (delivered s.processor.regs s.processor.control s.processor.tables vector code s.memory s.processor.tlb).answer
    ≡ Err shut → DeliversAny s → ⊥
undelivered s vector code below shuts all = let made = sym shuts ∙ all vector code below in cc

-- so it is where the gate of the first vector, of the page fault, or of the last vector ends one byte past the limit, though
-- each gate below it lies within it, and whether or not there is an error code
module _ (general m : List ℕ) (kinds : List Kind) (ledger : Ledger) (turns taken : ℕ) (code : Option ℕ) where
  abbrev limited : ℕ → MachineState
  limited limit = with_memory (waiting general 0 0x80010001 limit) m kinds ledger turns taken

  undelivered_first : DeliversAny (limited 14) → ⊥
  unfolding delivered entry_found
  undelivered_first = undelivered (limited 14) 0 code (omega arith) refl

  undelivered_page_fault : DeliversAny (limited 238) → ⊥
  unfolding delivered entry_found
  undelivered_page_fault = undelivered (limited 238) 14 code (omega arith) refl

  undelivered_last : DeliversAny (limited 766) → ⊥
  unfolding delivered entry_found
  undelivered_last = undelivered (limited 766) 47 code (omega arith) refl
