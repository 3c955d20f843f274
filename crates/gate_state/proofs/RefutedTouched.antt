-- What no step is told to touch, each named by the sentence that it guards.
use Rattle.std.proofs.Common.{◌≢◌, ℕ, List, inl, inr, arith}
use Rattle.irq_plan.specs.declared.event.What.{What}
use Rattle.phys_mem.specs.Memory.{byte_at}
use Rattle.region_book.specs.RegionRecords.{Book}
use Rattle.nk_body.specs.declared.call.Call.TheVariants.{DeclareTable, LoadRoot}
use Rattle.gate_state.specs.declared.moves.Move.TheVariants as move
use Rattle.gate_state.specs.declared.seen.Seen.TheVariants as seen
use Rattle.gate_state.specs.declared.seen.Step.TheVariants as step
use Rattle.gate_state.specs.declared.touched.StepTouched.TheVariants.{Nothing, Frames, Body, Any}
use Rattle.gate_state.specs.MachineStates.{MachineState}
use Rattle.gate_state.specs.StepsTouched.{KeepsOutside, ShowsWithin, own_frames, touched_by_call, touched_by_move}

module _ (before after : List ℕ) where
  -- a byte that changes where nothing is touched, in another frame, in one behind the nested kernel's own
  changes_untouched : KeepsOutside Nothing before after → byte_at after 5 ≢ byte_at before 5 → ⊥
  changes_untouched it other = other (it 5 tt)

  changes_elsewhere : KeepsOutside (Frames 3 3) before after → byte_at after 5 ≢ byte_at before 5 → ⊥
  changes_elsewhere it other = other (it 5 ((λ is. absurd (omega (arith, is))), (λ is. absurd (omega (arith, is)))))

  changes_behind : KeepsOutside (Body 64 70 70) before after → byte_at after 266240 ≢ byte_at before 266240 → ⊥
  changes_behind it other =
      other (it 266240 (omega arith, ((λ is. absurd (omega (arith, is))), (λ is. absurd (omega (arith, is))))))

-- of 512 frames descriptors take two, behind 64
too_few_frames : own_frames 512 ≢ 65
too_few_frames is = absurd (omega (arith, is))

-- a call that declares a table touches its frame, one that loads a root none of its own
other_frame : (book : Book) → touched_by_call 0 book (DeclareTable 1 0) ≢ Body 64 1 1
other_frame book is = cc

root_is_touched : (book : Book) → touched_by_call 0 book (LoadRoot 1) ≢ Body 64 1 1
root_is_touched book is = cc

-- an event stores nothing
event_touches : (what : What) (s : MachineState) (m : List ℕ) → touched_by_move (move.Take what) s m ≢ Any
event_touches what s m is = cc

-- a byte of the console isn't shown beside a store
shows_and_stores : ShowsWithin (step.Seen (seen.Console 65)) (Frames 5 6) (Frames 3 3) → ⊥
shows_and_stores (inl is) = cc
shows_and_stores (inr is) = cc
