-- What a turn leaves of a guarded state: it is guarded, and where its memory hides the books, it hides them still.
use Rattle.std.proofs.Common.{◌≡◌, ◌/◌, List, length, arith, sym, ap, ◌∙◌}
use Rattle.irq_plan.specs.declared.event.Event.{Event}
use Rattle.phys_mem.specs.MaskedMemory.{is_book_frame, masked, seen}
use Rattle.gate_state.specs.declared.moves.Move.{Move}
use Rattle.gate_state.specs.declared.moves.Move.TheVariants as move
use Rattle.gate_state.specs.GuardedStates.{IsGuarded}
use Rattle.gate_state.specs.MachineStates.{MachineState, Opening}
use Rattle.gate_state.specs.MachineSteps.{after_turn, move_of, next, turn_of}
use Rattle.gate_state.specs.SafeStates.{TakesTurn}
use Rattle.gate_state.proofs.RunsSafe.{IsMove, move_is, resting, serving, taking, turning}
use Rattle.gate_state.proofs.WholeLemmas.{next_is}

turn_taken : (plan : List Event) (s : MachineState) (m : Move) → IsMove plan s m → m ≡ move.Turn → TakesTurn s.processor
turn_taken plan s move.Serve (serving at) is = absurd (cc)
turn_taken plan s (move.Take what) (taking event outside at) is = absurd (cc)
turn_taken plan s move.Turn (turning takes) is = takes
turn_taken plan s move.Rest (resting outside waits_so) is = absurd (cc)

module _ (plan : List Event) (s : MachineState) (is : move_of plan s ≡ move.Turn) where
  pub takes_turn : TakesTurn s.processor
  takes_turn = turn_taken plan s (move_of plan s) (move_is plan s) is

  pub turn_next : after_turn s ≡ next plan s
  turn_next = next_is plan s move.Turn (sym is)

-- the memory that hides the books, once a turn was taken that leaves them hidden
pub turn_seen : (o : Opening) (s : MachineState) → IsGuarded o s → IsGuarded o (after_turn s)
    → (masked (is_book_frame o.frames) s.memory ≡ s.memory
    → masked (is_book_frame o.frames) (turn_of s).memory ≡ (turn_of s).memory)
    → seen s.memory ≡ s.memory → seen (after_turn s).memory ≡ (after_turn s).memory
unfolding after_turn
turn_seen o s guarded behind stays same =
    let before : length s.memory / 4096 ≡ o.frames = omega (arith, guarded.memory.size) in
    let after : length (after_turn s).memory / 4096 ≡ o.frames = omega (arith, behind.memory.size) in
    ap (λ n. masked (is_book_frame n) (turn_of s).memory) after
    ∙ stays (ap (λ n. masked (is_book_frame n) s.memory) (sym before) ∙ same)
