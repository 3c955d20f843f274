-- What a body doesn't ask, and an order isn't, each named by what is wrong in it.
use Rattle.std.proofs.Common.{◌≡◌, codes}
use Rattle.hex.specs.Hex.{decode_pairs}
use Rattle.gdb_questions.specs.declared.order.CatchKind.TheVariants.{Deliveries}
use Rattle.gdb_questions.specs.declared.order.Order.TheVariants as order
use Rattle.gdb_questions.specs.declared.question.Question.TheVariants.{Memory, StepOn, GoOn, StepBack, GoBack, SetBreak, ClearBreak, SetWatch, Description, Monitor, Change, Unknown}
use Rattle.gdb_questions.specs.Orders.{order_of}
use Rattle.gdb_questions.specs.Questions.{question_of}

-- a pair's numbers, exchanged; its address alone; and in decimal
exchanged : question_of (codes "m1000,10") ≡ Memory 0x10 0x1000 → ⊥
unfolding question_of
exchanged is = absurd (cc)

twice_the_address : question_of (codes "m1000,10") ≡ Memory 0x1000 0x1000 → ⊥
unfolding question_of
twice_the_address is = absurd (cc)

decimal_memory : question_of (codes "m1000,10") ≡ Memory 1000 10 → ⊥
unfolding question_of
decimal_memory is = absurd (cc)

exchanged_description : question_of (codes "qXfer:features:read:target.xml:0,ffb") ≡ Description 0xFFB 0 → ⊥
unfolding question_of
exchanged_description is = absurd (cc)

-- a point is set where it is cleared, and the other way round; a watch for a breakpoint
set_for_cleared : question_of (codes "z0,100000,1") ≡ SetBreak 0x100000 → ⊥
unfolding question_of
set_for_cleared is = absurd (cc)

cleared_for_set : question_of (codes "Z0,100000,1") ≡ ClearBreak 0x100000 → ⊥
unfolding question_of
cleared_for_set is = absurd (cc)

watch_set_for_cleared : question_of (codes "z2,100000,8") ≡ SetWatch 0x100000 8 → ⊥
unfolding question_of
watch_set_for_cleared is = absurd (cc)

watch_for_break : question_of (codes "Z0,100000,1") ≡ SetWatch 0x100000 1 → ⊥
unfolding question_of
watch_for_break is = absurd (cc)

-- a move back is another move, and no move forward; a move to an address is none that is served
step_for_stop : question_of (codes "bc") ≡ StepBack → ⊥
unfolding question_of
step_for_stop is = absurd (cc)

stop_for_step : question_of (codes "bs") ≡ GoBack → ⊥
unfolding question_of
stop_for_step is = absurd (cc)

forward_for_back : question_of (codes "bs") ≡ StepOn → ⊥
unfolding question_of
forward_for_back is = absurd (cc)

elsewhere : question_of (codes "c1000") ≡ GoOn → ⊥
unfolding question_of
elsewhere is = absurd (cc)

-- what changes a run isn't passed over
change_unknown : question_of (codes "G00") ≡ Unknown → ⊥
unfolding question_of
change_unknown is = absurd (cc)

unknown_change : question_of (codes "vCont?") ≡ Change → ⊥
unfolding question_of
unknown_change is = absurd (cc)

-- a turn of another number, or a step
hexadecimal_turn : order_of (codes "turn 12") ≡ order.GoToTurn 18 → ⊥
unfolding order_of
hexadecimal_turn is = absurd (cc)

step_for_turn : order_of (codes "turn 12") ≡ order.GoToStep 12 → ⊥
unfolding order_of
step_for_turn is = absurd (cc)

decimal_tables : order_of (codes "tables 10") ≡ order.Tables 10 → ⊥
unfolding order_of
decimal_tables is = absurd (cc)

other_kind : order_of (codes "catch calls") ≡ order.Catch Deliveries → ⊥
unfolding order_of
other_kind is = absurd (cc)

-- an order without its number
numberless : question_of (codes "qRcmd,7475726e203132") ≡ Monitor order.Turn → ⊥
unfolding question_of order_of decode_pairs
numberless is = absurd (cc)
