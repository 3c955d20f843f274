-- Orders in words at worked values.
use Rattle.std.proofs.Common.{◌≡◌, ◌-◌, ◌^◌, [], codes, refl}
use Rattle.gdb_questions.specs.declared.order.CatchKind.TheVariants.{Calls, Deliveries, Events, Console}
use Rattle.gdb_questions.specs.declared.order.Order.TheVariants as order
use Rattle.gdb_questions.specs.Orders.{order_of}

-- orders of words alone
of_words :
    (order_of (codes "turn") ≡ order.Turn) ×
    (order_of (codes "state") ≡ order.State) ×
    (order_of (codes "kept") ≡ order.Kept) ×
    (order_of (codes "section") ≡ order.Section) ×
    (order_of (codes "events") ≡ order.Events) ×
    (order_of (codes "catch calls") ≡ order.Catch Calls) ×
    (order_of (codes "catch deliveries") ≡ order.Catch Deliveries) ×
    (order_of (codes "catch events") ≡ order.Catch Events) ×
    (order_of (codes "catch console") ≡ order.Catch Console) ×
    (order_of (codes "catch none") ≡ order.CatchNone) ×
    (order_of (codes "catch") ≡ order.Help) ×
    (order_of (codes "catch call") ≡ order.Help) ×
    (order_of (codes "Turn") ≡ order.Help) ×
    (order_of (codes "state ") ≡ order.Help) ×
    (order_of (codes "help") ≡ order.Help) ×
    (order_of [] ≡ order.Help)
unfolding order_of
of_words = (refl, refl, refl, refl, refl, refl, refl, refl, refl, refl, refl, refl, refl, refl, refl, refl)

-- counts are decimal, and an address is hexadecimal
of_numbers :
    (order_of (codes "turn 12") ≡ order.GoToTurn 12) ×
    (order_of (codes "turn 00000000000000000012") ≡ order.GoToTurn 12) ×
    (order_of (codes "step 0") ≡ order.GoToStep 0) ×
    (order_of (codes "step 18446744073709551615") ≡ order.GoToStep (2 ^ 64 - 1)) ×
    (order_of (codes "frame 10") ≡ order.Frame 10) ×
    (order_of (codes "tables 10") ≡ order.Tables 16) ×
    (order_of (codes "tables 0x10") ≡ order.Tables 16) ×
    (order_of (codes "tables ffffffff80000000") ≡ order.Tables 0xFFFFFFFF80000000) ×
    (order_of (codes "tables 0xFFFFFFFF80000000") ≡ order.Tables 0xFFFFFFFF80000000) ×
    (order_of (codes "turn ") ≡ order.Help) ×
    (order_of (codes "turn  12") ≡ order.Help) ×
    (order_of (codes "turn -1") ≡ order.Help) ×
    (order_of (codes "turn 0x12") ≡ order.Help) ×
    (order_of (codes "turn 000000000000000000012") ≡ order.Help) ×
    (order_of (codes "step 18446744073709551616") ≡ order.Help) ×
    (order_of (codes "frame a") ≡ order.Help) ×
    (order_of (codes "tables") ≡ order.Help) ×
    (order_of (codes "tables 0x") ≡ order.Help) ×
    (order_of (codes "tables 0x00000000000000000") ≡ order.Help)
unfolding order_of
of_numbers = (refl, refl, refl, refl, refl, refl, refl, refl, refl, refl, refl, refl, refl, refl, refl, refl, refl, refl, refl)
