-- Bodies of packets at worked values.
use Rattle.std.proofs.Common.{◌≡◌, ◌-◌, ◌^◌, [], codes, refl}
use Rattle.hex.specs.Hex.{decode_pairs}
use Rattle.gdb_questions.specs.declared.order.Order.TheVariants as order
use Rattle.gdb_questions.specs.declared.question.Question.TheVariants.{Features, Halt, Registers, Memory, StepOn, GoOn, StepBack, GoBack, SetBreak, ClearBreak, SetWatch, ClearWatch, Description, Attached, CurrentThread, Threads, MoreThreads, ChooseThread, Monitor, Change, Detach, Kill, Unknown}
use Rattle.gdb_questions.specs.Orders.{order_of}
use Rattle.gdb_questions.specs.Questions.{question_of}

-- a question of one word has nothing behind it
of_one_word :
    (question_of (codes "g") ≡ Registers) ×
    (question_of (codes "s") ≡ StepOn) ×
    (question_of (codes "c") ≡ GoOn) ×
    (question_of (codes "bs") ≡ StepBack) ×
    (question_of (codes "bc") ≡ GoBack) ×
    (question_of (codes "?") ≡ Halt) ×
    (question_of (codes "D") ≡ Detach) ×
    (question_of (codes "k") ≡ Kill) ×
    (question_of (codes "qC") ≡ CurrentThread) ×
    (question_of (codes "qfThreadInfo") ≡ Threads) ×
    (question_of (codes "qsThreadInfo") ≡ MoreThreads) ×
    (question_of (codes "qAttached") ≡ Attached) ×
    (question_of (codes "g1") ≡ Unknown) ×
    (question_of (codes "bs ") ≡ Unknown) ×
    (question_of (codes "b") ≡ Unknown) ×
    (question_of (codes "qc") ≡ Unknown)
unfolding question_of
of_one_word = (refl, refl, refl, refl, refl, refl, refl, refl, refl, refl, refl, refl, refl, refl, refl, refl)

-- memory: two numbers of 1 to 16 digits of either case, and one comma
of_memory :
    (question_of (codes "m1000,10") ≡ Memory 0x1000 0x10) ×
    (question_of (codes "mFf,0") ≡ Memory 255 0) ×
    (question_of (codes "mffffffffffffffff,0000000000000001") ≡ Memory (2 ^ 64 - 1) 1) ×
    (question_of (codes "m1000") ≡ Unknown) ×
    (question_of (codes "m") ≡ Unknown) ×
    (question_of (codes "m,") ≡ Unknown) ×
    (question_of (codes "m1000,") ≡ Unknown) ×
    (question_of (codes "m,10") ≡ Unknown) ×
    (question_of (codes "m1,2,3") ≡ Unknown) ×
    (question_of (codes "m0x1000,10") ≡ Unknown) ×
    (question_of (codes "m1000,g") ≡ Unknown) ×
    (question_of (codes "m 1000,10") ≡ Unknown) ×
    (question_of (codes "m10000000000000000,1") ≡ Unknown)
unfolding question_of
of_memory = (refl, refl, refl, refl, refl, refl, refl, refl, refl, refl, refl, refl, refl)

-- breakpoints and watchpoints
of_points :
    (question_of (codes "Z0,100000,1") ≡ SetBreak 0x100000) ×
    (question_of (codes "Z1,100000,4") ≡ SetBreak 0x100000) ×
    (question_of (codes "z0,100000,1") ≡ ClearBreak 0x100000) ×
    (question_of (codes "z1,ffffffff80000000,1") ≡ ClearBreak 0xFFFFFFFF80000000) ×
    (question_of (codes "Z2,100000,8") ≡ SetWatch 0x100000 8) ×
    (question_of (codes "z2,100000,8") ≡ ClearWatch 0x100000 8) ×
    (question_of (codes "Z3,100000,8") ≡ Unknown) ×
    (question_of (codes "z4,100000,8") ≡ Unknown) ×
    (question_of (codes "Z0,100000") ≡ Unknown) ×
    (question_of (codes "Z0,100000,1;X3,1") ≡ Unknown) ×
    (question_of (codes "Z0100000,1") ≡ Unknown)
unfolding question_of
of_points = (refl, refl, refl, refl, refl, refl, refl, refl, refl, refl, refl)

-- features, the description of the registers, and threads
of_features :
    (question_of (codes "qSupported:multiprocess+;swbreak+") ≡ Features) ×
    (question_of (codes "qSupported") ≡ Features) ×
    (question_of (codes "qXfer:features:read:target.xml:0,ffb") ≡ Description 0 0xFFB) ×
    (question_of (codes "qXfer:features:read:target.xml:ffb,ffb") ≡ Description 0xFFB 0xFFB) ×
    (question_of (codes "qXfer:features:read:target.xml:0") ≡ Unknown) ×
    (question_of (codes "qXfer:features:read:other.xml:0,ffb") ≡ Unknown) ×
    (question_of (codes "qXfer:memory-map:read::0,ffb") ≡ Unknown) ×
    (question_of (codes "Hg0") ≡ ChooseThread) ×
    (question_of (codes "Hc-1") ≡ ChooseThread) ×
    (question_of (codes "T1") ≡ ChooseThread)
unfolding question_of
of_features = (refl, refl, refl, refl, refl, refl, refl, refl, refl, refl)

-- orders in words: digits of either case, two a byte; at most 32 bytes
of_orders :
    (question_of (codes "qRcmd,7475726e") ≡ Monitor order.Turn) ×
    (question_of (codes "qRcmd,7475726E") ≡ Monitor order.Turn) ×
    (question_of (codes "qRcmd,7475726e203132") ≡ Monitor (order.GoToTurn 12)) ×
    (question_of (codes "qRcmd,") ≡ Monitor order.Help) ×
    (question_of (codes "qRcmd,7475726e2") ≡ Monitor order.Help) ×
    (question_of (codes "qRcmd,turn") ≡ Monitor order.Help) ×
    (question_of (codes "qRcmd,7461626c65732030783030303030303030303030303030303030303130303020") ≡ Monitor order.Help) ×
    (question_of (codes "qRcmd") ≡ Unknown)
unfolding question_of order_of decode_pairs
of_orders = (refl, refl, refl, refl, refl, refl, refl, refl)

-- what would change a run, and what nobody serves
of_changes :
    (question_of (codes "G00") ≡ Change) ×
    (question_of (codes "P10=00") ≡ Change) ×
    (question_of (codes "M1000,1:00") ≡ Change) ×
    (question_of (codes "X1000,0:") ≡ Change) ×
    (question_of (codes "C05") ≡ Change) ×
    (question_of (codes "S05") ≡ Change) ×
    (question_of (codes "s1000") ≡ Change) ×
    (question_of (codes "c1000") ≡ Change) ×
    (question_of (codes "vCont?") ≡ Unknown) ×
    (question_of (codes "p10") ≡ Unknown) ×
    (question_of (codes "!") ≡ Unknown) ×
    (question_of [] ≡ Unknown)
unfolding question_of
of_changes = (refl, refl, refl, refl, refl, refl, refl, refl, refl, refl, refl, refl)
