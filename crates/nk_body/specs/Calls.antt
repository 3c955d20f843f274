-- The calls of the nested kernel, by their numbers and arguments.
use Rattle.std.specs.Prelude.{◌==◌, if◌then◌else◌}
use Rattle.nk_bits.specs.declared.call.CallWords.{CallWords}
use Rattle.nk_body.specs.declared.call.Call.{Call}
use Rattle.nk_body.specs.declared.call.Call.TheVariants.{Allocate, DeclarePages, DeclareTable, Free, LoadRoot, NoCall, RemoveTable, SetHandler, Write, WriteEntry}

-- the call that words ask for: its number and its arguments, in order
unfoldable pub call_of : CallWords → Call
call_of words =
    if words.number == 1 then SetHandler words.a
    else if words.number == 2 then DeclareTable words.a words.b
    else if words.number == 3 then WriteEntry words.a words.b words.c
    else if words.number == 4 then RemoveTable words.a
    else if words.number == 5 then LoadRoot words.a
    else if words.number == 6 then DeclarePages words.a words.b words.c
    else if words.number == 7 then Allocate words.a words.b
    else if words.number == 8 then Free words.a
    else if words.number == 9 then Write words.a words.b words.c words.d
    else NoCall
