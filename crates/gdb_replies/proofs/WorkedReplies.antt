-- Replies at worked values.
use Rattle.std.proofs.Common.{◌≡◌, true, false, List, [], ◌∷◌, codes, refl}
use Rattle.std.specs.Fmt.{digits}
use Rattle.hex.specs.Hex.{encode_with}
use Rattle.run_moments.specs.declared.stops.Stop.TheVariants as stop
use Rattle.gdb_replies.specs.Descriptions.{attribute, field_text}
use Rattle.gdb_replies.specs.QuestionReplies.{watched_text}
use Rattle.gdb_replies.specs.RegisterTexts.{number_text}
use Rattle.gdb_replies.specs.ReplyTexts.{catches_line, piece_text, place_line, seen_text, stop_text}

-- a number's least significant byte comes first, in two digits
four_bytes : number_text 4 0x00010246 ≡ codes "46020100"
unfolding encode_with
four_bytes = refl

eight_bytes : number_text 8 0xFFFFFFFF800000F0 ≡ codes "f0000080ffffffff"
unfolding encode_with
eight_bytes = refl

-- bytes that are seen, and none
two_seen : seen_text (0x0F ∷ 0xA0 ∷ []) ≡ codes "0fa0"
unfolding encode_with
two_seen = refl

none_seen : seen_text [] ≡ codes "E14"
none_seen = refl

-- why the machine stands
at_end : stop_text stop.Ended ≡ codes "T05replaylog:end;"
at_end = refl

at_beginning : stop_text stop.Begun ≡ codes "T05replaylog:begin;"
at_beginning = refl

-- pieces of a text: one of the middle, the last, and behind the end
middle_piece : piece_text (codes "abc") 1 1 ≡ codes "mb"
middle_piece = refl

last_piece : piece_text (codes "abc") 1 9 ≡ codes "lbc"
last_piece = refl

no_piece : piece_text (codes "abc") 3 9 ≡ codes "l"
no_piece = refl

-- watchpoints of one byte to eight
eight_watched : watched_text 8 ≡ codes "OK"
eight_watched = refl

nine_watched : watched_text 9 ≡ codes "E22"
nine_watched = refl

none_watched : watched_text 0 ≡ codes "E22"
none_watched = refl

-- lines of orders
placed : place_line 12 15 ≡ codes "turn 12 step 15\n"
unfolding digits
placed = refl

two_caught : catches_line (record { calls = true; deliveries = false; events = false; console = true })
    ≡ codes "caught: calls console\n"
two_caught = refl

-- a flag of the description
zero_flag : field_text (codes "ZF") 6 ≡ codes "<field name='ZF' start='6' end='6'/>"
unfolding field_text attribute digits
zero_flag = refl
