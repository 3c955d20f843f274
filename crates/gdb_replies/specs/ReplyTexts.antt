-- What a debugger is answered, but for registers.
use Rattle.std.specs.Prelude.{ℕ, ◌+◌, Bool, true, false, nat_le, if◌then◌else◌, min, List, [], ◌∷◌, ◌++◌, codes, decimal, drop, length, take}
use Rattle.hex.specs.Hex.{encode_lower}
use Rattle.gate_state.specs.MachineStates.{MachineState}
use Rattle.report_text.specs.RunLines.{hex_16}
use Rattle.memory_sights.specs.Sights.{bytes_seen}
use Rattle.run_moments.specs.declared.stops.Catches.{Catches}
use Rattle.run_moments.specs.declared.stops.Stop.{Stop}
use Rattle.run_moments.specs.declared.stops.Stop.TheVariants as stop

-- bytes of memory, at most 4,096, as far as they are seen; where the first isn't, the error of a bad address
abbrev pub seen_text : List ℕ → List ℕ
seen_text [] = codes "E14"
seen_text bytes = encode_lower bytes

abbrev pub memory_reply : MachineState → ℕ → ℕ → List ℕ
memory_reply s address count = seen_text (bytes_seen s address (min count 4096))

-- why the machine stands: signal 5 is that of a trap
abbrev pub stop_text : Stop → List ℕ
stop_text stop.Breakpoint = codes "T05swbreak:;"
stop_text (stop.Watched address) = codes "T05watch:" ++ (hex_16 address ++ codes ";")
stop_text stop.Caught = codes "T05"
stop_text stop.Ended = codes "T05replaylog:end;"
stop_text stop.Begun = codes "T05replaylog:begin;"
stop_text stop.Stepped = codes "T05"

-- a piece of a text, behind l where it is the last one and m where it isn't
abbrev pub piece_text : List ℕ → ℕ → ℕ → List ℕ
piece_text text offset count =
    (if nat_le (length text) (offset + count) then 0x6C else 0x6D) ∷ take count (drop offset text)

-- turns and steps
abbrev pub place_line : ℕ → ℕ → List ℕ
place_line turns steps = codes "turn " ++ (decimal turns ++ (codes " step " ++ (decimal steps ++ codes "\n")))

-- what is caught
abbrev pub word_if : Bool → List ℕ → List ℕ
word_if true word = word
word_if false word = []

abbrev pub catches_line : Catches → List ℕ
catches_line catches =
    codes "caught:" ++ (word_if catches.calls (codes " calls") ++ (word_if catches.deliveries (codes " deliveries")
    ++ (word_if catches.events (codes " events") ++ (word_if catches.console (codes " console") ++ codes "\n"))))

-- which orders there are
abbrev pub help_text : List ℕ
help_text =
    codes "turn | turn N | step N | state | kept | section\n"
    ++ codes "catch calls | catch deliveries | catch events | catch console | catch none\n"
