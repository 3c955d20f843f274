-- The lines of a run, byte for byte. Lists of bytes nest to the right, as a format writes them.
use Rattle.std.specs.Prelude.{ℕ, ◌++◌, ◌-◌, ◌^◌, Bool, true, false, List, [], ◌∷◌, codes, Option, None, Some}
use Rattle.std.specs.Fmt.{decimal, digits, padded_integral, format_spec}
use Rattle.hex.specs.Hex.{encode_lower}
use Rattle.nk_bits.specs.declared.call.Answer.{Answer}
use Rattle.nk_bits.specs.declared.call.CallWords.{CallWords}
use Rattle.nk_bits.specs.declared.call.Delivery.{Delivery}
use Rattle.nk_bits.specs.declared.kind.Kind.{Kind}
use Rattle.nk_bits.specs.declared.kind.Kind.TheVariants as kind
use Rattle.nk_body.specs.CallRules.{Bytes, NotTaken, Sourced, Unreadable}
use Rattle.region_book.specs.RegionRecords.{RegionRecord}
use Rattle.write_log.specs.LogRecords.{LogRecord}

-- a number of at most 64 bits as 16 hexadecimal digits
unfoldable pub hex_16 : ℕ → List ℕ
hex_16 n = padded_integral (format_spec 32 0 4 16 (2 ^ 64 - 1)) false [] (digits 16 false n)

-- a byte of the console
unfoldable pub console_line : ℕ → List ℕ
console_line byte = codes "c " ++ (encode_lower (byte ∷ []) ++ codes "\n")

-- hexadecimal digits, as few as there are, or `-` where there is no number; and so with 16 digits
abbrev pub hex_word : Option ℕ → List ℕ
hex_word None = codes "-"
hex_word (Some n) = digits 16 false n

abbrev pub hex_16_word : Option ℕ → List ℕ
hex_16_word None = codes "-"
hex_16_word (Some n) = hex_16 n

-- a delivery: the vector, the error code, the RIP that was pushed, and CR2
unfoldable pub delivery_line : Delivery → List ℕ
delivery_line it =
    codes "i " ++ (decimal it.vector ++ (codes " " ++ (hex_word it.code ++ (codes " " ++ (hex_16 it.rip ++ (codes " "
    ++ (hex_16_word it.cr2 ++ codes "\n")))))))

-- what a call took from memory: `-` where it takes nothing, `!` where a byte couldn't be read, else its bytes
abbrev pub source_word : Sourced → List ℕ
source_word NotTaken = codes "-"
source_word Unreadable = codes "!"
source_word (Bytes bytes) = encode_lower bytes

-- a call: its number and its four arguments, what it took, the answer, and the place of a region
unfoldable pub call_line : CallWords → Sourced → Answer → List ℕ
call_line call source answer =
    codes "k " ++ (digits 16 false call.number ++ (codes " " ++ (digits 16 false call.a ++ (codes " "
    ++ (digits 16 false call.b ++ (codes " " ++ (digits 16 false call.c ++ (codes " "
    ++ (digits 16 false call.d ++ (codes " " ++ (source_word source ++ (codes " "
    ++ (decimal answer.value ++ (codes " " ++ (hex_16_word answer.place ++ codes "\n")))))))))))))))

-- why the run ended: the machine rests for good, or as many turns were taken as it may have; and how many turns it took
unfoldable pub ending_line : Bool → List ℕ
ending_line true = codes "end halted\n"
ending_line false = codes "end steps\n"

unfoldable pub turns_line : ℕ → List ℕ
turns_line turns = codes "turns " ++ (decimal turns ++ codes "\n")

-- the frame of the root of the page tables, and the address of the trap handler
unfoldable pub root_line : ℕ → List ℕ
root_line frame = codes "root " ++ (decimal frame ++ codes "\n")

unfoldable pub trap_line : ℕ → List ℕ
trap_line address = codes "trap " ++ (hex_16 address ++ codes "\n")

-- a kind's word
abbrev pub kind_word : Kind → List ℕ
kind_word kind.Data = codes "data"
kind_word kind.Code = codes "code"
kind_word (kind.Table level) = codes "table" ++ decimal level
kind_word kind.Fixed = codes "fixed"
kind_word kind.Trap = codes "trap"
kind_word kind.Guarded = codes "guarded"
kind_word kind.Hidden = codes "hidden"

-- a frame whose kind changed, and an entry of a page table that changed
unfoldable pub kind_line : ℕ → Kind → List ℕ
kind_line frame kind = codes "f " ++ (decimal frame ++ (codes " " ++ (kind_word kind ++ codes "\n")))

unfoldable pub entry_line : ℕ → ℕ → ℕ → List ℕ
entry_line frame index value =
    codes "t " ++ (decimal frame ++ (codes " " ++ (decimal index ++ (codes " " ++ (hex_16 value ++ codes "\n")))))

-- a region that lives: its identifier, its policy, its first address, its size and its bytes
unfoldable pub region_line : RegionRecord → List ℕ → List ℕ
region_line r bytes =
    codes "r " ++ (decimal r.id ++ (codes " " ++ (decimal r.policy ++ (codes " " ++ (hex_16 r.first ++ (codes " "
    ++ (decimal r.size ++ (codes " " ++ (encode_lower bytes ++ codes "\n")))))))))

-- a record of the log: its number, the region and offset that were written, and the bytes
unfoldable pub log_line : ℕ → LogRecord → List ℕ
log_line number it =
    codes "l " ++ (decimal number ++ (codes " " ++ (decimal it.region ++ (codes " " ++ (decimal it.offset ++ (codes " "
    ++ (encode_lower it.bytes ++ codes "\n")))))))
