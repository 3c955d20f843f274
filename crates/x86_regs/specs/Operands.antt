-- The operands of an instruction: where each stands, what it holds, and the registers after it is written. A width is
-- in bits.
use Rattle.std.specs.Prelude.{ℕ, ◌+◌, ◌-◌, ◌*◌, ◌/◌, ◌%◌, ◌^◌, Bool, true, false, ◌||◌, ◌==◌, if◌then◌else◌, List, slice_index, Option, None, Some}
use Rattle.decode_fields.specs.declared.place.Address.{Address}
use Rattle.decode_fields.specs.declared.place.Place.{Place}
use Rattle.decode_fields.specs.declared.place.Place.TheVariants.{Nothing, Reg, High, Mem, Value}
use Rattle.page_walk.specs.declared.plan.Span.{Span}
use Rattle.page_walk.specs.declared.plan.Origin.{Origin}
use Rattle.page_walk.specs.declared.plan.Origin.TheVariants.{Is, At}
use Rattle.x86_regs.specs.declared.registers.Regs.{Regs}
use Rattle.x86_regs.specs.Registers.{held, written}

-- the registers by their numbers
abbrev pub rax : ℕ
rax = 0

abbrev pub rcx : ℕ
rcx = 1

abbrev pub rdx : ℕ
rdx = 2

abbrev pub rsp : ℕ
rsp = 4

abbrev pub rbp : ℕ
rbp = 5

abbrev pub rsi : ℕ
rsi = 6

abbrev pub rdi : ℕ
rdi = 7

-- addresses and RIP wrap at 2 ^ 64
abbrev pub wrapped : ℕ → ℕ
wrapped n = n % 2 ^ 64

-- n lower, wrapped
abbrev pub lowered : ℕ → ℕ → ℕ
lowered a n = wrapped (2 ^ 64 + a - n)

-- the address of the next instruction
abbrev pub next_of : Regs → ℕ → ℕ
next_of regs size = wrapped (regs.rip + size)

-- what a register of an address adds, if there is one
abbrev pub added : List ℕ → Option ℕ → ℕ
added general None = 0
added general (Some n) = slice_index general n

-- the linear address that an operand names: base, scaled index and displacement, from the next instruction on where it
-- is relative to it (SDM volume 1, 3.7.5)
abbrev pub address_by : List ℕ → ℕ → Address → ℕ
address_by general next a =
    wrapped (added general a.base + added general a.index * a.scale + a.disp + (if a.rip then next else 0))

-- RSP or RBP is the base: the stack is addressed
abbrev pub is_stack_base : Option ℕ → Bool
is_stack_base None = false
is_stack_base (Some n) = n == 4 || n == 5

-- the bytes of an operand in memory of this width
abbrev pub span_by : List ℕ → ℕ → ℕ → Address → Span
span_by general next w a = record { va = address_by general next a; width = w / 8; stack = is_stack_base a.base }

-- the bytes of a push or a pop, from this address on
abbrev pub stack_span : ℕ → ℕ → Span
stack_span va w = record { va = va; width = w / 8; stack = true }

-- the bytes of a string instruction's operand
abbrev pub string_span : ℕ → ℕ → Span
string_span va w = record { va = va; width = w / 8; stack = false }

-- where the value of an operand comes from; `value` is the instruction's number
abbrev pub source_by : List ℕ → ℕ → ℕ → ℕ → Place → Origin
source_by general next w value Nothing = Is 0
source_by general next w value (Reg n) = Is (held general (Reg n) w)
source_by general next w value (High n) = Is (held general (High n) w)
source_by general next w value (Mem a) = At (span_by general next w a)
source_by general next w value Value = Is value

-- the bytes that are written where the operand stands in memory
abbrev pub place_span : List ℕ → ℕ → ℕ → Place → Option Span
place_span general next w (Mem a) = Some (span_by general next w a)
place_span general next w _ = None

-- the address of an operand in memory; 0 for another
abbrev pub place_address : List ℕ → ℕ → Place → ℕ
place_address general next (Mem a) = address_by general next a
place_address general next _ = 0

-- the registers with this one whole
abbrev pub with_register : List ℕ → ℕ → ℕ → List ℕ
with_register general n value = written general (Reg n) 64 value
