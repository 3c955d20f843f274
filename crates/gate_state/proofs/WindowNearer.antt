-- How many turns are left at the gate points: fewer from each to the next.
use Rattle.std.proofs.Common.{◌≡◌, ℕ, ◌+◌, ◌-◌, ◌*◌, ◌%◌, ◌<◌, ◌≤◌, Bool, true, false, refl, arith, sym, subst}
use Rattle.std.specs.Prelude.{◌==◌, ◌||◌, if◌then◌else◌}
use Rattle.x86_alu.specs.SignedNumbers.{bit}
use Rattle.x86_regs.specs.Combinations.{interrupt_flag}
use Rattle.cpu_step.specs.Processor.{Processor}
use Rattle.nk_bits.specs.KernelLayout.{gate_address}
use Rattle.gate_state.specs.WindowLeft.{left, left_at, left_with}
use Rattle.gate_state.proofs.WindowRows.{Below, from_32}

-- with IF as it was; and with IF clear from then on
abbrev pub Closer : ℕ → ℕ → Type 0
Closer offset next = (set : Bool) → left_at next set < left_at offset set

abbrev pub Cleared : ℕ → ℕ → Type 0
Cleared offset next = (set : Bool) → left_at next false < left_at offset set

-- what holds with IF clear and with IF set
either : (P : Bool → Type 0) → P false → P true → (set : Bool) → P set
either P clear set false = clear
either P clear set true = set

-- from each point to the next, but for the stubs
pub record AreCloser : Type 0 where
  pub from_16 : Cleared 16 17
  pub from_17 : Closer 17 27
  pub from_27 : Cleared 27 29
  pub from_29 : Closer 29 32
  pub from_32 : Closer 32 37
  pub from_40 : Closer 40 45
  pub from_45 : Closer 45 29
  pub from_448 : Cleared 448 449
  pub from_449 : Closer 449 452
  pub from_452 : Closer 452 457
  pub from_460 : Closer 460 465
  pub from_465 : Closer 465 449

pub points_closer : AreCloser
unfolding left_at
points_closer = record {
  from_16 = either (λ set. left_at 17 false < left_at 16 set) (omega arith) (omega arith);
  from_17 = either (λ set. left_at 27 set < left_at 17 set) (omega arith) (omega arith);
  from_27 = either (λ set. left_at 29 false < left_at 27 set) (omega arith) (omega arith);
  from_29 = either (λ set. left_at 32 set < left_at 29 set) (omega arith) (omega arith);
  from_32 = either (λ set. left_at 37 set < left_at 32 set) (omega arith) (omega arith);
  from_40 = either (λ set. left_at 45 set < left_at 40 set) (omega arith) (omega arith);
  from_45 = either (λ set. left_at 29 set < left_at 45 set) (omega arith) (omega arith);
  from_448 = either (λ set. left_at 449 false < left_at 448 set) (omega arith) (omega arith);
  from_449 = either (λ set. left_at 452 set < left_at 449 set) (omega arith) (omega arith);
  from_452 = either (λ set. left_at 457 set < left_at 452 set) (omega arith) (omega arith);
  from_460 = either (λ set. left_at 465 set < left_at 460 set) (omega arith) (omega arith);
  from_465 = either (λ set. left_at 449 set < left_at 465 set) (omega arith) (omega arith);
}

-- six in a stub before its PUSH, five behind it, four at the beginning of the trap gate
abbrev pub StubLeft : ℕ → Type 0
StubLeft v = (left_at (64 + 8 * v) false ≡ 6) × (left_at (64 + 8 * v) true ≡ 6)
    × (left_at (66 + 8 * v) false ≡ 5) × (left_at (66 + 8 * v) true ≡ 5)

all_left : Below (λ k. StubLeft (32 + k)) 16
unfolding left_at
all_left =
    let six : (6 ≡ 6) × (6 ≡ 6) × (5 ≡ 5) × (5 ≡ 5) = (refl, refl, refl, refl) in (
      six,
      (six, (six, (six, (six, (six, (six, (six, (six, (six, (six, (six, (six, (six, (six, (six, tt))))))))))))))),
    )

pub stub_left : (v : ℕ) → 32 ≤ v → v < 48 → StubLeft v
stub_left v low high = from_32 StubLeft all_left v low high

pub push_closer : (v : ℕ) → 32 ≤ v → v < 48 → Closer (64 + 8 * v) (66 + 8 * v)
push_closer v low high =
    let at : StubLeft v = stub_left v low high in
    either (λ set. left_at (66 + 8 * v) set < left_at (64 + 8 * v) set) (omega (arith, at)) (omega (arith, at))

pub jump_closer : (v : ℕ) → 32 ≤ v → v < 48 → Closer (66 + 8 * v) 448
unfolding left_at
jump_closer v low high =
    let at : StubLeft v = stub_left v low high in
    either (λ set. left_at 448 set < left_at (66 + 8 * v) set) (omega (arith, at)) (omega (arith, at))

-- the turns that are left at an address of the gates
pub left_there : (rip offset : ℕ) (set : Bool) → rip ≡ gate_address + offset
    → left_at (rip - gate_address) set ≡ left_at offset set
left_there rip offset set there =
    let same : rip - gate_address ≡ offset = omega (arith, there) in
    subst (λ (n : ℕ). left_at n set ≡ left_at offset set) (sym same) refl

-- from a point to the next one, by what becomes of IF
pub closer_same : (p : Processor) (offset next flags : ℕ) → p.regs.rip ≡ gate_address + offset
    → bit flags interrupt_flag ≡ bit p.regs.flags interrupt_flag → Closer offset next
    → left_at next (bit flags interrupt_flag) < left p
closer_same p offset next flags rip same closer =
    let before : left p ≡ left_at offset (bit p.regs.flags interrupt_flag) = left_there p.regs.rip offset _ rip in
    subst (λ (n : ℕ). left_at next (bit flags interrupt_flag) < n) (sym before)
    (subst (λ (set : Bool). left_at next set < left_at offset (bit p.regs.flags interrupt_flag)) (sym same)
    (closer (bit p.regs.flags interrupt_flag)))

pub closer_cleared : (p : Processor) (offset next flags : ℕ) → p.regs.rip ≡ gate_address + offset
    → bit flags interrupt_flag ≡ false → Cleared offset next → left_at next (bit flags interrupt_flag) < left p
closer_cleared p offset next flags rip clear closer =
    let before : left p ≡ left_at offset (bit p.regs.flags interrupt_flag) = left_there p.regs.rip offset _ rip in
    subst (λ (n : ℕ). left_at next (bit flags interrupt_flag) < n) (sym before)
    (subst (λ (set : Bool). left_at next set < left_at offset (bit p.regs.flags interrupt_flag)) (sym clear)
    (closer (bit p.regs.flags interrupt_flag)))

-- from one to eleven
abbrev pub Within : ℕ → Type 0
Within n = (1 ≤ n) × (n ≤ 11)

row_within : (clear set : ℕ) → Within clear → Within set → (interrupts : Bool) → Within (left_with clear set interrupts)
row_within clear set first second false = first
row_within clear set first second true = second

one_within : (set : Bool) (b : Bool) (row other : Bool → ℕ) → Within (row set) → Within (other set)
    → Within ((if b then row else other) set)
one_within set true row other here there = here
one_within set false row other here there = there

-- at least one turn is left, and at most eleven
pub left_within : (offset : ℕ) (set : Bool) → Within (left_at offset set)
unfolding left_at
left_within offset set =
    one_within set (offset == 37 || offset == 457) _ _ (row_within 1 7 (omega arith, omega arith) (omega arith, omega arith) set) (
    one_within set (offset == 32 || offset == 452) _ _ (row_within 2 8 (omega arith, omega arith) (omega arith, omega arith) set) (
    one_within set (offset == 29 || offset == 449) _ _ (row_within 3 9 (omega arith, omega arith) (omega arith, omega arith) set) (
    one_within set (offset == 45 || offset == 465) _ _ (row_within 4 10 (omega arith, omega arith) (omega arith, omega arith) set) (
    one_within set (offset == 40 || offset == 460) _ _ (row_within 5 11 (omega arith, omega arith) (omega arith, omega arith) set) (
    one_within set (offset == 16) _ _ (row_within 6 7 (omega arith, omega arith) (omega arith, omega arith) set) (
    one_within set (offset == 17) _ _ (row_within 5 5 (omega arith, omega arith) (omega arith, omega arith) set) (
    one_within set (offset == 27 || offset == 448) _ _ (row_within 4 4 (omega arith, omega arith) (omega arith, omega arith) set) (
    one_within set (offset % 8 == 0) _ _ (row_within 6 6 (omega arith, omega arith) (omega arith, omega arith) set)
    (row_within 5 5 (omega arith, omega arith) (omega arith, omega arith) set)))))))))
