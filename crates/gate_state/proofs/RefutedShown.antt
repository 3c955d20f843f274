-- What no step and no call shows, each at concrete values or named by the sentence that it guards.
use Rattle.std.proofs.Common.{◌≡◌, ◌<◌, ◌≤◌, ℕ, List, ◌∷◌, None, Some, Option, refl, subst, arith}
use Rattle.std.specs.Prelude.{All, IfSome}
use Rattle.std.proofs.lemmas.List.Elements.{All-head}
use Rattle.nk_body.specs.CallRules.{bytes_read}
use Rattle.gate_state.specs.declared.seen.Seen.TheVariants as seen
use Rattle.gate_state.specs.MachineStates.{MachineState}
use Rattle.gate_state.specs.MachineSteps.{answer_in, call_in, source_of}
use Rattle.gate_state.specs.ShownSteps.{IsShown, IsShownCall, IsShownDelivery}

-- a byte of the console that is none
byte_256 : IsShown (seen.Console 256) → ⊥
byte_256 it = omega (arith, it)

none_and_some : (told : Option ℕ) (c : ℕ) → told ≡ None → told ≡ Some c → ⊥
none_and_some told c none some = cc

-- a delivery of vector 48; one with a code or an RIP of 65 bits; a page fault without CR2, or with one of 65 bits; and another
-- fault with CR2
vector_48 : IsShownDelivery (record { vector = 48; code = None; rip = 0; cr2 = None }) → ⊥
vector_48 it = let most : 48 ≤ 47 = it.vector in omega (arith, most)

wide_code : IsShownDelivery (record { vector = 13; code = Some 0x10000000000000000; rip = 0; cr2 = None }) → ⊥
wide_code it = let small : 0x10000000000000000 < 0x10000000000000000 = it.code in omega (arith, small)

wide_rip : IsShownDelivery (record { vector = 3; code = None; rip = 0x10000000000000000; cr2 = None }) → ⊥
wide_rip it = let small : 0x10000000000000000 < 0x10000000000000000 = it.rip in omega (arith, small)

page_fault_without_cr2 : IsShownDelivery (record { vector = 14; code = Some 0; rip = 0; cr2 = None }) → ⊥
page_fault_without_cr2 it = let (c, small, told) = it.cr2 in none_and_some None c refl told

page_fault_with_wide_cr2 : IsShownDelivery (record { vector = 14; code = Some 0; rip = 0; cr2 = Some 0x10000000000000000 }) → ⊥
page_fault_with_wide_cr2 it =
    let (c, small, told) = it.cr2 in
    let is : Some 0x10000000000000000 ≡ Some c = told in
    let same : 0x10000000000000000 ≡ c = cc in
    omega (arith, same, small)

protection_with_cr2 : IsShownDelivery (record { vector = 13; code = Some 0; rip = 0; cr2 = Some 0 }) → ⊥
protection_with_cr2 it = let (c, small, told) = it.cr2 in none_and_some (Some 0) 0 told refl

-- a call with a word of 65 bits, a byte read that is none, and an answer or a place of 65 bits
module _ (s : MachineState) (it : IsShownCall s) where
  wide_number : (call_in s.processor.regs).number ≡ 0x10000000000000000 → ⊥
  wide_number is = let small = it.number in omega (arith, is, small)

  wide_first : (call_in s.processor.regs).a ≡ 0x10000000000000000 → ⊥
  wide_first is = let small = it.a in omega (arith, is, small)

  wide_second : (call_in s.processor.regs).b ≡ 0x10000000000000000 → ⊥
  wide_second is = let small = it.b in omega (arith, is, small)

  wide_third : (call_in s.processor.regs).c ≡ 0x10000000000000000 → ⊥
  wide_third is = let small = it.c in omega (arith, is, small)

  wide_fourth : (call_in s.processor.regs).d ≡ 0x10000000000000000 → ⊥
  wide_fourth is = let small = it.d in omega (arith, is, small)

  source_of_no_byte : (rest : List ℕ) → bytes_read (source_of s) ≡ 256 ∷ rest → ⊥
  source_of_no_byte rest is =
      let first : 256 < 256 = All-head (λ (b : ℕ). b < 256) 256 rest (subst (All (λ (b : ℕ). b < 256)) is it.source) in
      omega (arith, first)

  wide_answer : (answer_in s).value ≡ 0x10000000000000000 → ⊥
  wide_answer is = let small = it.value in omega (arith, is, small)

  wide_place : (answer_in s).place ≡ Some 0x10000000000000000 → ⊥
  wide_place is =
      let small : 0x10000000000000000 < 0x10000000000000000 = subst (λ (p : Option ℕ). IfSome p (λ p. p < 0x10000000000000000)) is it.place in
      omega (arith, small)
