-- What is no quick form, what code a quick form doesn't stand for, where a processor doesn't go on, and pages that
-- don't stay, each named by the sentence that it guards.
use Rattle.std.proofs.Common.{◌≡◌, ◌≢◌, ◌+◌, ℕ, true, false, List, [], ◌∷◌, None, inl, inr, ap, sym, ◌∙◌, arith}
use Rattle.std.specs.Prelude.{slice_index_or}
use Rattle.phys_mem.specs.Memory.{byte_at}
use Rattle.x86_decode.specs.declared.instruction.Decoded.{Decoded}
use Rattle.x86_decode.specs.declared.instruction.Decoded.TheVariants.{Short, Unknown, Whole}
use Rattle.x86_decode.specs.declared.instruction.Instr.{Instr}
use Rattle.x86_regs.specs.declared.registers.Regs.{Regs}
use Rattle.x86_regs.specs.Effects.{refusal}
use Rattle.x86_regs.specs.OperandPlans.{instr_form}
use Rattle.exec_quick.specs.declared.quick.Quick.{Quick}
use Rattle.exec_quick.specs.declared.quick.Went.TheVariants.{Left, On, Off}
use Rattle.exec_quick.specs.QuickForms.{AreSameOnPages, IsQuick, IsSameOnPage, StandsFor, form_by, has_register_first, instruction_of, is_supervisor, went}

-- a width that is none of the four, an operand past BH, and a register of an address past the one that says none
module _ (q : Quick) (it : IsQuick q) where
  twenty_four_bits : q.width ≡ 24 → ⊥
  twenty_four_bits is =
      elim it.width [
        | inl byte ↦ absurd (omega (arith, is, byte))
        | inr wider ↦ elim wider [
          | inl word ↦ absurd (omega (arith, is, word))
          | inr more ↦ elim more [
            | inl half ↦ absurd (omega (arith, is, half))
            | inr whole ↦ absurd (omega (arith, is, whole))
          ]
        ]
      ]

  first_past_bh : q.to ≡ 22 → ⊥
  first_past_bh is = let few = it.to in omega (arith, is, few)

  second_past_bh : q.from ≡ 22 → ⊥
  second_past_bh is = let few = it.from in omega (arith, is, few)

  base_past_none : q.base ≡ 17 → ⊥
  base_past_none is = let few = it.base in omega (arith, is, few)

  index_past_none : q.index ≡ 17 → ⊥
  index_past_none is = let few = it.index in omega (arith, is, few)

-- what code decoded to, where it is an instruction
abbrev length_of : Decoded → ℕ
length_of (Whole instr size) = size
length_of _ = 0

-- code that ends too early or spells nothing, and another instruction, or the same with a byte more
module _ (q : Quick) where
  cut_off : StandsFor q Short → ⊥
  cut_off it = let same : Short ≡ Whole (instruction_of q) q.size = it.means in cc

  spells_nothing : StandsFor q Unknown → ⊥
  spells_nothing it = let same : Unknown ≡ Whole (instruction_of q) q.size = it.means in cc

  another_instruction : (instr : Instr) (size : ℕ) → instr ≢ instruction_of q → StandsFor q (Whole instr size) → ⊥
  another_instruction instr size other it =
      let same : Whole instr size ≡ Whole (instruction_of q) q.size = it.means in
      let one : instr ≡ instruction_of q = cc in other one

  a_byte_more : StandsFor q (Whole (instruction_of q) (q.size + 1)) → ⊥
  a_byte_more it =
      let same : q.size + 1 ≡ q.size = ap length_of it.means in absurd (omega (arith, same))

-- a quick form that can't be made, whose first operand is no register though its kind says one, which is of another
-- form than its kind, and whose instruction is refused
module _ (q : Quick) (answer : Decoded) (it : StandsFor q answer) where
  unready : (IsQuick q → ⊥) → ⊥
  unready none = none it.ready

  no_register : has_register_first q.kind ≡ true → q.to ≡ 16 → ⊥
  no_register first number = let few = it.register first in omega (arith, number, few)

  another_form : instr_form (instruction_of q) ≢ form_by q.kind → ⊥
  another_form other = other it.form

  refused_to_the_user : is_supervisor q.kind ≡ false → refusal (instruction_of q) 3 ≢ None → ⊥
  refused_to_the_user anyone refused =
      refused (it.lawful 3 (λ supervisor. let both : true ≡ false = sym supervisor ∙ anyone in absurd (cc)))

  refused_to_the_supervisor : refusal (instruction_of q) 0 ≢ None → ⊥
  refused_to_the_supervisor refused = refused (it.lawful 0 (λ supervisor. omega arith))

-- on, RIP is the address of the next instruction, and nothing else changes; off, or where nothing came of the
-- instruction, all stays as the registers say
module _ (next : ℕ) (regs after : Regs) where
  on_elsewhere : after.rip ≢ next → went On next regs ≡ after → ⊥
  on_elsewhere other same = other (sym (ap (λ (r : Regs). r.rip) same))

  on_with_other_registers : after.general ≢ regs.general → went On next regs ≡ after → ⊥
  on_with_other_registers other same = other (sym (ap (λ (r : Regs). r.general) same))

  on_with_other_flags : after.flags ≢ regs.flags → went On next regs ≡ after → ⊥
  on_with_other_flags other same = other (sym (ap (λ (r : Regs). r.flags) same))

  off_elsewhere : after.rip ≢ regs.rip → went Off next regs ≡ after → ⊥
  off_elsewhere other same = other (sym (ap (λ (r : Regs). r.rip) same))

  left_elsewhere : after.rip ≢ regs.rip → went Left next regs ≡ after → ⊥
  left_elsewhere other same = other (sym (ap (λ (r : Regs). r.rip) same))

-- a page whose first byte doesn't stay, or its last one
module _ (place : ℕ) (m n : List ℕ) where
  another_first_byte : byte_at n place ≢ byte_at m place → IsSameOnPage place m n → ⊥
  another_first_byte other it = other (it place (omega arith) (omega arith))

  another_last_byte : byte_at n (place + 4095) ≢ byte_at m (place + 4095) → IsSameOnPage place m n → ⊥
  another_last_byte other it = other (it (place + 4095) (omega arith) (omega arith))

-- pages of which one doesn't stay: the first, and the fourth
module _ (places : List ℕ) (m n : List ℕ) (it : AreSameOnPages places m n) where
  another_first_page : (IsSameOnPage (slice_index_or places 0 0) m n → ⊥) → ⊥
  another_first_page none = none (it 0 (omega arith))

  another_fourth_page : (IsSameOnPage (slice_index_or places 3 0) m n → ⊥) → ⊥
  another_fourth_page none = none (it 3 (omega arith))

-- four pages over memories that differ in one byte, of the third page
another_byte : AreSameOnPages (0x4000 ∷ 0x5000 ∷ 0 ∷ 0x7000 ∷ []) (1 ∷ 2 ∷ 3 ∷ []) (1 ∷ 2 ∷ 4 ∷ []) → ⊥
another_byte it = let same : 4 ≡ 3 = it 2 (omega arith) 2 (omega arith) (omega arith) in absurd (omega (arith, same))
