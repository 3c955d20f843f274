-- A line of three forms at worked values, by the opcode tables of SDM volume 2: ADD RBX, RAX, SUB EBX, EAX and
-- PUSH RBX, in 24 bytes of code; and one turn by NOP for every plain processor.
use Rattle.std.proofs.Common.{◌≡◌, ℕ, zero, suc, ◌+◌, ◌<◌, false, List, [], ◌∷◌, inl, inr, refl, sym, subst, arith}
use Rattle.std.specs.Prelude.{replicate, slice_index_or}
use Rattle.std.proofs.lemmas.List.Elements.{All-cons, All-replicate}
use Rattle.decode_fields.specs.declared.parts.Rep.TheVariants.{No}
use Rattle.decode_fields.specs.ModRm.{modrm_length, place_of}
use Rattle.x86_decode.specs.Grid.{entry_at, slots_from}
use Rattle.x86_decode.specs.declared.operation.Op.{Op}
use Rattle.x86_decode.specs.declared.operation.Op.TheVariants as op
use Rattle.exec_quick.specs.declared.quick.Kind.{Kind}
use Rattle.exec_quick.specs.declared.quick.Kind.TheVariants as kind
use Rattle.exec_quick.specs.declared.quick.Quick.{Quick}
use Rattle.exec_quick.specs.QuickForms.{IsQuick}
use Rattle.cpu_step.specs.CodeLines.{AreFrom, AreMadeOn, IsFormIn, IsLineBy, IsPlain, IsRow}
use Rattle.cpu_step.specs.Processor.{Processor}
use Rattle.cpu_step.specs.QuickTurns.{AreQuickTurns}
use Rattle.cpu_step.proofs.WorkedStretches.{control, is_window, memory, one_turn, plain, regs, tlb, window}

-- a form without memory and without a number
abbrev form : Kind → Op → ℕ → ℕ → ℕ → ℕ → ℕ → Quick
form kind op width at size to from = record {
  kind = kind;
  op = op;
  width = width;
  size = size;
  at = at;
  to = to;
  from = from;
  base = 16;
  index = 16;
  scale = 1;
  follows_rip = false;
  displacement = 0;
  value = 0;
  rep = No;
}

abbrev add : Quick
add = form kind.Add64 op.Add 64 0 3 3 0

abbrev sub : Quick
sub = form kind.Sub32 op.Sub 32 3 2 3 0

abbrev push : Quick
push = form kind.Push64 op.Push 64 5 1 17 3

abbrev slow : Quick
slow = form kind.Slow op.Nop 64 0 1 17 17

abbrev code : List ℕ
code = 0x48 ∷ 0x01 ∷ 0xC3 ∷ 0x29 ∷ 0xC3 ∷ 0x53 ∷ replicate 58 0x90

-- each form is made, and stands for its bytes
add_in_code : IsFormIn code 24 add
unfolding entry_at slots_from modrm_length place_of
add_in_code =
    let ready : IsQuick add = record {
      width = inr (inr (inr refl));
      to = omega arith;
      from = omega arith;
      base = omega arith;
      index = omega arith;
    } in record {
      ready = ready;
      register = λ first. omega arith;
      within = omega arith;
      stands = λ quick. record {
        means = refl;
        ready = ready;
        register = λ first. omega arith;
        form = refl;
        lawful = λ cpl supervisor. refl;
      };
    }

sub_in_code : IsFormIn code 24 sub
unfolding entry_at slots_from modrm_length place_of
sub_in_code =
    let ready : IsQuick sub = record {
      width = inr (inr (inl refl));
      to = omega arith;
      from = omega arith;
      base = omega arith;
      index = omega arith;
    } in record {
      ready = ready;
      register = λ first. omega arith;
      within = omega arith;
      stands = λ quick. record {
        means = refl;
        ready = ready;
        register = λ first. omega arith;
        form = refl;
        lawful = λ cpl supervisor. refl;
      };
    }

push_in_code : IsFormIn code 24 push
unfolding entry_at slots_from modrm_length place_of
push_in_code =
    let ready : IsQuick push = record {
      width = inr (inr (inr refl));
      to = omega arith;
      from = omega arith;
      base = omega arith;
      index = omega arith;
    } in record {
      ready = ready;
      register = λ first. absurd (cc);
      within = omega arith;
      stands = λ quick. record {
        means = refl;
        ready = ready;
        register = λ first. absurd (cc);
        form = refl;
        lawful = λ cpl supervisor. refl;
      };
    }

-- where there is no form, one that stands for nothing
slow_in_code : IsFormIn code 24 slow
slow_in_code = record {
  ready = record {
    width = inr (inr (inr refl));
    to = omega arith;
    from = omega arith;
    base = omega arith;
    index = omega arith;
  };
  register = λ first. absurd (cc);
  within = omega arith;
  stands = λ quick. absurd (cc);
}

abbrev forms : List Quick
forms = add ∷ sub ∷ push ∷ replicate 13 slow

next_form : (d : Quick) (i : ℕ) → i + 1 < 3
    → (slice_index_or forms (i + 1) d).at ≡ (slice_index_or forms i d).at + (slice_index_or forms i d).size
next_form d zero within = refl
next_form d (suc zero) within = refl
next_form d (suc (suc i)) within = absurd (omega (arith, within))

row : IsRow forms 3
row = record { all = refl; few = omega arith; first = λ d some. refl; next = next_form }

three_forms : IsLineBy 7 (record { at = 0x401000; stamp = 7; size = 24; code = code; count = 3; forms = forms })
three_forms = record {
  some = omega arith;
  size = omega arith;
  whole = refl;
  forms = All-cons (IsFormIn code 24) add (sub ∷ push ∷ replicate 13 slow) add_in_code
      (All-cons (IsFormIn code 24) sub (push ∷ replicate 13 slow) sub_in_code
      (All-cons (IsFormIn code 24) push (replicate 13 slow) push_in_code
      (All-replicate (IsFormIn code 24) 13 slow slow_in_code)));
  row = row;
  stamped = omega arith;
}

-- the three of them, from the line's first byte on
from_the_first : AreFrom 0x401000 0x401000 (add ∷ sub ∷ push ∷ [])
from_the_first = (refl, (refl, (refl, tt)))

-- a plain processor is what it holds
plain_is : (rip : ℕ) (p : Processor) → IsPlain (regs rip) control tlb p → plain p.tables p.input rip ≡ p
plain_is rip p it = λ j. record {
  regs = sym it.regs j;
  control = sym it.control j;
  tables = p.tables;
  tlb = sym it.tlb j;
  input = p.input;
  pending = sym it.none j;
  shielded = sym it.open_to j;
  halted = sym it.runs j;
}

-- one turn, by NOP, of each plain processor
nop_made : AreMadeOn 1 control tlb (regs 0xFFFFFF8000000018) memory window (regs 0xFFFFFF8000000019) memory window
nop_made = record {
  turns = λ p it. subst (λ q. AreQuickTurns 1 q memory (record q { regs = regs 0xFFFFFF8000000019 }) memory)
      (plain_is 0xFFFFFF8000000018 p it) (one_turn p.tables p.input);
  code = λ i few p above below. refl;
  off = refl;
  size = refl;
  cpl = refl;
  windowed = is_window;
}
