-- What a quick form holds of the instruction that it is taken from.
use Rattle.std.specs.Prelude.{ℕ, ◌≡◌, ◌<◌, true}
use Rattle.x86_decode.specs.declared.operation.Op.{Op}
use Rattle.exec_quick.specs.declared.quick.Kind.{Kind}
use Rattle.x86_decode.specs.declared.instruction.Instr.{Instr}
use Rattle.exec_quick.specs.declared.quick.Quick.{Quick}
use Rattle.exec_quick.specs.QuickForms.{IsQuick, form_by, has_memory_first, has_memory_second, has_register_first, instruction_of, is_slow, is_supervisor, op_by, width_by}

-- the parts of this instruction, which has so many bytes
pub record HasParts (q : Quick) (instr : Instr) (size : ℕ) : Type 0 where
  pub means : instruction_of q ≡ instr
  pub sized : q.size ≡ size
  pub ready : IsQuick q
  pub register : has_register_first q.kind ≡ true → q.to < 16

-- a kind says the same of an instruction with this operation and width as another kind
pub record IsKindOf (like : Kind) (op : Op) (width : ℕ) (kind : Kind) : Type 0 where
  pub slow : is_slow kind ≡ is_slow like
  pub operation : op_by kind op ≡ op_by like op
  pub sized : width_by kind width ≡ width_by like width
  pub first : has_memory_first kind ≡ has_memory_first like
  pub second : has_memory_second kind ≡ has_memory_second like
  pub register : has_register_first kind ≡ has_register_first like
  pub supervisor : is_supervisor kind ≡ is_supervisor like
  pub form : form_by kind ≡ form_by like
