-- Each access that an instruction plans has 1, 2, 4 or 8 bytes at an address of 64 bits.
use Rattle.std.proofs.Common.{ℕ, ◌/◌, ◌^◌, ◌<◌, Bool, true, false, List, ap, refl, inl, inr, mod-lt, lit<}
use Rattle.std.specs.Prelude.{IfSome, Option, None, Some, if◌then◌else◌, slice_index}
use Rattle.decode_fields.specs.Widths.{IsWidth}
use Rattle.decode_fields.specs.declared.place.Place.{Place}
use Rattle.decode_fields.specs.declared.place.Place.TheVariants as place
use Rattle.x86_decode.specs.WellFormed.{IsWellFormed}
use Rattle.x86_decode.specs.declared.instruction.Instr.{Instr}
use Rattle.x86_decode.specs.declared.operation.Op.{Op}
use Rattle.x86_decode.specs.declared.operation.Op.TheVariants as op
use Rattle.nk_bits.specs.Accesses.{IsAccessSize}
use Rattle.page_walk.specs.declared.plan.AccessPlan.{AccessPlan}
use Rattle.page_walk.specs.declared.plan.Span.{Span}
use Rattle.x86_regs.specs.declared.registers.Regs.{Regs}
use Rattle.x86_regs.specs.declared.form.Form.{Form}
use Rattle.x86_regs.specs.declared.form.Form.TheVariants.{Data, Flow}
use Rattle.x86_regs.specs.declared.form.DataForm.TheVariants as data_form
use Rattle.x86_regs.specs.declared.form.FlowForm.TheVariants as flow_form
use Rattle.x86_regs.specs.Combinations.{source_width}
use Rattle.x86_regs.specs.Operands.{next_of, place_span, rbp, rdi, rsi, rsp, source_by, stack_span, wrapped}
use Rattle.x86_regs.specs.OperandPlans.{from_source, is_idle, no_access, plan_by, push_span, rdi_span, risen, rsi_span, table_plan, to_source, to_span, unless_idle}
use Rattle.x86_regs.specs.EffectsKept.{AreRegisters}
use Rattle.x86_regs.proofs.GrantedAccesses.{IsPlanned, IsSpan, IsSpanOf}

pub below_64 : (n : ℕ) → wrapped n < 2 ^ 64
below_64 n = mod-lt n (lit< tt)

-- as many bytes as an operand of that width has
width_bytes : (w : ℕ) → IsWidth w → IsAccessSize (w / 8)
width_bytes w (inl is) = inl (ap (λ n. n / 8) is)
width_bytes w (inr (inl is)) = inr (inl (ap (λ n. n / 8) is))
width_bytes w (inr (inr (inl is))) = inr (inr (inl (ap (λ n. n / 8) is)))
width_bytes w (inr (inr (inr is))) = inr (inr (inr (ap (λ n. n / 8) is)))

width_8 : IsWidth 8
width_8 = inl refl

width_16 : IsWidth 16
width_16 = inr (inl refl)

width_32 : IsWidth 32
width_32 = inr (inr (inl refl))

pub width_64 : IsWidth 64
width_64 = inr (inr (inr refl))

source_is_width : (operation : Op) (w : ℕ) → IsWidth w → IsWidth (source_width operation w)
source_is_width op.Movzx8 w is = width_8
source_is_width op.Movsx8 w is = width_8
source_is_width op.Movzx16 w is = width_16
source_is_width op.Movsx16 w is = width_16
source_is_width op.Movsxd w is = width_32
source_is_width op.Cbw w is = width_8
source_is_width op.Cwde w is = width_16
source_is_width op.Cdqe w is = width_32
source_is_width op.Shl w is = width_8
source_is_width op.Shr w is = width_8
source_is_width op.Sar w is = width_8
source_is_width op.Rol w is = width_8
source_is_width op.Ror w is = width_8
source_is_width _ w is = is

-- the bytes of an operand, wherever it stands
place_spans : (general : List ℕ) (next w : ℕ) (at : Place) → IsWidth w → IfSome (place_span general next w at) IsSpan
place_spans general next w (place.Mem a) is = record { address = below_64 _; sized = width_bytes w is }
place_spans general next w _ is = tt

source_spans : (general : List ℕ) (next w value : ℕ) (at : Place) → IsWidth w →
    IsSpanOf (source_by general next w value at)
source_spans general next w value (place.Mem a) is = record { address = below_64 _; sized = width_bytes w is }
source_spans general next w value _ is = tt

-- the eight bytes of a table's base are behind those of its limit
table_planned : (limit : Option Span) → IfSome limit IsSpan → IsPlanned (table_plan limit)
table_planned None is = record { both = tt; to = tt; from = tt; last = tt }
table_planned (Some limit) is = record {
  both = tt;
  to = is;
  from = record { address = below_64 _; sized = inr (inr (inr refl)) };
  last = tt;
}

module _ (i : Instr) (size : ℕ) (regs : Regs) (formed : IsWellFormed i) (registers : AreRegisters regs) where
  to_spans : (w : ℕ) → IsWidth w → IsSpanOf (to_source i size regs w)
  to_spans w is = source_spans regs.general (next_of regs size) w i.value i.to is

  from_spans : (w : ℕ) → IsWidth w → IsSpanOf (from_source i size regs w)
  from_spans w is = source_spans regs.general (next_of regs size) w i.value i.from is

  both_spans : IfSome (to_span i size regs) IsSpan
  both_spans = place_spans regs.general (next_of regs size) i.width i.to formed.width

  -- the operands at the width of the instruction
  to_whole : IsSpanOf (to_source i size regs i.width)
  to_whole = to_spans i.width formed.width

  from_whole : IsSpanOf (from_source i size regs i.width)
  from_whole = from_spans i.width formed.width

  from_part : IsSpanOf (from_source i size regs (source_width i.op i.width))
  from_part = from_spans _ (source_is_width i.op i.width formed.width)

  -- the bytes from a register's address on
  register_span : (n w : ℕ) → IsWidth w → IsSpan (stack_span (slice_index regs.general n) w)
  register_span n w is = record { address = registers.bounds n; sized = width_bytes w is }

  pushed : (w : ℕ) → IsWidth w → IsSpan (push_span regs w)
  pushed w is = record { address = below_64 _; sized = width_bytes w is }

  rsi_is : IsSpan (rsi_span i regs)
  rsi_is = record { address = registers.bounds rsi; sized = width_bytes i.width formed.width }

  rdi_is : IsSpan (rdi_span i regs)
  rdi_is = record { address = registers.bounds rdi; sized = width_bytes i.width formed.width }

  unless_idle_planned : (accesses : AccessPlan) → IsPlanned accesses → IsPlanned (unless_idle i regs accesses)
  unless_idle_planned accesses is = by_count (is_idle i regs)
    where
      by_count : (b : Bool) → IsPlanned (if b then no_access else accesses)
      by_count true = record { both = tt; to = tt; from = tt; last = tt }
      by_count false = is

  pub planned : (by : Form) → IsPlanned (plan_by by i size regs)
  planned (Data data_form.Combine) = record { both = both_spans; to = to_whole; from = from_part; last = tt }
  planned (Data data_form.Compare) = record { both = tt; to = to_whole; from = from_whole; last = tt }
  planned (Data data_form.Move) = record { both = tt; to = tt; from = from_part; last = both_spans }
  planned (Data data_form.Exchange) = record { both = both_spans; to = to_whole; from = from_whole; last = tt }
  planned (Data data_form.ExchangeAdd) = record { both = both_spans; to = to_whole; from = from_whole; last = tt }
  planned (Data data_form.CompareExchange) = record { both = both_spans; to = to_whole; from = from_whole; last = tt }
  planned (Data data_form.ScanBits) = record { both = tt; to = tt; from = from_whole; last = tt }
  planned (Data data_form.Multiply) = record { both = tt; to = to_whole; from = tt; last = tt }
  planned (Data data_form.Divide) = record { both = tt; to = to_whole; from = tt; last = tt }
  planned (Data data_form.Push) = record { both = tt; to = tt; from = from_whole; last = pushed i.width formed.width }
  planned (Data data_form.Pop) = record {
    both = tt;
    to = register_span rsp i.width formed.width;
    from = tt;
    last = place_spans (risen regs i.width) (next_of regs size) i.width i.to formed.width;
  }
  planned (Data data_form.Leave) = record { both = tt; to = register_span rbp 64 width_64; from = tt; last = tt }
  planned (Data data_form.MoveString) = unless_idle_planned _ (record { both = tt; to = tt; from = rsi_is; last = rdi_is })
  planned (Data data_form.StoreString) = unless_idle_planned _ (record { both = tt; to = tt; from = tt; last = rdi_is })
  planned (Data data_form.LoadString) = unless_idle_planned _ (record { both = tt; to = tt; from = rsi_is; last = tt })
  planned (Data data_form.CompareStrings) = unless_idle_planned _ (record { both = tt; to = rsi_is; from = rdi_is; last = tt })
  planned (Data data_form.ScanString) = unless_idle_planned _ (record { both = tt; to = tt; from = rdi_is; last = tt })
  planned (Flow flow_form.Branch) = record { both = tt; to = tt; from = from_spans 64 width_64; last = tt }
  planned (Flow flow_form.Call) = record { both = tt; to = tt; from = from_spans 64 width_64; last = pushed 64 width_64 }
  planned (Flow flow_form.Return) = record { both = tt; to = register_span rsp 64 width_64; from = tt; last = tt }
  planned (Flow flow_form.PushFlags) = record { both = tt; to = tt; from = tt; last = pushed i.width formed.width }
  planned (Flow flow_form.PopFlags) = record { both = tt; to = register_span rsp i.width formed.width; from = tt; last = tt }
  planned (Flow flow_form.Input) = record { both = tt; to = tt; from = from_spans 16 width_16; last = tt }
  planned (Flow flow_form.Output) = record { both = tt; to = to_spans 16 width_16; from = from_spans 8 width_8; last = tt }
  planned (Flow flow_form.ToControl) = record { both = tt; to = tt; from = from_spans 64 width_64; last = tt }
  planned (Flow flow_form.LoadTable) = table_planned _ (place_spans regs.general (next_of regs size) 16 i.from width_16)
  planned _ = record { both = tt; to = tt; from = tt; last = tt }
