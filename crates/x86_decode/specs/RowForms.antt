-- The forms of rows, in the letters of the SDM, volume 2, appendix A.2: E the operand by mod and rm, G the one by
-- reg, R a general register by rm, C a control register by reg, I an immediate, J a displacement, M a place in
-- memory; b a byte, w a word, z a word or doubleword, q a quadword, v the operand size. Two letters aren't the
-- manual's: Z is a register by the opcode's low bits, which the manual names register by register, and U an immediate
-- without a sign, where the manual has I for both and U for a vector register. C stands for a debug register too,
-- where the manual has D. Behind `to` and `from` stand the number of the row and the width.
use Rattle.x86_decode.specs.declared.shape.Shape.{Shape}
use Rattle.x86_decode.specs.declared.shape.RowLayout.{RowLayout}
use Rattle.x86_decode.specs.declared.shape.RowLayout.TheVariants.{Plain, AnyForm, Memory, Register, Ignored}
use Rattle.x86_decode.specs.declared.shape.Operand.{Operand}
use Rattle.x86_decode.specs.declared.shape.Operand.TheVariants.{Absent, Eb, Ev, Gb, Gv, Zb, Zv, Accumulator, Constant}
use Rattle.x86_decode.specs.declared.shape.Number.{Number}
use Rattle.x86_decode.specs.declared.shape.Number.TheVariants.{Zero, Ib, Iz, Jz, Cn}
use Rattle.x86_decode.specs.declared.shape.Width.{Width}
use Rattle.x86_decode.specs.declared.shape.Width.TheVariants.{Byte, Word, Quad, Variable, Stack}

abbrev pub shape : RowLayout → Operand → Operand → Number → Width → Shape
shape layout to from number width = record { layout = layout; to = to; from = from; number = number; width = width }

abbrev pub alone : Shape
alone = shape Plain Absent Absent Zero Quad

abbrev pub alone_stack : Shape
alone_stack = shape Plain Absent Absent Zero Stack

abbrev pub alone_b : Shape
alone_b = shape Plain Absent Absent Zero Byte

abbrev pub alone_v : Shape
alone_v = shape Plain Absent Absent Zero Variable

abbrev pub fence : Shape
fence = shape Register Absent Absent Zero Quad

abbrev pub eb : Shape
eb = shape AnyForm Eb Absent Zero Byte

abbrev pub ev : Shape
ev = shape AnyForm Ev Absent Zero Variable

abbrev pub eb_gb : Shape
eb_gb = shape AnyForm Eb Gb Zero Byte

abbrev pub ev_gv : Shape
ev_gv = shape AnyForm Ev Gv Zero Variable

abbrev pub gb_eb : Shape
gb_eb = shape AnyForm Gb Eb Zero Byte

abbrev pub gv_ev : Shape
gv_ev = shape AnyForm Gv Ev Zero Variable

abbrev pub gv_eb : Shape
gv_eb = shape AnyForm Gv Eb Zero Variable

abbrev pub rv_gv : Shape
rv_gv = shape Register Ev Gv Zero Variable

abbrev pub eb_ib : Shape
eb_ib = shape AnyForm Eb Constant Ib Byte

abbrev pub ev_ib : Shape
ev_ib = shape AnyForm Ev Constant Ib Variable

abbrev pub ev_iz : Shape
ev_iz = shape AnyForm Ev Constant Iz Variable

abbrev pub zb_ib : Shape
zb_ib = shape Plain Zb Constant Ib Byte

abbrev pub zv : Shape
zv = shape Plain Zv Absent Zero Variable

abbrev pub ax_zv : Shape
ax_zv = shape Plain Accumulator Zv Zero Variable

abbrev pub al_ib : Shape
al_ib = shape Plain Accumulator Constant Ib Byte

abbrev pub ax_iz : Shape
ax_iz = shape Plain Accumulator Constant Iz Variable

abbrev pub near_ev : Shape
near_ev = shape AnyForm Absent Ev Zero Quad

abbrev pub jb : Shape
jb = shape Plain Absent Constant Ib Quad

abbrev pub jz : Shape
jz = shape Plain Absent Constant Jz Quad

abbrev pub system_ew : Shape
system_ew = shape AnyForm Absent Ev Zero Word

abbrev pub system_m : Shape
system_m = shape Memory Absent Ev Zero Quad

abbrev pub cn_rq : Shape
cn_rq = shape Ignored Absent Ev Cn Quad
