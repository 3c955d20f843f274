use Rattle.std.proofs.Common.{◌+◌, ◌*◌, ◌/◌, ◌≤◌, ◌∙◌, ℕ, ap, arith, sym}
use Rattle.std.proofs.lemmas.List.{length-set}
use Rattle.std.proofs.lemmas.List.Elements.{All-set}
use Rattle.cpu_step.specs.CodeLines.{IsFormIn}
use Rattle.cpu_step.proofs.LineForms.{behind_last, no_row, row_more, wider_forms}
use Rattle.cpu_step.proofs.lines.forms_of.Goals as goal

pub loop-count-init : goal.loop-count-init
loop-count-init c = (
  c.no_forms-forms.ensures.length,
  c.no_forms-forms.ensures.forms c.args.code.now 16 (omega arith),
  no_row c.no_forms-forms.result c.no_forms-forms.ensures.length,
  λ e. e,
  λ d i e. absurd (omega (arith, e)),
  omega arith,
  c.requires.some,
  omega arith,
  omega arith,
)

pub loop-count-preserved : goal.loop-count-preserved
loop-count-preserved c =
    let inv = c.loop-count.invariant in
    let quick = c.form_at-quick.result in
    let at : ℕ = c.loop-count.at in
    let wide : ℕ = (at + 23) / 8 * 8 in
    let room : at + 16 ≤ c.args.most = omega (arith, c.if-at-most.true, c.requires.some) in (
      length-set c.loop-count.forms c.loop-count.count quick ∙ inv.0,
      All-set (IsFormIn c.args.code.now wide) c.loop-count.forms c.loop-count.count quick (c.form_at-quick.ensures.form wide (omega arith))
          (wider_forms c.args.code.now c.loop-count.size wide c.loop-count.forms inv.8 inv.1),
      row_more c.loop-count.forms c.loop-count.count quick at inv.2 inv.0 c.loop-count-test.true c.form_at-quick.ensures.at inv.3 inv.4,
      λ e. absurd (omega (arith, e)),
      λ d i last.
          behind_last c.loop-count.forms c.loop-count.count quick at inv.2 inv.0 c.loop-count-test.true c.form_at-quick.ensures.at inv.3 inv.4 d i last
          ∙ ap (λ n. at + n) (sym c.from-at.ensures),
      omega arith,
      omega (arith, room, c.requires.whole),
      omega arith,
      omega arith,
    )

pub returns-then-leaves-clause-forms : goal.returns-then-leaves-clause-forms
returns-then-leaves-clause-forms c =
    let wide : ℕ = (c.loop-count.at + 23) / 8 * 8 in
    All-set (IsFormIn c.args.code.now wide) c.loop-count.forms c.loop-count.count c.form_at-quick.result (c.form_at-quick.ensures.form wide (omega arith))
    (wider_forms c.args.code.now c.loop-count.size wide c.loop-count.forms c.loop-count.invariant.8 c.loop-count.invariant.1)

pub returns-then-leaves-clause-row : goal.returns-then-leaves-clause-row
returns-then-leaves-clause-row c =
    let inv = c.loop-count.invariant in
    row_more c.loop-count.forms c.loop-count.count c.form_at-quick.result c.loop-count.at inv.2 inv.0 c.loop-count-test.true c.form_at-quick.ensures.at inv.3 inv.4
