use Rattle.std.proofs.Common.{◌≡◌, sym, subst}
use Rattle.std.proofs.lemmas.List.Elements.{All-set}
use Rattle.cpu_step.specs.declared.lines.Line.{Line}
use Rattle.cpu_step.specs.CodeLines.{IsLineOf}
use Rattle.cpu_step.proofs.LineForms.{line_seen, line_told, one_element}
use Rattle.cpu_step.proofs.lines.replace_line.Goals as goal

pub returns-then-is_code_of-clause-lines : goal.returns-then-is_code_of-clause-lines
returns-then-is_code_of-clause-lines c =
    let same : c.index-line.result.now ≡ c.index_mut.result.now =
    one_element c.args.lines.now.items c.args.slot c.index-line.result.now c.index_mut.result.now c.requires.slot c.index-line.ensures c.index_mut.ensures.value in
    let is : IsLineOf c.args.stamp c.args.codes.now c.args.mem.now c.index-line.result.now =
    subst (IsLineOf c.args.stamp c.args.codes.now c.args.mem.now) (sym c.index-line.ensures) (c.requires.lines c.args.slot c.index-line.result.now c.requires.slot) in
    All-set (IsLineOf c.args.stamp c.args.codes.now c.args.mem.now) c.args.lines.now.items c.args.slot (record c.index_mut.result.now { stamp = c.args.stamp })
    (subst (λ (line : Line). IsLineOf c.args.stamp c.args.codes.now c.args.mem.now (record line { stamp = c.args.stamp })) same
    (line_seen c.args.stamp c.args.codes.now c.args.code.now c.args.mem.now c.index-line.result.now c.args.at c.args.ahead c.place_of-place.result c.room-room.result is.by
    c.requires.code c.requires.ahead c.requires.here c.place_of-place.ensures c.room-room.ensures (c.is_code_of.ensures.at c.if-is_code_of.true) (c.is_code_of.ensures.room c.if-is_code_of.true)
    (c.is_code_of.ensures.same c.if-is_code_of.true))) c.requires.lines

pub returns-else-is_code_of-clause-lines : goal.returns-else-is_code_of-clause-lines
returns-else-is_code_of-clause-lines c =
    All-set (IsLineOf c.args.stamp c.args.codes.now c.args.mem.now) c.args.lines.now.items c.args.slot c.line_at.result
    (line_told c.args.stamp c.args.codes.now c.args.code.now c.args.mem.now c.line_at.result c.args.at c.args.ahead c.place_of-place.result c.room-room.result c.line_at.ensures.line
    c.requires.code c.requires.ahead c.requires.here c.place_of-place.ensures c.room-room.ensures c.line_at.ensures.at c.line_at.ensures.room c.line_at.ensures.same) c.requires.lines
