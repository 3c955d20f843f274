use Rattle.std.proofs.Common.{sym, ◌∙◌}
use Rattle.asm_text.proofs.PlaceSkips.{begins_there, row_tried, row_untried}
use Rattle.asm_text.proofs.search.try_place.Goals as goal

pub try_row-requires : goal.try_row-requires
try_row-requires c =
    begins_there c.args.place c.opcode_at-opcode.result c.map_at-map.result c.in-Some.row
    c.map_at-map.ensures c.opcode_at-opcode.ensures (sym c.table_row.ensures ∙ c.in-Some.is)

pub returns-then-shape_fits : goal.returns-then-shape_fits
returns-then-shape_fits c =
    row_tried c.args.instr.now c.args.place c.opcode_at-opcode.result c.map_at-map.result c.in-Some.row c.args.best.now.items
    c.map_at-map.ensures c.opcode_at-opcode.ensures (sym c.table_row.ensures ∙ c.in-Some.is) c.requires
    c.try_row.new.best.items (sym c.shape_fits.ensures ∙ c.if-shape_fits.true) c.try_row.ensures

pub returns-else-shape_fits : goal.returns-else-shape_fits
returns-else-shape_fits c =
    row_untried c.args.instr.now c.args.place c.opcode_at-opcode.result c.map_at-map.result c.in-Some.row c.args.best.now.items
    c.map_at-map.ensures c.opcode_at-opcode.ensures (sym c.table_row.ensures ∙ c.in-Some.is) c.requires
    (sym c.shape_fits.ensures ∙ c.if-shape_fits.false)
