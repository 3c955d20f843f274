use Rattle.std.proofs.Common.{ℕ, ◌%◌, ap, sym, ◌∙◌}
use Rattle.asm_text.specs.RowPlaces.{by_row_place}
use Rattle.asm_text.specs.Skipping.{names_low}
use Rattle.asm_text.proofs.PlaceSkips.{place_unnamed}
use Rattle.asm_text.proofs.Skips.{none_kept}
use Rattle.asm_text.proofs.search.try_named.Goals as goal

pub returns-then-not-names_low : goal.returns-then-not-names_low
returns-then-not-names_low c =
    none_kept c.args.instr.now c.args.best.now.items (by_row_place c.args.instr.now c.args.place)
    (place_unnamed c.args.instr.now c.args.place (c.requires.right.by_opcode c.args.place c.requires.within c.if-index-place.true)
    (ap (λ (o : ℕ). names_low c.args.instr.now (o % 8)) (sym c.opcode_at.ensures) ∙ (sym c.names_low.ensures ∙ c.if-not-names_low.true)))
