use Rattle.std.proofs.Common.{[], ◌∷◌, ◌++◌, ap, ◌∙◌, sym, arith}
use Rattle.hex.specs.Hex.{encode_lower}
use Rattle.step_trace.proofs.OpeningTexts.{bytes_shown, no_place, place_first}
use Rattle.step_trace.proofs.TextsBehind.{none_left, part_behind}
use Rattle.step_trace.proofs.opening.put_places.Goals as goal

pub loop-place-preserved : goal.loop-place-preserved
loop-place-preserved c =
    part_behind c.loop-place.line.items c.put_byte.new.line.items _ _ _
    (ap (λ l. c.loop-place.line.items ++ l)
    (sym (place_first c.args.mem.now c.loop-place.place c.args.end c.loop-place-test.true c.requires))
    ∙ c.loop-place.invariant)
    (c.in_ok-put_byte.ensures ∙ ap (λ b. c.loop-place.line.items ++ encode_lower (b ∷ [])) c.load8.ensures)

pub returns : goal.returns
returns c =
    none_left c.loop-place.line.items _ _ c.loop-place.invariant
    (no_place c.args.mem.now c.loop-place.place c.args.end c.loop-place-test.false)
    ∙ ap (λ l. c.args.line.now.items ++ l) (bytes_shown c.args.mem.now c.args.first c.args.end (omega arith) c.requires)
