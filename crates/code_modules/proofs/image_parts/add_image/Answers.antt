use Rattle.std.proofs.Common.{ℕ, ◌+◌, ◌≤◌, List, arith, ap, subst, drop, length, map}
use Rattle.std.proofs.lemmas.List.{drop_all}
use Rattle.elf_image.specs.Elf.{segments}
use Rattle.code_modules.specs.JoinedParts.{JoinedPart, image_part}
use Rattle.code_modules.specs.PartWords.{Leads, as_file_part, as_part}
use Rattle.code_modules.proofs.PlacingSteps.{leads_on, map_from}
use Rattle.code_modules.proofs.image_parts.add_image.Goals as goal

pub loop-i-preserved : goal.loop-i-preserved
loop-i-preserved c =
    let b : List ℕ = c.bytes-bytes.result.now in
    let i : ℕ = c.loop-i.i in
    record {
      placed = leads_on (map as_file_part c.args.layout.now.parts.items) (map as_file_part c.loop-i.layout.parts.items)
          (map as_file_part c.add.new.self.parts.items) c.args.layout.now.end c.loop-i.layout.end c.add.new.self.end
          (map (image_part b) (segments b)) (map (image_part b) (drop i (segments b))) (map (image_part b) (drop (i + 1) (segments b)))
          (as_part c.segment_part.result) c.loop-i.invariant.placed
          (map_from (image_part b) (segments b) i (as_part c.segment_part.result) c.segment_part.ensures.part)
          c.add.ensures.listed c.add.ensures.end;
      count = omega arith;
      small = omega (arith, c.segment_part.ensures.small);
    }

pub returns-clause-placed : goal.returns-clause-placed
returns-clause-placed c =
    let before = map as_file_part c.args.layout.now.parts.items in
    let placed = map as_file_part c.loop-i.layout.parts.items in
    let P : List ℕ → Type 0 = λ b. Leads (map as_file_part c.args.layout.now.parts.items) c.args.layout.now.end
    (map as_file_part c.loop-i.layout.parts.items) c.loop-i.layout.end
    (map (image_part b) (segments b)) (map (image_part b) (drop c.loop-i.i (segments b))) in
    let Q : List JoinedPart → Type 0 = λ ps. Leads (map as_file_part c.args.layout.now.parts.items) c.args.layout.now.end
    (map as_file_part c.loop-i.layout.parts.items) c.loop-i.layout.end
    (map (image_part c.args.image.now) (segments c.args.image.now)) ps in
    let count = ap length c.requires.headers.listed in
    let past : length (segments c.args.image.now) ≤ c.loop-i.i = omega (arith, c.segments-i-end.ensures.count) in
    subst Q (ap (map (image_part c.args.image.now)) (drop_all c.loop-i.i (segments c.args.image.now) past))
    (subst P c.bytes-bytes.ensures c.loop-i.invariant.placed)
