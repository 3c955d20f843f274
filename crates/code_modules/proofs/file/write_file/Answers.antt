use Rattle.std.proofs.Common.{◌≡◌, ℕ, ◌+◌, ◌-◌, ◌*◌, ◌<◌, List, ◌++◌, [], arith, ap, sym, subst, get_or, length, map, replicate, ◌∙◌}
use Rattle.std.proofs.Math.ListN.{get_or-map}
use Rattle.std.specs.List.{range_with_len}
use Rattle.std.proofs.lemmas.List.{length-map}
use Rattle.std.proofs.lemmas.List.FromFn.{length-map-range_with_len}
use Rattle.code_modules.specs.declared.part.FilePart as code_file_part
use Rattle.code_modules.specs.JoinedFile.{FilePart, joined_byte, part_end}
use Rattle.code_modules.specs.PartWords.{Follow, as_file_part}
use Rattle.code_modules.proofs.FilePlaces.{ends_with, next_behind, one_more, put_next, whole_file}
use Rattle.code_modules.proofs.file.write_file.Goals as goal

abbrev no_part : code_file_part.FilePart
no_part = record {
  offset = 0;
  part = record { flags = 0; address = 0; memory_size = 0; bytes = record { ref_ptr = (0, 0); now = [] } };
}

abbrev placed : List code_file_part.FilePart → List FilePart
placed parts = map as_file_part parts

follows : (parts : List code_file_part.FilePart) → Follow (64 + 56 * length parts) (placed parts)
    → Follow (64 + 56 * length (placed parts)) (placed parts)
follows parts follow =
    let P : ℕ → Type 0 = λ n. Follow (64 + 56 * n) (placed parts) in
    subst P (sym (length-map parts as_file_part)) follow

same_part : (parts : List code_file_part.FilePart) (i : ℕ)
    → get_or (placed parts) i (as_file_part no_part) ≡ as_file_part (get_or parts i no_part)
same_part parts i = get_or-map as_file_part parts i no_part

pub loop-at-preserved : goal.loop-at-preserved
loop-at-preserved c =
    one_more (joined_byte c.args.entry (map as_file_part c.args.parts.now)) c.loop-at.at c.loop-at.file.items c.push.new.self.items
    c.headers_byte.result c.loop-at.invariant c.headers_byte.ensures c.in_default-push.ensures.items

pub loop-placed-init : goal.loop-placed-init
loop-placed-init c =
    let f : ℕ → ℕ = joined_byte c.args.entry (placed c.args.parts.now) in
    let long : length c.loop-at.file.items ≡ c.loop-at.at =
    ap length c.loop-at.invariant ∙ length-map-range_with_len (joined_byte c.args.entry (placed c.args.parts.now)) 0 c.loop-at.at in
    let end : c.loop-at.at ≡ 64 + 56 * length (placed c.args.parts.now) = omega (arith, length-map c.args.parts.now as_file_part) in
    record {
      made = c.loop-at.invariant ∙ ap (λ n. map f (range_with_len 0 n)) (sym long);
      ends = long ∙ end;
    }

pub put_part-requires : goal.put_part-requires
put_part-requires c =
    let ps : List FilePart = placed c.args.parts.now in
    let i : ℕ = c.loop-placed.placed-index in
    let inside : c.loop-placed.placed-index < length (placed c.args.parts.now) = omega (arith, length-map c.args.parts.now as_file_part) in
    let behind = next_behind c.args.entry ps i (as_file_part no_part) inside (follows c.args.parts.now c.requires.follow) in
    let same = ap (λ (p : FilePart). p.offset) (same_part c.args.parts.now c.loop-placed.placed-index) in
    omega (arith, behind, same, c.loop-placed.invariant.ends)

pub loop-placed-preserved : goal.loop-placed-preserved
loop-placed-preserved c =
    let ps : List FilePart = placed c.args.parts.now in
    let i : ℕ = c.loop-placed.placed-index in
    let f : ℕ → ℕ = joined_byte c.args.entry (placed c.args.parts.now) in
    let old : List ℕ = c.loop-placed.file.items in
    let p : FilePart = get_or (placed c.args.parts.now) c.loop-placed.placed-index (as_file_part no_part) in
    let inside : c.loop-placed.placed-index < length (placed c.args.parts.now) = omega (arith, length-map c.args.parts.now as_file_part) in
    let follow = follows c.args.parts.now c.requires.follow in
    let made : c.put_part.new.file.items ≡ map f (range_with_len 0 (part_end p)) =
    c.put_part.ensures c.if-not-put_part.false
    ∙ ap (λ (q : FilePart). old ++ (replicate (q.offset - length old) 0 ++ q.part.bytes)) (sym (same_part c.args.parts.now i))
    ∙ put_next c.args.entry ps i (as_file_part no_part) inside follow old (length old) c.loop-placed.invariant.ends c.loop-placed.invariant.made in
    let long : length c.put_part.new.file.items ≡ part_end p = ap length made ∙ length-map-range_with_len f 0 (part_end p) in
    record {
      made = made ∙ ap (λ n. map f (range_with_len 0 n)) (sym long);
      ends = long ∙ sym (ends_with c.args.entry ps i (as_file_part no_part) inside follow);
    }

pub returns : goal.returns
returns c =
    let ps : List FilePart = placed c.args.parts.now in
    let f : ℕ → ℕ = joined_byte c.args.entry (placed c.args.parts.now) in
    let count = length-map c.args.parts.now as_file_part in
    whole_file c.args.entry ps c.loop-placed.placed-index c.loop-placed.file.items (omega arith) (omega arith)
    (c.loop-placed.invariant.made ∙ ap (λ n. map f (range_with_len 0 n)) c.loop-placed.invariant.ends)
