use Rattle.std.proofs.Common.{arith, ◌≡◌, ◌+◌, ◌*◌, ◌++◌, ◌∷◌, [], ℕ, List, Bool, true, false, ap, append-nil}
use Rattle.std.proofs.lemmas.List.FromFn.{filter_of_map_range_with_len_more}
use Rattle.std.specs.Prelude.{map, filter}
use Rattle.std.specs.List.{range_with_len}
use Rattle.elf_image.specs.declared.program_header.ProgramHeader.{ProgramHeader}
use Rattle.arrayvec.specs.ArrayVec.{array_vec_len}
use Rattle.elf_image.specs.Elf.{is_segment, phdr_size, program_header_at}
use Rattle.elf_image.proofs.table.read_segments.Goals as goal
use Rattle.elf_image.proofs.table.read_segments.Goals.{then-is_segment, else-is_segment}

-- the segments among the headers so far, with one more header that counts
kept : (p : ProgramHeader → Bool) (f : ℕ → ProgramHeader) (i : ℕ) (found more : List ProgramHeader) (h : ProgramHeader)
    → found ≡ filter p (map f (range_with_len 0 i)) → h ≡ f i → p h ≡ true → more ≡ found ++ h ∷ []
    → more ≡ filter p (map f (range_with_len 0 (i + 1)))
kept p f i found more h so_far is_next counts pushed =
    let step = filter_of_map_range_with_len_more p f 0 i i (omega arith) in
    let here : p (f i) ≡ true = cc in
    rw (step, here, ← is_next, ← so_far) pushed

-- and with one that does not
passed : (p : ProgramHeader → Bool) (f : ℕ → ProgramHeader) (i : ℕ) (found more : List ProgramHeader) (h : ProgramHeader)
    → found ≡ filter p (map f (range_with_len 0 i)) → h ≡ f i → p h ≡ false → more ≡ found
    → more ≡ filter p (map f (range_with_len 0 (i + 1)))
passed p f i found more h so_far is_next counts same =
    let step = filter_of_map_range_with_len_more p f 0 i i (omega arith) in
    let here : p (f i) ≡ false = cc in
    rw (step, here, ← so_far, append-nil) same

pub loop-index-preserved : goal.loop-index-preserved
loop-index-preserved c =
    let f : ℕ → ProgramHeader = λ i. program_header_at c.args.table.now (phdr_size * i) i in
    let is_next : c.read-header.result ≡ f c.loop-index.index = c.read-header.ensures in
    elim c.if-is_segment.branch [
      | then-is_segment w ↦ (
        kept is_segment f c.loop-index.index _ _ c.read-header.result c.loop-index.invariant.0 is_next (cc (c.is_segment.ensures, w.if-is_segment.true)) (cc (w.found-is, w.push.ensures.items)),
        omega (arith, ap array_vec_len w.found-is, w.push.ensures.len),
      )
      | else-is_segment w ↦ (
        passed is_segment f c.loop-index.index _ _ c.read-header.result c.loop-index.invariant.0 is_next (cc (c.is_segment.ensures, w.if-is_segment.false)) (cc w.found-is),
        omega (arith, ap array_vec_len w.found-is),
      )
    ]
