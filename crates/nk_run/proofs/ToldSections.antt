-- The closing section of a replay that stands beside a run.
use Rattle.std.proofs.Common.{◌≡◌, ℕ, zero, suc, ◌+◌, ◌<◌, ◌≤◌, List, [], ◌∷◌, ◌++◌, map, All, refl, arith}
use Rattle.std.specs.Prelude.{slice_index_or}
use Rattle.std.specs.List.{range_with_len}
use Rattle.std.proofs.lemmas.List.Elements.{All-head, All-tail}
use Rattle.region_book.specs.RegionRecords.{RegionRecord}
use Rattle.nk_body.specs.NestedRecord.{Nested}
use Rattle.nk_body.specs.ReplayBeside.{IsBeside, IsTold, opening_byte}
use Rattle.gate_state.specs.MachineStates.{Opening}
use Rattle.gate_state.specs.MachineSteps.{Made}
use Rattle.report_text.specs.ClosingSection.{bytes_of_region, entry_lines, kind_lines, lines_of_table, log_lines, region_lines, section}
use Rattle.report_text.specs.RunLines.{region_line, root_line, trap_line}
use Rattle.nk_run.specs.ReplayedRuns.{replayed_bytes, replayed_section, was_table}

map_same : (f g : ℕ → ℕ) (n from : ℕ) → ((k : ℕ) → from ≤ k → k < from + n → f k ≡ g k)
    → map f (range_with_len from n) ≡ map g (range_with_len from n)
map_same f g zero from same = refl
map_same f g (suc n) from same =
    λ i. same from (omega arith) (omega arith) i ∷ map_same f g n (from + 1)
    (λ k least most. same k (omega (arith, least)) (omega (arith, most))) i

regions_same : (one other : RegionRecord → List ℕ) (rs : List RegionRecord) → All (λ r. one r ≡ other r) rs
    → region_lines one rs ≡ region_lines other rs
unfolding region_lines
regions_same one other [] same = refl
regions_same one other (r ∷ rs) same =
    λ i. region_line r (All-head (λ r. one r ≡ other r) r rs same i)
    ++ regions_same one other rs (All-tail (λ r. one r ≡ other r) r rs same) i

-- the byte of a frame at the opening
abbrev pub opened : Opening → ℕ → ℕ → ℕ
opened o = opening_byte o.image o.frames

module _ (o : Opening) (made : List Made) (nk : Nested) (held : ℕ → ℕ → ℕ) (m : List ℕ)
    (beside : IsBeside (opened o) (was_table o made) nk held m) where
  abbrev also : Nested
  also = record nk { held = held }

  bytes_told : (r : RegionRecord) → IsTold (opened o) (was_table o made) nk.held held r
      → bytes_of_region also r ≡ replayed_bytes o made nk r
  unfolding bytes_of_region replayed_bytes
  bytes_told r told = map_same _ _ r.size 0 (λ k least most. told.bytes k (omega (arith, most)))

  kinds_same : kind_lines o.image o.frames also ≡ kind_lines o.image o.frames nk
  unfolding kind_lines
  kinds_same = refl

  entries_same : entry_lines o.image o.frames also ≡ entry_lines o.image o.frames nk
  unfolding entry_lines lines_of_table
  entries_same = refl

  pub told_section : section o.image o.frames also ≡ replayed_section o made nk
  told_section =
      λ i. root_line nk.tables.root ++ (trap_line nk.trap ++ (kinds_same i ++ (entries_same i
      ++ (regions_same (bytes_of_region also) (replayed_bytes o made nk) nk.ledger.book.regions
      (λ k d below. bytes_told (slice_index_or nk.ledger.book.regions k d) (beside.regions k d below)) i
      ++ log_lines 0 nk.ledger.log))))
