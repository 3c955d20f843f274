-- What a replay of a run's text shows in place of the run's own closing section. Both have the same root, handler, kinds,
-- entries, regions and log. They may differ in the bytes of a declared region that no call wrote: these show in the run what
-- stood in the region's frames as it was declared, and in the replay what the calls alone leave there, since the text doesn't
-- carry the stores that the outer kernel made of its own.
use Rattle.std.specs.Prelude.{ℕ, Bool, ◌||◌, List, map}
use Rattle.std.specs.List.{list_any, range_with_len}
use Rattle.region_book.specs.RegionRecords.{RegionRecord}
use Rattle.nk_body.specs.NestedRecord.{Nested}
use Rattle.nk_body.specs.ReplayBeside.{declares_table, is_opening_table, opening_byte, told_byte}
use Rattle.gate_state.specs.MachineStates.{Opening}
use Rattle.gate_state.specs.MachineSteps.{Made}
use Rattle.report_text.specs.ClosingSection.{section_with}

-- the frame was a page table at some time: at the opening, or by one of these calls
abbrev pub was_table : Opening → List Made → ℕ → Bool
was_table o made f = is_opening_table o.image o.frames f || list_any (λ (it : Made). declares_table f it.call) made

-- a byte of a region as a replay shows it: that of the record where the region is of the pool or the byte was written, else
-- what these calls alone leave there
abbrev pub replayed_byte : Opening → List Made → Nested → RegionRecord → ℕ → ℕ
replayed_byte o made nk r at = told_byte (opening_byte o.image o.frames) (was_table o made) nk.held r at

unfoldable pub replayed_bytes : Opening → List Made → Nested → RegionRecord → List ℕ
replayed_bytes o made nk r = map (replayed_byte o made nk r) (range_with_len 0 r.size)

-- the closing section that a replay shows, for the record of a run and the calls that were accepted in it
abbrev pub replayed_section : Opening → List Made → Nested → List ℕ
replayed_section o made nk = section_with (replayed_bytes o made nk) o.image o.frames nk
