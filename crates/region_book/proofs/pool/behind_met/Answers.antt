use Rattle.std.proofs.Common.{◌≡◌, arith, inl, inr, sym, ap, ◌∙◌, subst}
use Rattle.std.proofs.lemmas.Bool.{cases_lt}
use Rattle.std.proofs.lemmas.List.{length-map}
use Rattle.region_book.specs.RegionBytes.{row_in}
use Rattle.region_book.specs.RegionRows.{IsHeld, row_meets}
use Rattle.region_book.proofs.RowReads.{none_of_more, row_stands, some_here}
use Rattle.region_book.proofs.pool.behind_met.Goals as goal
use Rattle.region_book.proofs.pool.behind_met.Goals.{in-Some, in_default}

pub end_of_met-requires-clause-held : goal.end_of_met-requires-clause-held
end_of_met-requires-clause-held c =
    let a = c.args in
    subst (IsHeld 128)
    (row_stands a.mem.now a.slots.now c.loop-i.i c.at.result (omega arith) c.at.ensures.index c.row_at-row.result c.row_at-row.ensures c.row_at-row.result)
    (c.requires.held c.loop-i.i c.row_at-row.result (omega (arith, length-map a.slots.now (row_in a.mem.now))))

pub loop-i-preserved : goal.loop-i-preserved
loop-i-preserved c =
    let a = c.args in
    elim c.match-end_of_met.branch [
      | in-Some w ↦ record {
        on = omega (arith, w.behind-is, w.in-Some.ensures.some.0);
        most = omega (arith, w.behind-is, w.in-Some.ensures.some.1);
        even = omega (arith, w.behind-is);
        taken = λ q even low high. elim (cases_lt q c.loop-i.behind) [
          | inl before ↦ c.loop-i.invariant.taken q even low before
          | inr behind ↦ some_here (row_meets a.size q) a.mem.now a.slots.now c.loop-i.i c.at.result (omega arith) c.at.ensures.index
              c.row_at-row.result c.row_at-row.ensures (w.in-Some.ensures.some.2 q behind (omega (arith, w.behind-is, high, even)))
        ];
        stays = λ same. absurd (omega (arith, w.behind-is, w.in-Some.ensures.some.0, same));
      }
      | in_default w ↦ record {
        on = omega (arith, w.behind-is);
        most = omega (arith, w.behind-is);
        even = omega (arith, w.behind-is);
        taken = λ q even low high. c.loop-i.invariant.taken q even low (omega (arith, w.behind-is, high));
        stays = λ same.
            let stayed : c.loop-i.behind ≡ a.place = sym w.behind-is ∙ same in
            none_of_more (row_meets a.size a.place) a.mem.now a.slots.now c.loop-i.i c.at.result (omega arith) c.at.ensures.index
            c.row_at-row.result c.row_at-row.ensures (c.loop-i.invariant.stays stayed)
            (ap (λ p. row_meets a.size p c.row_at-row.result) (sym stayed) ∙ w.in_default.ensures.none);
      }
    ]
