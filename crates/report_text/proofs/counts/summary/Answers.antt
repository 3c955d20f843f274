use Rattle.std.proofs.Common.{◌≡◌, ◌++◌, List, ℕ, append_assoc, codes, ◌∙◌}
use Rattle.report_text.specs.RunSummary.{count_line, counts_line, summary_lines}
use Rattle.report_text.proofs.Texts.{same_put}
use Rattle.report_text.proofs.counts.summary.Goals as goal

five_in_turn : (a b c d e : List ℕ) → (((a ++ b) ++ c) ++ d) ++ e ≡ a ++ (b ++ (c ++ (d ++ e)))
five_in_turn a b c d e =
    append_assoc ((a ++ b) ++ c) d e ∙ append_assoc (a ++ b) c (d ++ e) ∙ append_assoc a b (c ++ (d ++ e))

pub returns : goal.returns
unfolding summary_lines
returns g c =
    let it = c.args.it.now in
    let begun = c.args.sink.now in
    let calls = c.put_all-calls.ensures.put in
    let deliveries = c.put_behind-deliveries.ensures begun _ calls in
    let tables = c.put_behind-tables.ensures begun _ deliveries in
    let regions = c.put_behind-regions.ensures begun _ tables in
    same_put g.O.Sink.taken g.O.Sink.faults
    (rw (c.two_counts.ensures, c.one_count.ensures, c.one_count-2.ensures, c.one_count-3.ensures, c.two_counts-2.ensures)
    (five_in_turn (counts_line (codes "calls ") it.calls (codes " accepted ") it.accepted)
    (count_line (codes "deliveries ") it.deliveries) (count_line (codes "tables ") it.tables)
    (count_line (codes "regions ") it.regions) (counts_line (codes "log ") it.records (codes " ") it.log_bytes)))
    (c.put_behind.ensures begun _ regions)
