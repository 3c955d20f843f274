use Rattle.std.proofs.Common.{◌≡◌, [], ap, arith, subst}
use Rattle.std.specs.List.{Contains}
use Rattle.write_log.specs.LogBytes.{LogCounts, log_in, records_from}
use Rattle.report_text_tests.proofs.audits.audited.Goals as goal

pub loop-it-init : goal.loop-it-init
unfolding records_from
loop-it-init c =
    let mem = c.start-log.new.mem in
    let none : log_in c.start-log.result mem ≡ [] =
    ap (λ (counts : LogCounts). log_in counts mem) c.start-log.ensures.empty in
    record {
      held = c.start-log.ensures.held;
      within = λ it has. let (k, low, e) = subst (λ l. Contains l it) none has in absurd (omega (arith, low));
    }

pub audit-requires-clause-within : goal.audit-requires-clause-within
audit-requires-clause-within c it has same =
    let inside = c.loop-it.invariant.within it has in omega (arith, inside, c.in-Ok-start.ensures.size)
