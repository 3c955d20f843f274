use Rattle.std.proofs.Common.{◌≡◌, ◌+◌, ◌≤◌, ℕ, zero, suc, List, [], ◌∷◌, inl, inr, length, arith, subst}
use Rattle.std.specs.List.{Contains}
use Rattle.std.proofs.lemmas.List.Elements.{Contains-append_cases}
use Rattle.write_log.specs.LogBytes.{log_in}
use Rattle.write_log.specs.LogRecords.{LogRecord}
use Rattle.report_text_tests.proofs.audits.add.Goals as goal

only : (one it : LogRecord) → Contains (one ∷ []) it → one ≡ it
only one it (zero, low, e) = e
only one it (suc k, low, e) = absurd (omega (arith, low))

pub returns-clause-within : goal.returns-clause-within
returns-clause-within c it has =
    let log = log_in c.args.log.now c.args.mem.now in
    let one : LogRecord =
    record { region = c.args.it.now.region; offset = c.args.it.now.offset; bytes = c.args.it.now.bytes.now } in
    elim (Contains-append_cases log (one ∷ []) it (subst (λ l. Contains l it) c.add.ensures.added has)) [
      | inl old ↦ c.requires.within it old
      | inr last ↦
          let fits : one.offset + length one.bytes ≤ c.args.size = omega arith in
          subst (λ (it : LogRecord). it.offset + length it.bytes ≤ c.args.size) (only one it last) fits
    ]
