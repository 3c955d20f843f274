-- Lines of calls that aren't right: each is the first bad line, whatever stands behind it.
use Rattle.std.proofs.Common.{◌≡◌, ◌∙◌, ℕ, true, false, Some, ap}
use Rattle.std.specs.Prelude.{if◌then◌else◌}
use Rattle.std.proofs.lemmas.Bool.{cond-true, cond-false}
use Rattle.replay_core.specs.JournalLines.{Noted}
use Rattle.replay_core.specs.ReplayedCalls.{WholeReplay, Replayed, is_answer_right, is_source_right, replayed, stops_at, with_noted}

-- a source that isn't the one that the record gives
other_source : (number : ℕ) (s : Replayed) (it : Noted) (later : Replayed → WholeReplay) → is_source_right s it ≡ false
    → (with_noted number s it later).bad ≡ Some number
other_source number s it later wrong =
    ap (λ (r : WholeReplay). r.bad) (cond-false (is_source_right s it)
    (if is_answer_right s it then later (replayed s it) else stops_at number (replayed s it)) (stops_at number s) wrong)

-- an answer or a place that isn't
other_answer : (number : ℕ) (s : Replayed) (it : Noted) (later : Replayed → WholeReplay) → is_source_right s it ≡ true
    → is_answer_right s it ≡ false → (with_noted number s it later).bad ≡ Some number
other_answer number s it later right wrong =
    ap (λ (r : WholeReplay). r.bad) (cond-true (is_source_right s it)
    (if is_answer_right s it then later (replayed s it) else stops_at number (replayed s it)) (stops_at number s) right
    ∙ cond-false (is_answer_right s it) (later (replayed s it)) (stops_at number (replayed s it)) wrong)
