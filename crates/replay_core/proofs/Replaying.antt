-- A journal read line by line.
use Rattle.std.proofs.Common.{◌≡◌, ℕ, ◌+◌, ◌==◌, true, List, [], ◌∷◌, length, refl, sym, ap, ◌∙◌}
use Rattle.std.proofs.lemmas.Bool.{eqb-true}
use Rattle.std.proofs.lemmas.List.{nil_from_length}
use Rattle.replay_core.specs.declared.calls.Step.{Step}
use Rattle.replay_core.specs.JournalLines.{heard_of}
use Rattle.replay_core.specs.ReplayedCalls.{WholeReplay, Replayed, replay_from, replay_of, stops_well, with_line}
use Rattle.replay_core.specs.ReplaySteps.{after_step}
use Rattle.text_lines.specs.TextLines.{lines, words}

pub begins : (journal : List ℕ) (s : Replayed) → replay_of journal s ≡ replay_from 1 (lines journal) s
unfolding replay_of
begins journal s = refl

reads_line : (number : ℕ) (line : List ℕ) (later : List (List ℕ)) (s : Replayed)
    → replay_from number (line ∷ later) s ≡ with_line number s (heard_of (words line)) (replay_from (number + 1) later)
unfolding replay_from
reads_line number line later s = refl

reads_nothing : (number : ℕ) (s : Replayed) → replay_from number [] s ≡ stops_well s
unfolding replay_from
reads_nothing number s = refl

-- the rest of a journal, whose first line is at hand, and what was done of that
pub next_line : (whole : WholeReplay) (number : ℕ) (before after : Replayed) (rest line behind : List ℕ) (step : Step)
    → whole ≡ replay_from number (lines rest) before → lines rest ≡ line ∷ lines behind
    → ((number : ℕ) (later : Replayed → WholeReplay)
    → with_line number before (heard_of (words line)) later ≡ after_step step number after later)
    → whole ≡ after_step step number after (replay_from (number + 1) (lines behind))
next_line whole number before after rest line behind step so_far first done =
    so_far ∙ ap (λ ls. replay_from number ls before) first ∙ reads_line number line (lines behind) before
    ∙ done number (replay_from (number + 1) (lines behind))

-- behind the last line
pub no_line : (whole : WholeReplay) (number : ℕ) (s : Replayed) (rest : List ℕ)
    → whole ≡ replay_from number (lines rest) s → true ≡ (length rest == 0) → whole ≡ stops_well s
no_line whole number s rest so_far empty =
    so_far ∙ ap (λ bytes. replay_from number (lines bytes) s) (nil_from_length rest (eqb-true _ 0 (sym empty)))
    ∙ reads_nothing number s
