-- The call that was answered with an identifier, looked for line by line.
use Rattle.std.proofs.Common.{◌≡◌, ℕ, ◌==◌, true, List, [], ◌∷◌, length, Option, None, refl, sym, ap, ◌∙◌}
use Rattle.std.specs.Prelude.{unwrap_or}
use Rattle.std.proofs.lemmas.Bool.{eqb-true}
use Rattle.std.proofs.lemmas.List.{nil_from_length}
use Rattle.nk_bits.specs.declared.call.CallWords.{CallWords}
use Rattle.replay_core.specs.GrantedCalls.{granted_by, granted_in, granted_of}
use Rattle.replay_core.specs.JournalLines.{heard_of}
use Rattle.text_lines.specs.TextLines.{lines, words}

pub begins : (journal : List ℕ) (id : ℕ) → granted_of journal id ≡ granted_in id (lines journal)
unfolding granted_of
begins journal id = refl

reads_line : (id : ℕ) (line : List ℕ) (later : List (List ℕ))
    → granted_in id (line ∷ later) ≡ granted_by id (heard_of (words line)) (granted_in id later)
unfolding granted_in
reads_line id line later = refl

reads_nothing : (id : ℕ) → granted_in id [] ≡ None
unfolding granted_in
reads_nothing id = refl

-- the rest of a journal, whose first line is at hand, and what that settles
pub next_line : (whole : Option CallWords) (id : ℕ) (rest line behind : List ℕ) (settled : Option (Option CallWords))
    → whole ≡ granted_in id (lines rest) → lines rest ≡ line ∷ lines behind
    → ((later : Option CallWords) → granted_by id (heard_of (words line)) later ≡ unwrap_or settled later)
    → whole ≡ unwrap_or settled (granted_in id (lines behind))
next_line whole id rest line behind settled so_far first done =
    so_far ∙ ap (granted_in id) first ∙ reads_line id line (lines behind) ∙ done (granted_in id (lines behind))

-- behind the last line
pub no_line : (whole : Option CallWords) (id : ℕ) (rest : List ℕ) → whole ≡ granted_in id (lines rest)
    → true ≡ (length rest == 0) → whole ≡ None
no_line whole id rest so_far empty =
    so_far ∙ ap (λ (bytes : List ℕ). granted_in id (lines bytes)) (nil_from_length rest (eqb-true (length rest) 0 (sym empty)))
    ∙ reads_nothing id
