-- The size of a region by the call that gave it, and the order of an audit's checks, at worked values.
use Rattle.std.proofs.Common.{◌≡◌, ◌≢◌, ℕ, List, [], ◌∷◌, Option, None, Some, refl, sym, ap, ◌∙◌, arith}
use Rattle.nk_bits.specs.declared.call.CallWords.{CallWords}
use Rattle.boot_map.specs.Division.{need}
use Rattle.nk_body.specs.Calls.{call_of}
use Rattle.command_words.specs.declared.command_line.Role.TheVariants.{Image}
use Rattle.command_words.specs.declared.command_line.Command.TheVariants.{Audit}
use Rattle.command_words.specs.CommandLine.{command_of}
use Rattle.file_scan.specs.ShelfChanges.{Files}
use Rattle.nk_run.specs.Lines.{journal_line, noregion_line}
use Rattle.nk_run.specs.Outcome.{Answer, Verdict, decided, ends, file_in, first_verdict, given, journal_checks, journaled, logged_size, outcome, passes, replay_in, roomy, size_in, test, text_of, unless_ended}
use Rattle.nk_run.proofs.Rows.{row_passed}

abbrev called : ℕ → ℕ → ℕ → Option CallWords
called number a b = Some (record { number = number; a = a; b = b; c = 100; d = 200 })

-- a call 7 with policy 4 has its size in its first argument; no other call and no other policy counts
sizes :
    (logged_size (called 7 64 4) ≡ Some 64) ×
    (logged_size (called 7 65536 4) ≡ Some 65536) ×
    (logged_size (called 7 64 1) ≡ None) ×
    (logged_size (called 7 64 2) ≡ None) ×
    (logged_size (called 7 64 3) ≡ None) ×
    (logged_size (called 7 4 64) ≡ None) ×
    (logged_size (called 6 64 4) ≡ None) ×
    (logged_size (called 9 256 4) ≡ None) ×
    (logged_size None ≡ None)
unfolding call_of
sizes = (refl, refl, refl, refl, refl, refl, refl, refl, refl)

other_status : (a b : Answer) → Some a ≡ Some b → a.status ≡ b.status
other_status a b e = cc

-- where the checks on the files and on the room pass, a line that isn't right is named before a region is looked for, and
-- without such a line the missing region is
module _ (words : List (List ℕ)) (files : Files) (frames id : ℕ) (asked : command_of words ≡ Some (Audit frames id))
    (held : first_verdict (journal_checks files words) ≡ passes)
    (room : roomy (need (file_in files words Image) frames) frames ≡ passes) where
  behind : (v : Verdict) → unless_ended (journaled (replay_in files words frames).bad) (unless_ended (given id (size_in files words id)) passes) ≡ v
      → outcome words files ≡ decided v (record { status = 0; text = text_of (Audit frames id) files words })
  behind v is =
      row_passed words (Audit frames id) asked (λ files. journal_checks files words)
      (λ files. test (roomy (need (file_in files words Image) frames) frames)
      ∷ test (journaled (replay_in files words frames).bad)
      ∷ test (given id (size_in files words id))
      ∷ []) (λ files. refl) (λ e. cc) files v held
      (ap (λ (u : Verdict). unless_ended u (unless_ended (journaled (replay_in files words frames).bad)
      (unless_ended (given id (size_in files words id)) passes))) room ∙ is)

  line_first : (number : ℕ) → (replay_in files words frames).bad ≡ Some number
      → outcome words files ≡ Some (record { status = 6; text = journal_line number })
  line_first number bad =
      behind (ends (record { status = 6; text = journal_line number }))
      (ap (λ (n : Option ℕ). unless_ended (journaled n) (unless_ended (given id (size_in files words id)) passes)) bad)

  then_region : (replay_in files words frames).bad ≡ None → size_in files words id ≡ None
      → outcome words files ≡ Some (record { status = 9; text = noregion_line id })
  then_region good missing =
      behind (ends (record { status = 9; text = noregion_line id }))
      (ap (λ (n : Option ℕ). unless_ended (journaled n) (unless_ended (given id (size_in files words id)) passes)) good
      ∙ ap (λ (n : Option ℕ). unless_ended (given id n) passes) missing)

  -- so the audit of a journal with a wrong line isn't done, whatever region is named
  line_passed : (number : ℕ) (text : List ℕ) → (replay_in files words frames).bad ≡ Some number
      → outcome words files ≢ Some (record { status = 0; text = text })
  line_passed number text bad done =
      let same : 0 ≡ 6 = other_status (record { status = 0; text = text }) (record { status = 6; text = journal_line number })
      (sym done ∙ line_first number bad) in
      omega (arith, same)
