-- What the scan of the image's file says of the outcome.
use Rattle.std.proofs.Common.{◌≡◌, ◌<◌, ◌≤◌, ℕ, inl, inr, List, [], length, Option, Some, None, IsSomeAnd, Contains, arith, refl, sym, ap, subst, ◌∙◌}
use Rattle.std.proofs.lemmas.Bool.{le-ltb, lt-ltb}
use Rattle.std.specs.Prelude.{unwrap_or}
use Rattle.elf_image.specs.Pages.{entry_of, executable_page_count}
use Rattle.elf_image.specs.Rows.{first_fault}
use Rattle.byte_scanner.specs.FirstFound.{first_found}
use Rattle.report_text.specs.ImageLines.{admitted_line}
use Rattle.command_words.specs.declared.command_line.Role.TheVariants.{Image}
use Rattle.command_words.specs.declared.command_line.Command.{Command}
use Rattle.command_words.specs.declared.command_line.Command.TheVariants.{Scan}
use Rattle.command_words.specs.CommandLine.{command_of, name_in, roles_of}
use Rattle.file_scan.specs.declared.pieces.Stop.{Stop}
use Rattle.file_scan.specs.declared.pieces.Stop.TheVariants.{Faulty, Longer, Protected, Unread, Want}
use Rattle.file_scan.specs.HeldFile.{OfFile}
use Rattle.file_scan.specs.GoodImages.{longest_file}
use Rattle.file_scan.specs.ScanStops.{HasFault, HasFound, IsGoodWith, IsStop}
use Rattle.file_scan.specs.ShelfChanges.{Change, Files, ShelfState}
use Rattle.nk_run.specs.Lines.{longer_line}
use Rattle.nk_run.specs.Outcome.{Answer, IsReached, Verdict, checks_of, clean, decided, ends, fetch_verdict, first_verdict, formed, image_checks, outcome, command_outcome, passes, text_of, unless_ended}
use Rattle.nk_run.specs.Replies.{CommandSays, IsOwn}
use Rattle.nk_run.specs.ScanReplies.{IsReplyTo}
use Rattle.nk_run.proofs.Rows.{own_zero, some_is}
use Rattle.nk_run.proofs.Told.{if_told, told_at}

pub own_one : (status : ℕ) → status ≡ 1 → IsOwn status
own_one status e = record {
  small = omega (arith, e);
  not_usage = λ h. omega (arith, e, h);
  not_unread = λ h. omega (arith, e, h);
  not_cut = λ h. omega (arith, e, h);
  not_want = λ h. omega (arith, e, h);
}

own_seven : (status : ℕ) → status ≡ 7 → IsOwn status
own_seven status e = record {
  small = omega (arith, e);
  not_usage = λ h. omega (arith, e, h);
  not_unread = λ h. omega (arith, e, h);
  not_cut = λ h. omega (arith, e, h);
  not_want = λ h. omega (arith, e, h);
}

some_and : (o : Option (List ℕ)) (P : List ℕ → Type 0) → IsSomeAnd o P → (b : List ℕ) × (o ≡ Some b) × P b
some_and None P h = absurd h
some_and (Some b) P h = (b, refl, h)

module _ (words : List (List ℕ)) (asked : command_of words ≡ Some Scan) where
  -- the checks on the image decide
  decides : (files : Files) (v : Verdict) → first_verdict (image_checks files words) ≡ v
      → outcome words files ≡ decided v (record { status = 0; text = text_of Scan files words })
  decides files v is =
      let answer : Answer = record { status = 0; text = text_of Scan files words } in
      ap (λ (o : Option Command). command_outcome o words files) asked ∙ ap (λ (u : Verdict). decided u answer) is

  module _ (files : Files) (b : List ℕ) (held : files (name_in words Image) ≡ Some b) where
    on_bytes : first_verdict (image_checks files words)
        ≡ unless_ended (fetch_verdict Image (Some b)) (unless_ended (formed (first_fault b)) (unless_ended (clean (first_found b)) passes))
    on_bytes =
        let row : Option (List ℕ) → Verdict = λ o.
        unless_ended (fetch_verdict Image o) (unless_ended (formed (first_fault (unwrap_or o [])))
        (unless_ended (clean (first_found (unwrap_or o []))) passes)) in
        ap row held

    is_longer : longest_file < length b
        → first_verdict (image_checks files words) ≡ ends (record { status = 7; text = longer_line Image })
    is_longer more = on_bytes ∙ rw (lt-ltb longest_file (length b) more) refl

    is_fetched : length b ≤ longest_file → fetch_verdict Image (Some b) ≡ passes
    is_fetched within = rw (le-ltb longest_file (length b) within) refl

    is_faulty : (fault : _) → HasFault fault b → first_verdict (image_checks files words) ≡ unless_ended (formed (Some fault)) (unless_ended (clean (first_found b)) passes)
    is_faulty fault has = on_bytes ∙ rw (is_fetched has.within, has.first) refl

    is_protected : (found : _) → HasFound found b → first_verdict (image_checks files words) ≡ unless_ended (clean (Some found)) passes
    is_protected found has = on_bytes ∙ rw (is_fetched has.within, has.formed, has.first) refl

    is_good : (entry pages : ℕ) → IsGoodWith entry pages b
        → outcome words files ≡ Some (record { status = 0; text = admitted_line entry pages })
    is_good entry pages has =
        let first : first_verdict (image_checks files words) ≡ passes =
        on_bytes ∙ rw (is_fetched has.good.within, has.good.formed, has.good.clean) refl in
        let shown : Option (List ℕ) → Option Answer = λ o.
        Some (record { status = 0; text = admitted_line (entry_of (unwrap_or o [])) (executable_page_count (unwrap_or o [])) }) in
        decides files passes first ∙ ap shown held ∙ rw (has.entry_is, has.pages_are) refl

  -- what is known of the file is known of the outcome
  of_outcome : (shelf : Change ShelfState) (P : List ℕ → Type 0) (answer : Answer)
      → ((files : Files) (b : List ℕ) → files (name_in words Image) ≡ Some b → P b → outcome words files ≡ Some answer)
      → OfFile shelf.before.files (name_in words Image) P → IsOwn answer.status → CommandSays words shelf answer.status answer.text
  of_outcome shelf P answer so known own = inr (inr (record {
    asked = some_is (command_of words) _ asked;
    outcome_is = if_told shelf.before.files _ (λ files e.
        let (b, held, is) = some_and (files (name_in words Image)) P (told_at shelf.before.files _ files e known) in so files b held is);
    own = own;
  }))

  pub good_says : (shelf : Change ShelfState) (name : List ℕ) (entry pages : ℕ) (text : List ℕ) → name ≡ name_in words Image
      → text ≡ admitted_line entry pages → OfFile shelf.before.files name (IsGoodWith entry pages) → CommandSays words shelf 0 text
  good_says shelf name entry pages text named is known =
      let P : List ℕ → Type 0 = λ n. OfFile shelf.before.files n (IsGoodWith entry pages) in
      subst (CommandSays words shelf 0) (sym is)
      (of_outcome shelf (IsGoodWith entry pages) (record { status = 0; text = admitted_line entry pages })
      (λ files b held has. is_good files b held entry pages has) (subst P named known) own_zero)

  unread_says : (shelf : Change ShelfState) (status : ℕ) (text : List ℕ) → IsStop shelf (name_in words Image) Unread
      → IsReplyTo Unread status text → CommandSays words shelf status text
  unread_says shelf status text rose reply = inl (record {
    role = Image;
    unread = record {
      asked = let P : Option Command → Type 0 = λ o. IsSomeAnd o (λ command. Contains (roles_of command) Image) in
          subst P (sym asked) (0, omega arith, refl);
      rose = (name_in words Image, refl, rose);
      reached = if_told shelf.before.files _ (λ files e.
          let P : Option Command → Type 0 = λ o. IsSomeAnd o (λ command. IsReached Image (checks_of command files words)) in
          subst P (sym asked) (inl refl));
    };
    status_is = reply.0;
    text_is = reply.1;
  })

  says_of : (stop : Stop) (shelf : Change ShelfState) (status : ℕ) (text : List ℕ)
      → IsStop shelf (name_in words Image) stop → IsReplyTo stop status text → CommandSays words shelf status text
  says_of Unread shelf status text rose reply = unread_says shelf status text rose reply
  says_of Want shelf status text rose reply = inr (inl (record {
    asked = some_is (command_of words) _ asked;
    want = reply;
    counted = λ scan. rose;
  }))
  says_of Longer shelf status text known reply =
      of_outcome shelf (λ b. longest_file < length b) (record { status = status; text = text })
      (λ files b held more. decides files _ (is_longer files b held more) ∙ rw (reply.0, reply.1) refl) known (own_seven status reply.0)
  says_of (Faulty fault) shelf status text known reply =
      let answer : Answer = record { status = status; text = text } in
      of_outcome shelf (HasFault fault) answer
      (λ files b held has. decides files (ends answer) (is_faulty files b held fault has
      ∙ ap (λ (v : Verdict). unless_ended v (unless_ended (clean (first_found b)) passes)) reply.0)) known (own_one status reply.1)
  says_of (Protected found) shelf status text known reply =
      let answer : Answer = record { status = status; text = text } in
      of_outcome shelf (HasFound found) answer
      (λ files b held has. decides files (ends answer) (is_protected files b held found has
      ∙ ap (λ (v : Verdict). unless_ended v passes) reply.0)) known.2 (own_one status reply.1)

  pub stop_says : (stop : Stop) (shelf : Change ShelfState) (name : List ℕ) (status : ℕ) (text : List ℕ) → name ≡ name_in words Image
      → IsStop shelf name stop → IsReplyTo stop status text → CommandSays words shelf status text
  stop_says stop shelf name status text named why reply =
      let P : List ℕ → Type 0 = λ n. IsStop shelf n stop in says_of stop shelf status text (subst P named why) reply
