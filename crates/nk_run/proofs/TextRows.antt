-- What the checks of `asm` and of `list` say of their outcomes.
use Rattle.std.proofs.Common.{◌≡◌, ℕ, ◌/◌, List, [], ◌∷◌, Bool, true, Option, Some, Result, Ok, refl, sym, ap, ◌∙◌}
use Rattle.nk_host.specs.Told.{IfTold}
use Rattle.elf_image.specs.Pages.{is_executable}
use Rattle.report_text.specs.ListingLines.{code_listing}
use Rattle.asm_text.specs.AssembledText.{assembled_of}
use Rattle.command_words.specs.declared.command_line.Role.TheVariants.{Image, Text}
use Rattle.command_words.specs.declared.command_line.Command.TheVariants.{Assemble, Listing}
use Rattle.command_words.specs.CommandLine.{command_of}
use Rattle.file_scan.specs.ShelfChanges.{Change, Files, ShelfState}
use Rattle.nk_run.specs.Outcome.{Check, addressed, assembled, code_in, file_in, first_verdict, formed_checks, outcome, passes, test, text_checks, unless_ended}
use Rattle.nk_run.specs.Replies.{CommandSays, RefusesBy, Stops}
use Rattle.nk_run.proofs.Rows.{all_says, first_stops, formed_stops, later_says, outcome_says, own_ten, own_zero, row_says}
use Rattle.nk_run.proofs.RunRows.{last_ends}
use Rattle.nk_run.proofs.Told.{if_told, told_at}

module _ (words : List (List ℕ)) (asked : command_of words ≡ Some Assemble) where
  abbrev text_row : Files → List Check
  text_row files = text_checks files words

  abbrev no_more : Files → List Check
  no_more files = []

  pub text_row_says : (shelf : Change ShelfState) (status : ℕ) (text : List ℕ)
      → Stops words shelf Text (λ files. first_verdict (text_checks files words)) status text
      → CommandSays words shelf status text
  text_row_says shelf status text stops =
      row_says words Assemble asked text_row no_more (λ files. refl) (λ e. cc) shelf status text
      (first_stops words shelf Text (λ files. test (assembled (assembled_of (file_in files words Text))) ∷ []) status text refl stops)

  -- each line has code, and that is the outcome's text
  pub code_says : (shelf : Change ShelfState) (code : List ℕ)
      → IfTold shelf.before.files (λ files. (assembled_of (file_in files words Text) ≡ Ok code)
      × (first_verdict (text_checks files words) ≡ passes))
      → CommandSays words shelf 0 code
  code_says shelf code made =
      outcome_says words Assemble asked text_row no_more (λ files. refl) (λ e. cc) shelf 0 code own_zero
      (if_told shelf.before.files _ (λ files e.
      let it = told_at shelf.before.files _ files e made in
      all_says words Assemble asked text_row no_more (λ files. refl) (λ e. cc) files it.1 refl
      ∙ ap (λ (c : Result (List ℕ) ℕ). Some (record { status = 0; text = code_in c })) it.0))

module _ (words : List (List ℕ)) (address count : ℕ) (asked : command_of words ≡ Some (Listing address count)) where
  abbrev formed_row : Files → List Check
  formed_row files = formed_checks files words

  abbrev address_last : Files → List Check
  address_last files = test (addressed (is_executable (file_in files words Image) (address / 4096)) address) ∷ []

  pub formed_row_says : (shelf : Change ShelfState) (status : ℕ) (text : List ℕ)
      → Stops words shelf Image (λ files. first_verdict (formed_checks files words)) status text
      → CommandSays words shelf status text
  formed_row_says shelf status text stops =
      row_says words (Listing address count) asked formed_row address_last (λ files. refl) (λ e. cc) shelf status text
      (formed_stops words shelf status text stops)

  pub listed_says : (shelf : Change ShelfState) (text : List ℕ)
      → IfTold shelf.before.files (λ files. outcome words files ≡ Some (record { status = 0; text = text })) → CommandSays words shelf 0 text
  listed_says shelf text is =
      outcome_says words (Listing address count) asked formed_row address_last (λ files. refl) (λ e. cc) shelf 0 text own_zero is

  -- where the checks on the image pass on what is told
  module _ (told : Option Files) (image : List ℕ) (passed : IfTold told (λ files. (image ≡ file_in files words Image)
      × (first_verdict (formed_checks files words) ≡ passes))) where
    -- no code stands at the address
    pub noaddress_says : (shelf : Change ShelfState) (status : ℕ) (text : List ℕ) → shelf.before.files ≡ told
        → RefusesBy 10 (addressed (is_executable image (address / 4096)) address) status text → CommandSays words shelf status text
    noaddress_says shelf status text same refuses =
        later_says words (Listing address count) asked formed_row address_last (λ files. refl) (λ e. cc)
        shelf 10 status text (addressed (is_executable image (address / 4096)) address) own_ten
        (if_told shelf.before.files _ (λ files e.
        let it = told_at told _ files (sym same ∙ e) passed in (
          it.1,
          λ answer is. last_ends _ passes answer
              (ap (λ (b : List ℕ). addressed (is_executable b (address / 4096)) address) (sym it.0) ∙ is),
        ))) refuses

    -- some does, and the text is the listing from there on
    pub listing_is : is_executable image (address / 4096) ≡ true
        → IfTold told (λ files. outcome words files ≡ Some (record { status = 0; text = code_listing image address count }))
    listing_is code =
        if_told told _ (λ files e.
        let it = told_at told _ files e passed in
        all_says words (Listing address count) asked formed_row address_last (λ files. refl) (λ e. cc) files it.1
        (ap (λ (b : List ℕ). unless_ended (addressed (is_executable b (address / 4096)) address) passes) (sym it.0)
        ∙ ap (λ (c : Bool). unless_ended (addressed c address) passes) code)
        ∙ ap (λ (b : List ℕ). Some (record { status = 0; text = code_listing b address count })) (sym it.0))
