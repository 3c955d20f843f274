-- Premises of the top call's promises, built at concrete values, and answers that the promises then refuse: a promise
-- whose premise nothing meets says nothing.
use Rattle.std.proofs.Common.{◌≡◌, ◌≢◌, ◌≤◌, ◌⊎◌, ℕ, if◌then◌else◌, List, [], ◌∷◌, length, None, Some, codes, lit≤, refl, inl, inr, arith}
use Rattle.std.specs.Str.{bytes_eq}
use Rattle.nk_host.specs.FaultCounts.{RoseTo}
use Rattle.elf_image.specs.Rows.{first_fault}
use Rattle.byte_scanner.specs.FirstFound.{first_found}
use Rattle.boot_map.specs.Division.{need}
use Rattle.image_maker.specs.MadeImage.{image_of_number}
use Rattle.irq_plan.specs.PlanFile.{plan_of, read_from}
use Rattle.asm_text.specs.AssembledText.{code_from}
use Rattle.code_modules.specs.ModuleList.{list_from, list_of}
use Rattle.command_words.specs.declared.command_line.Role.{Role}
use Rattle.command_words.specs.declared.command_line.Command.TheVariants.{Make, Run}
use Rattle.command_words.specs.CommandLine.{command_of}
use Rattle.file_scan.specs.GoodImages.{IsGoodImage}
use Rattle.file_scan.specs.ShelfChanges.{Files}
use Rattle.nk_run.specs.Clauses.{IsDoable, IsFaultless, IsGoodList, IsGoodPlan, IsGoodText, NameRose, Promises, SinkRose}
use Rattle.nk_run.specs.Witness.{Witness}

-- counts of five, of faults of every name and of the sink, that stay; and a count of wants before and after
abbrev calm : List (List ℕ) → Files → ℕ → ℕ → Witness
calm words files before after = record {
  words = words;
  shelf = record {
    before = record { files = Some files; faults = λ name. 5; wants = before };
    after = record { files = Some files; faults = λ name. 5; wants = after };
  };
  sink = record { before = record { taken = None; faults = 5 }; after = record { taken = None; faults = 5 } };
}

unrisen : RoseTo 5 5 → ⊥
unrisen up = let rose : 6 ≤ 5 = up in omega (arith, rose)

module _ (words : List (List ℕ)) (files : Files) (before after : ℕ) where
  abbrev seen : Witness
  seen = calm words files before after

  -- there is no fault, whatever the words and the files are, and whether or not memory was wanting
  calm_is_faultless : IsFaultless seen
  calm_is_faultless = (
    λ (role : Role) asked (rose : NameRose words seen.shelf role). let (name, is, up) = rose in unrisen up,
    λ (up : SinkRose seen.sink). unrisen up,
  )

  -- so neither status 3 nor 4 is the answer
  unread_though_calm : Promises seen 3 → ⊥
  unread_though_calm it = let (role, asked, rose) = it.unread_by_count refl in calm_is_faultless.0 role asked rose

  cut_though_calm : Promises seen 4 → ⊥
  cut_though_calm it = calm_is_faultless.1 (it.cut_by_count refl)

-- nor 5 to `scan`, where memory wasn't wanting
want_though_calm : (files : Files) → Promises (calm (codes "scan" ∷ codes "a" ∷ []) files 5 5) 5 → ⊥
want_though_calm files it = unrisen (it.want_by_count refl refl)

-- a command that asks for no file can be done, and is: without a fault the answer is 0 or want of memory
module _ (files : Files) (status : ℕ) (it : Promises (calm (codes "make" ∷ codes "1" ∷ []) files 5 6) status) where
  abbrev words : List (List ℕ)
  words = codes "make" ∷ codes "1" ∷ []

  making : command_of words ≡ Some (Make 1)
  making = refl

  unfinished : status ≢ 0 → status ≢ 5 → ⊥
  unfinished other given =
      let ends : (status ≡ 0) ⊎ (status ≡ 5) = it.complete (calm_is_faultless words files 5 6) in
      elim ends [
        | inl done ↦ other done
        | inr want ↦ given want
      ]

  undone : status ≢ 0 → status ≢ 5 → ⊥
  undone other given =
      let ends : (status ≡ 0) ⊎ (status ≡ 5) = it.done tt (calm_is_faultless words files 5 6) in
      elim ends [
        | inl done ↦ other done
        | inr want ↦ given want
      ]

-- plans, texts and lists of modules that are good
empty_plan : IsGoodPlan []
unfolding plan_of read_from
empty_plan = record { within = lit≤ tt; formed = refl }

plan_of_one_event : IsGoodPlan (codes "5 irq 33\n")
unfolding plan_of read_from
plan_of_one_event = record { within = lit≤ tt; formed = refl }

empty_text : IsGoodText []
unfolding code_from
empty_text = record { within = lit≤ tt; coded = refl }

list_of_one_module : IsGoodList (codes "pack a\n")
unfolding list_of list_from
list_of_one_module = record { within = lit≤ tt; formed = refl }

-- a made image is good by what holds of each, and so its run can be done, without input and plan
module _ (number : ℕ) (within : length (image_of_number number) ≤ 67108864)
    (formed : first_fault (image_of_number number) ≡ None) (clean : first_found (image_of_number number) ≡ None)
    (room : need (image_of_number number) 4096 ≤ 4096) where
  good_image : IsGoodImage (image_of_number number)
  good_image = record { within = within; formed = formed; clean = clean }

  abbrev held : Files
  held name = if bytes_eq name (codes "a") then Some (image_of_number number) else Some []

  abbrev asked : List (List ℕ)
  asked = codes "run" ∷ codes "a" ∷ codes "b" ∷ codes "c" ∷ codes "0" ∷ codes "4096" ∷ []

  run_can_be_done : IsDoable (Run 0 4096) asked held
  run_can_be_done = ((good_image, room), (lit≤ tt, empty_plan))
