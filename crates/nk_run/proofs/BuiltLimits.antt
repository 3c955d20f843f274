-- Files of exactly the most bytes, and an image that fills its memory exactly: what can be done with them is promised too.
use Rattle.std.proofs.Common.{◌≡◌, ◌/◌, ◌≤◌, ℕ, List, [], ◌∷◌, None, Some, Option, Result, Ok, length, subst, sym, true, arith}
use Rattle.std.specs.Prelude.{All, IsOk, IsSomeAnd}
use Rattle.std.proofs.lemmas.List.Elements.{All-cons, All-nil}
use Rattle.irq_plan.specs.PlanFile.{plan_of}
use Rattle.elf_image.specs.Pages.{is_executable}
use Rattle.elf_image.specs.Rows.{first_fault}
use Rattle.boot_map.specs.Division.{need}
use Rattle.gate_state.specs.MachineStates.{Opening}
use Rattle.asm_text.specs.AssembledText.{assembled_of}
use Rattle.replay_core.specs.ReplayedCalls.{replay_of}
use Rattle.code_modules.specs.ModuleList.{Listed, list_of}
use Rattle.command_words.specs.declared.command_line.Role.TheVariants.{Input, ModuleList, Plan}
use Rattle.command_words.specs.CommandLine.{name_in}
use Rattle.file_scan.specs.ShelfChanges.{Files}
use Rattle.nk_run.specs.Clauses.{HasCodeAt, HasModules, HasOutside, HasRoom, IsGoodJournal, IsGoodList, IsGoodPlan, IsGoodText}
use Rattle.nk_run.specs.Outcome.{join_in, modules_named, opened}

module _ (b : List ℕ) (is : length b ≡ 67108864) where
  longest_image : (address : ℕ) → first_fault b ≡ None → is_executable b (address / 4096) ≡ true → HasCodeAt address b
  longest_image address formed code = record { within = omega (arith, is); formed = formed; code = code }

  longest_text : IsOk (assembled_of b) → IsGoodText b
  longest_text coded = record { within = omega (arith, is); coded = coded }

  longest_plan : IsOk (plan_of b) → IsGoodPlan b
  longest_plan formed = record { within = omega (arith, is); formed = formed }

  longest_journal : (o : Opening) → (replay_of b (opened o)).bad ≡ None → IsGoodJournal o b
  longest_journal o right = record { within = omega (arith, is); right = right }

  longest_list : IsOk (list_of b) → IsGoodList b
  longest_list formed = record { within = omega (arith, is); formed = formed }

  longest_input : (words : List (List ℕ)) (files : Files) → files (name_in words Input) ≡ Some b
      → IsSomeAnd (files (name_in words Plan)) IsGoodPlan → HasOutside words files
  longest_input words files held plan = (
    subst (λ (f : Option (List ℕ)). IsSomeAnd f (λ input. length input ≤ 67108864)) (sym held) (omega (arith, is)),
    plan,
  )

-- an image whose need is the whole memory
full_memory : (b : List ℕ) (frames : ℕ) → need b frames ≡ frames → HasRoom frames b
full_memory b frames is = omega (arith, is)

-- a list of one module, of exactly the most bytes of a module
longest_module : (words : List (List ℕ)) (files : Files) (module_listed : Listed) (file : List ℕ) → length file ≡ 1048576
    → modules_named files words ≡ module_listed ∷ [] → files module_listed.name ≡ Some file
    → IsSomeAnd (files (name_in words ModuleList)) IsGoodList → IsOk (join_in files words) → HasModules words files
longest_module words files module_listed file is named held list joined =
    let IsHeld : Listed → Type 0 = λ it. IsSomeAnd (files it.name) (λ m. length m ≤ 1048576) in
    let one : IsHeld module_listed =
    subst (λ (f : Option (List ℕ)). IsSomeAnd f (λ m. length m ≤ 1048576)) (sym held) (omega (arith, is)) in
    record {
      list = list;
      held = subst (All IsHeld) (sym named) (All-cons IsHeld module_listed [] one (All-nil IsHeld));
      joined = joined;
    }
