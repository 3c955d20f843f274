-- Images that are admitted beside those of a run's own checks: made ones, and those that were joined with modules.
use Rattle.std.proofs.Common.{◌≡◌, ℕ, ◌<◌, ◌≤◌, List, None, refl, sym, ap, subst, ◌∙◌, lit≤}
use Rattle.std.specs.Prelude.{slice_index}
use Rattle.nk_host.specs.Files.{IsFileOfBytes}
use Rattle.elf_image.specs.Pages.{IsPageList, pages_of}
use Rattle.elf_image.specs.Rows.{first_fault}
use Rattle.byte_scanner.specs.FirstFound.{first_found}
use Rattle.byte_scanner.specs.ImageCode.{code_at}
use Rattle.byte_scanner.specs.LeastPlace.{IsNowhere}
use Rattle.boot_map.specs.Division.{IsLayout, division_of, need}
use Rattle.gate_state.specs.GuardedStates.{IsAdmitted}
use Rattle.gate_state.specs.MachineStates.{Opening}
use Rattle.image_maker.specs.MadeImage.{image_of_number}
use Rattle.code_modules.specs.JoinedImage.{IsJoined}
use Rattle.code_modules.specs.JoinedParts.{CodeModule}

module _ (pages_hold : (b : List ℕ) → first_fault b ≡ None → IsPageList b (pages_of b))
    (clean_holds : (b : List ℕ) → IsPageList b (pages_of b) → first_found b ≡ None → IsNowhere (code_at b)) where
  pub made_admitted : ((number i : ℕ) → slice_index (image_of_number number) i < 256)
      → ((number : ℕ) → number ≤ 100 → first_fault (image_of_number number) ≡ None)
      → ((number : ℕ) → number ≤ 100 → first_found (image_of_number number) ≡ None)
      → ((number : ℕ) → number ≤ 100 → need (image_of_number number) 4096 ≤ 4096)
      → (number : ℕ) → number ≤ 100 → IsAdmitted (record { image = image_of_number number; frames = 4096 })
  made_admitted bytes formed clean room number most =
      let image : List ℕ = image_of_number number in
      let pages : IsPageList image (pages_of image) = pages_hold image (formed number most) in
      record {
        bytes = bytes number;
        layout = record { division = refl; least = lit≤ tt; most = lit≤ tt; room = room number most };
        pages = pages;
        clean = clean_holds image pages (clean number most);
      }

  pub joined_admitted : (b : List ℕ) (modules : List CodeModule) (file : List ℕ) → IsJoined b modules file → IsFileOfBytes file
      → (o : Opening) → o.image ≡ file → IsLayout o.image (division_of o.image o.frames) → IsAdmitted o
  joined_admitted b modules file joined bytes o same layout =
      let form : first_fault o.image ≡ None = ap first_fault same ∙ joined.loaded.form in
      let pages : IsPageList o.image (pages_of o.image) = pages_hold o.image form in
      record {
        bytes = subst IsFileOfBytes (sym same) bytes;
        layout = layout;
        pages = pages;
        clean = clean_holds o.image pages (ap first_found same ∙ joined.clean);
      }
