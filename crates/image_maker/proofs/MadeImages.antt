-- What holds of the image of each number up to 100.
use Rattle.std.proofs.Common.{◌≡◌, ℕ, ◌+◌, ◌≤◌, false, length, None, arith}
use Rattle.decode_fields.specs.Protected.{is_protected_at}
use Rattle.elf_image.specs.Elf.{segments}
use Rattle.elf_image.specs.Rows.{first_fault}
use Rattle.elf_image.specs.Pages.{page_count}
use Rattle.byte_scanner.specs.ImageCode.{code_at}
use Rattle.boot_map.specs.Division.{division_of, free_start, map_start, need, pages_start}
use Rattle.image_maker.specs.MadeImage.{direct_table, first_frame, image_of_number, script_pages, user_frame}
use Rattle.image_maker.proofs.MadeCode.{made_plain, nothing_protected}
use Rattle.image_maker.proofs.MadeFields.{made_headers, made_length}
use Rattle.image_maker.proofs.MadeRoom.{direct_is, need_is, user_is}
use Rattle.image_maker.proofs.MadeRows.{WrittenLaws, form_is, segments_are, segments_with}

pub made_within : (n : ℕ) → n ≤ 100 → length (image_of_number n) ≤ 67108864
made_within n most = omega (arith, made_length n)

module _ (laws : WrittenLaws) where
  made_segments : (n : ℕ) → n ≤ 100 → segments (image_of_number n) ≡ segments_with (script_pages n)
  made_segments n most = segments_are laws n most (image_of_number n) (made_headers n)

  pub made_formed : (n : ℕ) → n ≤ 100 → first_fault (image_of_number n) ≡ None
  made_formed n most = form_is laws n most (image_of_number n) (made_headers n)

  pub made_nowhere : (n : ℕ) → n ≤ 100 → (a : ℕ) → is_protected_at (code_at (image_of_number n)) a ≡ false
  made_nowhere n most = nothing_protected n most (image_of_number n) (made_segments n most) (made_plain n)

  pub made_room : (n : ℕ) → n ≤ 100 → need (image_of_number n) 4096 ≤ 4096
  made_room n most = omega (arith, need_is n most (image_of_number n) (made_segments n most))

  pub made_user : (n : ℕ) → n ≤ 100
      → pages_start (division_of (image_of_number n) 4096) + page_count (image_of_number n) ≡ user_frame n + 1
  made_user n most = user_is n most (image_of_number n) (made_segments n most)

  pub made_direct : (n : ℕ) → n ≤ 100 → map_start (division_of (image_of_number n) 4096) ≡ direct_table n
  made_direct n most = direct_is n most (image_of_number n) (made_segments n most)

  pub made_free : (n : ℕ) → n ≤ 100 → free_start (division_of (image_of_number n) 4096) ≡ first_frame n 0
  made_free n most = need_is n most (image_of_number n) (made_segments n most)
