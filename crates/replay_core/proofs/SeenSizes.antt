-- Memory has as many frames as its books have kinds.
use Rattle.std.proofs.Common.{◌≡◌, ℕ, ◌*◌, ◌/◌, Bool, List, length, sym, ap, ◌∙◌}
use Rattle.phys_mem.specs.MaskedMemory.{is_book_frame, masked}
use Rattle.nk_body.specs.NestedRecord.{HoldsBooks, OwnState, books_in}

module _ (size : (hidden : ℕ → Bool) (m : List ℕ) → length (masked hidden m) ≡ length m) where
  size_is : (own : OwnState) (m : List ℕ) → HoldsBooks own m → length m ≡ 4096 * length (books_in own m).frames.kinds
  size_is own m held = sym (size (is_book_frame (length m / 4096)) m) ∙ held.books.described.sound.size

  pub same_size : (before after : OwnState) (m n : List ℕ) → HoldsBooks before m → HoldsBooks after n
      → length (books_in after n).frames.kinds ≡ length (books_in before m).frames.kinds → length n ≡ length m
  same_size before after m n held later count =
      size_is after n later ∙ ap (λ k. 4096 * k) count ∙ sym (size_is before m held)
