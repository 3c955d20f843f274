-- Stores in one frame that is none of the books': what is seen of them, and that no book changes.
use Rattle.std.proofs.Common.{◌≡◌, ◌≢◌, ℕ, ◌+◌, ◌/◌, ◌<◌, ◌≤◌, Bool, true, false, List, length, arith, sym, ap, ◌∙◌}
use Rattle.std.specs.List.{All}
use Rattle.std.proofs.lemmas.Bool.{and_from, le-leb, lt-ltb, true≢false}
use Rattle.std.proofs.lemmas.List.Elements.{All-weaker}
use Rattle.phys_mem.specs.MaskedMemory.{is_book_frame}
use Rattle.phys_mem.specs.Memory.{byte_at}
use Rattle.page_desc.specs.DescriptorBytes.{HoldsDescriptors}

-- the frames between those of the journal and those of descriptors are the books'
book_between : (frames p : ℕ) → 0x1A000 ≤ p → p < 0x40000 → is_book_frame frames (p / 4096) ≡ true
unfolding is_book_frame
book_between frames p low high =
    and_from _ _ (le-leb 26 (p / 4096) (omega (arith, low))) (lt-ltb (p / 4096) (64 + (frames + 255) / 256) (omega (arith, high)))

-- the number of frames is that of the mask
pub frames_seen : (frames frame : ℕ) (m : List ℕ) → HoldsDescriptors frames m → is_book_frame frames frame ≡ false
    → is_book_frame (length m / 4096) frame ≡ false
frames_seen frames frame m held shown =
    let count : length m / 4096 ≡ frames = omega (arith, held.size) in
    ap (λ k. is_book_frame k frame) count ∙ shown

module _ (frames frame : ℕ) (m n : List ℕ) (shown : is_book_frame frames frame ≡ false)
    (apart : (p : ℕ) → p / 4096 ≢ frame → byte_at n p ≡ byte_at m p) where
  pub books_stay : (p : ℕ) → is_book_frame frames (p / 4096) ≡ true → byte_at n p ≡ byte_at m p
  books_stay p book = apart p (λ is. true≢false (sym book ∙ ap (is_book_frame frames) is ∙ shown))

  pub others_stay : (p : ℕ) → 0x1A000 ≤ p → p < 0x40000 → byte_at n p ≡ byte_at m p
  others_stay p low high = books_stay p (book_between frames p low high)

-- stores in one frame, by their places
pub stores_shown : (hidden : ℕ → Bool) (frame : ℕ) (ws : List (ℕ × ℕ)) → hidden frame ≡ false → All (λ w. w.0 / 4096 ≡ frame) ws
    → All (λ w. hidden (w.0 / 4096) ≡ false) ws
stores_shown hidden frame ws shown here =
    All-weaker (λ (w : ℕ × ℕ). w.0 / 4096 ≡ frame) (λ (w : ℕ × ℕ). hidden (w.0 / 4096) ≡ false) (λ w is. ap hidden is ∙ shown) ws here

pub stores_apart : (frame p : ℕ) (ws : List (ℕ × ℕ)) → p / 4096 ≢ frame → All (λ w. w.0 / 4096 ≡ frame) ws → All (λ w. w.0 ≢ p) ws
stores_apart frame p ws apart here =
    All-weaker (λ (w : ℕ × ℕ). w.0 / 4096 ≡ frame) (λ (w : ℕ × ℕ). w.0 ≢ p) (λ w is same. apart (ap (λ q. q / 4096) (sym same) ∙ is)) ws here
