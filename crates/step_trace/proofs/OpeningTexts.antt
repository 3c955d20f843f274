-- The parts of the opening's text: frames, and bytes between two places.
use Rattle.std.proofs.Common.{◌≡◌, ℕ, zero, suc, ◌+◌, ◌-◌, ◌/◌, ◌<◌, ◌≤◌, List, [], ◌∷◌, ◌++◌, length, take, drop, sym, ap, ◌∙◌, refl, append_assoc, append-nil, arith}
use Rattle.std.proofs.lemmas.List.{drop_more}
use Rattle.hex.specs.Hex.{encode_lower}
use Rattle.phys_mem.specs.Memory.{byte_at, frame_bytes}
use Rattle.step_trace.specs.StepTexts.{bytes_text, frame_text, frames_text, memory_text}
use Rattle.step_trace.proofs.TextsBehind.{byte_first, no_byte}

-- the frames of memory, and those behind so many of them
frames_parted : (k n total f : ℕ) (m : List ℕ) → total ≡ k + n
    → frames_text total f m ≡ frames_text k f m ++ frames_text n (f + k) m
frames_parted zero n total f m is =
    let all : total ≡ n = omega arith in
    let here : f ≡ f + zero = omega arith in
    ap (λ t. frames_text t f m) all ∙ ap (λ g. frames_text n g m) here
frames_parted (suc k) n zero f m is = absurd (omega arith)
frames_parted (suc k) n (suc total) f m is =
    let less : total ≡ k + n = omega arith in
    let further : suc f + k ≡ f + suc k = omega arith in
    ap (λ l. frame_text f (frame_bytes m f) ++ l)
    (frames_parted k n total (suc f) m less ∙ ap (λ g. frames_text k (suc f) m ++ frames_text n g m) further)
    ∙ sym (append_assoc (frame_text f (frame_bytes m f)) (frames_text k (suc f) m) (frames_text n (f + suc k) m))

-- one frame more
pub frame_more : (k : ℕ) (m : List ℕ) → frames_text k 0 m ++ frame_text k (frame_bytes m k) ≡ frames_text (k + 1) 0 m
frame_more k m =
    let here : 0 + k ≡ k = omega arith in
    sym (frames_parted k 1 (k + 1) 0 m refl
    ∙ ap (λ g. frames_text k 0 m ++ (frame_text g (frame_bytes m g) ++ [])) here
    ∙ ap (λ l. frames_text k 0 m ++ l) (append-nil (frame_text k (frame_bytes m k))))

-- what stands behind a frame
abbrev pub frames_behind : ℕ → List ℕ → List ℕ
frames_behind k m = frames_text (length m / 4096 - (k + 1)) (0 + (k + 1)) m

-- the frames before one, that one, and those behind it
pub frames_with : (k : ℕ) (m : List ℕ) → k < length m / 4096
    → (frames_text k 0 m ++ frame_text k (frame_bytes m k)) ++ frames_behind k m ≡ memory_text m
frames_with k m below =
    ap (λ l. l ++ frames_behind k m) (frame_more k m)
    ∙ sym (frames_parted (k + 1) (length m / 4096 - (k + 1)) (length m / 4096) 0 m (omega arith))

-- the bytes from a place on begin with the byte there
bytes_from : (m : List ℕ) (place end : ℕ) → place < end → end ≤ length m
    → take (end - place) (drop place m) ≡ byte_at m place ∷ take (end - (place + 1)) (drop (place + 1) m)
bytes_from m place end below inside =
    let count : end - place ≡ suc (end - (place + 1)) = omega arith in
    ap (λ n. take n (drop place m)) count
    ∙ ap (λ l. take (suc (end - (place + 1))) l) (drop_more m place 0 (omega arith))

-- and so do their digits
pub place_first : (m : List ℕ) (place end : ℕ) → place < end → end ≤ length m
    → encode_lower (take (end - place) (drop place m))
    ≡ encode_lower (byte_at m place ∷ []) ++ encode_lower (take (end - (place + 1)) (drop (place + 1) m))
place_first m place end below inside =
    ap encode_lower (bytes_from m place end below inside)
    ∙ byte_first (byte_at m place ∷ take (end - (place + 1)) (drop (place + 1) m)) 0 (omega arith)

-- at the end are none
pub no_place : (m : List ℕ) (place end : ℕ) → end ≤ place → encode_lower (take (end - place) (drop place m)) ≡ []
no_place m place end past =
    let none : end - place ≡ 0 = omega arith in
    ap (λ n. encode_lower (take n (drop place m))) none ∙ no_byte [] 0 (omega arith)

-- where there are bytes their text is their digits
pub bytes_shown : (m : List ℕ) (place end : ℕ) → place < end → end ≤ length m
    → encode_lower (take (end - place) (drop place m)) ≡ bytes_text (take (end - place) (drop place m))
bytes_shown m place end below inside =
    ap encode_lower (bytes_from m place end below inside) ∙ sym (ap bytes_text (bytes_from m place end below inside))
