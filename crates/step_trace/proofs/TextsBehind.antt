-- Texts put behind one another, part by part.
use Rattle.std.proofs.Common.{◌≡◌, ℕ, ◌+◌, ◌<◌, ◌≤◌, List, [], ◌∷◌, ◌++◌, drop, length, slice_index, sym, ap, ◌∙◌, append_assoc, append-nil}
use Rattle.std.proofs.lemmas.List.{drop_all}
use Rattle.hex.specs.Hex.{encode_lower, encode_with, lower_digits}
use Rattle.hex.proofs.Pairs.{encode_with-drop}

-- a part behind what stands, and the rest behind it
pub part_behind : (now next part rest whole : List ℕ) → now ++ (part ++ rest) ≡ whole → next ≡ now ++ part
    → next ++ rest ≡ whole
part_behind now next part rest whole left put =
    ap (λ l. l ++ rest) put ∙ append_assoc now part rest ∙ left

-- no part is left
pub none_left : (now rest whole : List ℕ) → now ++ rest ≡ whole → rest ≡ [] → now ≡ whole
none_left now rest whole left none = sym (append-nil now) ∙ ap (λ l. now ++ l) (sym none) ∙ left

-- the digits of the bytes from a place on begin with those of the byte there
pub byte_first : (bytes : List ℕ) (i : ℕ) → i < length bytes
    → encode_lower (drop i bytes) ≡ encode_lower (slice_index bytes i ∷ []) ++ encode_lower (drop (i + 1) bytes)
unfolding encode_with
byte_first bytes i h = encode_with-drop lower_digits bytes i h

-- and at the end are none
pub no_byte : (bytes : List ℕ) (i : ℕ) → length bytes ≤ i → encode_lower (drop i bytes) ≡ []
unfolding encode_with
no_byte bytes i h = ap encode_lower (drop_all i bytes h)
