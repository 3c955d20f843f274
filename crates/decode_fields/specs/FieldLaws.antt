-- Prefix bytes and fields of any list of bytes, and of a longer one.
use Rattle.std.specs.Prelude.{◌≡◌, ◌≤◌, ◌/◌, ◌++◌, ◌∷◌, ℕ, List, length, drop, slice_get, true, false}
use Rattle.std.specs.List.{list_all}
use Rattle.decode_fields.specs.Immediates.{immediate_of}
use Rattle.decode_fields.specs.ModRm.{modrm_length, modrm_of}
use Rattle.decode_fields.specs.Prefixes.{is_prefix, prefix_bytes}
use Rattle.decode_fields.specs.Protected.{is_protected_at, length_at}

-- where the prefix bytes end
pub record PrefixesLaws : Type 0 where
  pub front : (bytes : List ℕ)
      → prefix_bytes bytes ++ drop (length (prefix_bytes bytes)) bytes ≡ bytes
  pub all : (bytes : List ℕ) → list_all is_prefix (prefix_bytes bytes) ≡ true
  pub ends : (bytes : List ℕ) (byte : ℕ) (more : List ℕ)
      → drop (length (prefix_bytes bytes)) bytes ≡ byte ∷ more → is_prefix byte ≡ false

-- more bytes change no field that is whole
pub record LongerLaws : Type 0 where
  pub prefixes : (front more : List ℕ) (byte : ℕ)
      → list_all is_prefix front ≡ true → is_prefix byte ≡ false
      → prefix_bytes (front ++ (byte ∷ more)) ≡ front
  pub modrm : (bytes more : List ℕ) (rex : ℕ) → modrm_length bytes ≤ length bytes
      → modrm_of (bytes ++ more) rex ≡ modrm_of bytes rex
  pub needed : (bytes more : List ℕ) → modrm_length (bytes ++ more) ≤ length bytes
      → modrm_length bytes ≡ modrm_length (bytes ++ more)
  pub immediate : (bytes more : List ℕ) (width : ℕ) → width / 8 ≤ length bytes
      → immediate_of (bytes ++ more) width ≡ immediate_of bytes width
  pub protected : (bytes more : List ℕ) (place : ℕ)
      → is_protected_at (slice_get bytes) place ≡ true
      → is_protected_at (slice_get (bytes ++ more)) place ≡ true
  pub protected_length : (bytes more : List ℕ) (place : ℕ)
      → is_protected_at (slice_get bytes) place ≡ true
      → length_at (slice_get (bytes ++ more)) place ≡ length_at (slice_get bytes) place
