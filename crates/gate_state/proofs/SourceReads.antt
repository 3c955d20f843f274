-- The source of a call, as it is read: so many bytes or none, each a byte of memory; the translations that it leaves.
use Rattle.std.proofs.Common.{◌≡◌, ℕ, zero, suc, ◌+◌, ◌/◌, ◌^◌, ◌<◌, Bool, true, false, List, [], ◌∷◌, ◌++◌, length, All, refl, sym, ap, ◌∙◌, arith}
use Rattle.std.specs.Prelude.{IfSome, Option, None, Some, if◌then◌else◌, nat_lt}
use Rattle.std.proofs.lemmas.Bool.{and_parts}
use Rattle.std.proofs.lemmas.List.{append-nil, append_assoc}
use Rattle.std.proofs.lemmas.List.Elements.{All-cons, All-nil}
use Rattle.nk_bits.specs.declared.control.Control.{Control}
use Rattle.nk_bits.specs.declared.leaf.Leaf.{Leaf}
use Rattle.nk_bits.specs.Accesses.{IsWalked}
use Rattle.nk_bits.specs.Claims.{AllPass, Claim}
use Rattle.nk_bits.specs.Paging.{is_canonical, page_of}
use Rattle.nk_bits.specs.Translations.{Translations, tlb_after, translation}
use Rattle.nk_bits.specs.TranslationLaws.{KeptLaws}
use Rattle.phys_mem.specs.Memory.{IsBytes, entry_in}
use Rattle.page_walk.specs.MemoryAccess.{view_of}
use Rattle.nk_body.specs.CallRules.{IsSourceOf, bytes_read}
use Rattle.gate_state.specs.SourceBytes.{SourceRead, byte_through, in_front, is_readable, kept_by, read_on, source_byte, source_through, source_read, source_tlb, source_with, tlb_by}

-- so many bytes
abbrev AreSo : ℕ → List ℕ → Type 0
AreSo n bytes = (length bytes ≡ n) × All (λ b. b < 256) bytes

-- one byte, where it was read
one_byte : (m : List ℕ) (va : ℕ) (found : Option Leaf) → IsBytes m → IfSome (byte_through m va found) (λ b. b < 256)
one_byte m va None are = tt
one_byte m va (Some leaf) are = are _

byte_small : (m : List ℕ) (root : ℕ) (tlb : Translations) (va : ℕ) → IsBytes m
    → IfSome (source_byte m root tlb va) (λ b. b < 256)
byte_small m root tlb va are = choice (is_readable va)
  where
    choice : (b : Bool) → IfSome (if b then byte_through m va (translation (entry_in m) (length m / 4096) root tlb (page_of va)) else None) (λ b. b < 256)
    choice true = one_byte m va (translation (entry_in m) (length m / 4096) root tlb (page_of va)) are
    choice false = tt

-- those behind it
front_so : (byte n : ℕ) (rest : Option (List ℕ)) → byte < 256 → IfSome rest (AreSo n)
    → IfSome (in_front byte rest) (AreSo (suc n))
front_so byte n None small are = tt
front_so byte n (Some bytes) small are = (omega (arith, are.0), All-cons (λ b. b < 256) byte bytes small are.1)

on_so : (n : ℕ) (found : Option ℕ) (tlb : Translations) (later : SourceRead) → IfSome found (λ b. b < 256)
    → IfSome later.bytes (AreSo n) → IfSome (read_on found tlb later).bytes (AreSo (suc n))
on_so n None tlb later small are = tt
on_so n (Some byte) tlb later small are = front_so byte n later.bytes small are

pub read_so : (m : List ℕ) (root : ℕ) (tlb : Translations) (va n : ℕ) → IsBytes m
    → IfSome (source_read m root tlb va n).bytes (AreSo n)
unfolding source_read
read_so m root tlb va zero are = (refl, All-nil (λ b. b < 256))
read_so m root tlb va (suc n) are =
    on_so n (source_byte m root tlb va) (source_tlb m root tlb va) (source_read m root (source_tlb m root tlb va) (va + 1) n)
    (byte_small m root tlb va are) (read_so m root (source_tlb m root tlb va) (va + 1) n are)

module _ (m : List ℕ) (root : ℕ) (are : IsBytes m) where
  -- what is read is what the call takes
  pub source_is : (tlb : Translations) (va : ℕ) (wanted : Option ℕ) → IsSourceOf wanted (source_through m root tlb va wanted)
  source_is tlb va None = refl
  source_is tlb va (Some count) = by_found (source_read m root tlb va count).bytes (read_so m root tlb va count are)
    where
      by_found : (found : Option (List ℕ)) → IfSome found (AreSo count) → IsSourceOf (Some count) (source_with found)
      by_found None so = tt
      by_found (Some bytes) so = so.0

  -- of bytes
  pub source_bytes : (tlb : Translations) (va : ℕ) (wanted : Option ℕ)
      → All (λ b. b < 256) (bytes_read (source_through m root tlb va wanted))
  source_bytes tlb va None = All-nil (λ b. b < 256)
  source_bytes tlb va (Some count) = by_found (source_read m root tlb va count).bytes (read_so m root tlb va count are)
    where
      by_found : (found : Option (List ℕ)) → IfSome found (AreSo count) → All (λ b. b < 256) (bytes_read (source_with found))
      by_found None so = All-nil (λ b. b < 256)
      by_found (Some bytes) so = so.1

-- what passes a claim that each walk of a canonical page passes goes on doing so once the source was read
module _ (laws : KeptLaws) (test : Claim) (m : List ℕ) (control : Control) (walked : IsWalked (view_of m control 0) test) where
  abbrev root : ℕ
  root = control.root

  looked_keeps : (found : Option Leaf) (tlb : Translations) (page : ℕ) → AllPass test tlb → AllPass test (kept_by found tlb page)
  looked_keeps None tlb page all = laws.faulted test tlb page all
  looked_keeps (Some leaf) tlb page all = all

  pub byte_keeps : (tlb : Translations) (va : ℕ) → AllPass test tlb → AllPass test (source_tlb m root tlb va)
  byte_keeps tlb va all = choice (is_readable va) refl
    where
      found : Option Leaf
      found = translation (entry_in m) (length m / 4096) root tlb (page_of va)

      after : Translations
      after = tlb_after (entry_in m) (length m / 4096) root tlb (page_of va)

      choice : (b : Bool) → is_readable va ≡ b → AllPass test (if b then kept_by found after (page_of va) else tlb)
      choice true readable =
          looked_keeps found after (page_of va) (laws.after (view_of m control 0) test tlb va walked all
          (and_parts (nat_lt va (2 ^ 64)) (is_canonical va) readable).1)
      choice false readable = all

  on_keeps : (found : Option ℕ) (after : Translations) (later : SourceRead) → AllPass test after → AllPass test later.tlb
      → AllPass test (read_on found after later).tlb
  on_keeps None after later all rest = all
  on_keeps (Some byte) after later all rest = rest

  pub read_keeps : (tlb : Translations) (va n : ℕ) → AllPass test tlb → AllPass test (source_read m root tlb va n).tlb
  unfolding source_read
  read_keeps tlb va zero all = all
  read_keeps tlb va (suc n) all =
      let after : Translations = source_tlb m root tlb va in
      on_keeps (source_byte m root tlb va) after (source_read m root after (va + 1) n) (byte_keeps tlb va all)
      (read_keeps after (va + 1) n (byte_keeps tlb va all))

  pub source_keeps : (tlb : Translations) (va : ℕ) (wanted : Option ℕ) → AllPass test tlb
      → AllPass test (tlb_by m root tlb va wanted)
  source_keeps tlb va None all = all
  source_keeps tlb va (Some count) all = read_keeps tlb va count all

-- bytes that were read before others
abbrev pub behind : List ℕ → Option (List ℕ) → Option (List ℕ)
behind front None = None
behind front (Some bytes) = Some (front ++ bytes)

abbrev pub with_front : List ℕ → SourceRead → SourceRead
with_front front later = record { bytes = behind front later.bytes; tlb = later.tlb }

-- none
pub front_none : (later : SourceRead) → with_front [] later ≡ later
front_none later = by_bytes later.bytes
  where
    by_bytes : (bytes : Option (List ℕ))
        → ◌≡◌ {A = SourceRead} (record { bytes = behind [] bytes; tlb = later.tlb }) (record { bytes = bytes; tlb = later.tlb })
    by_bytes None = refl
    by_bytes (Some bytes) = refl

-- and one more
behind_more : (front : List ℕ) (byte : ℕ) (rest : Option (List ℕ))
    → behind front (in_front byte rest) ≡ behind (front ++ byte ∷ []) rest
behind_more front byte None = refl
behind_more front byte (Some bytes) = ap Some (sym (append_assoc front (byte ∷ []) bytes))

module _ (m : List ℕ) (root : ℕ) (tlb : Translations) (at : ℕ) (front : List ℕ) where
  pub front_more : (byte n left : ℕ) → left ≡ suc n → source_byte m root tlb at ≡ Some byte
      → with_front front (source_read m root tlb at left)
      ≡ with_front (front ++ byte ∷ []) (source_read m root (source_tlb m root tlb at) (at + 1) n)
  unfolding source_read
  front_more byte n left left_is found =
      let after : Translations = source_tlb m root tlb at in
      let later : SourceRead = source_read m root after (at + 1) n in
      ap (λ k. with_front front (source_read m root tlb at k)) left_is
      ∙ ap (λ (it : Option ℕ). with_front front (read_on it after later)) found
      ∙ (λ i. record { bytes = behind_more front byte later.bytes i; tlb = later.tlb })

  pub front_stops : (n left : ℕ) → left ≡ suc n → source_byte m root tlb at ≡ None
      → with_front front (source_read m root tlb at left) ≡ record { bytes = None; tlb = source_tlb m root tlb at }
  unfolding source_read
  front_stops n left left_is found =
      let after : Translations = source_tlb m root tlb at in
      let later : SourceRead = source_read m root after (at + 1) n in
      ap (λ k. with_front front (source_read m root tlb at k)) left_is
      ∙ ap (λ (it : Option ℕ). with_front front (read_on it after later)) found

  pub front_whole : (left : ℕ) → left ≡ 0
      → with_front front (source_read m root tlb at left) ≡ record { bytes = Some front; tlb = tlb }
  unfolding source_read
  front_whole left left_is =
      ap (λ k. with_front front (source_read m root tlb at k)) left_is
      ∙ ap (λ (bytes : List ℕ). record { bytes = Some bytes; tlb = tlb }) (append-nil front)
