-- The source of a call, as it is read for it: byte by byte in ascending order, each by its page's translation, which is kept,
-- or else walked for and filled. It ends at the first byte that can't be read, and raises no fault (SDM volume 3, 4.6); but
-- like a fault, a page without a translation drops the upper entries that serve it.
use Rattle.std.specs.Prelude.{ℕ, zero, suc, ◌+◌, ◌/◌, ◌^◌, Bool, ◌&&◌, nat_lt, if◌then◌else◌, List, [], ◌∷◌, length, Option, None, Some}
use Rattle.nk_bits.specs.declared.leaf.Leaf.{Leaf}
use Rattle.nk_bits.specs.Accesses.{place_in}
use Rattle.nk_bits.specs.Paging.{is_canonical, page_of}
use Rattle.nk_bits.specs.Translations.{Translations, faulted, tlb_after, translation}
use Rattle.phys_mem.specs.Memory.{byte_at, entry_in}
use Rattle.nk_body.specs.declared.call.Call.{Call}
use Rattle.nk_body.specs.declared.call.Call.TheVariants.{Write}
use Rattle.nk_body.specs.CallRules.{Sourced, Bytes, NotTaken, Unreadable}

-- the bytes that were read, where each could be, and the translations afterwards
pub record SourceRead : Type 0 where
  pub bytes : Option (List ℕ)
  pub tlb : Translations

-- the address is one of 64 bits that is canonical: it doesn't wrap
abbrev pub is_readable : ℕ → Bool
is_readable va = nat_lt va (2 ^ 64) && is_canonical va

-- the byte at an address by its translation; the supervisor may read by each
abbrev pub byte_through : List ℕ → ℕ → Option Leaf → Option ℕ
byte_through m va None = None
byte_through m va (Some leaf) = Some (byte_at m (place_in leaf va))

abbrev pub source_byte : List ℕ → ℕ → Translations → ℕ → Option ℕ
source_byte m root tlb va =
    if is_readable va then byte_through m va (translation (entry_in m) (length m / 4096) root tlb (page_of va)) else None

-- what is kept once a page's translation was looked for: where there was none, what a page fault leaves
abbrev pub kept_by : Option Leaf → Translations → ℕ → Translations
kept_by None tlb page = faulted tlb page
kept_by (Some leaf) tlb page = tlb

abbrev pub source_tlb : List ℕ → ℕ → Translations → ℕ → Translations
source_tlb m root tlb va =
    let page = page_of va in
    if is_readable va
    then kept_by (translation (entry_in m) (length m / 4096) root tlb page) (tlb_after (entry_in m) (length m / 4096) root tlb page) page
    else tlb

-- a byte in front of others
abbrev pub in_front : ℕ → Option (List ℕ) → Option (List ℕ)
in_front byte None = None
in_front byte (Some bytes) = Some (byte ∷ bytes)

-- a byte that is read, and those behind it
abbrev pub read_on : Option ℕ → Translations → SourceRead → SourceRead
read_on None tlb later = record { bytes = None; tlb = tlb }
read_on (Some byte) tlb later = record { bytes = in_front byte later.bytes; tlb = later.tlb }

-- so many bytes from an address on
unfoldable pub source_read : List ℕ → ℕ → Translations → ℕ → ℕ → SourceRead
source_read m root tlb va zero = record { bytes = Some []; tlb = tlb }
source_read m root tlb va (suc n) =
    let after = source_tlb m root tlb va in
    read_on (source_byte m root tlb va) after (source_read m root after (va + 1) n)

-- the address of the first byte of a call's source; no other call has one
abbrev pub source_place : Call → ℕ
source_place (Write region offset place count) = place
source_place _ = 0

-- the source of a call that takes so many bytes from an address, if it takes any
abbrev pub source_with : Option (List ℕ) → Sourced
source_with None = Unreadable
source_with (Some bytes) = Bytes bytes

abbrev pub source_through : List ℕ → ℕ → Translations → ℕ → Option ℕ → Sourced
source_through m root tlb va None = NotTaken
source_through m root tlb va (Some count) = source_with (source_read m root tlb va count).bytes

abbrev pub tlb_by : List ℕ → ℕ → Translations → ℕ → Option ℕ → Translations
tlb_by m root tlb va None = tlb
tlb_by m root tlb va (Some count) = (source_read m root tlb va count).tlb
