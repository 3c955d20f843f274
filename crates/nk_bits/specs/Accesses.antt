-- An access to memory by linear address, over the translations kept and the page tables: SDM volume 3, 4.6, 4.7 and 4.10.
-- It finds places in memory, or faults; what stands at the places is read and written elsewhere.
use Rattle.std.specs.Prelude.{ℕ, ⊤, ◌≡◌, ◌⊎◌, ◌+◌, ◌-◌, ◌*◌, ◌/◌, ◌%◌, ◌^◌, ◌<◌, ◌≤◌, Bool, true, false, ◌==◌, if◌then◌else◌, nat_lt, min, Option, Some, None, Result, Ok, Err}
use Rattle.std.specs.List.{list_all, range_with_len}
use Rattle.nk_bits.specs.declared.access.Access.{Access}
use Rattle.nk_bits.specs.declared.access.Access.TheVariants.{Read, Write, Fetch}
use Rattle.nk_bits.specs.declared.leaf.Leaf.{Leaf}
use Rattle.nk_bits.specs.declared.leaf.Target.{Target}
use Rattle.nk_bits.specs.declared.fault.AccessFault.{AccessFault}
use Rattle.nk_bits.specs.declared.fault.AccessFault.TheVariants.{Page, NonCanonical}
use Rattle.nk_bits.specs.Paging.{page_of, is_canonical, walk, walk_below}
use Rattle.nk_bits.specs.AccessRights.{may}
use Rattle.nk_bits.specs.UpperEntries.{KeptEntry, serves_page}
use Rattle.nk_bits.specs.Translations.{Translations, look, faulted, translation, tlb_after}
use Rattle.nk_bits.specs.Claims.{Claim}
use Rattle.nk_bits.specs.Outcomes.{Outcome, answered, refused, and_then}

-- the error code of a page fault has five bits, and its address 64
abbrev pub IsSmallAccessFault : AccessFault → Type 0
IsSmallAccessFault (Page code address) = (code < 2 ^ 5) × (address < 2 ^ 64)
IsSmallAccessFault NonCanonical = ⊤

-- what an access is made under: the entries of the tables by frame and index, the number of frames in memory, the frame of
-- the table of level 4, the CPL, and whether WP and SMEP are set
pub record View : Type 0 where
  pub entries : ℕ → ℕ → ℕ
  pub frames : ℕ
  pub root : ℕ
  pub cpl : ℕ
  pub wp : Bool
  pub smep : Bool

-- bit 16 of CR0, WP: the supervisor's writes need a writable page
unfoldable pub wp_of : ℕ → Bool
wp_of cr0 = cr0 / 2 ^ 16 % 2 == 1

-- bit 20 of CR4, SMEP: the supervisor doesn't execute user pages
unfoldable pub smep_of : ℕ → Bool
smep_of cr4 = cr4 / 2 ^ 20 % 2 == 1

-- the bits of the error code that tell the access: bit 1 for a write, bit 4 for a fetch
abbrev pub access_bits : Access → ℕ
access_bits Read = 0
access_bits Write = 2
access_bits Fetch = 16

-- the page-fault error code: bit 0 where a translation was present, bit 2 at CPL 3, and the bits of the access
abbrev pub fault_code : Access → ℕ → Bool → ℕ
fault_code access cpl present = (if present then 1 else 0) + (if cpl == 3 then 4 else 0) + access_bits access

-- the place in memory of the byte at this address, by its page's translation
abbrev pub place_in : Leaf → ℕ → ℕ
place_in leaf va = 4096 * leaf.frame + va % 4096

-- the judgement of a page by its translation, if it has one: the place of the byte at this address, or a page fault there
abbrev pub judged : View → Access → ℕ → Option Leaf → Result ℕ AccessFault
judged view access va None = Err (Page (fault_code access view.cpl false) va)
judged view access va (Some leaf) =
    if may access leaf.rights view.cpl view.wp view.smep then Ok (place_in leaf va) else Err (Page (fault_code access view.cpl true) va)

-- the translations after a judgement: a page fault drops that of its page, and the upper entries that serve it
abbrev pub kept_after : Result ℕ AccessFault → Translations → ℕ → Translations
kept_after (Ok place) tlb va = tlb
kept_after (Err fault) tlb va = faulted tlb (page_of va)

-- the access on one page: its translation is kept, or else walked for and filled; then it is judged
unfoldable pub reached : View → Access → Translations → ℕ → Outcome AccessFault ℕ
reached view access tlb va =
    let judgement = judged view access va (translation view.entries view.frames view.root tlb (page_of va)) in
    record { answer = judgement; tlb = kept_after judgement (tlb_after view.entries view.frames view.root tlb (page_of va)) va }

-- the address of byte k of an access: addresses wrap at 2 ^ 64
abbrev pub address_of : ℕ → ℕ → ℕ
address_of va k = (va + k) % 2 ^ 64

-- each byte's address is canonical
unfoldable pub has_canonical_bytes : ℕ → ℕ → Bool
has_canonical_bytes va width = list_all (λ k. is_canonical (address_of va k)) (range_with_len 0 width)

-- how many of the bytes lie on the first page
unfoldable pub first_part : ℕ → ℕ → ℕ
first_part va width = min width (4096 - va % 4096)

-- the address of the first byte of the next page
unfoldable pub next_page : ℕ → ℕ
next_page va = (va / 4096 + 1) * 4096 % 2 ^ 64

-- the access has a second page
unfoldable pub crosses : ℕ → ℕ → Bool
crosses va width = nat_lt 4096 (va % 4096 + width)

-- the rest of an access whose first byte has this place: its second page, if it has one
unfoldable pub completed : View → Access → ℕ → ℕ → ℕ → Translations → Outcome AccessFault Target
completed view access va width first tlb =
    if crosses va width
    then and_then (reached view access tlb (next_page va)) (λ second after. answered (record { first = first; second = second }) after)
    else answered (record { first = first; second = 0 }) tlb

-- the bytes of an access: 1, 2, 4 or 8
abbrev pub IsAccessSize : ℕ → Type 0
IsAccessSize width = (width ≡ 1) ⊎ (width ≡ 2) ⊎ (width ≡ 4) ⊎ (width ≡ 8)

-- the access of width bytes: the places of its first byte on each of its pages, judged in turn, or the first fault
unfoldable pub accessed : View → Access → Translations → ℕ → ℕ → Outcome AccessFault Target
accessed view access tlb va width =
    if has_canonical_bytes va width
    then and_then (reached view access tlb va) (completed view access va width)
    else refused NonCanonical tlb

-- the places agree with the address, and each byte lies in a memory of so many bytes
pub record IsTarget (size va width : ℕ) (target : Target) : Type 0 where
  pub first_agrees : target.first % 4096 ≡ va % 4096
  pub second_agrees : target.second % 4096 ≡ 0
  pub first_fits : target.first + first_part va width ≤ size
  pub second_fits : first_part va width < width → target.second + (width - first_part va width) ≤ size

-- a test holds of the translation that a walk of a canonical page finds, from the root or below an entry that passes
pub record IsWalked (view : View) (test : Claim) : Type 0 where
  pub root : (va : ℕ) (leaf : Leaf) → is_canonical va ≡ true → walk view.entries view.frames view.root (page_of va) ≡ Ok leaf → test.pair (page_of va, leaf) ≡ true
  pub below : (entry : KeptEntry) (va : ℕ) (leaf : Leaf) → test.upper entry ≡ true → is_canonical va ≡ true → serves_page (page_of va) entry ≡ true →
      walk_below view.entries view.frames (page_of va) entry.0 entry.2 ≡ Ok leaf → test.pair (page_of va, leaf) ≡ true

-- a translation of which the test holds serves the access at this address, and gives this place
pub record Serves (view : View) (access : Access) (test : Claim) (va place : ℕ) : Type 0 where
  pub leaf : Leaf
  pub passes : test.pair (page_of va, leaf) ≡ true
  pub may_access : may access leaf.rights view.cpl view.wp view.smep ≡ true
  pub place_is : place ≡ place_in leaf va

-- the translation of the page of this address is kept, serves the access, and gives this place
pub record IsKeptTranslation (view : View) (access : Access) (tlb : Translations) (va place : ℕ) : Type 0 where
  pub leaf : Leaf
  pub kept : look tlb.pairs (page_of va) ≡ Some leaf
  pub may_access : may access leaf.rights view.cpl view.wp view.smep ≡ true
  pub place_is : place ≡ place_in leaf va
