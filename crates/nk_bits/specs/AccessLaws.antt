-- What an access leaves of what is kept, and what it finds.
use Rattle.std.specs.Prelude.{◌≡◌, ℕ, ◌/◌, ◌^◌, ◌<◌, ◌≤◌, true, IfErr, IfOk, Some}
use Rattle.nk_bits.specs.declared.access.Access.{Access}
use Rattle.nk_bits.specs.declared.leaf.Leaf.{Leaf}
use Rattle.nk_bits.specs.Paging.{page_of, is_canonical}
use Rattle.nk_bits.specs.AccessRights.{may}
use Rattle.nk_bits.specs.Translations.{Translations, NamesFramesIn, look}
use Rattle.nk_bits.specs.Claims.{Claim, AllPass}
use Rattle.nk_bits.specs.Outcomes.{answered}
use Rattle.nk_bits.specs.Accesses.{View, IsSmallAccessFault, IsWalked, Serves, IsKeptTranslation, reached, accessed, crosses, next_page, has_canonical_bytes, place_in}

-- the first addresses of an access on both pages
pub record SpanLaws : Type 0 where
  pub first : (va width : ℕ) → va < 2 ^ 64 → 1 ≤ width
      → has_canonical_bytes va width ≡ true → is_canonical va ≡ true
  pub next : (va width : ℕ) → has_canonical_bytes va width ≡ true
      → crosses va width ≡ true → is_canonical (next_page va) ≡ true

-- an access over all that is kept
pub record AccessLaws : Type 0 where
  pub kept : (view : View) (access : Access) (test : Claim) (tlb : Translations) (va width : ℕ)
      → IsWalked view test → va < 2 ^ 64 → 1 ≤ width → AllPass test tlb
      → AllPass test (accessed view access tlb va width).tlb
  pub served : (view : View) (access : Access) (test : Claim) (tlb : Translations) (va width : ℕ)
      → IsWalked view test → va < 2 ^ 64 → 1 ≤ width → AllPass test tlb
      → IfOk (accessed view access tlb va width).answer (λ target. Serves view access test va target.first
      × (crosses va width ≡ true → Serves view access test (next_page va) target.second))
  pub reached_kept : (view : View) (access : Access) (test : Claim) (tlb : Translations) (va : ℕ)
      → IsWalked view test → is_canonical va ≡ true → AllPass test tlb
      → AllPass test (reached view access tlb va).tlb
  pub reached_served : (view : View) (access : Access) (test : Claim) (tlb : Translations) (va : ℕ)
      → IsWalked view test → is_canonical va ≡ true → AllPass test tlb
      → IfOk (reached view access tlb va).answer (Serves view access test va)
  pub held : (view : View) (access : Access) (tlb : Translations) (va : ℕ) (leaf : Leaf)
      → look tlb.pairs (page_of va) ≡ Some leaf → may access leaf.rights view.cpl view.wp view.smep ≡ true
      → reached view access tlb va ≡ answered (place_in leaf va) tlb
  pub found_again : (view : View) (access : Access) (tlb : Translations) (va : ℕ)
      → IfOk (reached view access tlb va).answer (IsKeptTranslation view access (reached view access tlb va).tlb va)
  pub within : (view : View) (access : Access) (size : ℕ) (tlb : Translations) (va : ℕ)
      → view.frames ≡ size / 4096 → is_canonical va ≡ true → NamesFramesIn size tlb
      → NamesFramesIn size (reached view access tlb va).tlb
  pub fault : (view : View) (access : Access) (tlb : Translations) (va width : ℕ) → va < 2 ^ 64
      → IfErr (accessed view access tlb va width).answer IsSmallAccessFault
