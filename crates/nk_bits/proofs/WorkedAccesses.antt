-- Accesses at worked values.
use Rattle.std.proofs.Common.{◌≡◌, ℕ, ◌^◌, ◌-◌, Bool, true, false, [], ◌∷◌, refl}
use Rattle.std.specs.Prelude.{Ok, Err}
use Rattle.nk_bits.specs.declared.leaf.Leaf.{Leaf}
use Rattle.nk_bits.specs.declared.fault.AccessFault.TheVariants.{Page}
use Rattle.nk_bits.specs.declared.access.Access.TheVariants.{Read, Write, Fetch}
use Rattle.nk_bits.specs.Translations.{Translations}
use Rattle.nk_bits.specs.Accesses.{View, reached, has_canonical_bytes, first_part, next_page, crosses, fault_code, accessed, completed, wp_of, smep_of}

-- error codes: a read of no page by the supervisor is 0, a write that is refused 3, one at CPL 3 7, a fetch that is refused 17
codes_by_bits : (fault_code Read 0 false ≡ 0) × (fault_code Write 0 true ≡ 3) × (fault_code Write 3 true ≡ 7) × (fault_code Fetch 0 true ≡ 17) × (fault_code Fetch 3 false ≡ 20)
codes_by_bits = (refl, refl, refl, refl, refl)

-- WP of 80010033 and SMEP of 100020 are set, those of 80000033 and 20 clear
control_bits : (wp_of 2147549235 ≡ true) × (wp_of 2147483699 ≡ false) × (smep_of 1048608 ≡ true) × (smep_of 32 ≡ false)
unfolding wp_of smep_of
control_bits = (refl, refl, refl, refl)

-- eight bytes from the last but two of a page: three of them on the first page, five on the next; from 4088 on they end with it
parts : (first_part 4093 8 ≡ 3) × (first_part 4088 8 ≡ 8) × (crosses 4093 8 ≡ true) × (crosses 4088 8 ≡ false) × (next_page 4093 ≡ 4096)
unfolding first_part crosses next_page
parts = (refl, refl, refl, refl, refl)

-- after the last address comes 0, and the bytes on both sides are canonical; those on both sides of the lower half's end are not
wrap : (next_page (2 ^ 64 - 1) ≡ 0) × (has_canonical_bytes (2 ^ 64 - 3) 8 ≡ true) × (has_canonical_bytes (2 ^ 47 - 1) 2 ≡ false) × (has_canonical_bytes (2 ^ 47 - 2) 2 ≡ true) × (has_canonical_bytes (2 ^ 64 - 2 ^ 47 - 1) 2 ≡ false)
unfolding next_page has_canonical_bytes
wrap = (refl, refl, refl, refl, refl)

-- no tables; the page 1 is kept with these rights, in frame 7, and page 2 read-only, in frame 9
leaf : ℕ → Bool → Bool → Bool → Leaf
leaf f w u x = record { frame = f; rights = record { can_write = w; user = u; exec = x } }

kept : Bool → Bool → Bool → Translations
kept w u x = record { pairs = (1, leaf 7 w u x) ∷ (2, leaf 9 false false false) ∷ []; upper = [] }

view : ℕ → Bool → View
view cpl wp = record { entries = λ f i. 0; frames = 512; root = 5; cpl = cpl; wp = wp; smep = true }

-- a fetch of a user page by the supervisor is refused where SMEP is set, and drops the page's translation; at CPL 3 it is found
user_fetch :
    (accessed (view 0 true) Fetch (kept true true true) 4096 1 ≡ record { answer = Err (Page 17 4096); tlb = record { pairs = (2, leaf 9 false false false) ∷ []; upper = [] } }) ×
    (accessed (view 3 true) Fetch (kept true true true) 4096 1 ≡ record { answer = Ok (record { first = 28672; second = 0 }); tlb = kept true true true })
unfolding accessed completed reached crosses has_canonical_bytes leaf kept view
user_fetch = (refl, refl)

-- a write over the end of page 1 is refused by page 2, whose first byte is named; with WP clear it finds both places
crossing_write :
    (accessed (view 0 true) Write (kept true false false) 8190 4 ≡ record { answer = Err (Page 3 8192); tlb = record { pairs = (1, leaf 7 true false false) ∷ []; upper = [] } }) ×
    (accessed (view 0 false) Write (kept true false false) 8190 4 ≡ record { answer = Ok (record { first = 32766; second = 36864 }); tlb = kept true false false })
unfolding accessed completed reached crosses next_page has_canonical_bytes leaf kept view
crossing_write = (refl, refl)
