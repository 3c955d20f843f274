-- Where the supervisor's code has a protected encoding: at the loads of CR0 in the gates' text alone.
use Rattle.std.proofs.Common.{◌≡◌, ◌⊎◌, ℕ, zero, suc, ◌+◌, ◌*◌, ◌%◌, ◌<◌, ◌≤◌, true, false, nat_eq, nat_lt, List, [], ◌∷◌, get_or, refl, sym, subst, ◌∙◌, arith, inl, inr}
use Rattle.std.specs.Prelude.{Some, None}
use Rattle.std.specs.List.{list_any}
use Rattle.std.proofs.lemmas.Bool.{both_ways, cases_lt, cond-true, eqb-true, false≢true, lt-ltb, or_cases}
use Rattle.decode_fields.specs.Prefixes.{is_prefix}
use Rattle.decode_fields.specs.Protected.{is_protected_at}
use Rattle.x86_decode.specs.Grid.{entry_at, slots_from}
use Rattle.byte_scanner.specs.ImageCode.{code_at}
use Rattle.gate_text.specs.Listing.{cr0_loads, entry_and_exit, gate_at, gate_byte, listing, trap_gate}
use Rattle.gate_state.specs.GuardedStates.{IsAdmitted}
use Rattle.gate_state.specs.MachineStates.{Opening}
use Rattle.gate_state.proofs.LowerLaws.{LowerLaws}
use Rattle.gate_state.proofs.FetchBytes.{code_byte, code_byte-gates, code_byte-image, code_where, gate_page}
use Rattle.gate_state.proofs.FetchEncodings.{Stays, protected_stays}
use Rattle.gate_state.proofs.FetchKnown.{reads_on}

-- the offsets of the loads
abbrev pub IsLoadOffset : ℕ → Type 0
IsLoadOffset offset = (offset ≡ 13) ⊎ (offset ≡ 37) ⊎ (offset ≡ 457)

listed_load : (offset : ℕ) → list_any (λ place. nat_eq place offset) cr0_loads ≡ true → IsLoadOffset offset
listed_load offset is = elim (or_cases (nat_eq 13 offset) _ is) [
  | inl first ↦ inl (sym (eqb-true 13 offset first))
  | inr later ↦ elim (or_cases (nat_eq 37 offset) _ later) [
    | inl second ↦ inr (inl (sym (eqb-true 37 offset second)))
    | inr last ↦ elim (or_cases (nat_eq 457 offset) _ last) [
      | inl third ↦ inr (inr (sym (eqb-true 457 offset third)))
      | inr none ↦ absurd (false≢true none)
    ]
  ]
]

-- the address is that of a load of CR0 in the gates' text
pub record IsLoadPlace (address : ℕ) : Type 0 where
  pub offset : ℕ
  pub places : IsLoadOffset offset
  pub address_is : address ≡ 4096 * gate_page + offset

module _ (laws : LowerLaws) (o : Opening) (admitted : IsAdmitted o) where
  -- code behind a byte of the gates' text is theirs
  gates_stay : (address p : ℕ) → address ≡ 4096 * gate_page + p → p < 4098 → Stays (code_byte o address) (gate_at p)
  gates_stay address p is below byte at = elim (cases_lt p 4096) [
    | inl within ↦
        cond-true (nat_lt p 4096) (Some (gate_byte p)) None (lt-ltb _ _ within)
        ∙ (sym (code_byte-gates o address p is within) ∙ at)
    | inr outside ↦ elim (code_where o address byte admitted at) [
      | inl gates ↦ absurd (omega (arith, gates, is, outside, below))
      | inr home ↦ absurd (omega (arith, home.0, is, below))
    ]
  ]

  -- and behind a byte of the image's code, the image's
  image_stays : (address : ℕ) → 0xFFFFFFFF80000000 ≤ address → Stays (code_byte o address) (code_at o.image address)
  image_stays address home byte at = sym (code_byte-image o address (λ gates. omega (arith, gates, home))) ∙ at

  pub load_place : (address byte : ℕ) → code_byte o address ≡ Some byte → is_protected_at (code_byte o) address ≡ true
      → IsLoadPlace address
  load_place address byte at is = elim (code_where o address byte admitted at) [
    | inl gates ↦
        let p : ℕ = address % 4096 in
        let here : address ≡ 4096 * gate_page + p = omega (arith, gates) in
        let below : p < 4096 = omega arith in
        let there : is_protected_at gate_at p ≡ true = protected_stays (code_byte o) gate_at address p
        (gates_stay address p here (omega arith))
        (gates_stay (address + 1) (p + 1) (omega (arith, here)) (omega (arith, below)))
        (gates_stay (address + 2) (p + 2) (omega (arith, here)) (omega (arith, below))) is in
        record { offset = p; places = listed_load p (sym (laws.listing.loads p) ∙ there); address_is = here }
    | inr home ↦
        let there : is_protected_at (code_at o.image) address ≡ true =
        protected_stays (code_byte o) (code_at o.image) address address (image_stays address home.0)
        (image_stays (address + 1) (omega (arith, home.0))) (image_stays (address + 2) (omega (arith, home.0))) is in
        absurd (both_ways _ (admitted.clean address) there)
  ]

-- the bytes of a load
abbrev pub load_bytes : List ℕ
load_bytes = 0x0F ∷ 0x22 ∷ 0xC0 ∷ []

pub load_reads : reads_on [] load_bytes ≡ true
unfolding entry_at slots_from
load_reads = refl

abbrev Stand : ℕ → ℕ → Type 0
Stand offset k = gate_byte (offset + k) ≡ get_or load_bytes k 0

all_stand : (k : ℕ) → k < 3 → Stand 13 k × Stand 37 k × Stand 457 k
unfolding gate_byte listing entry_and_exit trap_gate
all_stand zero below = (refl, refl, refl)
all_stand (suc zero) below = (refl, refl, refl)
all_stand (suc (suc zero)) below = (refl, refl, refl)
all_stand (suc (suc (suc k))) below = absurd (omega (arith, below))

-- they stand at each of the loads
pub load_stands : (offset k : ℕ) → IsLoadOffset offset → k < 3 → gate_byte (offset + k) ≡ get_or load_bytes k 0
load_stands offset k (inl is) below = subst (λ (x : ℕ). Stand x k) (sym is) (all_stand k below).0
load_stands offset k (inr (inl is)) below = subst (λ (x : ℕ). Stand x k) (sym is) (all_stand k below).1
load_stands offset k (inr (inr is)) below = subst (λ (x : ℕ). Stand x k) (sym is) (all_stand k below).2

no_prefixes : (is_prefix (gate_byte 12) ≡ false) × (is_prefix (gate_byte 36) ≡ false)
    × (is_prefix (gate_byte 456) ≡ false)
unfolding gate_byte listing entry_and_exit trap_gate
no_prefixes = (refl, refl, refl)

-- no prefix byte stands before a load
pub before_load : (offset before : ℕ) → IsLoadOffset offset → before + 1 ≡ offset → is_prefix (gate_byte before) ≡ false
before_load offset before (inl is) next =
    let at : 12 ≡ before = omega (arith, is, next) in
    subst (λ (x : ℕ). is_prefix (gate_byte x) ≡ false) at no_prefixes.0
before_load offset before (inr (inl is)) next =
    let at : 36 ≡ before = omega (arith, is, next) in
    subst (λ (x : ℕ). is_prefix (gate_byte x) ≡ false) at no_prefixes.1
before_load offset before (inr (inr is)) next =
    let at : 456 ≡ before = omega (arith, is, next) in
    subst (λ (x : ℕ). is_prefix (gate_byte x) ≡ false) at no_prefixes.2
