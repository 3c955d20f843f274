-- The static text and the listing, compared at each place.
use Rattle.std.proofs.Common.{◌≡◌, ℕ, ◌<◌, ◌≤◌, ◌+◌, true, false, nat_eq, nat_lt, nat_le, List, [], ◌∷◌, length, slice_index_or, refl, inl, inr, sym, ap, ◌∙◌, arith, Option, Some, None, ◌⊎◌}
use Rattle.std.proofs.lemmas.Bool.{eqb-true, ltb-true, leb-true, le-ltb, ne_eqb, and_parts, cond-true, cond-false, lt-ltb, and_right, agree_below, agree_below_at, cases_lt}
use Rattle.std.specs.List.{list_any, list_all}
use Rattle.decode_fields.specs.Protected.{is_protected_at, length_of_bytes}
use Rattle.gate_text.specs.declared.text.TheConstants.{TEXT}
use Rattle.gate_text.specs.Listing.{ListingRow, byte_by, gate_byte, listing, entry_and_exit, trap_gate, ascend, gate_at, cr0_loads}

-- up to the last row the static text is the listing
same_within : agree_below (λ at. nat_eq (slice_index_or TEXT at 0) (gate_byte at)) (λ _. true) 480 ≡ true
unfolding gate_byte listing entry_and_exit trap_gate
same_within = refl

pub byte_within : (at : ℕ) → at < 480 → slice_index_or TEXT at 0 ≡ gate_byte at
byte_within at below =
    eqb-true _ _ (agree_below_at (λ k. nat_eq (slice_index_or TEXT k 0) (gate_byte k)) (λ _. true) 480 at same_within below)

-- INT3 stands past the end of the rows
byte_by-past : (rows : List ListingRow) (end at : ℕ) → list_all (λ r. nat_le (r.offset + length r.bytes) end) rows ≡ true → end ≤ at → byte_by rows at ≡ 204
byte_by-past [] end at ends past = refl
byte_by-past (r ∷ rows) end at ends past =
    let parts : (nat_le (r.offset + length r.bytes) end ≡ true) × (list_all (λ q. nat_le (q.offset + length q.bytes) end) rows ≡ true) = and_parts _ _ ends in
    let beyond : r.offset + length r.bytes ≤ at = omega (arith, leb-true _ _ parts.0) in
    cond-false _ _ _ (and_right (nat_le r.offset at) _ (le-ltb _ _ beyond)) ∙ byte_by-past rows end at parts.1 past

rows_end : list_all (λ r. nat_le (r.offset + length r.bytes) 480) listing ≡ true
unfolding listing entry_and_exit trap_gate
rows_end = refl

pub byte_past : (at : ℕ) → at < 4096 → 480 ≤ at → 204 ≡ gate_byte at
unfolding gate_byte
byte_past at below past = sym (byte_by-past listing 480 at rows_end past)

-- no two rows overlap, and the last ends within the page
pub rows_ascend : ascend 0 4096 listing ≡ true
unfolding listing entry_and_exit trap_gate
rows_ascend = refl

-- what the rows hold are bytes
bytes_fit : agree_below (λ at. nat_lt (gate_byte at) 256) (λ _. true) 480 ≡ true
unfolding gate_byte listing entry_and_exit trap_gate
bytes_fit = refl

pub byte_fits : (at : ℕ) → at < 4096 → gate_byte at < 256
byte_fits at below = elim (cases_lt at 480) [
  | inl within ↦ ltb-true _ _ (agree_below_at (λ k. nat_lt (gate_byte k) 256) (λ _. true) 480 at bytes_fit within)
  | inr past ↦ omega (arith, byte_past at below past)
]

loads_agree : agree_below (is_protected_at gate_at) (λ at. list_any (λ place. nat_eq place at) cr0_loads) 480 ≡ true
unfolding gate_byte listing entry_and_exit trap_gate
loads_agree = refl

no_loads_past : (at : ℕ) → 480 ≤ at → false ≡ list_any (λ place. nat_eq place at) cr0_loads
no_loads_past at past =
    simp (ne_eqb 13 at (λ e. absurd (omega arith)), ne_eqb 37 at (λ e. absurd (omega arith)), ne_eqb 457 at (λ e. absurd (omega arith)))

-- no protected encoding begins with INT3, nor where no byte stands
none_begins : (first second third : Option ℕ) → (first ≡ Some 204) ⊎ (first ≡ None) → nat_lt 0 (length_of_bytes first second third) ≡ false
none_begins first second third (inl fill) = ap (λ o. nat_lt 0 (length_of_bytes o second third)) fill
none_begins first second third (inr none) = ap (λ o. nat_lt 0 (length_of_bytes o second third)) none

past_rows : (at : ℕ) → 480 ≤ at → (gate_at at ≡ Some 204) ⊎ (gate_at at ≡ None)
past_rows at past = elim (cases_lt at 4096) [
  | inl within ↦ inl (cond-true _ _ _ (lt-ltb at 4096 within) ∙ ap Some (sym (byte_past at within past)))
  | inr outside ↦ inr (cond-false _ _ _ (le-ltb at 4096 outside))
]

pub loads_at : (at : ℕ) → is_protected_at gate_at at ≡ list_any (λ place. nat_eq place at) cr0_loads
loads_at at = elim (cases_lt at 480) [
  | inl within ↦ agree_below_at (is_protected_at gate_at) (λ k. list_any (λ place. nat_eq place k) cr0_loads) 480 at loads_agree within
  | inr past ↦ none_begins (gate_at at) (gate_at (at + 1)) (gate_at (at + 2)) (past_rows at past) ∙ no_loads_past at past
]
