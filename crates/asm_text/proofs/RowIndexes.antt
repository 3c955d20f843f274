-- A row that is put in front of an index of those behind it.
use Rattle.std.proofs.Common.{◌≡◌, ℕ, ◌+◌, ◌<◌, ◌≤◌, Bool, true, false, ◌||◌, Some, length, get_or, set, ap, sym, subst, ◌∙◌, arith, inl, inr}
use Rattle.std.proofs.lemmas.Bool.{cases_eq, eq-eqb, eqb-true, ne_eqb}
use Rattle.std.proofs.lemmas.List.{get_or-set_other, get_or-set_same}
use Rattle.x86_decode.specs.declared.row_list.TableRow.{TableRow}
use Rattle.asm_text.specs.declared.operation.TheConstants.{NUMBERS}
use Rattle.asm_text.specs.declared.row_index.RowIndex.{RowIndex}
use Rattle.asm_text.specs.Operations.{number_of_operation}
use Rattle.asm_text.specs.RowPlaces.{IsIndexFrom, IsNext, has_number, has_register, is_by_opcode, table_row}

false_true : false ≡ true → ⊥
false_true h = cc

-- a place without a row of the operation, in front
extended : (number place next : ℕ) → has_number (table_row place) number ≡ false → IsNext number (place + 1) next → IsNext number place next
extended number place next other is = record {
  after = omega (arith, is.after);
  within = is.within;
  there = is.there;
  none = λ k from before. elim (cases_eq k place) [
    | inl same ↦ subst (λ (p : ℕ). has_number (table_row p) number ≡ false) (sym same) other
    | inr differ ↦ is.none k (omega arith) before
  ];
}

module _ (place : ℕ) (row : TableRow) (index : RowIndex) (named : Bool)
    (within : place < 4096) (is : table_row place ≡ Some row) (behind : IsIndexFrom (place + 1) index) where
  abbrev number : ℕ
  number = number_of_operation row.op

  here : (n : ℕ) → number ≡ n → has_number (table_row place) n ≡ true
  here n same = ap (λ o. has_number o n) is ∙ eq-eqb (number_of_operation row.op) n same

  first_is : length index.first ≡ NUMBERS → number < NUMBERS → (n : ℕ) → n < NUMBERS
      → IsNext n place (get_or (set index.first number place) n 0)
  first_is long small n below = elim (cases_eq n number) [
    | inl same ↦
        let put : get_or (set index.first number place) n 0 ≡ place =
        ap (λ (m : ℕ). get_or (set index.first number place) m 0) same
        ∙ get_or-set_same index.first number place 0 (omega arith) in
        subst (IsNext n place) (sym put) (record {
          after = omega arith;
          within = omega arith;
          there = λ below. here n (sym same);
          none = λ k from before. absurd (omega arith);
        })
    | inr differ ↦
        subst (IsNext n place) (sym (get_or-set_other index.first number n place 0 differ))
        (extended n place (get_or index.first n 0)
        (ap (λ o. has_number o n) is ∙ ne_eqb number n (λ same. differ (sym same)))
        (behind.first n below))
  ]

  next_is : length index.next ≡ 4096 → number < NUMBERS → (p n : ℕ) → place ≤ p → p < 4096
      → has_number (table_row p) n ≡ true
      → IsNext n (p + 1) (get_or (set index.next place (get_or index.first number 0)) p 0)
  next_is long small p n from below has = elim (cases_eq p place) [
    | inl same ↦
        let v : ℕ = get_or index.first number 0 in
        let put : get_or (set index.next place v) p 0 ≡ v =
        ap (λ (m : ℕ). get_or (set index.next place v) m 0) same
        ∙ get_or-set_same index.next place v 0 (omega arith) in
        let has_row : has_number (Some row) n ≡ true =
        sym (ap (λ o. has_number o n) (ap table_row same ∙ is)) ∙ has in
        let P : ℕ → Type 0 = λ m. IsNext m (place + 1) v in
        let step : IsNext n (place + 1) v = subst P (eqb-true number n has_row) (behind.first number small) in
        let Q : ℕ → Type 0 = λ q. IsNext n (q + 1) v in
        subst (IsNext n (p + 1)) (sym put) (subst Q (sym same) step)
    | inr differ ↦
        subst (IsNext n (p + 1)) (sym (get_or-set_other index.next place p (get_or index.first number 0) 0 differ))
        (behind.next p n (omega arith) below has)
  ]

  named_is : length index.by_opcode ≡ 4096 → named ≡ (is_by_opcode row.shape.to || is_by_opcode row.shape.from)
      → (p : ℕ) → p < 4096 → get_or (set index.by_opcode place named) p false ≡ true → has_register (table_row p) ≡ true
  named_is long says p below set_so = elim (cases_eq p place) [
    | inl same ↦
        let put : get_or (set index.by_opcode place named) p false ≡ named =
        ap (λ (m : ℕ). get_or (set index.by_opcode place named) m false) same
        ∙ get_or-set_same index.by_opcode place named false (omega arith) in
        ap has_register (ap table_row same ∙ is) ∙ (sym says ∙ (sym put ∙ set_so))
    | inr differ ↦
        behind.by_opcode p below (sym (get_or-set_other index.by_opcode place p named false differ) ∙ set_so)
  ]

  pub row_put : length index.first ≡ NUMBERS → length index.next ≡ 4096 → length index.by_opcode ≡ 4096
      → number < NUMBERS → named ≡ (is_by_opcode row.shape.to || is_by_opcode row.shape.from)
      → (count : ℕ) → count ≡ number
      → IsIndexFrom place (record {
        first = set index.first count place;
        next = set index.next place (get_or index.first count 0);
        by_opcode = set index.by_opcode place named;
      })
  row_put long_first long_next long_named small says count same =
      let P : ℕ → Type 0 = λ m. IsIndexFrom place (record {
        first = set index.first m place;
        next = set index.next place (get_or index.first m 0);
        by_opcode = set index.by_opcode place named;
      }) in
      subst P (sym same) (record {
        first = first_is long_first small;
        next = next_is long_next small;
        by_opcode = named_is long_named says;
      })

-- behind the last place
pub none_put : (index : RowIndex) → ((n : ℕ) → n < NUMBERS → get_or index.first n 0 ≡ 4096)
    → ((place : ℕ) → place < 4096 → get_or index.by_opcode place false ≡ false) → IsIndexFrom 4096 index
none_put index firsts named = record {
  first = λ n below. subst (IsNext n 4096) (sym (firsts n below)) (record {
    after = omega arith;
    within = omega arith;
    there = λ below. absurd (omega arith);
    none = λ k from before. absurd (omega arith);
  });
  next = λ p n from below has. absurd (omega arith);
  by_opcode = λ p below set_so. absurd (false_true (sym (named p below) ∙ set_so));
}
