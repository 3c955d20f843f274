-- The forms of a line, one more behind those that there are; and lines that are told of a stretch, and no longer.
use Rattle.std.proofs.Common.{◌≡◌, ℕ, zero, suc, ◌+◌, ◌-◌, ◌<◌, ◌≤◌, inl, inr, true, false, List, [], ◌∷◌, All, length, take, drop, refl, set, get_or, ap, sym, subst, ◌∙◌, arith, w64, lit≤}
use Rattle.std.proofs.lemmas.Bool.{cases_lt}
use Rattle.std.proofs.lemmas.List.{get_or-drop, get_or-set_other, get_or-set_same, get_or-take, length-drop, length-set, length-take-le}
use Rattle.std.proofs.lemmas.List.Elements.{All-weaker}
use Rattle.std.specs.Int.{from_le_bytes, to_le_bytes}
use Rattle.std.proofs.lemmas.Nat.{le_bytes_8}
use Rattle.phys_mem.specs.Memory.{IsBytes, byte_at, number_at}
use Rattle.x86_decode.specs.declared.instruction.Decoded.{Decoded}
use Rattle.x86_decode.specs.Reader.{decoded_of}
use Rattle.exec_quick.specs.declared.quick.Quick.{Quick}
use Rattle.exec_quick.specs.QuickForms.{IsQuick, StandsFor, has_register_first, is_slow}
use Rattle.cpu_step.specs.declared.kept_code.KeptCode.{KeptCode}
use Rattle.cpu_step.specs.declared.lines.Line.{Line}
use Rattle.cpu_step.specs.CodeLines.{AreFrom, IsCodeIn, IsFormIn, IsLineBy, IsLineOf, IsRow, code_behind, code_number}
use Rattle.cpu_step.proofs.LentPages.{code_byte, run_is_code}
use Rattle.cpu_step.proofs.WordBytes.{small_run, word_bytes}

module _ (forms : List Quick) (count : ℕ) (q : Quick) (at : ℕ) (row : IsRow forms count) (full : length forms ≡ 16) (less : count < 16) (here : q.at ≡ at)
    (begins : count ≡ 0 → at ≡ 0) (before : (d : Quick) (i : ℕ) → i + 1 ≡ count → (get_or forms i d).at + (get_or forms i d).size ≡ at) where
  abbrev longer : List Quick
  longer = set forms count q

  last_is : (d : Quick) (j : ℕ) → j ≡ count → get_or longer j d ≡ q
  last_is d j same = ap (λ k. get_or longer k d) same ∙ get_or-set_same forms count q d (omega (arith, full, less))

  other_is : (d : Quick) (j : ℕ) → j < count → get_or longer j d ≡ get_or forms j d
  other_is d j below = get_or-set_other forms count j q d (λ same. omega (arith, same, below))

  pub row_more : IsRow longer (count + 1)
  row_more = record {
    all = length-set forms count q ∙ full;
    few = omega (arith, less);
    first = λ d some. elim (cases_lt 0 count) [
      | inl more ↦ ap (λ (x : Quick). x.at) (other_is d 0 more) ∙ row.first d more
      | inr none ↦ ap (λ (x : Quick). x.at) (last_is d 0 (omega (arith, none))) ∙ (here ∙ begins (omega (arith, none)))
    ];
    next = λ d i within. elim (cases_lt (i + 1) count) [
      | inl inside ↦
          ap (λ (x : Quick). x.at) (other_is d (i + 1) inside)
          ∙ (row.next d i inside ∙ sym (ap (λ (x : Quick). x.at + x.size) (other_is d i (omega (arith, inside)))))
      | inr end ↦
          let last : i + 1 ≡ count = omega (arith, within, end) in
          ap (λ (x : Quick). x.at) (last_is d (i + 1) last)
          ∙ (here ∙ (sym (before d i last) ∙ sym (ap (λ (x : Quick). x.at + x.size) (other_is d i (omega (arith, last))))))
    ];
  }

  pub behind_last : (d : Quick) (i : ℕ) → i + 1 ≡ count + 1 → (get_or longer i d).at + (get_or longer i d).size ≡ at + q.size
  behind_last d i last = ap (λ (x : Quick). x.at + x.size) (last_is d i (omega (arith, last))) ∙ ap (λ n. n + q.size) here

pub no_row : (forms : List Quick) → length forms ≡ 16 → IsRow forms 0
no_row forms all = record {
  all = all;
  few = omega arith;
  first = λ d some. absurd (omega (arith, some));
  next = λ d i within. absurd (omega (arith, within));
}

-- a line without a form
pub bare_line : (line : Line) → length line.forms ≡ 16 → ((code : List ℕ) (size : ℕ) → 16 ≤ size → All (IsFormIn code size) line.forms) → line.size ≡ 16 → line.count ≡ 0 → line.stamp ≡ 0 → IsLineBy 0 line
bare_line line all forms size count stamp = record {
  some = omega (arith, size);
  size = omega (arith, size);
  whole = omega (arith, size);
  forms = forms line.code line.size (omega (arith, size));
  row = subst (IsRow line.forms) (sym count) (no_row line.forms all);
  stamped = omega (arith, stamp);
}

-- an element, whatever stands for none
any_default : {X : Type 0} (xs : List X) (i : ℕ) (d e : X) → i < length xs → get_or xs i d ≡ get_or xs i e
any_default [] i d e less = absurd (omega (arith, less))
any_default (x ∷ xs) zero d e less = refl
any_default (x ∷ xs) (suc i) d e less = any_default xs i d e (omega (arith, less))

pub one_element : {X : Type 0} (xs : List X) (i : ℕ) (x y : X) → i < length xs → x ≡ get_or xs i x → y ≡ get_or xs i y → x ≡ y
one_element xs i x y less one other = one ∙ (any_default xs i x y less ∙ sym other)

module _ (stamp : ℕ) (codes : List KeptCode) (code : KeptCode) (m : List ℕ) (line : Line) (at ahead place room : ℕ) (is : IsLineBy stamp line)
    (chosen : (d : KeptCode) → code ≡ get_or codes (code_number at) d) (near : ahead ≤ code.last) (stands : code.start + ahead ≡ at)
    (there : place ≡ code.base + ahead) (wide : room ≡ code.last + 16 - ahead)
    (same_at : line.at ≡ at) (fits : line.size ≤ room) (same : (k : ℕ) → k < line.size → byte_at line.code k ≡ byte_at m (place + k)) where
  chosen_code : (d : KeptCode) → code ≡ get_or codes (code_number line.at) d
  chosen_code d = chosen d ∙ ap (λ x. get_or codes (code_number x) d) (sym same_at)

  code_told : IsCodeIn code m line
  code_told =
      let begins : place ≡ code.base + (line.at - code.start) = omega (arith, there, same_at, stands) in record {
        from = omega (arith, same_at, stands);
        to = omega (arith, same_at, stands, fits, wide, near);
        same = λ k inside. same k inside ∙ ap (λ p. byte_at m (p + k)) begins;
      }

  pub line_told : IsLineOf stamp codes m line
  line_told = record { by = is; here = λ e d. subst (λ (c : KeptCode). IsCodeIn c m line) (chosen_code d) code_told }

  -- memory has the code of a line that was made before
  pub line_seen : IsLineOf stamp codes m (record line { stamp = stamp })
  line_seen = record {
    by = record {
      some = is.some;
      size = is.size;
      whole = is.whole;
      forms = is.forms;
      row = is.row;
      stamped = omega arith;
    };
    here = λ e d.
        let told : IsCodeIn (get_or codes (code_number line.at) d) m line = subst (λ (c : KeptCode). IsCodeIn c m line) (chosen_code d) code_told in
        record { from = told.from; to = told.to; same = told.same };
  }

-- the bytes of a word that two lists have
pub word_same : (code m : List ℕ) (at place kept found k : ℕ) → IsBytes m → ((i : ℕ) → get_or code i 0 < 256) → length code ≡ 64 → at + 8 ≤ 64 →
    kept ≡ from_le_bytes w64 (take 8 (drop at code)) → found ≡ number_at m 8 (place + at) → kept ≡ found → at ≤ k → k < at + 8 → byte_at code k ≡ byte_at m (place + k)
word_same code m at place kept found k bytes small all within is_kept is_found same from to =
    let p : ℕ = place + at in
    let j : ℕ = k - at in
    let below : j < 8 = omega (arith, from, to) in
    let there : at + j ≡ k = omega (arith, from) in
    let where_found : p + (0 + j) ≡ place + k = omega (arith, from) in
    let run : List ℕ = take 8 (drop at code) in
    let eight : length run ≡ 8 = length-take-le 8 (drop at code) (omega (arith, length-drop at code, all, within)) in
    let word : to_le_bytes w64 (number_at m 8 p) ≡ run =
    le_bytes_8 run (number_at m 8 p) eight (small_run 8 (drop at code) (λ i. subst (λ x. x < 256) (sym (get_or-drop at code i 0)) (small (at + i))))
    (sym is_found ∙ (sym same ∙ is_kept)) in
    let runs : run ≡ code_behind m p 0 8 = sym word ∙ word_bytes m bytes 8 0 8 p (lit≤ tt) in
    ap (byte_at code) (sym there)
    ∙ (sym (get_or-take 8 (drop at code) j 0 below ∙ get_or-drop at code j 0)
    ∙ (ap (λ x. byte_at x j) runs ∙ (code_byte m p 0 8 j below ∙ ap (byte_at m) where_found)))

-- forms in fewer bytes of code are forms in more
pub wider_forms : (code : List ℕ) (size more : ℕ) (forms : List Quick) → size ≤ more → All (IsFormIn code size) forms → All (IsFormIn code more) forms
wider_forms code size more forms less all =
    All-weaker (IsFormIn code size) (IsFormIn code more)
    (λ (q : Quick) (is : IsFormIn code size q). record {
      ready = is.ready;
      register = is.register;
      within = omega (arith, is.within, less);
      stands = is.stands;
    }) forms all

-- the form of an instruction at its place in code
pub form_in : (code : List ℕ) (at : ℕ) (q : Quick) (answer : Decoded) → length code ≡ 64 → at + 16 ≤ 64 →
    answer ≡ decoded_of (take (at + 15 - at) (drop at code)) → IsQuick q → (has_register_first q.kind ≡ true → q.to < 16) →
    (is_slow q.kind ≡ false → StandsFor q answer) → (size : ℕ) → at + 16 ≤ size → IsFormIn code size (record q { at = at })
form_in code at q answer all few is ready register stands size within =
    let fifteen : at + 15 - at ≡ 15 = omega arith in
    let whole : length (take 15 (drop at code)) ≡ 15 = length-take-le 15 (drop at code) (omega (arith, length-drop at code, all, few)) in
    let bytes : answer ≡ decoded_of (code_behind code at 0 15) =
    is ∙ (ap (λ n. decoded_of (take n (drop at code))) fifteen ∙ ap decoded_of (run_is_code code at 15 whole)) in
    record {
      ready = record {
        width = ready.width;
        to = ready.to;
        from = ready.from;
        base = ready.base;
        index = ready.index;
      };
      register = register;
      within = within;
      stands = λ quick. record {
        means = sym bytes ∙ (stands quick).means;
        ready = record {
          width = ready.width;
          to = ready.to;
          from = ready.from;
          base = ready.base;
          index = ready.index;
        };
        register = register;
        form = (stands quick).form;
        lawful = (stands quick).lawful;
      };
    }

-- no line has a stamp that is new
pub fresh_lines : (stamp : ℕ) (codes : List KeptCode) (m : List ℕ) (lines : List Line) → All (IsLineBy stamp) lines → All (IsLineOf (stamp + 1) codes m) lines
fresh_lines stamp codes m lines all =
    All-weaker (IsLineBy stamp) (IsLineOf (stamp + 1) codes m)
    (λ (line : Line) (is : IsLineBy stamp line). record {
      by = record {
        some = is.some;
        size = is.size;
        whole = is.whole;
        forms = is.forms;
        row = is.row;
        stamped = omega (arith, is.stamped);
      };
      here = λ (same : line.stamp ≡ stamp + 1). absurd (omega (arith, same, is.stamped));
    }) lines all

pub lines_by : (stamp : ℕ) (codes : List KeptCode) (m : List ℕ) (lines : List Line) → All (IsLineOf stamp codes m) lines → All (IsLineBy stamp) lines
lines_by stamp codes m lines all = All-weaker (IsLineOf stamp codes m) (IsLineBy stamp) (λ (line : Line) (is : IsLineOf stamp codes m line). is.by) lines all

-- forms of which each stands behind the one before it, from this address on
from_one : (start at n : ℕ) (forms : List Quick) → n ≤ length forms → ((d : Quick) → 0 < n → at ≡ start + (get_or forms 0 d).at) →
    ((d : Quick) (i : ℕ) → i + 1 < n → (get_or forms (i + 1) d).at ≡ (get_or forms i d).at + (get_or forms i d).size) → AreFrom start at (take n forms)
from_one start at zero forms few first next = tt
from_one start at (suc n) [] few first next = absurd (omega (arith, few))
from_one start at (suc n) (q ∷ forms) few first next =
    let here : at ≡ start + q.at = first q (omega arith) in
    let later : (d : Quick) (i k : ℕ) → k ≡ suc i → k < suc n → (get_or (q ∷ forms) k d).at ≡ (get_or (q ∷ forms) i d).at + (get_or (q ∷ forms) i d).size =
    λ d i k is less.
    let same : i + 1 ≡ k = omega (arith, is) in
    subst (λ j. (get_or (q ∷ forms) j d).at ≡ (get_or (q ∷ forms) i d).at + (get_or (q ∷ forms) i d).size) same (next d i (omega (arith, is, less))) in (
      here,
      from_one start (at + q.size) n forms (omega (arith, few))
          (λ d some. omega (arith, here, later d 0 1 refl (omega (arith, some))))
          (λ d i less. subst (λ k. (get_or forms k d).at ≡ (get_or forms i d).at + (get_or forms i d).size) (omega arith) (later d (suc i) (suc (suc i)) refl (omega (arith, less)))),
    )

-- the first forms of a row
pub first_forms : (start n count : ℕ) (forms : List Quick) → IsRow forms count → n ≤ count → AreFrom start start (take n forms)
first_forms start n count forms row few =
    from_one start start n forms (omega (arith, few, row.few, row.all)) (λ d some. omega (arith, row.first d (omega (arith, some, few))))
    (λ d i less. row.next d i (omega (arith, less, few)))
