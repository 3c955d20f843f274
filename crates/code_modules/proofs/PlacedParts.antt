-- Parts that are placed one behind the other.
use Rattle.std.proofs.Common.{◌≡◌, ℕ, ◌+◌, ◌-◌, ◌*◌, ◌%◌, ◌^◌, ◌≤◌, Bool, false, ◌&&◌, ◌==◌, List, [], ◌∷◌, length, inl, inr, refl, sym, ap, ◌∙◌, subst, arith, suc, zero}
use Rattle.std.specs.Prelude.{not, map, sum_by}
use Rattle.std.specs.List.{All, AllPairs, list_any}
use Rattle.std.proofs.lemmas.Bool.{and_left, and_right, cases_Bool, cond-false, cond-true, eq-eqb, eqb-false, eqb-true, lt-leb}
use Rattle.std.proofs.lemmas.List.Elements.{All-cons, All-head, All-nil, All-tail}
use Rattle.std.proofs.lemmas.List.Sums.{sum_by-cons}
use Rattle.elf_image.specs.declared.program_header.ProgramHeader.{ProgramHeader}
use Rattle.elf_image.specs.Segments.{is_misaligned, pages_touched, shares_page, total_pages}
use Rattle.code_modules.specs.FormWords.{LieApart, EachApart, IsLoadable, unplaced, header_from, numbered}
use Rattle.code_modules.specs.JoinAnswers.{part_first, part_last, part_pages}
use Rattle.code_modules.specs.JoinedFile.{FilePart, offset_from, part_end, parts_end, placed_from}
use Rattle.code_modules.specs.JoinedParts.{JoinedPart}
use Rattle.code_modules.specs.PartWords.{Follow}
use Rattle.code_modules.proofs.FilePlaces.{end_rises}

same_number : (n : ℕ) → not (n == n) ≡ false
same_number n = rw (eq-eqb n n refl) refl

pub length_placed : (e : ℕ) (parts : List JoinedPart) → length (placed_from e parts) ≡ length parts
length_placed e [] = refl
length_placed e (p ∷ later) = ap suc (length_placed (offset_from e p + length p.bytes) later)

pub parts_of_placed : (e : ℕ) (parts : List JoinedPart) → map (λ p. p.part) (placed_from e parts) ≡ parts
parts_of_placed e [] = refl
parts_of_placed e (p ∷ later) = ap (λ ps. p ∷ ps) (parts_of_placed (offset_from e p + length p.bytes) later)

-- the offset of a part is the place or one behind it, less than a page away
by_offset : (e : ℕ) (p : JoinedPart) (P : ℕ → Type 0) → (length p.bytes ≡ 0 → P e)
    → ((length p.bytes ≡ 0 → ⊥) → P (e + (p.address % 4096 + 4096 - e % 4096) % 4096)) → P (offset_from e p)
by_offset e p P none some = elim (cases_Bool (length p.bytes == 0)) [
  | inl empty ↦
      let is : offset_from e p ≡ e = cond-true (length p.bytes == 0) _ _ empty in
      subst P (sym is) (none (eqb-true (length p.bytes) 0 empty))
  | inr full ↦
      let is : offset_from e p ≡ e + (p.address % 4096 + 4096 - e % 4096) % 4096 = cond-false (length p.bytes == 0) _ _ full in
      subst P (sym is) (some (eqb-false (length p.bytes) 0 full))
]

pub offset_behind : (e : ℕ) (p : JoinedPart) → e ≤ offset_from e p
offset_behind e p = by_offset e p (λ o. e ≤ o) (λ _. omega arith) (λ _. omega arith)

pub offset_near : (e : ℕ) (p : JoinedPart) → offset_from e p ≤ e + 4095
offset_near e p = by_offset e p (λ o. o ≤ e + 4095) (λ _. omega arith) (λ _. omega arith)

same_place : (e a : ℕ) → a % 4096 ≡ (e + (a % 4096 + 4096 - e % 4096) % 4096) % 4096
same_place e a = omega arith

-- and equals the address within a page, where the part has bytes
pub offset_aligned : (e i : ℕ) (p : JoinedPart) → is_misaligned (header_from i (record { offset = offset_from e p; part = p })) ≡ false
offset_aligned e i p =
    by_offset e p (λ o. (not (length p.bytes == 0) && not (p.address % 4096 == o % 4096)) ≡ false)
    (λ empty. rw empty refl)
    (λ full. and_right (not (length p.bytes == 0)) _ (rw (← same_place e p.address) (same_number (p.address % 4096))))

pub follow_placed : (e : ℕ) (parts : List JoinedPart) → Follow e (placed_from e parts)
follow_placed e [] = tt
follow_placed e (p ∷ later) = (offset_behind e p, follow_placed (offset_from e p + length p.bytes) later)

pub follow_lower : (e f : ℕ) (ps : List FilePart) → e ≤ f → Follow f ps → Follow e ps
follow_lower e f [] low follow = tt
follow_lower e f (p ∷ ps) low follow = let first : f ≤ p.offset = follow.0 in (omega arith, follow.1)

-- none ends behind the last one
pub end_inside : (e t : ℕ) (parts : List JoinedPart) → parts_end e (placed_from e parts) ≤ t
    → All (λ p. part_end p ≤ t) (placed_from e parts)
end_inside e t [] most = All-nil (λ p. part_end p ≤ t)
end_inside e t (p ∷ later) most =
    let next : ℕ = offset_from e p + length p.bytes in
    let low : next ≤ parts_end next (placed_from next later) = end_rises next (placed_from next later) (follow_placed next later) in
    All-cons (λ p. part_end p ≤ t) (record { offset = offset_from e p; part = p }) (placed_from next later) (omega arith)
    (end_inside next t later most)

-- what holds of each part, wherever it is placed
pub each_placed : (P : JoinedPart → Type 0) (e : ℕ) (parts : List JoinedPart) → All P parts
    → All (λ p. P p.part) (placed_from e parts)
each_placed P e [] all = All-nil (λ p. P p.part)
each_placed P e (p ∷ later) all =
    All-cons (λ p. P p.part) (record { offset = offset_from e p; part = p }) _ (All-head P p later all)
    (each_placed P (offset_from e p + length p.bytes) later (All-tail P p later all))

pub each_header : (P : ProgramHeader → Type 0) (Q : FilePart → Type 0) → ((i : ℕ) (p : FilePart) → Q p → P (header_from i p))
    → (k : ℕ) (ps : List FilePart) → All Q ps → All P (numbered k ps)
each_header P Q from k [] all = All-nil P
each_header P Q from k (p ∷ later) all =
    All-cons P (header_from k p) (numbered (k + 1) later) (from k p (All-head Q p later all))
    (each_header P Q from (k + 1) later (All-tail Q p later all))

pub each_aligned : (e k : ℕ) (parts : List JoinedPart) → All (λ s. is_misaligned s ≡ false) (numbered k (placed_from e parts))
each_aligned e k [] = All-nil (λ s. is_misaligned s ≡ false)
each_aligned e k (p ∷ later) =
    All-cons (λ s. is_misaligned s ≡ false) (header_from k (record { offset = offset_from e p; part = p })) _ (offset_aligned e k p)
    (each_aligned (offset_from e p + length p.bytes) (k + 1) later)

-- a test that looks at neither offset nor index
pub any_header : (test : ProgramHeader → Bool) → ((i o : ℕ) (p : JoinedPart) → test (header_from i (record { offset = o; part = p })) ≡ test (unplaced p))
    → (k e : ℕ) (parts : List JoinedPart) → list_any test (numbered k (placed_from e parts)) ≡ list_any (λ p. test (unplaced p)) parts
any_header test same k e [] = refl
any_header test same k e (p ∷ later) =
    rw (same k (offset_from e p) p, any_header test same (k + 1) (offset_from e p + length p.bytes) later) refl

pub total_is : (k e : ℕ) (parts : List JoinedPart) → total_pages (numbered k (placed_from e parts)) ≡ sum_by part_pages parts
total_is k e [] = refl
total_is k e (p ∷ later) =
    sum_by-cons pages_touched (header_from k (record { offset = offset_from e p; part = p })) (numbered (k + 1) (placed_from (offset_from e p + length p.bytes) later))
    ∙ ap (λ n. part_pages p + n) (total_is (k + 1) (offset_from e p + length p.bytes) later)
    ∙ sym (sum_by-cons part_pages p later)

-- two parts that are apart share no page
none_shared : (i j o u : ℕ) (p q : JoinedPart) → LieApart p q
    → shares_page (header_from i (record { offset = o; part = p })) (header_from j (record { offset = u; part = q })) ≡ false
none_shared i j o u p q (inl low) = and_right _ _ (lt-leb (part_first q) (part_last p) low)
none_shared i j o u p q (inr high) = and_left _ _ (lt-leb (part_first p) (part_last q) high)

none_shares : (k j o e : ℕ) (p : JoinedPart) (parts : List JoinedPart) → All (LieApart p) parts
    → All (λ t. shares_page (header_from k (record { offset = o; part = p })) t ≡ false) (numbered j (placed_from e parts))
none_shares k j o e p [] all = All-nil (λ t. shares_page (header_from k (record { offset = o; part = p })) t ≡ false)
none_shares k j o e p (q ∷ later) all =
    All-cons (λ t. shares_page (header_from k (record { offset = o; part = p })) t ≡ false)
    (header_from j (record { offset = offset_from e q; part = q })) _
    (none_shared k j o (offset_from e q) p q (All-head (LieApart p) q later all))
    (none_shares k (j + 1) o (offset_from e q + length q.bytes) p later (All-tail (LieApart p) q later all))

AllPairs-cons : {X : Type 0} (R : X → X → Type 0) (x : X) (xs : List X) → All (R x) xs → AllPairs R xs → AllPairs R (x ∷ xs)
AllPairs-cons R x xs first rest i zero d low high = absurd (omega arith)
AllPairs-cons R x xs first rest zero (suc j) d low high = first j d (omega arith)
AllPairs-cons R x xs first rest (suc i) (suc j) d low high = rest i j d (omega arith) (omega arith)

pub headers_apart : (k e : ℕ) (parts : List JoinedPart) → EachApart parts
    → AllPairs (λ s t. shares_page s t ≡ false) (numbered k (placed_from e parts))
headers_apart k e [] apart = λ i j d low high. absurd (omega arith)
headers_apart k e (p ∷ later) apart =
    AllPairs-cons (λ s t. shares_page s t ≡ false) (header_from k (record { offset = offset_from e p; part = p })) _
    (none_shares k (k + 1) (offset_from e p) (offset_from e p + length p.bytes) p later apart.0)
    (headers_apart (k + 1) (offset_from e p + length p.bytes) later apart.1)

-- how far parts reach that lie in the home
pub end_small : (e : ℕ) (parts : List JoinedPart) → All IsLoadable parts
    → parts_end e (placed_from e parts) ≤ e + (2 ^ 30 + 4096) * length parts
end_small e [] all = omega arith
end_small e (p ∷ later) all =
    let own = All-head IsLoadable p later all in
    let rest = end_small (offset_from e p + length p.bytes) later (All-tail IsLoadable p later all) in
    omega (arith, own.backed, own.above, own.below, rest, offset_near e p)
