-- The fetch of an instruction by the bytes that its pages lend.
use Rattle.std.proofs.Common.{◌≡◌, ℕ, zero, suc, ◌+◌, ◌-◌, ◌%◌, ◌^◌, ◌<◌, ◌≤◌, min, false, List, [], ◌∷◌, ◌++◌, length, take, drop, refl, ap, sym, ◌∙◌, arith, inl, inr, lit≤}
use Rattle.std.specs.Prelude.{Result, Ok, Err}
use Rattle.std.proofs.Math.Nat.{le-min, min-le_left, min-le_right, min-eq_left, min-eq_right}
use Rattle.std.proofs.Math.Seq.{drop-append_seam, take-append-add, take-append_seam}
use Rattle.std.proofs.lemmas.Bool.{cases_lt}
use Rattle.std.proofs.lemmas.List.{append-nil, drop-drop, drop_all, ext_get_or, get_or-drop, get_or-take, length-take-le, take-take}
use Rattle.std.proofs.lemmas.List.Elements.{All-nil}
use Rattle.nk_bits.specs.declared.access.Access.TheVariants.{Fetch}
use Rattle.nk_bits.specs.declared.leaf.Target.{Target}
use Rattle.nk_bits.specs.declared.fault.AccessFault.{AccessFault}
use Rattle.nk_bits.specs.Translations.{Translations}
use Rattle.nk_bits.specs.Outcomes.{Outcome, answered, refused, then_by, and_then}
use Rattle.nk_bits.specs.Accesses.{View, accessed}
use Rattle.phys_mem.specs.Memory.{IsBytes, byte_at}
use Rattle.page_walk.specs.MemoryAccess.{bytes_left, page_fetched}
use Rattle.x86_decode.specs.declared.instruction.Decoded.{Decoded}
use Rattle.x86_decode.specs.Reader.{decoded_of}
use Rattle.x86_decode.specs.Spelling.{AreBytes}
use Rattle.x86_regs.specs.declared.faults.Fault.{Fault}
use Rattle.x86_regs.specs.declared.faults.Fault.TheVariants.{General}
use Rattle.x86_regs.specs.Effects.{access_raised}
use Rattle.x86_regs.specs.Operands.{wrapped}
use Rattle.cpu_step.specs.InstructionFetch.{byte_fetched, decided_by, fetched_from, in_fetch, instruction_at}
use Rattle.cpu_step.specs.DecodingMemo.{place_found}
use Rattle.cpu_step.proofs.LongerCode.{DecodingFacts}
use Rattle.cpu_step.proofs.CodeRuns.{settled_by}
use Rattle.cpu_step.proofs.PageFetches.{PageFacts, run_on_page}
use Rattle.cpu_step.specs.CodeLines.{code_behind}
use Rattle.cpu_step.proofs.WordBytes.{code_length}

-- a run of memory, byte by byte
pub code_byte : (m : List ℕ) (p i n k : ℕ) → k < n → byte_at (code_behind m p i n) k ≡ byte_at m (p + (i + k))
code_byte m p i zero k below = absurd (omega (arith, below))
code_byte m p i (suc n) zero below = ap (byte_at m) (omega arith)
code_byte m p i (suc n) (suc k) below = code_byte m p (suc i) n k (omega (arith, below)) ∙ ap (byte_at m) (omega arith)

pub run_is_code : (m : List ℕ) (p n : ℕ) → length (take n (drop p m)) ≡ n → take n (drop p m) ≡ code_behind m p 0 n
run_is_code m p n whole =
    ext_get_or 0 (take n (drop p m)) (code_behind m p 0 n) (whole ∙ sym (code_length m p 0 n))
    (λ k below.
    let inside : k < n = omega (arith, below, whole) in
    let plain : p + (0 + k) ≡ p + k = omega arith in
    get_or-take n (drop p m) k 0 inside ∙ (get_or-drop p m k 0 ∙ sym (code_byte m p 0 n k inside ∙ ap (byte_at m) plain)))

-- fifteen bytes of two runs, put into an array one behind the other
pub joined_bytes : (first second base one other : List ℕ) → length base ≡ 15 → length first ≤ 15 → one ≡ first → other ≡ take (15 - length first) second →
    take (length first) (one ++ drop (length first) base) ++ (other ++ drop (15 - length first) (drop (length first) (one ++ drop (length first) base))) ≡ take 15 (first ++ second)
joined_bytes first second base one other full few front back =
    let n : ℕ = length first in
    let k : ℕ = 15 - n in
    let whole : n + k ≡ 15 = omega (arith, few) in
    let behind : drop k (drop n (first ++ drop n base)) ≡ [] =
    ap (drop k) (drop-append_seam first (drop n base)) ∙ (drop-drop k n base ∙ drop_all (n + k) base (omega (arith, full, few))) in
    ap (λ (x : List ℕ × List ℕ). take n (x.0 ++ drop n base) ++ (x.1 ++ drop k (drop n (x.0 ++ drop n base)))) (λ j. (front j, back j))
    ∙ (ap (λ x. x ++ (take k second ++ drop k (drop n (first ++ drop n base)))) (take-append_seam first (drop n base))
    ∙ (ap (λ x. first ++ (take k second ++ x)) behind
    ∙ (ap (λ x. first ++ x) (append-nil (take k second))
    ∙ (sym (take-append-add first second k) ∙ ap (λ x. take x (first ++ second)) whole))))

-- the place from which these bytes of a page stand in memory
pub record IsLent (m : List ℕ) (count : ℕ) (lent : List ℕ) (after : Translations) (found : Outcome AccessFault ℕ) : Type 0 where
  pub place : ℕ
  pub at : found ≡ answered place after
  pub run : lent ≡ take count (drop place m)

same_bytes : (bs cs : List ℕ) (one other : Result (List ℕ) Fault) → one ≡ Ok bs → other ≡ Ok cs → one ≡ other → bs ≡ cs
same_bytes bs cs one other a b e = cc

not_both : (bs : List ℕ) (fault : Fault) (one other : Result (List ℕ) Fault) → one ≡ Ok bs → other ≡ Err fault → one ≡ other → ⊥
not_both bs fault one other a b e = cc

module _ (m : List ℕ) (view : View) (va : ℕ) (now after : Translations) where
  abbrev lends : ℕ → Target → Translations → Outcome AccessFault (List ℕ)
  lends count target last = answered (take count (drop target.first m)) last

  pub lent_there : (lent : List ℕ) → answered lent after ≡ in_fetch (page_fetched m view now va) → IsLent m (bytes_left va) lent after (place_found view va now)
  lent_there lent e = go (accessed view Fetch now va 1).answer (accessed view Fetch now va 1).tlb e
    where
      go : (answer : Result Target AccessFault) (tlb : Translations) → answered lent after ≡ in_fetch (then_by answer tlb (lends (bytes_left va))) →
          IsLent m (bytes_left va) lent after (then_by answer tlb (λ target last. answered target.first last))
      go (Ok target) tlb e = record {
        place = target.first;
        at = ap (λ x. answered target.first x) (sym (ap (λ (o : Outcome Fault (List ℕ)). o.tlb) e));
        run = same_bytes lent (take (bytes_left va) (drop target.first m)) (Ok lent) (Ok (take (bytes_left va) (drop target.first m))) refl refl (ap (λ (o : Outcome Fault (List ℕ)). o.answer) e);
      }
      go (Err fault) tlb e = absurd (not_both lent (access_raised false fault) (Ok lent) (Err (access_raised false fault)) refl refl (ap (λ (o : Outcome Fault (List ℕ)). o.answer) e))

  -- where a page isn't lent, its first byte can't be fetched
  pub refused_there : (fault : Fault) → refused fault after ≡ in_fetch (page_fetched m view now va) → byte_fetched m view va now ≡ refused fault after
  refused_there fault e = go (accessed view Fetch now va 1).answer (accessed view Fetch now va 1).tlb e
    where
      go : (answer : Result Target AccessFault) (tlb : Translations) → refused fault after ≡ in_fetch (then_by answer tlb (lends (bytes_left va))) →
          in_fetch (then_by answer tlb (λ target last. answered (byte_at m target.first) last)) ≡ refused fault after
      go (Ok target) tlb e =
          absurd (not_both (take (bytes_left va) (drop target.first m)) fault (Ok (take (bytes_left va) (drop target.first m))) (Err fault) refl refl (sym (ap (λ (o : Outcome Fault (List ℕ)). o.answer) e)))
      go (Err it) tlb e = ap (λ (o : Outcome Fault (List ℕ)). and_then {F = Fault} {A = List ℕ} {B = ℕ} o (λ lent last. answered 0 last)) (sym e)

-- how many bytes there are to the end of a page
pub left_bounds : (va : ℕ) → (0 < bytes_left va) × (bytes_left va ≤ 15) × (va % 4096 + bytes_left va ≤ 4096)
unfolding bytes_left
left_bounds va =
    let within : min 15 (4096 - va % 4096) ≤ 4096 - va % 4096 = min-le_right 15 (4096 - va % 4096) in
    (le-min (lit≤ tt) (omega arith), min-le_left 15 (4096 - va % 4096), omega (arith, within))

pub to_the_end : (va : ℕ) → bytes_left va < 15 → va % 4096 + bytes_left va ≡ 4096
unfolding bytes_left
to_the_end va less = elim (cases_lt (4096 - va % 4096) 15) [
  | inl near ↦ let all : min 15 (4096 - va % 4096) ≡ 4096 - va % 4096 = min-eq_right (omega (arith, near)) in omega (arith, all)
  | inr far ↦ let most : min 15 (4096 - va % 4096) ≡ 15 = min-eq_left far in absurd (omega (arith, less, most))
]

pub before_the_end : (va : ℕ) → va % 4096 ≤ 4080 → bytes_left va ≡ 15
unfolding bytes_left
before_the_end va within = min-eq_left (omega (arith, within))

pub at_the_start : (va : ℕ) → va % 4096 ≡ 0 → bytes_left va ≡ 15
at_the_start va start = before_the_end va (omega (arith, start))

-- where fewer than fifteen bytes are left of a page, the next one begins behind them
pub next_start : (rip n : ℕ) → rip < 2 ^ 64 → n ≡ bytes_left rip → n < 15 → wrapped (rip + n) % 4096 ≡ 0
next_start rip n fits is less =
    let end : rip % 4096 + bytes_left rip ≡ 4096 = to_the_end rip (omega (arith, is, less)) in
    omega (arith, fits, end, is)

-- the fault of a page is that of the fetch
module _ (m : List ℕ) (view : View) (rip : ℕ) where
  pub refused_behind : (front : List ℕ) (now after : Translations) (fault : Fault) (left : ℕ) → 0 < left →
      refused fault after ≡ in_fetch (page_fetched m view now (wrapped (rip + length front))) → fetched_from left m view rip front now ≡ refused fault after
  refused_behind front now after fault zero some is = absurd (omega (arith, some))
  refused_behind front now after fault (suc more) some is =
      ap (λ o. and_then o (λ b t. settled_by (front ++ b ∷ []) m view rip t more)) (refused_there m view (wrapped (rip + length front)) now after fault is)

  pub refused_first : (now after : Translations) (fault : Fault) → rip < 2 ^ 64 → refused fault after ≡ in_fetch (page_fetched m view now rip) →
      instruction_at m view rip now ≡ refused fault after
  unfolding instruction_at
  refused_first now after fault fits is =
      let here : rip ≡ wrapped (rip + 0) = omega (arith, fits) in
      refused_behind [] now after fault 15 (lit≤ tt) (is ∙ ap (λ x. in_fetch (page_fetched m view now x)) here)

module _ (facts : PageFacts) (decodings : DecodingFacts) (m : List ℕ) (bytes : IsBytes m) (view : View) (rip : ℕ) (fits : rip < 2 ^ 64) where
  first_page : (now after : Translations) (lent : List ℕ) → answered lent after ≡ in_fetch (page_fetched m view now rip) → length lent ≡ bytes_left rip →
      instruction_at m view rip now ≡ settled_by lent m view rip after (15 - length lent)
  unfolding instruction_at
  first_page now after lent is size =
      let there : IsLent m (bytes_left rip) lent after (place_found view rip now) = lent_there m view rip now after lent is in
      let count : ℕ = bytes_left rip in
      let bounds = left_bounds rip in
      let here : rip ≡ wrapped (rip + 0) = omega (arith, fits) in
      let code : lent ≡ code_behind m there.place 0 count = there.run ∙ run_is_code m there.place count (sym (ap length there.run) ∙ size) in
      let whole : 15 ≡ count + (15 - count) = omega (arith, bounds.1) in
      ap (λ x. fetched_from x m view rip [] now) whole
      ∙ (run_on_page facts decodings m bytes view rip [] now after there.place count (15 - count) bounds.0 (omega (arith, bounds.1)) (All-nil (λ b. b < 256)) (omega (arith, fits, bounds.2))
      (ap (λ x. place_found view x now) (sym here) ∙ there.at)
      ∙ (ap (λ x. settled_by x m view rip after (15 - count)) (sym code) ∙ ap (λ x. settled_by lent m view rip after (15 - x)) (sym size)))

  -- by what the bytes of the first page decide
  pub first_decides : (now after : Translations) (lent : List ℕ) (answer : Decoded) → answered lent after ≡ in_fetch (page_fetched m view now rip) → length lent ≡ bytes_left rip →
      answer ≡ decoded_of lent → decided_by answer after (fetched_from (15 - length lent) m view rip lent after) ≡ instruction_at m view rip now
  first_decides now after lent answer is size told =
      ap (λ (d : Decoded). decided_by d after (fetched_from (15 - length lent) m view rip lent after)) told ∙ sym (first_page now after lent is size)

  -- fifteen bytes of the first page decide alone
  pub decides_alone : (now after : Translations) (lent : List ℕ) (answer : Decoded) → answered lent after ≡ in_fetch (page_fetched m view now rip) → length lent ≡ bytes_left rip →
      length lent ≡ 15 → answer ≡ decoded_of lent → instruction_at m view rip now ≡ decided_by answer after (refused (General 0) after)
  decides_alone now after lent answer is size all told =
      sym (first_decides now after lent answer is size told)
      ∙ ap (λ n. decided_by answer after (fetched_from (15 - n) m view rip lent after)) all

  -- fewer than fifteen bytes that end a page, and the next page
  pub second_page : (front lent : List ℕ) (now after : Translations) → AreBytes front → length front ≡ bytes_left rip → length front < 15 →
      answered lent after ≡ in_fetch (page_fetched m view now (wrapped (rip + length front))) → length lent ≡ bytes_left (wrapped (rip + length front)) →
      fetched_from (15 - length front) m view rip front now ≡ decided_by (decoded_of (take 15 (front ++ lent))) after (refused (General 0) after)
  second_page front lent now after are size less is all =
      let next : ℕ = wrapped (rip + length front) in
      let left : ℕ = 15 - length front in
      let there : IsLent m (bytes_left next) lent after (place_found view next now) = lent_there m view next now after lent is in
      let start : next % 4096 ≡ 0 = next_start rip (length front) fits size less in
      let fifteen : bytes_left next ≡ 15 = at_the_start next start in
      let part : take left lent ≡ take left (drop there.place m) =
      ap (take left) (there.run ∙ ap (λ x. take x (drop there.place m)) fifteen) ∙ take-take left 15 (drop there.place m) (omega arith) in
      let code : take left lent ≡ code_behind m there.place 0 left =
      part ∙ run_is_code m there.place left (sym (ap length part) ∙ length-take-le left lent (omega (arith, all, fifteen))) in
      let whole : 15 ≡ length front + left = omega (arith, less) in
      let both : take 15 (front ++ lent) ≡ front ++ code_behind m there.place 0 left =
      ap (λ x. take x (front ++ lent)) whole ∙ (take-append-add front lent left ∙ ap (λ x. front ++ x) code) in
      let more : left ≡ left + 0 = omega arith in
      ap (λ x. fetched_from x m view rip front now) more
      ∙ (run_on_page facts decodings m bytes view rip front now after there.place left 0 (omega (arith, less)) (omega (arith, less)) are (omega (arith, start)) there.at
      ∙ ap (λ x. settled_by x m view rip after 0) (sym both))
