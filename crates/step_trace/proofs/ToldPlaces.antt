-- Where code that is looked at without a fetch stands, and which bytes it has.
use Rattle.std.proofs.Common.{◌≡◌, ℕ, zero, suc, ◌+◌, ◌/◌, ◌%◌, ◌^◌, ◌<◌, ◌≤◌, Bool, true, false, ◌&&◌, List, [], ◌∷◌, ◌++◌, length, take, drop, refl, ap, sym, ◌∙◌, arith, inl, inr, add-one, drop-cons}
use Rattle.std.specs.Prelude.{◌⊎◌, ◌-◌, ◌||◌, ◌==◌, Option, Some, None, Result, Ok, Err, if◌then◌else◌}
use Rattle.std.proofs.lemmas.Bool.{le-ltb}
use Rattle.nk_bits.specs.declared.access.Access.TheVariants.{Fetch}
use Rattle.nk_bits.specs.declared.control.Control.{Control}
use Rattle.nk_bits.specs.declared.leaf.Leaf.{Leaf}
use Rattle.nk_bits.specs.declared.leaf.Target.{Target}
use Rattle.nk_bits.specs.declared.fault.AccessFault.{AccessFault}
use Rattle.nk_bits.specs.declared.fault.AccessFault.TheVariants.{Page, NonCanonical}
use Rattle.nk_bits.specs.AccessRights.{may}
use Rattle.nk_bits.specs.Paging.{page_of, is_canonical}
use Rattle.nk_bits.specs.Translations.{Translations, translation}
use Rattle.nk_bits.specs.Outcomes.{Outcome, answered, refused, then_by, and_then}
use Rattle.nk_bits.specs.Accesses.{View, reached, completed, judged, accessed, crosses, next_page, has_canonical_bytes, address_of, place_in, fault_code}
use Rattle.phys_mem.specs.Memory.{byte_at, entry_in}
use Rattle.page_walk.specs.MemoryAccess.{view_of}
use Rattle.x86_decode.specs.declared.instruction.Decoded.{Decoded}
use Rattle.x86_decode.specs.declared.instruction.Decoded.TheVariants.{Whole, Short, TooLong, Unknown}
use Rattle.x86_decode.specs.declared.instruction.Instr.{Instr}
use Rattle.x86_decode.specs.Reader.{decoded_of}
use Rattle.x86_regs.specs.declared.registers.Regs.{Regs}
use Rattle.x86_regs.specs.Operands.{wrapped}
use Rattle.cpu_step.specs.Processor.{Processor}
use Rattle.step_trace.specs.CodePlaces.{bytes_judged, code_place, place_judged, place_for}
use Rattle.step_trace.specs.StepLines.{Code, byte_then, code_by, code_here, bytes_fetched}

-- a test and nothing more
both_true : (b : Bool) → (b && true) ≡ b
both_true true = refl
both_true false = refl

-- its address is canonical where the access is
one_canonical : (va : ℕ) → va < 2 ^ 64 → has_canonical_bytes va 1 ≡ is_canonical va
unfolding has_canonical_bytes
one_canonical va fits =
    let place : address_of va 0 ≡ va = omega (arith, fits) in
    ap (λ x. is_canonical x && true) place ∙ both_true (is_canonical va)

-- it has no second page
one_page : (va : ℕ) → crosses va 1 ≡ false
unfolding crosses
one_page va = le-ltb 4096 (va % 4096 + 1) (omega arith)

-- the place of a page's judgement, if it passed
abbrev place_ok : Result ℕ AccessFault → Option ℕ
place_ok (Ok place) = Some place
place_ok (Err fault) = None

module _ (view : View) (va : ℕ) where
  -- one page is all that one byte asks for
  by_answer : (answer : Result ℕ AccessFault) (after : Translations) → place_judged (then_by answer after (completed view Fetch va 1)).answer ≡ place_ok answer
  unfolding completed
  by_answer (Ok first) after =
      let both : Outcome AccessFault Target = and_then (reached view Fetch after (next_page va)) (λ second last. answered (record { first = first; second = second }) last) in
      let one : Outcome AccessFault Target = answered (record { first = first; second = 0 }) after in
      ap (λ (b : Bool). place_judged (if b then both else one).answer) (one_page va)
  by_answer (Err fault) after = refl

  -- the judgement's place
  judged_place : (leaf : Option Leaf) → place_ok (judged view Fetch va leaf) ≡ place_for view va leaf
  judged_place None = refl
  judged_place (Some leaf) = go (may Fetch leaf.rights view.cpl view.wp view.smep)
    where
      go : (b : Bool) → place_ok (if b then Ok (place_in leaf va) else Err (Page (fault_code Fetch view.cpl true) va)) ≡ (if b then Some (place_in leaf va) else None)
      go true = refl
      go false = refl

  -- whether the address is canonical or not
  by_canonical : (tlb : Translations) (b : Bool) →
      place_judged (if b then and_then (reached view Fetch tlb va) (completed view Fetch va 1) else refused NonCanonical tlb).answer
      ≡ (if b then place_for view va (translation view.entries view.frames view.root tlb (page_of va)) else None)
  unfolding reached
  by_canonical tlb true =
      by_answer (reached view Fetch tlb va).answer (reached view Fetch tlb va).tlb
      ∙ judged_place (translation view.entries view.frames view.root tlb (page_of va))
  by_canonical tlb false = refl

  -- the place of the byte at an address is that by its page's translation
  pub place_found : (tlb : Translations) → va < 2 ^ 64 → place_judged (accessed view Fetch tlb va 1).answer
      ≡ (if is_canonical va then place_for view va (translation view.entries view.frames view.root tlb (page_of va)) else None)
  unfolding accessed
  place_found tlb fits =
      ap (λ (b : Bool). place_judged (if b then and_then (reached view Fetch tlb va) (completed view Fetch va 1) else refused NonCanonical tlb).answer) (one_canonical va fits)
      ∙ by_canonical tlb (is_canonical va)

-- so by what a processor keeps, where the address is canonical
pub place_kept : (p : Processor) (m : List ℕ) (va : ℕ) (control : Control) (regs : Regs) (tlb : Translations) (leaf : Option Leaf) (result : Option ℕ) →
    va < 2 ^ 64 → is_canonical va ≡ true → control ≡ p.control → regs ≡ p.regs → tlb ≡ p.tlb →
    leaf ≡ translation (entry_in m) (length m / 4096) control.root tlb (page_of va) → result ≡ place_for (view_of m control regs.cpl) va leaf →
    result ≡ code_place p m va
unfolding code_place
place_kept p m va control regs tlb leaf result fits canonical same_control same_regs same_tlb told placed =
    let view : View = view_of m p.control p.regs.cpl in
    placed
    ∙ (ap (λ x. place_for (view_of m control regs.cpl) va x) told
    ∙ (ap (λ (x : Control × (Regs × Translations)). place_for (view_of m x.0 x.1.0.cpl) va (translation (entry_in m) (length m / 4096) x.0.root x.1.1 (page_of va)))
    (λ j. (same_control j, (same_regs j, same_tlb j)))
    ∙ sym (place_found view va p.tlb fits
    ∙ ap (λ (b : Bool). if b then place_for view va (translation view.entries view.frames view.root p.tlb (page_of va)) else None) canonical)))

-- and where it isn't
pub no_place : (p : Processor) (m : List ℕ) (va : ℕ) → va < 2 ^ 64 → is_canonical va ≡ false → code_place p m va ≡ None
unfolding code_place
no_place p m va fits off =
    let view : View = view_of m p.control p.regs.cpl in
    place_found view va p.tlb fits
    ∙ ap (λ (b : Bool). if b then place_for view va (translation view.entries view.frames view.root p.tlb (page_of va)) else None) off

-- the next byte of a page stands one place further
module _ (view : View) (va next place : ℕ) (plain : next ≡ va + 1) (within : va % 4096 + 1 < 4096) where
  -- by whether the translation serves a fetch
  by_right : (leaf : Leaf) (b : Bool) → (if b then Some (place_in leaf va) else None) ≡ Some place →
      (if b then Some (place_in leaf next) else None) ≡ Some (place + 1)
  by_right leaf true found =
      let here : place_in leaf va ≡ place = cc in
      ap Some (omega (arith, here, plain, within))
  by_right leaf false found = cc

  -- by whether there is one
  by_leaf : (leaf : Option Leaf) (b : Bool) → (if b then place_for view va leaf else None) ≡ Some place →
      (if b then place_for view next leaf else None) ≡ Some (place + 1)
  by_leaf leaf false found = cc
  by_leaf None true found = cc
  by_leaf (Some leaf) true found = by_right leaf (may Fetch leaf.rights view.cpl view.wp view.smep) found

-- of an access
next_place : (view : View) (tlb : Translations) (va place : ℕ) → va < 2 ^ 64 → va % 4096 + 1 < 4096 →
    place_judged (accessed view Fetch tlb va 1).answer ≡ Some place → place_judged (accessed view Fetch tlb (wrapped (va + 1)) 1).answer ≡ Some (place + 1)
next_place view tlb va place fits within found =
    let next : ℕ = wrapped (va + 1) in
    let plain : next ≡ va + 1 = omega (arith, fits, within) in
    let same : page_of next ≡ page_of va = omega (arith, plain, within) in
    let upper : next / 2 ^ 47 ≡ va / 2 ^ 47 = omega (arith, plain, within) in
    let canonical : is_canonical next ≡ is_canonical va = ap (λ x. (x == 0) || (x == 2 ^ 17 - 1)) upper in
    place_found view next tlb (omega arith)
    ∙ (ap (λ (b : Bool). if b then place_for view next (translation view.entries view.frames view.root tlb (page_of next)) else None) canonical
    ∙ (ap (λ page. if is_canonical va then place_for view next (translation view.entries view.frames view.root tlb page) else None) same
    ∙ by_leaf view va next place plain within (translation view.entries view.frames view.root tlb (page_of va)) (is_canonical va)
    (sym (place_found view va tlb fits) ∙ found)))

-- a byte by its place
byte_there : (m : List ℕ) (answer : Result Target AccessFault) (place : ℕ) (later : List ℕ) → place_judged answer ≡ Some place → byte_then m answer later ≡ byte_at m place ∷ later
byte_there m (Ok target) place later found =
    let here : target.first ≡ place = cc in
    ap (λ x. byte_at m x ∷ later) here
byte_there m (Err fault) place later found = cc

-- and none without a place
no_byte : (m : List ℕ) (answer : Result Target AccessFault) (later : List ℕ) → place_judged answer ≡ None → byte_then m answer later ≡ []
no_byte m (Ok target) later found = cc
no_byte m (Err fault) later found = refl

module _ (m : List ℕ) (view : View) (tlb : Translations) where
  -- the bytes that lie on one page, where the first can be fetched
  pub on_page : (n va place : ℕ) → va < 2 ^ 64 → va % 4096 + n ≤ 4096 → place + n ≤ length m →
      place_judged (accessed view Fetch tlb va 1).answer ≡ Some place → bytes_fetched m view tlb va n ≡ take n (drop place m)
  on_page zero va place fits within inside found = refl
  on_page (suc zero) va place fits within inside found =
      byte_there m (accessed view Fetch tlb va 1).answer place [] found
      ∙ ap (take 1) (sym (drop-cons m place 0 (omega (arith, inside))))
  on_page (suc (suc n)) va place fits within inside found =
      let next : ℕ = wrapped (va + 1) in
      byte_there m (accessed view Fetch tlb va 1).answer place (bytes_fetched m view tlb next (suc n)) found
      ∙ (ap (λ later. byte_at m place ∷ later) (on_page (suc n) next (place + 1) (omega arith) (omega (arith, fits, within)) (omega (arith, inside))
      (next_place view tlb va place fits (omega (arith, within)) found))
      ∙ (ap (λ k. byte_at m place ∷ take (suc n) (drop k m)) (add-one place)
      ∙ ap (take (suc (suc n))) (sym (drop-cons m place 0 (omega (arith, inside))))))

  -- and where it can't
  pub off_page : (n va : ℕ) → place_judged (accessed view Fetch tlb va 1).answer ≡ None → bytes_fetched m view tlb va n ≡ []
  off_page zero va found = refl
  off_page (suc n) va found = no_byte m (accessed view Fetch tlb va 1).answer (bytes_fetched m view tlb (wrapped (va + 1)) n) found

  -- bytes behind so many that can be fetched
  more_behind : (answer : Result Target AccessFault) (some later all : List ℕ) (a : ℕ) → length (byte_then m answer some) ≡ suc a →
      (length some ≡ a → all ≡ some ++ later) → byte_then m answer all ≡ byte_then m answer some ++ later
  more_behind (Ok target) some later all a are rest = ap (λ l. byte_at m target.first ∷ l) (rest (omega (arith, are)))
  more_behind (Err fault) some later all a are rest = cc

  -- so by their number
  pub behind_all : (a b total at : ℕ) → at < 2 ^ 64 → total ≡ a + b → length (bytes_fetched m view tlb at a) ≡ a →
      bytes_fetched m view tlb at total ≡ bytes_fetched m view tlb at a ++ bytes_fetched m view tlb (wrapped (at + a)) b
  behind_all zero b total at fits is are =
      let here : at ≡ wrapped (at + 0) = omega (arith, fits) in
      let same : total ≡ b = omega (arith, is) in
      ap (λ n. bytes_fetched m view tlb at n) same ∙ ap (λ x. bytes_fetched m view tlb x b) here
  behind_all (suc a) b zero at fits is are = absurd (omega (arith, is))
  behind_all (suc a) b (suc total) at fits is are =
      let next : ℕ = wrapped (at + 1) in
      let there : wrapped (next + a) ≡ wrapped (at + suc a) = omega arith in
      more_behind (accessed view Fetch tlb at 1).answer (bytes_fetched m view tlb next a) (bytes_fetched m view tlb (wrapped (at + suc a)) b) (bytes_fetched m view tlb next total) a are
      (λ some. behind_all a b total next (omega arith) (omega (arith, is)) some ∙ ap (λ x. bytes_fetched m view tlb next a ++ bytes_fetched m view tlb x b) there)

  -- and behind one that can't
  none_behind : (answer : Result Target AccessFault) (some all : List ℕ) (a : ℕ) → (length (byte_then m answer some) ≡ suc a → ⊥) →
      ((length some ≡ a → ⊥) → all ≡ some) → byte_then m answer all ≡ byte_then m answer some
  none_behind (Ok target) some all a short rest = ap (λ l. byte_at m target.first ∷ l) (rest (λ are. short (ap suc are)))
  none_behind (Err fault) some all a short rest = refl

  -- so by their number
  pub behind_some : (a b total at : ℕ) → total ≡ a + b → (length (bytes_fetched m view tlb at a) ≡ a → ⊥) →
      bytes_fetched m view tlb at total ≡ bytes_fetched m view tlb at a
  behind_some zero b total at is short = absurd (short refl)
  behind_some (suc a) b zero at is short = absurd (omega (arith, is))
  behind_some (suc a) b (suc total) at is short =
      let next : ℕ = wrapped (at + 1) in
      none_behind (accessed view Fetch tlb at 1).answer (bytes_fetched m view tlb next a) (bytes_fetched m view tlb next total) a short
      (λ less. behind_some a b total next (omega (arith, is)) less)

-- the same of what a processor keeps
module _ (p : Processor) (m : List ℕ) where
  -- a page that can be fetched
  pub page_bytes : (n va place : ℕ) → va < 2 ^ 64 → va % 4096 + n ≤ 4096 → place + n ≤ length m → code_place p m va ≡ Some place → bytes_judged p m va n ≡ take n (drop place m)
  unfolding code_place bytes_judged
  page_bytes n va place fits within inside found = on_page m (view_of m p.control p.regs.cpl) p.tlb n va place fits within inside found

  -- a page that can't
  pub no_bytes : (n va : ℕ) → code_place p m va ≡ None → bytes_judged p m va n ≡ []
  unfolding code_place bytes_judged
  no_bytes n va found = off_page m (view_of m p.control p.regs.cpl) p.tlb n va found

  -- no byte is asked for
  pub none_asked : (n va : ℕ) → n ≡ 0 → bytes_judged p m va n ≡ []
  unfolding bytes_judged
  none_asked n va is = ap (λ k. bytes_fetched m (view_of m p.control p.regs.cpl) p.tlb va k) is

  -- all bytes of the first page can be fetched
  pub both_pages : (a b total at : ℕ) → at < 2 ^ 64 → total ≡ a + b → length (bytes_judged p m at a) ≡ a →
      bytes_judged p m at total ≡ bytes_judged p m at a ++ bytes_judged p m (wrapped (at + a)) b
  unfolding bytes_judged
  both_pages a b total at fits is are = behind_all m (view_of m p.control p.regs.cpl) p.tlb a b total at fits is are

  -- one of them can't
  pub first_page : (a b total at : ℕ) → total ≡ a + b → (length (bytes_judged p m at a) ≡ a → ⊥) → bytes_judged p m at total ≡ bytes_judged p m at a
  unfolding bytes_judged
  first_page a b total at is short = behind_some m (view_of m p.control p.regs.cpl) p.tlb a b total at is short

  -- the code at RIP is what these bytes decode to
  pub code_is : (bytes : List ℕ) → bytes ≡ bytes_judged p m p.regs.rip 15 → code_by bytes (decoded_of bytes) ≡ code_here p m
  unfolding bytes_judged
  code_is bytes are = ap (λ (b : List ℕ). code_by b (decoded_of b)) are

  -- where they decode to an instruction
  pub whole_told : (bytes taken : List ℕ) (instr : Instr) (size : ℕ) (decoded : Decoded) → bytes ≡ bytes_judged p m p.regs.rip 15 → decoded ≡ decoded_of bytes →
      decoded ≡ Whole instr size → taken ≡ take size bytes → Code taken (Some instr) ≡ code_here p m
  whole_told bytes taken instr size decoded are value is cut =
      ap (λ (b : List ℕ). Code b (Some instr)) cut ∙ (ap (λ (d : Decoded). code_by bytes d) (sym is ∙ value) ∙ code_is bytes are)

  -- and where they don't
  pub none_told : (bytes : List ℕ) (decoded : Decoded) → bytes ≡ bytes_judged p m p.regs.rip 15 → decoded ≡ decoded_of bytes →
      (decoded ≡ Short) ⊎ ((decoded ≡ TooLong) ⊎ (decoded ≡ Unknown)) → Code bytes None ≡ code_here p m
  none_told bytes decoded are value (inl is) = ap (λ (d : Decoded). code_by bytes d) (sym is ∙ value) ∙ code_is bytes are
  none_told bytes decoded are value (inr (inl is)) = ap (λ (d : Decoded). code_by bytes d) (sym is ∙ value) ∙ code_is bytes are
  none_told bytes decoded are value (inr (inr is)) = ap (λ (d : Decoded). code_by bytes d) (sym is ∙ value) ∙ code_is bytes are
