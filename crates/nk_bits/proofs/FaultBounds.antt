-- The fault of an access has an error code of five bits, and an address of 64.
use Rattle.std.proofs.Common.{ℕ, ◌+◌, ◌^◌, ◌<◌, ◌≤◌, Bool, true, false, arith}
use Rattle.std.specs.Prelude.{◌==◌, IfErr, Option, Some, None, Result, Ok, Err, if◌then◌else◌}
use Rattle.nk_bits.specs.declared.access.Access.{Access}
use Rattle.nk_bits.specs.declared.access.Access.TheVariants.{Read, Write, Fetch}
use Rattle.nk_bits.specs.declared.leaf.Leaf.{Leaf}
use Rattle.nk_bits.specs.declared.fault.AccessFault.TheVariants.{Page}
use Rattle.nk_bits.specs.Paging.{page_of}
use Rattle.nk_bits.specs.AccessRights.{may}
use Rattle.nk_bits.specs.Translations.{Translations, translation}
use Rattle.nk_bits.specs.Outcomes.{Outcome, answered, then_by}
use Rattle.nk_bits.specs.Accesses.{IsSmallAccessFault, View, access_bits, accessed, completed, crosses, fault_code, has_canonical_bytes, judged, next_page, place_in, reached}

-- the fault of a choice, and that of a step after another
chosen_err : {F A : Type 0} (Q : F → Type 0) (b : Bool) (one other : Outcome F A) →
    IfErr one.answer Q → IfErr other.answer Q → IfErr (if b then one else other).answer Q
chosen_err Q true one other first second = first
chosen_err Q false one other first second = second

then_err : {F A B : Type 0} (Q : F → Type 0) (answer : Result A F) (tlb : Translations)
    (next : A → Translations → Outcome F B) →
    IfErr answer Q → ((x : A) → IfErr (next x tlb).answer Q) → IfErr (then_by answer tlb next).answer Q
then_err Q (Ok x) tlb next first later = later x
then_err Q (Err fault) tlb next first later = first

bits_few : (access : Access) → access_bits access ≤ 16
bits_few Read = omega arith
bits_few Write = omega arith
bits_few Fetch = omega arith

code_few : (access : Access) (cpl : ℕ) (present : Bool) → fault_code access cpl present < 2 ^ 5
code_few access cpl present = by_bits present (cpl == 3)
  where
    by_bits : (one third : Bool) → (if one then 1 else 0) + (if third then 4 else 0) + access_bits access < 2 ^ 5
    by_bits true true = omega (arith, bits_few access)
    by_bits true false = omega (arith, bits_few access)
    by_bits false true = omega (arith, bits_few access)
    by_bits false false = omega (arith, bits_few access)

next_fits : (va : ℕ) → next_page va < 2 ^ 64
unfolding next_page
next_fits va = omega arith

module _ (view : View) (access : Access) where
  judged_small : (va : ℕ) (found : Option Leaf) → va < 2 ^ 64 → IfErr (judged view access va found) IsSmallAccessFault
  judged_small va None fits = (code_few access view.cpl false, fits)
  judged_small va (Some leaf) fits = choice (may access leaf.rights view.cpl view.wp view.smep)
    where
      choice : (b : Bool) →
          IfErr (if b then Ok (place_in leaf va) else Err (Page (fault_code access view.cpl true) va)) IsSmallAccessFault
      choice true = tt
      choice false = (code_few access view.cpl true, fits)

  reached_small : (tlb : Translations) (va : ℕ) → va < 2 ^ 64 → IfErr (reached view access tlb va).answer IsSmallAccessFault
  unfolding reached
  reached_small tlb va fits = judged_small va (translation view.entries view.frames view.root tlb (page_of va)) fits

  completed_small : (va width first : ℕ) (tlb : Translations) →
      IfErr (completed view access va width first tlb).answer IsSmallAccessFault
  unfolding completed
  completed_small va width first tlb =
      let second = reached view access tlb (next_page va) in
      chosen_err IsSmallAccessFault (crosses va width) _ _
      (then_err IsSmallAccessFault second.answer second.tlb
      (λ second after. answered (record { first = first; second = second }) after)
      (reached_small tlb (next_page va) (next_fits va)) (λ x. tt))
      tt

pub accessed_small : (view : View) (access : Access) (tlb : Translations) (va width : ℕ) → va < 2 ^ 64 →
    IfErr (accessed view access tlb va width).answer IsSmallAccessFault
unfolding accessed
accessed_small view access tlb va width fits =
    let first = reached view access tlb va in
    chosen_err IsSmallAccessFault (has_canonical_bytes va width) _ _
    (then_err IsSmallAccessFault first.answer first.tlb (completed view access va width)
    (reached_small view access tlb va fits) (λ x. completed_small view access va width x first.tlb))
    tt
