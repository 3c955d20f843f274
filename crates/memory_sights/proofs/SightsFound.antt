-- What a load of one byte reads, by the translation of its page.
use Rattle.std.proofs.Common.{◌≡◌, ℕ, ◌+◌, ◌*◌, ◌/◌, ◌%◌, ◌^◌, ◌<◌, ◌≤◌, Bool, true, false, ◌&&◌, List, length, refl, ap, sym, subst, ◌∙◌, arith}
use Rattle.std.specs.Prelude.{◌-◌, ◌||◌, ◌==◌, IfOk, IfSome, Option, Some, None, Result, Ok, Err, if◌then◌else◌}
use Rattle.std.proofs.Math.Bool.{and-true}
use Rattle.std.proofs.lemmas.Bool.{le-ltb}
use Rattle.nk_bits.specs.declared.access.Access.TheVariants.{Read}
use Rattle.nk_bits.specs.declared.leaf.Leaf.{Leaf}
use Rattle.nk_bits.specs.declared.leaf.Target.{Target}
use Rattle.nk_bits.specs.declared.fault.AccessFault.{AccessFault}
use Rattle.nk_bits.specs.declared.fault.AccessFault.TheVariants.{Page, NonCanonical}
use Rattle.nk_bits.specs.Paging.{is_canonical, page_of}
use Rattle.nk_bits.specs.Translations.{Translations, look, or_walked, translation}
use Rattle.nk_bits.specs.UpperEntries.{walk_by}
use Rattle.nk_bits.specs.Outcomes.{Outcome, answered, refused, then_by, and_then}
use Rattle.nk_bits.specs.Accesses.{View, accessed, address_of, completed, crosses, fault_code, first_part, has_canonical_bytes, judged, next_page, place_in, reached}
use Rattle.phys_mem.specs.Memory.{byte_at, entry_in, number_at}
use Rattle.page_walk.specs.MemoryAccess.{loaded, value_at, view_of}
use Rattle.gate_state.specs.MachineStates.{MachineState}
use Rattle.memory_sights.specs.declared.sight.Sight.TheVariants.{Linear}
use Rattle.memory_sights.specs.Sights.{byte_named, read_by}
use Rattle.memory_sights.specs.SightsSought.{byte_for}

-- an access of one byte lies on one page, and is canonical where its address is
one_part : (va : ℕ) → first_part va 1 ≡ 1
unfolding first_part
one_part va = omega arith

one_page : (va : ℕ) → crosses va 1 ≡ false
unfolding crosses
one_page va = le-ltb 4096 (va % 4096 + 1) (omega arith)

one_canonical : (va : ℕ) → va < 2 ^ 64 → has_canonical_bytes va 1 ≡ is_canonical va
unfolding has_canonical_bytes
one_canonical va fits =
    let place : address_of va 0 ≡ va = omega (arith, fits) in
    ap (λ x. is_canonical x && true) place ∙ and-true (is_canonical va)

-- its number is the byte
one_byte : (m : List ℕ) (p q : ℕ) → number_at m 1 p + 256 ^ 1 * number_at m 0 q ≡ byte_at m p
unfolding number_at
one_byte m p q = omega arith

one_value : (m : List ℕ) (va : ℕ) (target : Target) → value_at m va 1 target ≡ byte_at m target.first
one_value m va target =
    ap (λ part. number_at m part target.first + 256 ^ part * number_at m (1 - part) target.second) (one_part va)
    ∙ one_byte m target.first target.second

-- the byte at the place of a page's judgement, if it passed
abbrev byte_of : List ℕ → Result ℕ AccessFault → Option ℕ
byte_of m (Ok place) = Some (byte_at m place)
byte_of m (Err fault) = None

module _ (m : List ℕ) (view : View) (va : ℕ) where
  abbrev value_of : Target → Translations → Outcome AccessFault ℕ
  value_of target after = answered (value_at m va 1 target) after

  -- one page is all that one byte asks for
  by_answer : (answer : Result ℕ AccessFault) (after : Translations)
      → read_by (and_then (then_by answer after (completed view Read va 1)) value_of).answer ≡ byte_of m answer
  unfolding completed
  by_answer (Ok first) after =
      let both : Outcome AccessFault Target = and_then (reached view Read after (next_page va)) (λ second last. answered (record { first = first; second = second }) last) in
      let one : Outcome AccessFault Target = answered (record { first = first; second = 0 }) after in
      ap (λ (b : Bool). read_by (and_then (if b then both else one) value_of).answer) (one_page va)
      ∙ ap Some (one_value m va (record { first = first; second = 0 }))
  by_answer (Err fault) after = refl

  -- the judgement's byte
  judged_byte : (leaf : Option Leaf) → byte_of m (judged view Read va leaf) ≡ byte_for m view.cpl va leaf
  judged_byte None = refl
  judged_byte (Some leaf) = go (view.cpl == 0 || leaf.rights.user)
    where
      go : (b : Bool) → byte_of m (if b then Ok (place_in leaf va) else Err (Page (fault_code Read view.cpl true) va))
          ≡ (if b then Some (byte_at m (place_in leaf va)) else None)
      go true = refl
      go false = refl

  -- whether the address is canonical or not
  by_canonical : (tlb : Translations) (b : Bool)
      → read_by (and_then (if b then and_then (reached view Read tlb va) (completed view Read va 1) else refused NonCanonical tlb) value_of).answer
      ≡ (if b then byte_for m view.cpl va (translation view.entries view.frames view.root tlb (page_of va)) else None)
  unfolding reached
  by_canonical tlb true =
      by_answer (reached view Read tlb va).answer (reached view Read tlb va).tlb
      ∙ judged_byte (translation view.entries view.frames view.root tlb (page_of va))
  by_canonical tlb false = refl

  -- the byte that a load reads is that by its page's translation
  byte_found : (tlb : Translations) → va < 2 ^ 64 → read_by (loaded m view tlb va 1).answer
      ≡ (if is_canonical va then byte_for m view.cpl va (translation view.entries view.frames view.root tlb (page_of va)) else None)
  unfolding accessed
  byte_found tlb fits =
      ap (λ (b : Bool). read_by (and_then (if b then and_then (reached view Read tlb va) (completed view Read va 1) else refused NonCanonical tlb) value_of).answer)
      (one_canonical va fits)
      ∙ by_canonical tlb (is_canonical va)

-- the frame of a translation lies in a memory of whole frames
within : (kept : Option Leaf) (walked : Result Leaf ℕ) (size frames : ℕ) → size ≡ 4096 * frames
    → IfSome kept (λ leaf. 4096 * leaf.frame < size) → IfOk walked (λ leaf. leaf.frame < size / 4096)
    → IfSome (or_walked kept walked) (λ leaf. 4096 * leaf.frame + 4096 ≤ size)
within (Some leaf) walked size frames is kept found = omega (arith, is, kept)
within None (Ok leaf) size frames is kept found = omega (arith, is, found)
within None (Err level) size frames is kept found = tt

pub frame_within : (leaf : Option Leaf) (t : ℕ → ℕ → ℕ) (root page size frames : ℕ) (tlb : Translations) → size ≡ 4096 * frames
    → IfSome (look tlb.pairs page) (λ leaf. 4096 * leaf.frame < size)
    → IfOk (walk_by t (size / 4096) root tlb.upper page) (λ leaf. leaf.frame < size / 4096)
    → leaf ≡ translation t (size / 4096) root tlb page
    → IfSome leaf (λ leaf. 4096 * leaf.frame + 4096 ≤ size)
frame_within leaf t root page size frames tlb is kept found same =
    subst (λ found. IfSome found (λ leaf. 4096 * leaf.frame + 4096 ≤ size)) (sym same)
    (within (look tlb.pairs page) (walk_by t (size / 4096) root tlb.upper page) size frames is kept found)

-- so of a state, where the address is canonical
abbrev leaf_in : MachineState → ℕ → Option Leaf
leaf_in s va = translation (entry_in s.memory) (length s.memory / 4096) s.processor.control.root s.processor.tlb (page_of va)

pub linear_found : (s : MachineState) (cpl va : ℕ) (leaf : Option Leaf) → va < 2 ^ 64 → is_canonical va ≡ true
    → leaf ≡ translation (entry_in s.memory) (length s.memory / 4096) s.processor.control.root s.processor.tlb (page_of va)
    → byte_for s.memory cpl va leaf ≡ byte_named s (Linear cpl va)
linear_found s cpl va leaf fits canonical found =
    ap (byte_for s.memory cpl va) found
    ∙ sym (byte_found s.memory (view_of s.memory s.processor.control cpl) va s.processor.tlb fits
    ∙ ap (λ (b : Bool). if b then byte_for s.memory cpl va (leaf_in s va) else None) canonical)

-- and where it isn't
pub linear_nowhere : (s : MachineState) (cpl va : ℕ) → va < 2 ^ 64 → is_canonical va ≡ false
    → None ≡ byte_named s (Linear cpl va)
linear_nowhere s cpl va fits off =
    sym (byte_found s.memory (view_of s.memory s.processor.control cpl) va s.processor.tlb fits
    ∙ ap (λ (b : Bool). if b then byte_for s.memory cpl va (leaf_in s va) else None) off)
