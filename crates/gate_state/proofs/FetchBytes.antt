-- Which bytes the supervisor fetches: those of the gates' text at its page, and the code of the image.
use Rattle.std.proofs.Common.{◌≡◌, ◌⊎◌, ℕ, ◌+◌, ◌-◌, ◌*◌, ◌/◌, ◌%◌, ◌^◌, ◌<◌, ◌≤◌, true, false, cond, nat_eq, List, sym, ap, subst, ◌∙◌, arith, inl, inr, lit≤}
use Rattle.std.specs.Prelude.{Option, Some, None, IfSome, IfOk, Result, Ok, Err}
use Rattle.std.proofs.lemmas.Bool.{and_parts, both_ways, cases_Bool, cases_eq, cond-true, cond-false, eq-eqb, eqb-true, ne_eqb}
use Rattle.std.proofs.lemmas.Result.{IfOk-weaker}
use Rattle.nk_bits.specs.declared.access.Access.TheVariants.{Fetch}
use Rattle.nk_bits.specs.declared.control.Control.{Control}
use Rattle.nk_bits.specs.declared.fault.AccessFault.{AccessFault}
use Rattle.nk_bits.specs.declared.kind.Kind.{Kind}
use Rattle.nk_bits.specs.declared.leaf.Leaf.{Leaf}
use Rattle.nk_bits.specs.declared.leaf.Target.{Target}
use Rattle.nk_bits.specs.AccessRights.{may}
use Rattle.nk_bits.specs.Accesses.{Serves, View, accessed, crosses, next_page, place_in, smep_of, wp_of}
use Rattle.nk_bits.specs.Claims.{AllPass}
use Rattle.nk_bits.specs.Kinds.{allows, kind_of}
use Rattle.nk_bits.specs.Outcomes.{answered, then_by, then_on}
use Rattle.nk_bits.specs.Paging.{is_slot_page, page_of}
use Rattle.nk_bits.specs.Translations.{Translations}
use Rattle.phys_mem.specs.Memory.{byte_at}
use Rattle.page_walk.specs.MemoryAccess.{view_of}
use Rattle.elf_image.specs.Pages.{IsPageList, byte_of, is_executable, pages_of}
use Rattle.byte_scanner.specs.ImageCode.{code_at}
use Rattle.gate_text.specs.Listing.{gate_byte}
use Rattle.nk_bits.specs.KernelLayout.{gate_text}
use Rattle.boot_map.specs.KernelSlot.{IsCodePage, slot_leaf, slot_start}
use Rattle.cpu_step.specs.InstructionFetch.{byte_fetched, raised_by_fetch}
use Rattle.gate_state.specs.GuardedStates.{IsAdmitted}
use Rattle.gate_state.specs.MachineStates.{Opening}
use Rattle.gate_state.specs.RespectedKinds.{respecting, respects}
use Rattle.gate_state.proofs.LowerLaws.{LowerLaws}
use Rattle.gate_state.proofs.Scene.{IsScene, SceneLaws}
use Rattle.gate_state.proofs.GateTextBytes.{code_there, gate_there}

-- the page of the gates' text
abbrev pub gate_page : ℕ
gate_page = 0xFFFFFF8000001

-- the byte of code at an address: the gates' text at its page, and else the image's
unfoldable pub code_byte : Opening → ℕ → Option ℕ
code_byte o address =
    cond (nat_eq (address / 4096) gate_page) (Some (gate_byte (address % 4096))) (code_at o.image address)

pub code_byte-gates : (o : Opening) (address p : ℕ) → address ≡ 4096 * gate_page + p → p < 4096
    → code_byte o address ≡ Some (gate_byte p)
unfolding code_byte
code_byte-gates o address p is below =
    let page : address / 4096 ≡ gate_page = omega (arith, is, below) in
    let rest : address % 4096 ≡ p = omega (arith, is, below) in
    cond-true (nat_eq (address / 4096) gate_page) (Some (gate_byte (address % 4096))) (code_at o.image address)
    (eq-eqb _ _ page)
    ∙ ap (λ (x : ℕ). Some (gate_byte x)) rest

pub code_byte-image : (o : Opening) (address : ℕ) → (address / 4096 ≡ gate_page → ⊥)
    → code_byte o address ≡ code_at o.image address
unfolding code_byte
code_byte-image o address other =
    cond-false (nat_eq (address / 4096) gate_page) (Some (gate_byte (address % 4096))) (code_at o.image address)
    (ne_eqb _ _ other)

-- a byte of the image's code stands on a page that may be executed
code_executable : (b : List ℕ) (address byte : ℕ) → code_at b address ≡ Some byte
    → is_executable b (address / 4096) ≡ true
code_executable b address byte is = elim (cases_Bool (is_executable b (address / 4096))) [
  | inl on ↦ on
  | inr off ↦
      let none : code_at b address ≡ None =
      cond-false (is_executable b (address / 4096)) (Some (byte_of b address)) None off in
      absurd (cc)
]

-- and so in the image's home
code_in_home : (b : List ℕ) (address byte : ℕ) → IsPageList b (pages_of b) → code_at b address ≡ Some byte
    → (0xFFFFFFFF80000000 ≤ address) × (address < 0xFFFFFFFFC0000000)
code_in_home b address byte list is =
    let page : ℕ = address / 4096 in
    let (i, inside, at) = list.complete page (list.executable page (code_executable b address byte is)) in
    let home = list.home i inside in
    (omega (arith, home.0, at), omega (arith, home.1, at))

-- where code stands: at the gates' page, or in the image's home
pub code_where : (o : Opening) (address byte : ℕ) → IsAdmitted o → code_byte o address ≡ Some byte
    → (address / 4096 ≡ gate_page) ⊎ ((0xFFFFFFFF80000000 ≤ address) × (address < 0xFFFFFFFFC0000000))
code_where o address byte admitted is = elim (cases_eq (address / 4096) gate_page) [
  | inl gates ↦ inl gates
  | inr other ↦ inr (code_in_home o.image address byte admitted.pages (sym (code_byte-image o address other) ∙ is))
]

-- what was fetched stands at the place that the access found
fetched_from_place : (m : List ℕ) (answer : Result Target AccessFault) (tlb : Translations) (byte : ℕ) (Q : ℕ → Type 0)
    → IfOk answer (λ target. Q target.first)
    → raised_by_fetch (then_by answer tlb (λ target after. answered (byte_at m target.first) after)).answer ≡ Ok byte
    → (place : ℕ) × (Q place) × (byte_at m place ≡ byte)
fetched_from_place m (Ok target) tlb byte Q found is =
    let same : byte_at m target.first ≡ byte = cc in
    (target.first, found, same)
fetched_from_place m (Err fault) tlb byte Q found is = absurd (cc)

any_ok : (answer : Result Target AccessFault) → IfOk answer (λ target. Unit {0})
any_ok (Ok target) = tt
any_ok (Err fault) = tt

module _ (laws : LowerLaws) (o : Opening) (ks : List Kind) (scenes : SceneLaws o ks) where
  module _ (m : List ℕ) (control : Control) (scene : IsScene o ks m control) where
    -- translations go on respecting the kinds when a byte is fetched
    pub byte_pass : (cpl : ℕ) (tlb : Translations) (va : ℕ) → va < 2 ^ 64 → AllPass (respecting o ks) tlb
        → AllPass (respecting o ks) (byte_fetched m (view_of m control cpl) va tlb).tlb
    byte_pass cpl tlb va fits all =
        let kept : AllPass (respecting o ks) (accessed (view_of m control cpl) Fetch tlb va 1).tlb =
        scenes.accessed_pass m control cpl Fetch tlb va 1 scene all fits (lit≤ tt) in
        then_on (AllPass (respecting o ks)) (accessed (view_of m control cpl) Fetch tlb va 1).answer
        (accessed (view_of m control cpl) Fetch tlb va 1).tlb (λ target after. answered (byte_at m target.first) after)
        kept (λ target. kept)

    -- a page that serves a fetch of the supervisor lies in the slot
    slot_page : (page : ℕ) (leaf : Leaf) → respects o ks (page, leaf) ≡ true
        → may Fetch leaf.rights 0 (wp_of control.cr0) (smep_of control.cr4) ≡ true
        → is_slot_page page ≡ true
    unfolding respects
    slot_page page leaf passes serves = elim (cases_Bool (is_slot_page page)) [
      | inl on ↦ on
      | inr off ↦
          let allowed : allows (kind_of ks leaf.frame) leaf.rights ≡ true =
          sym (cond-false (is_slot_page page) _ _ off) ∙ passes in
          let never : may Fetch leaf.rights 0 (wp_of control.cr0) true ≡ false =
          laws.kind.not_fetched (kind_of ks leaf.frame) leaf.rights (wp_of control.cr0) allowed in
          let always : may Fetch leaf.rights 0 (wp_of control.cr0) true ≡ true =
          sym (ap (may Fetch leaf.rights 0 (wp_of control.cr0)) scene.smep) ∙ serves in
          absurd (both_ways _ never always)
    ]

    -- it is the gates' page, or a page of the image's code
    supervisor_page : (page : ℕ) (leaf : Leaf) → page < 2 ^ 52 → respects o ks (page, leaf) ≡ true
        → may Fetch leaf.rights 0 (wp_of control.cr0) (smep_of control.cr4) ≡ true
        → ((page ≡ slot_start + 1) × (leaf.frame ≡ gate_text)) ⊎ IsCodePage o.image o.frames page leaf.frame
    supervisor_page page leaf small passes serves =
        let slot : page / 2 ^ 27 ≡ 2 ^ 25 - 1 = eqb-true _ _ (slot_page page leaf passes serves) in
        let from : slot_start ≤ page = omega (arith, slot) in
        let laid : slot_leaf o.image o.frames page ≡ Some leaf = scenes.slot_is page leaf from small passes in
        let exec : leaf.rights.exec ≡ true = (and_parts leaf.rights.exec _ serves).0 in
        subst (λ (l : Option Leaf). IfSome l (λ leaf. leaf.rights.exec ≡ true
        → ((page ≡ slot_start + 1) × (leaf.frame ≡ gate_text)) ⊎ IsCodePage o.image o.frames page leaf.frame))
        laid (laws.slot_leaf.executable o.image o.frames page) exec

    gate_byte_served : (va place byte : ℕ) (leaf : Leaf) → place ≡ place_in leaf va → byte_at m place ≡ byte
        → va / 4096 ≡ slot_start + 1 → leaf.frame ≡ gate_text → code_byte o va ≡ Some byte
    gate_byte_served va place byte leaf at is page frame =
        let there : place ≡ 4096 * 1 + va % 4096 = omega (arith, at, frame) in
        code_byte-gates o va (va % 4096) (omega (arith, page)) (omega arith)
        ∙ ap (λ (x : ℕ). Some x) (sym (gate_there laws o ks m control scene (va % 4096) (omega arith))
        ∙ (ap (byte_at m) (sym there) ∙ is))

    code_byte_served : (va place byte : ℕ) (leaf : Leaf) → place ≡ place_in leaf va → byte_at m place ≡ byte
        → IsCodePage o.image o.frames (va / 4096) leaf.frame → code_byte o va ≡ Some byte
    code_byte_served va place byte leaf at is code =
        let home = scene.admitted.pages.home code.place code.within in
        let whole : 4096 * (va / 4096) + va % 4096 ≡ va = omega arith in
        code_byte-image o va (λ gates. omega (arith, gates, home.0, code.page_is))
        ∙ (cond-true (is_executable o.image (va / 4096)) (Some (byte_of o.image va)) None code.executable
        ∙ ap (λ (x : ℕ). Some x)
        (sym (ap (byte_of o.image) whole) ∙ (sym (code_there laws o ks m control scene (va / 4096) leaf.frame
        (va % 4096) code (omega arith))
        ∙ (sym (ap (byte_at m) at) ∙ is))))

    -- what the supervisor fetches is code
    pub supervisor_byte : (tlb : Translations) (va byte : ℕ) → va < 2 ^ 64 → AllPass (respecting o ks) tlb
        → (byte_fetched m (view_of m control 0) va tlb).answer ≡ Ok byte → code_byte o va ≡ Some byte
    supervisor_byte tlb va byte fits all is =
        let view : View = view_of m control 0 in
        let (place, serves, at) = fetched_from_place m (accessed view Fetch tlb va 1).answer
        (accessed view Fetch tlb va 1).tlb byte
        (Serves view Fetch (respecting o ks) va)
        (IfOk-weaker _ _ _ (λ (target : Target) (both : Serves view Fetch (respecting o ks) va target.first
        × (crosses va 1 ≡ true → Serves view Fetch (respecting o ks) (next_page va) target.second)). both.0)
        (laws.access.served view Fetch (respecting o ks) tlb va 1 (scenes.walked m control 0 scene) fits
        (lit≤ tt) all)) is in
        elim (supervisor_page (page_of va) serves.leaf (omega (arith, fits)) serves.passes serves.may_access) [
          | inl gates ↦ gate_byte_served va place byte serves.leaf serves.place_is at gates.0 gates.1
          | inr code ↦ code_byte_served va place byte serves.leaf serves.place_is at code
        ]

    -- whatever is fetched is a byte
    pub fetched_byte : (cpl : ℕ) (tlb : Translations) (va byte : ℕ)
        → (byte_fetched m (view_of m control cpl) va tlb).answer ≡ Ok byte → byte < 256
    fetched_byte cpl tlb va byte is =
        let view : View = view_of m control cpl in
        let (place, any, at) = fetched_from_place m (accessed view Fetch tlb va 1).answer
        (accessed view Fetch tlb va 1).tlb byte
        (λ _. Unit {0}) (any_ok (accessed view Fetch tlb va 1).answer) is in
        subst (λ (x : ℕ). x < 256) at (scene.memory.are_bytes place)
