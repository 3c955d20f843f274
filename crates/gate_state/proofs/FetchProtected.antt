-- The supervisor fetches a protected instruction at the gates' loads of CR0 alone, and there it is the load.
use Rattle.std.proofs.Common.{◌≡◌, ◌⊎◌, ℕ, zero, suc, ◌+◌, ◌-◌, ◌^◌, ◌<◌, ◌≤◌, true, false, List, [], ◌∷◌, length, get_or, slice_get, take, refl, sym, ap, subst, ◌∙◌, arith, inl, inr, lit≤}
use Rattle.std.specs.Prelude.{Option, Some, Result, Ok}
use Rattle.std.proofs.lemmas.Bool.{both_ways}
use Rattle.std.proofs.lemmas.List.Elements.{All-from_get_or}
use Rattle.std.proofs.lemmas.Option.{get_or_from_slice_get, slice_get_within}
use Rattle.decode_fields.specs.Prefixes.{is_prefix, prefix_bytes}
use Rattle.decode_fields.specs.Protected.{is_protected_at}
use Rattle.nk_bits.specs.declared.control.Control.{Control}
use Rattle.nk_bits.specs.declared.kind.Kind.{Kind}
use Rattle.nk_bits.specs.Claims.{AllPass}
use Rattle.nk_bits.specs.Translations.{Translations}
use Rattle.page_walk.specs.MemoryAccess.{view_of}
use Rattle.x86_decode.specs.declared.instruction.Decoded.TheVariants.{Whole}
use Rattle.x86_decode.specs.Conditions.{is_protected}
use Rattle.x86_decode.specs.Decoding.{IsFront}
use Rattle.x86_decode.specs.Reader.{decoded_of}
use Rattle.x86_decode.specs.Spelling.{AreBytes}
use Rattle.x86_regs.specs.declared.faults.Fault.{Fault}
use Rattle.x86_regs.specs.Operands.{wrapped}
use Rattle.nk_bits.specs.KernelLayout.{gate_address}
use Rattle.gate_text.specs.Listing.{gate_byte}
use Rattle.cpu_step.specs.declared.fetch.Fetched.{Fetched}
use Rattle.cpu_step.specs.InstructionFetch.{instruction_at}
use Rattle.gate_state.specs.GuardedStates.{IsAdmitted}
use Rattle.gate_state.specs.MachineStates.{Opening}
use Rattle.gate_state.specs.RespectedKinds.{respecting}
use Rattle.gate_state.proofs.LowerLaws.{LowerLaws}
use Rattle.gate_state.proofs.Scene.{IsScene, SceneLaws}
use Rattle.gate_state.proofs.FetchSteps.{AreFetched, steps_bytes}
use Rattle.gate_state.proofs.FetchBytes.{byte_pass, code_byte, code_byte-gates, code_where, fetched_byte, supervisor_byte}
use Rattle.gate_state.proofs.FetchEncodings.{Stays, prefix_in_front, protected_in_front, protected_stays, protected_within}
use Rattle.gate_state.proofs.FetchFormed.{front_of}
use Rattle.gate_state.proofs.FetchKnown.{IsRead}
use Rattle.gate_state.proofs.FetchListed.{gate_read}
use Rattle.gate_state.proofs.GateTextLoads.{IsLoadPlace, before_load, load_bytes, load_place, load_reads, load_stands}

-- the instruction is a load of CR0 in the gates' text
pub record IsLoad (rip : ℕ) (it : Fetched) : Type 0 where
  pub offset : ℕ
  pub places : (offset ≡ 13) ⊎ (offset ≡ 37) ⊎ (offset ≡ 457)
  pub rip_is : rip ≡ gate_address + offset
  pub listed : decoded_of (0x0F ∷ 0x22 ∷ 0xC0 ∷ []) ≡ Whole it.instr it.size

-- the byte is one, and is the code's at its address
record IsCode (o : Opening) (address byte : ℕ) : Type 0 where
  small : byte < 256
  code : code_byte o address ≡ Some byte

same_some : (x y : ℕ) (one : Option ℕ) → one ≡ Some x → one ≡ Some y → x ≡ y
same_some x y one a b = cc

module _ (laws : LowerLaws) (o : Opening) (admitted : IsAdmitted o) where
  -- bytes that are code stand one behind the other, without a wrap
  unwrapped : (rip k byte : ℕ) → rip < 2 ^ 64 → k < 15 → code_byte o (wrapped (rip + k)) ≡ Some byte
      → code_byte o (rip + k) ≡ Some byte
  unwrapped rip k byte fits few at =
      let high : 15 ≤ wrapped (rip + k) = elim (code_where o (wrapped (rip + k)) byte admitted at) [
        | inl gates ↦ omega (arith, gates)
        | inr home ↦ omega (arith, home.0)
      ] in
      let plain : wrapped (rip + k) ≡ rip + k = omega (arith, high, fits, few) in
      sym (ap (code_byte o) plain) ∙ at

  module _ (rip : ℕ) (fits : rip < 2 ^ 64) (it : Fetched) (read : AreFetched (IsCode o) rip it) where
    code_there : (k : ℕ) → k < length read.bytes → code_byte o (rip + k) ≡ Some (get_or read.bytes k 0)
    code_there k below =
        unwrapped rip k (get_or read.bytes k 0) fits (omega (arith, below, read.few)) (read.each k below).code

    code_stays : (k address : ℕ) → rip + k ≡ address → Stays (slice_get read.bytes k) (code_byte o address)
    code_stays k address is byte at =
        sym (ap (code_byte o) is) ∙ (code_there k (slice_get_within read.bytes k byte at)
        ∙ ap (λ (x : ℕ). Some x) (get_or_from_slice_get read.bytes k byte 0 at))

    -- an encoding among the bytes is that of a load
    load_among : (k : ℕ) → is_protected_at (slice_get read.bytes) k ≡ true → IsLoadPlace (rip + k)
    load_among k is =
        load_place laws o admitted (rip + k) (get_or read.bytes k 0) (code_there k (protected_within read.bytes k is))
        (protected_stays (slice_get read.bytes) (code_byte o) k (rip + k) (code_stays k (rip + k) refl)
        (code_stays (k + 1) (rip + k + 1) (omega arith)) (code_stays (k + 2) (rip + k + 2) (omega arith)) is)

    -- no prefix byte stands before it
    first_among : (size k : ℕ) → size ≤ length read.bytes → k ≡ length (prefix_bytes (take size read.bytes))
        → k < length read.bytes
        → IsLoadPlace (rip + k) → k ≡ 0
    first_among size zero within is below load = refl
    first_among size (suc j) within is below load =
        let byte : ℕ = get_or read.bytes j 0 in
        let prefix : is_prefix byte ≡ true = prefix_in_front laws size read.bytes j within (omega (arith, is)) in
        let before : ℕ = load.offset - 1 in
        let next : before + 1 ≡ load.offset = elim load.places [
          | inl first ↦ omega (arith, first)
          | inr (inl second) ↦ omega (arith, second)
          | inr (inr third) ↦ omega (arith, third)
        ] in
        let small : load.offset < 4096 = elim load.places [
          | inl first ↦ omega (arith, first)
          | inr (inl second) ↦ omega (arith, second)
          | inr (inr third) ↦ omega (arith, third)
        ] in
        let gates : code_byte o (rip + j) ≡ Some (gate_byte before) =
        code_byte-gates o (rip + j) before (omega (arith, next, load.address_is)) (omega (arith, next, small)) in
        let same : gate_byte before ≡ byte =
        same_some (gate_byte before) byte (code_byte o (rip + j)) gates (code_there j (omega (arith, below))) in
        let none : is_prefix byte ≡ false = sym (ap is_prefix same) ∙ before_load load.offset before load.places next in
        absurd (both_ways (is_prefix byte) none prefix)

    -- so the bytes of a protected instruction stand where a load does
    load_here : is_protected it.instr.op ≡ true → IsLoadPlace rip
    load_here protected =
        let are : AreBytes read.bytes =
        All-from_get_or (λ byte. byte < 256) read.bytes 0 (λ k below. (read.each k below).small) in
        let front : IsFront it.instr read.bytes it.size = front_of laws (IsCode o) rip it read are in
        let k : ℕ = length (prefix_bytes (take it.size read.bytes)) in
        let is : is_protected_at (slice_get read.bytes) k ≡ true =
        protected_in_front laws it.size read.bytes k
        (laws.spelling.protected it.instr (take it.size read.bytes) front.lawful.spells protected) in
        let load : IsLoadPlace (rip + k) = load_among k is in
        let none : k ≡ 0 = first_among it.size k front.within refl (protected_within read.bytes k is) load in
        let here : rip + k ≡ rip = omega (arith, none) in
        subst IsLoadPlace here load

same_fetched : (one other : Fetched) (answer : Result Fetched Fault) → answer ≡ Ok one → answer ≡ Ok other → one ≡ other
same_fetched one other answer a b = cc

module _ (laws : LowerLaws) (o : Opening) (ks : List Kind) (scenes : SceneLaws o ks) where
  -- what stands there is the load
  load_read : (m : List ℕ) (control : Control) (rip : ℕ) (tlb : Translations) → IsScene o ks m control
      → AllPass (respecting o ks) tlb → (it : Fetched) → (instruction_at m (view_of m control 0) rip tlb).answer ≡ Ok it
      → IsLoadPlace rip → IsLoad rip it
  load_read m control rip tlb scene all it is load =
      let small : load.offset < 4000 = elim load.places [
        | inl first ↦ omega (arith, first)
        | inr (inl second) ↦ omega (arith, second)
        | inr (inr third) ↦ omega (arith, third)
      ] in
      let there : rip ≡ gate_address + load.offset = omega (arith, load.address_is) in
      let read : IsRead load_bytes (instruction_at m (view_of m control 0) (gate_address + load.offset) tlb) =
      gate_read laws o ks scenes m control scene load.offset load_bytes tlb (omega (arith, small)) (lit≤ tt)
      (λ k below. load_stands load.offset k load.places below) load_reads all in
      let found : (instruction_at m (view_of m control 0) rip tlb).answer ≡ Ok read.it =
      ap (λ (x : ℕ). (instruction_at m (view_of m control 0) x tlb).answer) there ∙ read.found in
      let same : read.it ≡ it =
      same_fetched read.it it (instruction_at m (view_of m control 0) rip tlb).answer found is in
      record {
        offset = load.offset;
        places = load.places;
        rip_is = there;
        listed = read.listed ∙ ap (λ (x : Fetched). Whole x.instr x.size) same;
      }

  -- the supervisor fetches a protected instruction at the gates' loads of CR0 alone
  pub fetch_protected : (m : List ℕ) (control : Control) (rip : ℕ) (tlb : Translations) → IsScene o ks m control
      → AllPass (respecting o ks) tlb → rip < 2 ^ 64 → (it : Fetched)
      → (instruction_at m (view_of m control 0) rip tlb).answer ≡ Ok it → is_protected it.instr.op ≡ true
      → IsLoad rip it
  fetch_protected m control rip tlb scene all fits it is protected =
      let read : AreFetched (IsCode o) rip it =
      steps_bytes m (view_of m control 0) (respecting o ks)
      (λ now va small passed. byte_pass laws o ks scenes m control scene 0 now va small passed) (IsCode o)
      (λ now va byte small passed found. record {
        small = fetched_byte laws o ks scenes m control scene 0 now va byte found;
        code = supervisor_byte laws o ks scenes m control scene now va byte small passed found;
      })
      rip tlb it all is in
      load_read m control rip tlb scene all it is (load_here laws o scene.admitted rip fits it read protected)
