-- What a call leaves that declares pages, from what the part that makes it says.
use Rattle.std.proofs.Common.{◌≡◌, ℕ, ◌/◌, ◌<◌, List, length, arith, refl, sym, ap, subst, ◌∙◌}
use Rattle.std.specs.Prelude.{slice_index, if◌then◌else◌, IfSome, OnErr, OnOk, Result, Ok, Err, Option, None, Some}
use Rattle.phys_mem.specs.MaskedMemory.{seen}
use Rattle.phys_mem.specs.Memory.{entry_in}
use Rattle.nk_bits.specs.Paging.{is_canonical_page, walk}
use Rattle.nk_bits.specs.declared.kind.Kind.{Kind}
use Rattle.nk_bits.specs.declared.rule.Rule.{Rule}
use Rattle.page_desc.specs.FrameDescriptors.{Descriptors}
use Rattle.page_desc.specs.PageTables.{AreDescribed, loose_of}
use Rattle.page_desc.specs.PageTableLaws.{GuardedLaws, PageTablesLaws, RecordWalkLaws}
use Rattle.region_book.specs.RegionCalls.{with_one_more, pages_rule, frames_from, guarded, leaf_frame, mapped, page_region}
use Rattle.region_book.specs.RegionRecords.{Book, IsEachOnce}
use Rattle.region_book.specs.RegionLaws.{DeclaredLaws}
use Rattle.nk_bits.specs.Rules.{rule_of}
use Rattle.nk_bits.specs.WalkLaws.{WalkLaws}
use Rattle.write_log.specs.LogRecords.{LogRecord}
use Rattle.nk_body.specs.declared.call.Call.{Call}
use Rattle.nk_body.specs.declared.call.Call.TheVariants.{DeclarePages}
use Rattle.nk_body.specs.CallMade.{IsMade}
use Rattle.nk_body.specs.CallRules.{Sourced, declaring_rule, mapped_by, stand_of, with_pages}
use Rattle.nk_body.specs.NestedRecord.{AreBooks, Books, IsLedgerKept, Nested, nested_by}
use Rattle.nk_body.proofs.CallsMade.{accepted_made, books_of, refused_made}
use Rattle.nk_body.proofs.GuardedFrames.{AreFree, frames_count, guarded_described, mapped_inside, mapped_same, rule_same}
use Rattle.nk_body.proofs.KeptLedgers.{kept_pages}
use Rattle.nk_body.proofs.RegionRules.{IsDeclarable, declare_facts}

-- where a page is mapped by all of memory, and by what is seen of it
pub seen_map : (m : List ℕ) (root : ℕ) → length (seen m) ≡ length m
    → ((page : ℕ) → walk (entry_in m) (length m / 4096) root page ≡ walk (entry_in (seen m)) (length m / 4096) root page)
    → mapped (entry_in m) (length m / 4096) root ≡ mapped (entry_in (seen m)) (length (seen m) / 4096) root
seen_map m root size walks =
    (λ i page. if is_canonical_page page then leaf_frame (walks page i) else None)
    ∙ ap (λ n. mapped (entry_in (seen m)) (n / 4096) root) (sym size)

module _ (guard : GuardedLaws) (declared : DeclaredLaws) (recorded : RecordWalkLaws) (walks : WalkLaws) (tables : PageTablesLaws)
    (d e : Descriptors) (root trap : ℕ) (book after : Book) (log : List LogRecord) (m : List ℕ) (address size policy : ℕ) (source : Sourced) (are : AreBooks (books_of d root trap book log) m) where
  abbrev before : Books
  before = books_of d root trap book log

  abbrev nk : Nested
  nk = nested_by before m

  abbrev pages : Call
  pages = DeclarePages address size policy

  abbrev kinds : List Kind
  kinds = d.kinds

  -- where a page is mapped by memory
  abbrev by_memory : ℕ → Option ℕ
  by_memory = mapped (entry_in m) (length m / 4096) root

  same_map : by_memory ≡ mapped_by nk
  same_map = mapped_same recorded kinds root m are.described.sound

  judged_same : pages_rule book kinds (slice_index d.loose) by_memory address size policy ≡ declaring_rule nk address size policy
  judged_same =
      rule_same book kinds (slice_index d.loose) (loose_of nk.tables) by_memory address size policy
      (λ page f found.
      let within : f < length m / 4096 = mapped_inside walks (entry_in m) (length m / 4096) root page f found in
      let inside : f < length kinds = omega (arith, within, are.described.sound.size) in
      are.described.counted.loose f inside ∙ sym (tables.loose kinds root m f are.described.sound))
      ∙ ap (λ at. pages_rule book kinds (loose_of nk.tables) at address size policy) same_map

  pub pages_made : (r : Result ℕ Rule)
      → rule_of r ≡ pages_rule book kinds (slice_index d.loose) by_memory address size policy
      → OnErr r ((after ≡ book) × (e ≡ d))
      → OnOk r (IfSome (frames_from by_memory (address / 4096) (size / 4096))
      (λ fs. (after ≡ with_one_more book (page_region book address size policy fs) (length fs)) × (e ≡ record d { kinds = guarded kinds fs })))
      → IsMade before m pages source (rule_of r) (books_of e root trap after log) m
  pages_made (Err rule) judged err region =
      subst (λ (it : Descriptors × Book). IsMade before m pages source (Some rule) (books_of it.0 root trap it.1 log) m)
      (λ i. (sym err.1 i, sym err.0 i))
      (refused_made before m pages source rule are (judged ∙ judged_same))
  pages_made (Ok it) judged err region =
      let none : declaring_rule nk address size policy ≡ None = sym (judged ∙ judged_same) in
      let facts = declare_facts book kinds (loose_of nk.tables) (mapped_by nk) address size policy none in
      let fs : List ℕ = facts.0 in
      let is : IsDeclarable book kinds (loose_of nk.tables) size policy fs = facts.2 in
      let once : IsEachOnce fs = declared.once fs is.distinct in
      let found : frames_from by_memory (address / 4096) (size / 4096) ≡ Some fs =
      ap (λ at. frames_from at (address / 4096) (size / 4096)) same_map ∙ facts.1 in
      let becomes : (after ≡ with_one_more book (page_region book address size policy fs) (length fs)) × (e ≡ record d { kinds = guarded kinds fs }) =
      subst (λ (o : Option (List ℕ)). IfSome o (λ fs. (after ≡ with_one_more book (page_region book address size policy fs) (length fs))
      × (e ≡ record d { kinds = guarded kinds fs }))) found region in
      let free : AreFree m kinds fs =
      λ k d below. (is.free k d below, sym (tables.loose kinds root m _ are.described.sound) ∙ is.none k d below) in
      accepted_made before m pages source (books_of e root trap after log) m
      (with_pages nk address size policy (stand_of nk pages m) (Some fs)) m
      none (ap (with_pages nk address size policy (stand_of nk pages m)) facts.1) refl
      (ap (λ (d : Descriptors). d.kinds) becomes.1) refl are.trap (λ i. record { book = becomes.0 i; log = log }) refl
      (subst (λ d. AreDescribed d root m) (sym becomes.1) (guarded_described guard declared root m fs d are.described once free))
      (subst (λ (it : List Kind × Book). IsLedgerKept it.0 (record { book = it.1; log = log })) (λ i. (ap (λ (d : Descriptors). d.kinds) (sym becomes.1) i, sym becomes.0 i))
      (kept_pages kinds before.ledger are.kept (loose_of nk.tables) address size policy fs is once
      (frames_count (mapped_by nk) (size / 4096) (address / 4096) fs facts.1)))
