-- An event and the source of a call over a memory of which a scene is seen: they are as over the scene.
use Rattle.std.proofs.Common.{◌≡◌, ℕ, zero, suc, ◌+◌, ◌-◌, ◌/◌, ◌%◌, ◌^◌, Bool, true, false, List, length, refl, ap, ◌∙◌, arith}
use Rattle.std.specs.Prelude.{IfSome, Option, None, Some, Result, nat_lt, if◌then◌else◌}
use Rattle.std.proofs.lemmas.Bool.{and_parts}
use Rattle.nk_bits.specs.declared.kind.Kind.{Kind}
use Rattle.nk_bits.specs.declared.leaf.Leaf.{Leaf}
use Rattle.nk_bits.specs.declared.leaf.Upper.{Upper}
use Rattle.nk_bits.specs.declared.control.Control.{Control}
use Rattle.nk_bits.specs.Claims.{AllPass}
use Rattle.nk_bits.specs.Paging.{all_rights, is_canonical, page_of, upper_walk}
use Rattle.nk_bits.specs.Translations.{Translations, entry_kept, fill_walked, look, or_walked, translation}
use Rattle.nk_bits.specs.UpperEntries.{walk_by}
use Rattle.phys_mem.specs.Memory.{entry_in}
use Rattle.page_walk.specs.MemoryAccess.{view_of}
use Rattle.irq_plan.specs.declared.event.What.{What}
use Rattle.irq_plan.specs.declared.event.What.TheVariants.{Irq, Drop, Fill, Keep, Forget}
use Rattle.cpu_step.specs.EventsTaken.{event_taken}
use Rattle.cpu_step.specs.Processor.{Processor}
use Rattle.gate_state.specs.MachineStates.{Opening}
use Rattle.gate_state.specs.RespectedKinds.{respecting, respects}
use Rattle.gate_state.specs.SourceBytes.{SourceRead, byte_through, is_readable, kept_by, read_on, source_byte, source_read, source_tlb}
use Rattle.gate_state.proofs.BookFrames.{respected_apart}
use Rattle.gate_state.proofs.LowerLaws.{LowerLaws}
use Rattle.gate_state.proofs.MaskedScenes.{IsSeen, below_same, byte_same, entry_same, frames_same, walk_same}
use Rattle.gate_state.proofs.MaskedTables.{root_table, upper_same}
use Rattle.gate_state.proofs.Scene.{SceneLaws}
use Rattle.gate_state.proofs.SourceReads.{byte_keeps}

module _ (laws : LowerLaws) (o : Opening) (ks : List Kind) (scenes : SceneLaws o ks) (m n : List ℕ)
    (control : Control) (seen : IsSeen o ks m n control) where
  abbrev found_in : List ℕ → Translations → ℕ → Result Leaf ℕ
  found_in memory tlb page = walk_by (entry_in memory) (length memory / 4096) control.root tlb.upper page

  found_same : (tlb : Translations) (page : ℕ) → AllPass (respecting o ks) tlb
      → found_in n tlb page ≡ found_in m tlb page
  found_same tlb page pass =
      laws.kept.walk_by_same (entry_in n) (entry_in m) (length n / 4096) control.root control.root page
      (respecting o ks) tlb pass
      (λ entry is covered. below_same laws o ks m n control seen entry page is covered)
      (walk_same laws o ks m n control seen page)
      ∙ ap (λ frames. walk_by (entry_in m) frames control.root tlb.upper page)
      (frames_same laws o ks m n control seen)

  upper_found : (page level : ℕ) → upper_walk (entry_in n) (length n / 4096) control.root page level
      ≡ upper_walk (entry_in m) (length m / 4096) control.root page level
  upper_found page level =
      upper_same laws o ks seen.scene.admitted seen.scene.kinds_are n control.root seen.scene.tables (entry_in m)
      (entry_same laws o ks m n control seen) (length n / 4096) page (5 - level) 4 control.root all_rights
      (root_table laws o ks seen.scene.admitted seen.scene.kinds_are n control.root seen.scene.tables)
      ∙ ap (λ frames. upper_walk (entry_in m) frames control.root page level)
      (frames_same laws o ks m n control seen)

  pub translation_same : (tlb : Translations) (page : ℕ) → AllPass (respecting o ks) tlb
      → translation (entry_in n) (length n / 4096) control.root tlb page
      ≡ translation (entry_in m) (length m / 4096) control.root tlb page
  translation_same tlb page pass =
      ap (λ (found : Result Leaf ℕ). or_walked (look tlb.pairs page) found) (found_same tlb page pass)

  -- one byte of a source, and what is kept
  byte_found : (va : ℕ) (found : Option Leaf) → IfSome found (λ leaf. respects o ks (page_of va, leaf) ≡ true)
      → byte_through n va found ≡ byte_through m va found
  byte_found va None passes = refl
  byte_found va (Some leaf) passes =
      ap Some (byte_same laws o ks m n control seen leaf.frame (va % 4096) (omega arith)
      (respected_apart laws o ks seen.scene.admitted seen.scene.kinds_are (page_of va, leaf) passes))

  chosen : {A : Type 0} (b : Bool) (one other last : A) → (b ≡ true → one ≡ other)
      → (if b then one else last) ≡ (if b then other else last)
  chosen true one other last same = same refl
  chosen false one other last same = refl

  canonical_from : (va : ℕ) → is_readable va ≡ true → is_canonical va ≡ true
  canonical_from va readable = (and_parts (nat_lt va (2 ^ 64)) (is_canonical va) readable).1

  source_byte_same : (tlb : Translations) (va : ℕ) → AllPass (respecting o ks) tlb
      → source_byte n control.root tlb va ≡ source_byte m control.root tlb va
  source_byte_same tlb va pass =
      chosen (is_readable va) _ _ None (λ readable.
      byte_found va (translation (entry_in n) (length n / 4096) control.root tlb (page_of va))
      (laws.kept.translated (view_of n control 0) (respecting o ks) tlb va (scenes.walked n control 0 seen.scene) pass
      (canonical_from va readable))
      ∙ ap (λ (found : Result Leaf ℕ). byte_through m va (or_walked (look tlb.pairs (page_of va)) found))
      (found_same tlb (page_of va) pass))

  source_tlb_same : (tlb : Translations) (va : ℕ) → AllPass (respecting o ks) tlb
      → source_tlb n control.root tlb va ≡ source_tlb m control.root tlb va
  source_tlb_same tlb va pass =
      let page : ℕ = page_of va in
      chosen (is_readable va) _ _ tlb (λ readable.
      ap (λ (found : Result Leaf ℕ). kept_by (or_walked (look tlb.pairs page) found)
      (fill_walked tlb page (look tlb.pairs page) found) page) (found_same tlb page pass))

  -- so many bytes
  pub source_same : (tlb : Translations) (va count : ℕ) → AllPass (respecting o ks) tlb
      → source_read n control.root tlb va count ≡ source_read m control.root tlb va count
  unfolding source_read
  source_same tlb va zero pass = refl
  source_same tlb va (suc count) pass =
      let after : Translations = source_tlb n control.root tlb va in
      let kept : AllPass (respecting o ks) after =
      byte_keeps laws.kept (respecting o ks) n control (scenes.walked n control 0 seen.scene) tlb va pass in
      ap (λ byte. read_on byte after (source_read n control.root after (va + 1) count)) (source_byte_same tlb va pass)
      ∙ ap (λ (later : SourceRead). read_on (source_byte m control.root tlb va) after later)
      (source_same after (va + 1) count kept)
      ∙ ap (λ (last : Translations). read_on (source_byte m control.root tlb va) last
      (source_read m control.root last (va + 1) count)) (source_tlb_same tlb va pass)

-- an event
pub event_same : (laws : LowerLaws) (o : Opening) (ks : List Kind) → SceneLaws o ks → (m n : List ℕ)
    (what : What) (p : Processor) → IsSeen o ks m n p.control → AllPass (respecting o ks) p.tlb
    → event_taken what n p ≡ event_taken what m p
event_same laws o ks scenes m n (Irq vector) p seen pass = refl
event_same laws o ks scenes m n (Drop page) p seen pass = refl
event_same laws o ks scenes m n (Fill page) p seen pass =
    ap (λ (found : Result Leaf ℕ). record p { tlb = fill_walked p.tlb (page_of page) None found })
    (found_same laws o ks scenes m n p.control seen p.tlb (page_of page) pass)
event_same laws o ks scenes m n (Keep level page) p seen pass =
    ap (λ (found : Option Upper). record p { tlb = entry_kept p.tlb level (page_of page) found })
    (upper_found laws o ks scenes m n p.control seen (page_of page) level)
event_same laws o ks scenes m n (Forget level page) p seen pass = refl
