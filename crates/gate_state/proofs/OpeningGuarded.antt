-- The opening is guarded.
use Rattle.std.proofs.Common.{◌≡◌, ℕ, zero, suc, ◌*◌, ◌/◌, ◌^◌, ◌<◌, ◌≤◌, true, List, [], ◌∷◌, refl, sym, ap, subst, ◌∙◌, arith, inl, inr}
use Rattle.std.specs.Prelude.{IfSome, Option, None, Some, slice_index}
use Rattle.std.proofs.lemmas.Bool.{cases_lt, false≢true}
use Rattle.std.proofs.lemmas.List.{get_or_past}
use Rattle.nk_bits.specs.declared.leaf.Leaf.{Leaf}
use Rattle.nk_bits.specs.Accesses.{wp_of}
use Rattle.nk_bits.specs.declared.kind.Kind.TheVariants.{Hidden}
use Rattle.nk_bits.specs.Kinds.{is_storable, kind_of}
use Rattle.phys_mem.specs.Memory.{IsBytes}
use Rattle.elf_image.specs.Pages.{entry_of}
use Rattle.boot_map.specs.Division.{need}
use Rattle.boot_map.specs.KernelSlot.{slot_leaf}
use Rattle.boot_map.specs.OpeningKinds.{kind_at, kinds}
use Rattle.x86_regs.specs.EffectsKept.{AreRegisters}
use Rattle.page_desc.specs.PageTables.{is_unchanging}
use Rattle.gate_state.specs.GuardedStates.{AreKinds, IsAdmitted, IsGuarded, KeepsOpeningBytes}
use Rattle.gate_state.specs.MachineOpening.{opening_memory, opening_regs, opening_state}
use Rattle.gate_state.specs.MachineStates.{Opening}
use Rattle.gate_state.specs.RespectedKinds.{respecting}
use Rattle.gate_state.proofs.GateTextBytes.{opening_is}
use Rattle.gate_state.proofs.LowerLaws.{LowerLaws}
use Rattle.gate_state.proofs.OpeningBytes.{byte_small}

-- what holds of a list's numbers, one after the other
abbrev AreBelow : ℕ → List ℕ → Type 0
AreBelow most [] = Unit {0}
AreBelow most (x ∷ xs) = (x < most) × AreBelow most xs

index_below : (most : ℕ) (xs : List ℕ) (k : ℕ) → 0 < most → AreBelow most xs → slice_index xs k < most
index_below most [] k some are = some
index_below most (x ∷ xs) zero some are = are.0
index_below most (x ∷ xs) (suc k) some are = index_below most xs k some are.1

module _ (laws : LowerLaws) (o : Opening) (admitted : IsAdmitted o) (entry : entry_of o.image < 2 ^ 64) where
  registers : AreRegisters (opening_regs o)
  registers =
      let frames : o.frames < 2 ^ 64 = omega (arith, admitted.layout.most) in
      let free : need o.image o.frames < 2 ^ 64 = omega (arith, admitted.layout.most, admitted.layout.room) in
      let none : 0 < 2 ^ 64 = omega arith in
      record {
        count = refl;
        bounds = λ n. index_below (2 ^ 64) (opening_regs o).general n none
            (none, (none, (none, (none, (omega arith, (none, (frames, (free, (none, (none, (none, (none, (none, (none, (none, (none, tt))))))))))))))));
        rip = entry;
      }

  memory_bytes : IsBytes (opening_memory o)
  memory_bytes = λ p. elim (cases_lt p (4096 * o.frames)) [
    | inl within ↦ let P : ℕ → Type 0 = λ n. n < 256 in subst P (sym ((opening_is o).bytes p within)) (byte_small laws.listing o.image o.frames p admitted.bytes)
    | inr past ↦ let P : ℕ → Type 0 = λ n. n < 256 in subst P (sym (get_or_past (opening_memory o) p 0 (omega (arith, (opening_is o).length, past)))) (omega arith)
  ]

  held : KeepsOpeningBytes o (kinds o.image o.frames) (opening_memory o)
  held = record {
    size = (opening_is o).length;
    are_bytes = memory_bytes;
    bytes = λ place kept beside. elim (cases_lt place (4096 * o.frames)) [
      | inl within ↦ (opening_is o).bytes place within
      | inr past ↦ absurd (false≢true (sym (ap is_unchanging (hidden_past (place / 4096) (omega (arith, past)))) ∙ kept))
    ];
    slot = laws.slot.held o.image (opening_memory o) o.frames (opening_is o) admitted.layout;
  }
    where
      hidden_past : (frame : ℕ) → o.frames ≤ frame → kind_of (kinds o.image o.frames) frame ≡ Hidden
      hidden_past frame past = get_or_past (kinds o.image o.frames) frame Hidden (omega (arith, laws.opening_kinds.count o.image o.frames, past))

  opening_kinds : AreKinds o (kinds o.image o.frames)
  opening_kinds = record {
    count = laws.opening_kinds.count o.image o.frames;
    settled = λ f is. refl;
    reserved = λ f is. refl;
    writable = λ page low high. both (slot_leaf o.image o.frames page)
        (laws.slot_leaf.in_memory o.image o.frames page admitted.layout) (laws.slot_leaf.writable o.image o.frames page);
  }
    where
      both : (found : Option Leaf) → IfSome found (λ leaf. leaf.frame < o.frames)
          → IfSome found (λ leaf. leaf.rights.can_write ≡ true → is_storable (kind_at o.image o.frames leaf.frame) ≡ true)
          → IfSome found (λ leaf. leaf.rights.can_write ≡ true → is_storable (kind_of (kinds o.image o.frames) leaf.frame) ≡ true)
      both None inside storable = tt
      both (Some leaf) inside storable = λ write. ap is_storable (laws.opening_kinds.each o.image o.frames leaf.frame inside) ∙ storable write

  pub opening_guarded : (input : List ℕ) → IsGuarded o (opening_state o input)
  unfolding wp_of
  opening_guarded input = record {
    control = record {
      cr0 = inr (inl refl);
      cr2 = omega arith;
      cr4 = refl;
      efer = refl;
      tables = refl;
      cpl = inl refl;
      registers = registers;
      pending = omega arith;
    };
    kinds = opening_kinds;
    tables = laws.opening_sound.sound o.image (opening_memory o) o.frames admitted.layout admitted.pages (opening_is o);
    memory = held;
    ledger = laws.opening_sound.kept o.image o.frames admitted.layout;
    next = omega arith;
    translations = laws.kept.flushed (respecting o (kinds o.image o.frames));
    window = λ clear. absurd (false≢true (sym clear ∙ wp_set));
  }
    where
      wp_set : wp_of 0x80010001 ≡ true
      wp_set = refl
