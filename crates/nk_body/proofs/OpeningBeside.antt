-- A replay stands beside a run at the opening.
use Rattle.std.proofs.Common.{◌≡◌, ℕ, ◌+◌, ◌*◌, ◌<◌, true, false, List, length, inl, inr, refl, sym, ap, ◌∙◌, arith}
use Rattle.std.specs.Prelude.{if◌then◌else◌}
use Rattle.std.proofs.lemmas.Bool.{cases_lt, false≢true}
use Rattle.std.proofs.lemmas.List.{get_or_past}
use Rattle.std.proofs.lemmas.List.Elements.{All-nil}
use Rattle.nk_bits.specs.declared.kind.Kind.TheVariants.{Data, Hidden}
use Rattle.nk_bits.specs.Kinds.{kind_of}
use Rattle.phys_mem.specs.Memory.{byte_at}
use Rattle.page_desc.specs.PageTables.{is_table}
use Rattle.boot_map.specs.Opening.{IsOpening}
use Rattle.boot_map.specs.OpeningKinds.{kind_at, kinds}
use Rattle.nk_body.specs.NestedRecord.{held_bytes, nested_in}
use Rattle.nk_body.specs.ReplayBeside.{IsBeside, IsTold, is_opening_table, left_alone, opening_byte}
use Rattle.nk_body.specs.SourceWords.{opening_ledger}
use Rattle.nk_body.proofs.RegionFrames.{in_memory}

module _ (b m : List ℕ) (frames : ℕ) (is : IsOpening b frames m) (count : length (kinds b frames) ≡ frames)
    (each : (f : ℕ) → f < frames → kind_of (kinds b frames) f ≡ kind_at b frames f) where
  free_bytes : (f offset : ℕ) → kind_of (kinds b frames) f ≡ Data → offset < 4096
      → byte_at m (4096 * f + offset) ≡ left_alone (opening_byte b frames) (is_opening_table b frames) f offset
  free_bytes f offset free inside =
      let there : f < frames = omega (arith, in_memory (kinds b frames) f Data refl free, count) in
      let none : is_opening_table b frames f ≡ false = ap is_table (sym (each f there) ∙ free) in
      is.bytes (4096 * f + offset) (omega (arith, there, inside))
      ∙ ap (λ t. if t then 0 else opening_byte b frames f offset) (sym none)

  were_tables : (f : ℕ) → is_table (kind_of (kinds b frames) f) ≡ true → is_opening_table b frames f ≡ true
  were_tables f table = elim (cases_lt f frames) [
    | inl there ↦ ap is_table (sym (each f there)) ∙ table
    | inr past ↦ absurd (false≢true (ap is_table (sym
        (get_or_past (kinds b frames) f Hidden (omega (arith, past, count)))) ∙ table))
  ]

  pub opening_beside : IsBeside (opening_byte b frames) (is_opening_table b frames)
      (nested_in (kinds b frames) 5 opening_ledger m) (held_bytes (kinds b frames) m) m
  opening_beside = record {
    size = is.length ∙ ap (λ n. 4096 * n) (sym count);
    free = free_bytes;
    tables = were_tables;
    pool = λ f offset least most inside. refl;
    regions = All-nil (IsTold (opening_byte b frames) (is_opening_table b frames) (held_bytes (kinds b frames) m)
        (held_bytes (kinds b frames) m));
  }
