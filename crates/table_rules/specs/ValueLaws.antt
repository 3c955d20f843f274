-- A value that breaks no rule.
use Rattle.std.specs.Prelude.{◌≡◌, ◌≤◌, ℕ, false, true, List, None}
use Rattle.nk_bits.specs.declared.kind.Kind.{Kind}
use Rattle.nk_bits.specs.Paging.{is_slot_entry}
use Rattle.page_desc.specs.SoundTables.{is_lawful}
use Rattle.table_rules.specs.ValueRules.{value_rule}

pub record ValueLaws : Type 0 where
  pub lawful : (kinds : List Kind) (level i e : ℕ) → 1 ≤ level → level ≤ 4 → is_slot_entry level i ≡ false
      → value_rule kinds level e ≡ None → is_lawful kinds level i e ≡ true
