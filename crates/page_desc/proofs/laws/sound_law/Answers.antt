use Rattle.std.proofs.Common.{◌≡◌, ℕ, ◌<◌, ◌≤◌, List, length, ap}
use Rattle.nk_bits.specs.declared.kind.Kind.{Kind}
use Rattle.nk_bits.specs.declared.kind.Kind.TheVariants.{Data, Guarded}
use Rattle.nk_bits.specs.Kinds.{is_data, is_guarded, kind_of, level_of}
use Rattle.page_desc.proofs.KindsKept.{tables_freed, tables_guarded, tables_new, tables_old}
use Rattle.page_desc.proofs.LawfulForms.{entry_form, lawful_leaf, lawful_link, leaf_allowed, link_leads, slot_entry_is, slot_form}
use Rattle.page_desc.proofs.SoundWalk.{sound_below, sound_upper, sound_walk}
use Rattle.page_desc.proofs.TablesKept.{tables_elsewhere, tables_replaced}
use Rattle.page_desc.proofs.laws.sound_law.Goals as goal

pub returns : goal.returns
returns c =
    let table : (kinds : List Kind) (f : ℕ) → 1 ≤ level_of (kind_of kinds f) → f < length kinds =
    c.kind_law.ensures.table_in_memory in
    let free : (kinds : List Kind) (f : ℕ) → kind_of kinds f ≡ Data → f < length kinds =
    λ kinds f is. c.kind_law.ensures.data_in_memory kinds f (ap is_data is) in
    let guard : (kinds : List Kind) (f : ℕ) → kind_of kinds f ≡ Guarded → f < length kinds =
    λ kinds f is. c.kind_law.ensures.guarded_in_memory kinds f (ap is_guarded is) in
    record {
      walk = sound_walk;
      below = sound_below;
      upper = sound_upper;
      replaced = tables_replaced;
      elsewhere = tables_elsewhere;
      new_table = λ kinds t a level tables is none. tables_new kinds t a tables (free kinds a is) (table kinds) is none level;
      old_table = λ kinds t a tables low none. tables_old kinds t a tables (table kinds a low) (table kinds) low none;
      guarded = λ kinds t a tables is none. tables_guarded kinds t a tables (free kinds a is) (table kinds) is none;
      unguarded = λ kinds t a tables is. tables_freed kinds t a tables (guard kinds a is) (table kinds) is;
      leaf = λ kinds t f i tables small one present. leaf_allowed kinds t tables f i small one present;
      link = λ kinds t f i tables small least most other present. link_leads kinds t tables f i small least most other present;
      slot = λ kinds t f tables four. slot_entry_is kinds t tables f four;
      lawful_leaf = lawful_leaf;
      lawful_link = lawful_link;
      form = λ kinds t f i tables small least most present. entry_form kinds t tables f i small least most present;
      slot_form = slot_form;
    }
