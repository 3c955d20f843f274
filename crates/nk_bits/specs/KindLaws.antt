-- What the kinds of frames allow.
use Rattle.std.specs.Prelude.{◌≡◌, ℕ, ◌<◌, ◌≤◌, Bool, true, false, List, length}
use Rattle.nk_bits.specs.declared.access.Access.TheVariants.{Fetch}
use Rattle.nk_bits.specs.declared.kind.Kind.{Kind}
use Rattle.nk_bits.specs.declared.leaf.Rights.{Rights}
use Rattle.nk_bits.specs.Kinds.{kind_of, level_of, is_data, is_storable, is_guarded, allows}
use Rattle.nk_bits.specs.AccessRights.{may}

pub record KindLaws : Type 0 where
  pub storable : (kind : Kind) (r : Rights) → allows kind r ≡ true → r.can_write ≡ true → is_storable kind ≡ true
  pub not_fetched : (kind : Kind) (r : Rights) (wp : Bool) → allows kind r ≡ true → may Fetch r 0 wp true ≡ false
  pub allowed_in_memory : (kinds : List Kind) (f : ℕ) (r : Rights)
      → allows (kind_of kinds f) r ≡ true → f < length kinds
  pub data_in_memory : (kinds : List Kind) (f : ℕ) → is_data (kind_of kinds f) ≡ true → f < length kinds
  pub storable_in_memory : (kinds : List Kind) (f : ℕ) → is_storable (kind_of kinds f) ≡ true → f < length kinds
  pub guarded_in_memory : (kinds : List Kind) (f : ℕ) → is_guarded (kind_of kinds f) ≡ true → f < length kinds
  pub table_in_memory : (kinds : List Kind) (f : ℕ) → 1 ≤ level_of (kind_of kinds f) → f < length kinds
