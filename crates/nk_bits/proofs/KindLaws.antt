-- What the kinds of frames allow; and that a frame that a leaf may name, that may be stored to or that is a table is in
-- memory, since past the list every kind is Hidden.
use Rattle.std.proofs.Common.{◌≡◌, ℕ, ◌<◌, ◌≤◌, Bool, true, false, not, ◌&&◌, ◌||◌, List, length, arith, refl, sym, ap, ◌∙◌, inl, inr}
use Rattle.std.proofs.lemmas.List.{get_or_past}
use Rattle.std.proofs.lemmas.Bool.{cases_lt, false≢true}
use Rattle.nk_bits.specs.declared.leaf.Rights.{Rights}
use Rattle.nk_bits.specs.declared.kind.Kind.{Kind}
use Rattle.nk_bits.specs.declared.kind.Kind.TheVariants.{Data, Code, Table, Fixed, Trap, Guarded, Hidden}
use Rattle.nk_bits.specs.declared.access.Access.TheVariants.{Fetch}
use Rattle.nk_bits.specs.AccessRights.{may}
use Rattle.nk_bits.specs.Kinds.{kind_of, level_of, is_data, is_storable, is_guarded, allows}

-- a test of the kind that Hidden fails
tested_in_memory : (test : Kind → Bool) → test Hidden ≡ false → (kinds : List Kind) (f : ℕ) → test (kind_of kinds f) ≡ true → f < length kinds
tested_in_memory test hidden kinds f passes =
    elim (cases_lt f (length kinds)) [
      | inl inside ↦ inside
      | inr past ↦ absurd (false≢true (sym (ap test (get_or_past kinds f Hidden past) ∙ hidden) ∙ passes))
    ]

pub allowed_in_memory : (kinds : List Kind) (f : ℕ) (r : Rights) → allows (kind_of kinds f) r ≡ true → f < length kinds
allowed_in_memory kinds f r = tested_in_memory (λ kind. allows kind r) refl kinds f

pub data_in_memory : (kinds : List Kind) (f : ℕ) → is_data (kind_of kinds f) ≡ true → f < length kinds
data_in_memory kinds f = tested_in_memory is_data refl kinds f

pub storable_in_memory : (kinds : List Kind) (f : ℕ) → is_storable (kind_of kinds f) ≡ true → f < length kinds
storable_in_memory kinds f = tested_in_memory is_storable refl kinds f

pub guarded_in_memory : (kinds : List Kind) (f : ℕ) → is_guarded (kind_of kinds f) ≡ true → f < length kinds
guarded_in_memory kinds f = tested_in_memory is_guarded refl kinds f

pub table_in_memory : (kinds : List Kind) (f : ℕ) → 1 ≤ level_of (kind_of kinds f) → f < length kinds
table_in_memory kinds f low =
    elim (cases_lt f (length kinds)) [
      | inl inside ↦ inside
      | inr past ↦ absurd (omega (arith, low, ap level_of (get_or_past kinds f Hidden past)))
    ]

-- none of three, and the last of two
none_writes : (w u x : Bool) → (not w && not u && not x) ≡ true → w ≡ false
none_writes false u x none = refl
none_writes true false x none = sym none
none_writes true true x none = sym none

none_executes : (w u x : Bool) → (not w && not u && not x) ≡ true → x ≡ false
none_executes w u false none = refl
none_executes false false true none = sym none
none_executes false true true none = sym none
none_executes true false true none = sym none
none_executes true true true none = sym none

not_executed : (u x : Bool) → (not u && not x) ≡ true → x ≡ false
not_executed u false none = refl
not_executed false true none = sym none
not_executed true true none = sym none

-- a leaf that a kind allows and that can write names a frame of a storable kind
pub written_is_storable : (kind : Kind) (r : Rights) → allows kind r ≡ true → r.can_write ≡ true → is_storable kind ≡ true
written_is_storable Data r allowed writes = refl
written_is_storable Code r allowed writes = absurd (false≢true (sym (none_writes r.can_write r.user r.exec allowed) ∙ writes))
written_is_storable (Table level) r allowed writes = absurd (false≢true (sym (none_writes r.can_write r.user r.exec allowed) ∙ writes))
written_is_storable Fixed r allowed writes = absurd (false≢true (sym (none_writes r.can_write r.user r.exec allowed) ∙ writes))
written_is_storable Trap r allowed writes = refl
written_is_storable Guarded r allowed writes = absurd (false≢true (sym (none_writes r.can_write r.user r.exec allowed) ∙ writes))
written_is_storable Hidden r allowed writes = absurd (false≢true allowed)

-- what a kind allows isn't executed by the supervisor, where SMEP is set
user_alone : (u x : Bool) → (u || not x) ≡ true → (x && not (true && u)) ≡ false
user_alone u false allowed = refl
user_alone true true allowed = refl
user_alone false true allowed = sym allowed

no_fetch : (u x : Bool) → x ≡ false → (x && not (true && u)) ≡ false
no_fetch u x none = ap (λ b. b && not (true && u)) none

pub allowed_not_fetched : (kind : Kind) (r : Rights) (wp : Bool) → allows kind r ≡ true → may Fetch r 0 wp true ≡ false
allowed_not_fetched Data r wp allowed = user_alone r.user r.exec allowed
allowed_not_fetched Code r wp allowed = no_fetch r.user r.exec (none_executes r.can_write r.user r.exec allowed)
allowed_not_fetched (Table level) r wp allowed = no_fetch r.user r.exec (none_executes r.can_write r.user r.exec allowed)
allowed_not_fetched Fixed r wp allowed = no_fetch r.user r.exec (none_executes r.can_write r.user r.exec allowed)
allowed_not_fetched Trap r wp allowed = no_fetch r.user r.exec (not_executed r.user r.exec allowed)
allowed_not_fetched Guarded r wp allowed = no_fetch r.user r.exec (none_executes r.can_write r.user r.exec allowed)
allowed_not_fetched Hidden r wp allowed = absurd (false≢true allowed)
