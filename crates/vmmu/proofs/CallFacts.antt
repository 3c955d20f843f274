-- What a call that breaks no rule is.
use Rattle.std.proofs.Common.{◌≡◌, ℕ, ◌<◌, Bool, true, false, not, ◌&&◌, ◌==◌, Option, None, arith, refl, sym, ap, subst, ◌∙◌, zero-add}
use Rattle.std.specs.Prelude.{nat_le, nat_lt}
use Rattle.std.specs.List.{list_any, range_with_len}
use Rattle.std.proofs.lemmas.List.Folds.{list_any_at}
use Rattle.std.proofs.lemmas.List.FromFn.{get_or-range_with_len, length-range_with_len}
use Rattle.std.proofs.lemmas.Bool.{and_from, and_parts, both_ways, eqb-true, false_from_ne_true, leb-true, ltb-false, ltb-true, not-false, not_from_false, or_parts, eqb-false}
use Rattle.nk_bits.specs.declared.kind.Kind.{Kind}
use Rattle.nk_bits.specs.declared.kind.Kind.TheVariants.{Data, Code, Table, Fixed, Trap, Guarded, Hidden}
use Rattle.nk_bits.specs.declared.rule.Rule.{Rule}
use Rattle.nk_bits.specs.declared.rule.Rule.TheVariants.{BadFrame, BadIndex, BadLevel, KernelSlot, NotData, NotEmpty, NotRoot, NotTable, StillLinked, StillLoose}
use Rattle.nk_bits.specs.Kinds.{is_data}
use Rattle.nk_bits.specs.Paging.{is_present, is_slot_entry}
use Rattle.page_desc.specs.PageTables.{Tables, links_of}
use Rattle.table_rules.specs.ValueRules.{broken}
use Rattle.vmmu.specs.AcceptedCalls.{IsDeclarable, IsRemovable, IsRoot, IsWritable}
use Rattle.vmmu.specs.TableCalls.{declare_rule, entry_rule, is_filled, level_at, remove_rule, root_rule}

-- where no rule of a list is broken, the first isn't, and none of the later ones
first_stands : (is_broken : Bool) (rule : Rule) (later : Option Rule) → broken is_broken rule later ≡ None
    → is_broken ≡ false
first_stands true rule later none = absurd (cc)
first_stands false rule later none = refl

later_stand : (is_broken : Bool) (rule : Rule) (later : Option Rule) → broken is_broken rule later ≡ None
    → later ≡ None
later_stand true rule later none = absurd (cc)
later_stand false rule later none = none

-- a test that one number of a range passes
any_at : (n i : ℕ) (p : ℕ → Bool) → i < n → p i ≡ true → list_any p (range_with_len 0 n) ≡ true
any_at n i p small is =
    list_any_at p (range_with_len 0 n) i 0 (subst (λ k. i < k) (sym (length-range_with_len 0 n)) small)
    (ap p (get_or-range_with_len 0 n i 0 small ∙ zero-add i) ∙ is)

within : (index : ℕ) → nat_lt 511 index ≡ false → index < 512
within index past = omega (arith, ltb-false 511 index past)

data_is : (kind : Kind) → is_data kind ≡ true → kind ≡ Data
data_is Data is = refl
data_is Code is = absurd (cc)
data_is (Table level) is = absurd (cc)
data_is Fixed is = absurd (cc)
data_is Trap is = absurd (cc)
data_is Guarded is = absurd (cc)
data_is Hidden is = absurd (cc)

pub declarable : (t : Tables) (level frame : ℕ) → declare_rule t level frame ≡ None → IsDeclarable t level frame
unfolding declare_rule
declarable t level frame none =
    let second = later_stand _ BadFrame _ none in
    let third = later_stand _ BadLevel _ second in
    let fourth = later_stand _ NotData _ third in
    let levels = and_parts (nat_le 1 level) (nat_le level 4) (not-false _ (first_stands _ BadLevel _ second)) in
    record {
      inside = ltb-true _ _ (not-false _ (first_stands _ BadFrame _ none));
      least = leb-true 1 level levels.0;
      most = leb-true level 4 levels.1;
      free = data_is _ (not-false _ (first_stands _ NotData _ third));
      none = eqb-true _ 0 (not-false _ (first_stands _ StillLoose None fourth));
    }

pub writable : (t : Tables) (frame index value : ℕ) → entry_rule t frame index value ≡ None
    → IsWritable t frame index value
unfolding entry_rule
writable t frame index value none =
    let second = later_stand _ BadFrame _ none in
    let third = later_stand _ NotTable _ second in
    let fourth = later_stand _ BadIndex _ third in
    record {
      inside = ltb-true _ _ (not-false _ (first_stands _ BadFrame _ none));
      table = ltb-true 0 _ (not-false _ (first_stands _ NotTable _ second));
      small = within index (first_stands _ BadIndex _ third);
      other = first_stands _ KernelSlot _ fourth;
      admitted = later_stand _ KernelSlot _ fourth;
    }

pub removable : (t : Tables) (frame : ℕ) → remove_rule t frame ≡ None → IsRemovable t frame
unfolding remove_rule is_filled
removable t frame none =
    let second = later_stand _ BadFrame _ none in
    let third = later_stand _ NotTable _ second in
    let fourth = later_stand _ StillLinked _ third in
    let free = or_parts (not (links_of t frame == 0)) (frame == t.root) (first_stands _ StillLinked _ third) in
    let filled : (i : ℕ) → Bool = λ i. is_present (t.entries frame i) && not (is_slot_entry (level_at t frame) i) in
    record {
      inside = ltb-true _ _ (not-false _ (first_stands _ BadFrame _ none));
      table = ltb-true 0 _ (not-false _ (first_stands _ NotTable _ second));
      unlinked = eqb-true _ 0 (not-false _ free.0);
      apart = eqb-false _ _ free.1;
      empty = λ i small other. false_from_ne_true _ (λ present.
          both_ways _ (first_stands _ NotEmpty None fourth)
          (any_at 512 i filled small (and_from _ _ present (not_from_false _ other))));
    }

pub loadable : (t : Tables) (frame : ℕ) → root_rule t frame ≡ None → IsRoot t frame
unfolding root_rule
loadable t frame none = record {
  inside = ltb-true _ _ (not-false _ (first_stands _ BadFrame _ none));
  level = eqb-true _ 4 (not-false _ (first_stands _ NotRoot None (later_stand _ BadFrame _ none)));
}
