-- Frames that are guarded stay so over calls on page tables.
use Rattle.std.proofs.Common.{◌≡◌, ◌≢◌, ℕ, ◌≤◌, List, arith, sym, ap, ◌∙◌}
use Rattle.std.specs.Prelude.{slice_set, None}
use Rattle.std.proofs.lemmas.Bool.{false≢true}
use Rattle.std.proofs.lemmas.List.{get_or-set_other}
use Rattle.nk_bits.specs.declared.kind.Kind.{Kind}
use Rattle.nk_bits.specs.declared.kind.Kind.TheVariants.{Data, Guarded, Hidden, Table}
use Rattle.nk_bits.specs.Kinds.{is_guarded, kind_of, level_of}
use Rattle.page_desc.specs.PageTables.{Tables}
use Rattle.vmmu.specs.AcceptedCalls.{IsDeclarable, IsRemovable}
use Rattle.vmmu.specs.TableCalls.{declare_rule, remove_rule}

-- another frame changes
stays : (kinds : List Kind) (a : ℕ) (kind : Kind) (f : ℕ) → f ≢ a → kind_of kinds f ≡ Guarded → kind_of (slice_set kinds a kind) f ≡ Guarded
stays kinds a kind f apart is = get_or-set_other kinds a f kind Hidden apart ∙ is

pub declared_stays : ((t : Tables) (level frame : ℕ) → declare_rule t level frame ≡ None → IsDeclarable t level frame)
    → (t : Tables) (level frame : ℕ) → declare_rule t level frame ≡ None
    → (f : ℕ) → kind_of t.kinds f ≡ Guarded → kind_of (slice_set t.kinds frame (Table level)) f ≡ Guarded
declared_stays law t level frame rule f is =
    stays t.kinds frame (Table level) f
    (λ same. false≢true (ap is_guarded (sym (law t level frame rule).free ∙ ap (kind_of t.kinds) (sym same) ∙ is))) is

pub removed_stays : ((t : Tables) (frame : ℕ) → remove_rule t frame ≡ None → IsRemovable t frame)
    → (t : Tables) (frame : ℕ) → remove_rule t frame ≡ None
    → (f : ℕ) → kind_of t.kinds f ≡ Guarded → kind_of (slice_set t.kinds frame Data) f ≡ Guarded
removed_stays law t frame rule f is = stays t.kinds frame Data f apart is
  where
    apart : f ≢ frame
    apart same =
        let level : 1 ≤ level_of (kind_of t.kinds frame) = (law t frame rule).table in
        let none : level_of (kind_of t.kinds frame) ≡ 0 = ap (λ n. level_of (kind_of t.kinds n)) (sym same) ∙ ap level_of is in
        absurd (omega (arith, level, none))
