-- Lines that go out number by number, those of a page table's entries, and the closing section.
use Rattle.std.proofs.Common.{◌≡◌, ℕ, zero, suc, ◌+◌, ◌-◌, ◌<◌, ◌≤◌, ◌≢◌, Bool, true, false, List, [], ◌++◌, Option, refl, sym, ap, ◌∙◌, subst, append_assoc, append-nil, arith}
use Rattle.std.specs.Prelude.{◌&&◌, ◌==◌, nat_lt, if◌then◌else◌}
use Rattle.std.proofs.lemmas.Bool.{lt-ltb, ne_eqb}
use Rattle.std.specs.Io.KnownBytes.{Appends}
use Rattle.std.proofs.KnownBytes.{Appends-trans, Appends-nil}
use Rattle.phys_mem.specs.Memory.{entry_in}
use Rattle.nk_bits.specs.declared.kind.Kind.{Kind}
use Rattle.nk_bits.specs.Kinds.{kind_of}
use Rattle.boot_map.specs.OpeningEntries.{opening_entry}
use Rattle.boot_map.specs.OpeningKinds.{kind_at}
use Rattle.page_desc.specs.PageTables.{is_table, table_entries}
use Rattle.nk_host.specs.Taken.{AppendsPrefix}
use Rattle.nk_body.specs.NestedRecord.{AreBooks, Books, Ledger, Nested, nested_by, nested_in}
use Rattle.report_text.specs.ClosingSection.{bytes_of_region, entry_lines, kind_lines, line_of_entry, lines_of, lines_of_table, log_lines, region_lines, section, table_value}
use Rattle.report_text.specs.RunLines.{entry_line, root_line, trap_line}
use Rattle.report_text.proofs.Texts.{prefix_behind, prefix_of_both}

-- the lines from a place on, where it isn't the last, and at the end
pub lines_from : (g : ℕ → List ℕ) (total place : ℕ) → place < total
    → lines_of g (total - place) place ≡ g place ++ lines_of g (total - (place + 1)) (place + 1)
unfolding lines_of
lines_from g total place below =
    let left : total - place ≡ suc (total - (place + 1)) = omega (arith, below) in
    ap (λ n. lines_of g n place) left

pub no_lines : (g : ℕ → List ℕ) (total place : ℕ) → total ≤ place → lines_of g (total - place) place ≡ []
unfolding lines_of
no_lines g total place past =
    let left : total - place ≡ 0 = omega (arith, past) in
    ap (λ n. lines_of g n place) left

-- some of the text went out, and the rest is the lines from this place on
pub record AreGoing {O : Type 0} (taken : O → Option (List ℕ)) (faults : O → ℕ) (first now : O) (whole : List ℕ)
    (g : ℕ → List ℕ) (total place : ℕ) : Type 0 where
  pub done : List ℕ
  pub split : whole ≡ done ++ lines_of g (total - place) place
  pub appended : Appends (taken first) (taken now) done
  pub never_fell : faults first ≤ faults now

module _ {O : Type 0} (taken : O → Option (List ℕ)) (faults : O → ℕ) (first now : O) (g : ℕ → List ℕ) (total : ℕ) where
  -- at first nothing went out
  pub lines_begin : AreGoing taken faults first first (lines_of g total 0) g total 0
  lines_begin = record {
    done = [];
    split = let same : total ≡ total - 0 = omega arith in ap (λ n. lines_of g n 0) same;
    appended = Appends-nil (taken first);
    never_fell = omega arith;
  }

  module _ (whole : List ℕ) (place : ℕ) (going : AreGoing taken faults first now whole g total place) where
    split_here : place < total → whole ≡ going.done ++ (g place ++ lines_of g (total - (place + 1)) (place + 1))
    split_here below = going.split ∙ ap (λ l. going.done ++ l) (lines_from g total place below)

    -- what this place gives went out
    pub lines_go_on : (later : O) → place < total → Appends (taken now) (taken later) (g place)
        → faults now ≤ faults later
        → AreGoing taken faults first later whole g total (place + 1)
    lines_go_on later below put low = record {
      done = going.done ++ g place;
      split = split_here below ∙ sym (append_assoc going.done (g place) (lines_of g (total - (place + 1)) (place + 1)));
      appended = Appends-trans (taken first) (taken now) (taken later) going.done (g place) going.appended put;
      never_fell = omega (arith, going.never_fell, low);
    }

    -- a fault cut it
    pub lines_were_cut : (later : O) → place < total → AppendsPrefix (taken now) (taken later) (g place)
        → AppendsPrefix (taken first) (taken later) whole
    lines_were_cut later below cut =
        let rest = lines_of g (total - (place + 1)) (place + 1) in
        subst (AppendsPrefix (taken first) (taken later)) (sym (split_here below))
        (prefix_behind (taken first) (taken now) (taken later) going.done (g place ++ rest) going.appended
        (prefix_of_both (taken now) (taken later) (g place) rest cut))

    -- all went out
    pub lines_ended : total ≤ place → Appends (taken first) (taken now) whole
    lines_ended past =
        let all = going.split ∙ ap (λ l. going.done ++ l) (no_lines g total place past) ∙ append-nil going.done in
        subst (Appends (taken first) (taken now)) (sym all) going.appended

-- places that give nothing are passed over
pub lines_behind : (g : ℕ → List ℕ) (total n place later : ℕ) → later ≡ place + n → later ≤ total
    → ((i : ℕ) → place ≤ i → i < later → g i ≡ [])
    → lines_of g (total - place) place ≡ lines_of g (total - later) later
lines_behind g total zero place later is low none =
    let same : place ≡ later = omega (arith, is) in
    ap (λ p. lines_of g (total - p) p) same
lines_behind g total (suc n) place later is low none =
    lines_from g total place (omega (arith, is, low))
    ∙ ap (λ l. l ++ lines_of g (total - (place + 1)) (place + 1)) (none place (omega arith) (omega (arith, is)))
    ∙ lines_behind g total n (place + 1) later (omega (arith, is)) low
    (λ i from below. none i (omega (arith, from)) below)

pub lines_passed : {O : Type 0} (taken : O → Option (List ℕ)) (faults : O → ℕ) (first now : O) (g : ℕ → List ℕ)
    (total : ℕ) (whole : List ℕ) (place later : ℕ) → AreGoing taken faults first now whole g total place
    → place ≤ later → later ≤ total
    → ((i : ℕ) → place ≤ i → i < later → g i ≡ [])
    → AreGoing taken faults first now whole g total later
lines_passed taken faults first now g total whole place later going behind low none = record {
  done = going.done;
  split =
      going.split
      ∙ ap (λ l. going.done ++ l)
      (lines_behind g total (later - place) place later (omega (arith, behind)) low none);
  appended = going.appended;
  never_fell = going.never_fell;
}

-- lines that are the same at each place
pub lines_alike : (g h : ℕ → List ℕ) (n place : ℕ) → ((i : ℕ) → i < place + n → g i ≡ h i)
    → lines_of g n place ≡ lines_of h n place
unfolding lines_of
lines_alike g h zero place same = refl
lines_alike g h (suc n) place same =
    ap (λ l. l ++ lines_of g n (place + 1)) (same place (omega arith))
    ∙ ap (λ l. h place ++ l) (lines_alike g h n (place + 1) (λ i low. same i (omega (arith, low))))

-- an entry that was 0 has no line where it is 0, and has one where it isn't
pub entry_stayed_0 : (now f i : ℕ) → now ≡ 0 → line_of_entry 0 now f i ≡ []
entry_stayed_0 now f i is = ap (λ value. line_of_entry 0 value f i) is

pub entry_rose : (m : List ℕ) (f i value : ℕ) (bytes : List ℕ) → bytes ≡ entry_line f i value → value ≡ entry_in m f i
    → entry_in m f i ≢ 0
    → bytes ≡ line_of_entry 0 (entry_in m f i) f i
entry_rose m f i value bytes line is other =
    let now : ℕ = entry_in m f i in
    let differs : (0 == now) ≡ false = ne_eqb 0 now (λ same. other (sym same)) in
    line ∙ ap (entry_line f i) is ∙ ap (λ (b : Bool). if b then [] else entry_line f i now) (sym differs)

-- the changed entries of a page table that was one at the opening, and of one that wasn't
pub old_table_lines : (image : List ℕ) (frames : ℕ) (m : List ℕ) (f : ℕ) → is_table (kind_at image frames f) ≡ true
    → lines_of (λ i. line_of_entry (opening_entry image frames f i) (entry_in m f i) f i) 512 0
    ≡ lines_of (λ i. line_of_entry (table_value image frames f i) (entry_in m f i) f i) 512 0
old_table_lines image frames m f table =
    ap (λ (b : Bool).
    lines_of (λ i. line_of_entry (if b then opening_entry image frames f i else 0) (entry_in m f i) f i) 512 0)
    (sym table)

pub new_table_lines : (image : List ℕ) (frames : ℕ) (m : List ℕ) (f : ℕ) → is_table (kind_at image frames f) ≡ false
    → lines_of (λ i. line_of_entry 0 (entry_in m f i) f i) 512 0
    ≡ lines_of (λ i. line_of_entry (table_value image frames f i) (entry_in m f i) f i) 512 0
new_table_lines image frames m f none =
    ap (λ (b : Bool).
    lines_of (λ i. line_of_entry (if b then opening_entry image frames f i else 0) (entry_in m f i) f i) 512 0)
    (sym none)

-- an entry of a page table is memory's
entry_is : (kinds : List Kind) (m : List ℕ) (f i : ℕ) → is_table (kind_of kinds f) ≡ true → i < 512
    → table_entries kinds m f i ≡ entry_in m f i
unfolding table_entries
entry_is kinds m f i table low =
    ap (λ (b : Bool). if b && nat_lt i 512 then entry_in m f i else 0) table
    ∙ ap (λ (b : Bool). if b then entry_in m f i else 0) (lt-ltb i 512 low)

-- the text of a page table's entries, which some memory has as this one does, and of no page table's
pub table_lines : (image : List ℕ) (frames : ℕ) (kinds : List Kind) (root : ℕ) (ledger : Ledger) (m n : List ℕ) (f : ℕ)
    → is_table (kind_of kinds f) ≡ true → ((i : ℕ) → i < 512 → entry_in n f i ≡ entry_in m f i)
    → lines_of (λ i. line_of_entry (table_value image frames f i) (entry_in n f i) f i) 512 0 ≡ lines_of_table image
    frames (nested_in kinds root ledger m) f
unfolding lines_of_table
table_lines image frames kinds root ledger m n f table reads =
    let nk : Nested = nested_in kinds root ledger m in
    let now : ℕ → List ℕ = λ i. line_of_entry (table_value image frames f i) (nk.tables.entries f i) f i in
    lines_alike _ now 512 0 (λ i low.
    let index : i < 512 = omega (arith, low) in
    ap (λ value. line_of_entry (table_value image frames f i) value f i)
    (reads i index ∙ sym (entry_is kinds m f i table index)))
    ∙ ap (λ (b : Bool). if b then lines_of now 512 0 else []) (sym table)

pub no_table_lines : (image : List ℕ) (frames : ℕ) (kinds : List Kind) (root : ℕ) (ledger : Ledger) (m : List ℕ) (f : ℕ)
    → is_table (kind_of kinds f) ≡ false
    → [] ≡ lines_of_table image frames (nested_in kinds root ledger m) f
unfolding lines_of_table
no_table_lines image frames kinds root ledger m f none =
    let nk : Nested = nested_in kinds root ledger m in
    let now : ℕ → List ℕ = λ i. line_of_entry (table_value image frames f i) (nk.tables.entries f i) f i in
    ap (λ (b : Bool). if b then lines_of now 512 0 else []) (sym none)

-- the closing section: what isn't the opening's and the ledger, behind what the books hold
abbrev pub changes_of : List ℕ → ℕ → Nested → List ℕ
changes_of image frames nk =
    kind_lines image frames nk ++ (entry_lines image frames nk
    ++ (region_lines (bytes_of_region nk) nk.ledger.book.regions ++ log_lines 0 nk.ledger.log))

pub section_is : (image : List ℕ) (frames : ℕ) (books : Books) (m : List ℕ) → AreBooks books m
    → let nk : Nested = nested_by books m in
    (root_line books.root ++ trap_line books.trap) ++ changes_of image frames nk ≡ section image frames nk
section_is image frames books m are =
    let rest = changes_of image frames (nested_by books m) in
    append_assoc (root_line books.root) (trap_line books.trap) rest
    ∙ ap (λ address. root_line books.root ++ (trap_line address ++ rest)) are.trap
