-- What is no stretch of code, no line in one, and no turns made over one, each named by the sentence that it guards.
use Rattle.std.proofs.Common.{◌≡◌, ◌≢◌, ◌+◌, ◌-◌, ◌%◌, ◌<◌, ◌≤◌, ℕ, suc, true, false, List, [], ◌∷◌, length, inl, inr, ap, sym, subst, ◌∙◌, arith}
use Rattle.std.proofs.lemmas.Bool.{false≢true}
use Rattle.std.specs.Prelude.{slice_index_or}
use Rattle.nk_bits.specs.declared.access.Access.TheVariants.{Fetch}
use Rattle.nk_bits.specs.declared.control.Control.{Control}
use Rattle.nk_bits.specs.Accesses.{accessed}
use Rattle.nk_bits.specs.KernelLayout.{body_address}
use Rattle.nk_bits.specs.Outcomes.{answered}
use Rattle.nk_bits.specs.Translations.{NamesFramesIn, Translations}
use Rattle.page_walk.specs.MemoryAccess.{view_of}
use Rattle.phys_mem.specs.Memory.{byte_at}
use Rattle.x86_decode.specs.Reader.{decoded_of}
use Rattle.x86_regs.specs.declared.registers.Regs.{Regs}
use Rattle.mem_access.specs.declared.window.Window.{Window}
use Rattle.mem_access.specs.Windows.{IsWindow}
use Rattle.exec_quick.specs.declared.quick.Quick.{Quick}
use Rattle.exec_quick.specs.QuickForms.{AreSameOnPages, IsQuick, StandsFor, has_register_first, is_slow}
use Rattle.cpu_step.specs.declared.kept_code.KeptCode.{KeptCode}
use Rattle.cpu_step.specs.declared.lines.Line.{Line}
use Rattle.cpu_step.specs.declared.stepped.Stepped.TheVariants.{Ran}
use Rattle.cpu_step.specs.CodeLines.{AreFrom, AreMadeOn, AreTurns, IsCodeIn, IsCodeInOne, IsFormIn, IsLineBy, IsLineOf, IsPageStretch, IsPlain, IsRow, IsStretch, code_behind, code_number, page_place}
use Rattle.cpu_step.specs.KeptFetches.{IsKeptCode, LiesOnPage}
use Rattle.cpu_step.specs.Processor.{Processor}
use Rattle.cpu_step.specs.QuickTurns.{AreQuickTurns, IsQuickTurn}
use Rattle.cpu_step.specs.Turns.{enters_body, turned}

module _ (size : ℕ) (control : Control) (cpl : ℕ) (tlb : Translations) where
  -- code that runs over its page's end, begins past the last address, ends past memory, has the body's place for the
  -- supervisor, stands elsewhere on its page than its bytes do, and code of which a byte isn't fetched from its place
  module _ (code : KeptCode) (it : IsKeptCode size control cpl tlb code) where
    over_the_end_of_its_page : code.start ≡ 0x401FF0 → code.last ≡ 1 → ⊥
    over_the_end_of_its_page start last = let page = it.page in omega (arith, start, last, page)

    past_the_last_address : code.start ≡ 0x10000000000000000 → ⊥
    past_the_last_address is = let bound = it.bound in omega (arith, is, bound)

    a_byte_past_memory : code.base + code.last + 15 ≡ size → ⊥
    a_byte_past_memory is = let inside = it.inside in omega (arith, is, inside)

    with_the_body : cpl ≡ 0 → code.start ≤ body_address → body_address ≤ code.start + code.last → ⊥
    with_the_body supervisor from to =
        elim (it.elsewhere supervisor) [
          | inl before ↦ absurd (omega (arith, to, before))
          | inr behind ↦ absurd (omega (arith, from, behind))
        ]

    a_byte_beside_its_place : code.base % 4096 ≡ (code.start + 1) % 4096 → ⊥
    a_byte_beside_its_place is = let aligned = it.aligned in omega (arith, is, aligned)

    fetched_from_elsewhere : (m : List ℕ) → answered (record { first = code.base + code.last; second = 0 }) tlb
        ≢ accessed (view_of m control cpl) Fetch tlb (code.start + code.last) 1 → ⊥
    fetched_from_elsewhere m other = other (it.fetched m code.last (omega arith))

  -- a page of code that isn't kept, over no window, over a window that doesn't keep the page off, or over translations
  -- that name a frame past memory
  module _ (code : KeptCode) (window : Window) (it : IsPageStretch size control cpl tlb code window) where
    page_that_isnt_kept : (IsKeptCode size control cpl tlb code → ⊥) → ⊥
    page_that_isnt_kept none = none it.kept

    page_without_a_window : (IsWindow size control cpl tlb window → ⊥) → ⊥
    page_without_a_window none = none it.windowed

    page_that_isnt_kept_off : slice_index_or window.off (code_number code.start) 0 ≡ page_place code + 4096 → ⊥
    page_that_isnt_kept_off is = let off = it.off in omega (arith, is, off)

    page_over_frames_past_memory : (NamesFramesIn size tlb → ⊥) → ⊥
    page_over_frames_past_memory none = none it.frames

  -- three codes; four of which one isn't kept; over no window, over one that doesn't keep off the page of the first or
  -- of the fourth, or over translations that name a frame past memory
  module _ (codes : List KeptCode) (window : Window) (it : IsStretch size control cpl tlb codes window) where
    three_codes : length codes ≡ 3 → ⊥
    three_codes is = let four = it.count in omega (arith, is, four)

    code_that_isnt_kept : (i : ℕ) (d : KeptCode) → i < 4
        → (IsKeptCode size control cpl tlb (slice_index_or codes i d) → ⊥) → ⊥
    code_that_isnt_kept i d few none = let four = it.count in none (it.kept i d (omega (arith, few, four)))

    without_a_window : (IsWindow size control cpl tlb window → ⊥) → ⊥
    without_a_window none = none it.windowed

    first_page_not_off : (d : KeptCode) → slice_index_or window.off 0 0 ≢ page_place (slice_index_or codes 0 d) → ⊥
    first_page_not_off d other = other (it.off 0 d (omega arith))

    fourth_page_not_off : (d : KeptCode) → slice_index_or window.off 3 0 ≢ page_place (slice_index_or codes 3 d) → ⊥
    fourth_page_not_off d other = other (it.off 3 d (omega arith))

    over_frames_past_memory : (NamesFramesIn size tlb → ⊥) → ⊥
    over_frames_past_memory none = none it.frames

-- code in a memory and on a page, of which one part isn't so
module _ (size : ℕ) (code : KeptCode) (it : LiesOnPage size code) where
  lies_over_the_end : code.start ≡ 0x401FF0 → code.last ≡ 1 → ⊥
  lies_over_the_end start last = let page = it.page in omega (arith, start, last, page)

  lies_past_the_last_address : code.start ≡ 0x10000000000000000 → ⊥
  lies_past_the_last_address is = let bound = it.bound in omega (arith, is, bound)

  lies_past_memory : code.base + code.last + 15 ≡ size → ⊥
  lies_past_memory is = let inside = it.inside in omega (arith, is, inside)

  lies_beside_its_place : code.base % 4096 ≡ (code.start + 1) % 4096 → ⊥
  lies_beside_its_place is = let aligned = it.aligned in omega (arith, is, aligned)

-- a line that begins a byte before the code, or ends a byte behind the bytes that are seen of it; and one whose first
-- byte, or last one, isn't memory's
module _ (code : KeptCode) (m : List ℕ) (line : Line) (it : IsCodeIn code m line) where
  a_byte_before_the_code : line.at + 1 ≡ code.start → ⊥
  a_byte_before_the_code is = let from = it.from in omega (arith, is, from)

  a_byte_behind_the_code : line.at + line.size ≡ code.start + code.last + 17 → ⊥
  a_byte_behind_the_code is = let to = it.to in omega (arith, is, to)

  another_first_byte : 0 < line.size → byte_at line.code 0 ≢ byte_at m (code.base + (line.at - code.start)) → ⊥
  another_first_byte some other =
      let place : ℕ = code.base + (line.at - code.start) in
      let plain : place + 0 ≡ place = omega arith in other (it.same 0 some ∙ ap (byte_at m) plain)

  another_last_byte : line.size ≡ 16 → byte_at line.code 15 ≢ byte_at m (code.base + (line.at - code.start) + 15) → ⊥
  another_last_byte sixteen other = other (it.same 15 (omega (arith, sixteen)))

-- a line that the code for its address doesn't have, whatever the others have
code_of_no_page : (codes : List KeptCode) (m : List ℕ) (line : Line) (d : KeptCode)
    → (IsCodeIn (slice_index_or codes (code_number line.at) d) m line → ⊥) → IsCodeInOne codes m line → ⊥
code_of_no_page codes m line d none it = none (it d)

-- a line at 401000, whose number is 1, where its code stands under number 0 and others under the rest
abbrev code_at : ℕ → KeptCode
code_at start = record { start = start; last = 0; base = 0 }

abbrev turned_codes : List KeptCode
turned_codes = code_at 0x401000 ∷ code_at 0x402000 ∷ code_at 0x403000 ∷ code_at 0x404000 ∷ []

under_another_number : (m : List ℕ) (line : Line) → line.at ≡ 0x401000 → IsCodeInOne turned_codes m line → ⊥
under_another_number m line at it =
    let told : IsCodeIn (code_at 0x402000) m line =
    subst (λ n. IsCodeIn (slice_index_or turned_codes (code_number n) (code_at 0)) m line) at (it (code_at 0)) in
    let from = told.from in omega (arith, at, from)

-- forms of which the first isn't at the address where they begin: one form late, or as if the line began elsewhere; and
-- of which the second stands a byte behind the first one's end, a byte before it, or where the first one stands
module _ (start at : ℕ) (one : Quick) (rest : List Quick) where
  one_form_late : (skipped : Quick) → at ≡ start + skipped.at → one.at ≡ skipped.at + skipped.size → 1 ≤ skipped.size
      → AreFrom start at (one ∷ rest) → ⊥
  one_form_late skipped here behind some it = let first = it.0 in omega (arith, here, behind, some, first)

  of_another_line : (other : ℕ) → other ≢ start → at ≡ other + one.at → AreFrom start at (one ∷ rest) → ⊥
  of_another_line other apart there it = let first = it.0 in apart (omega (arith, there, first))

  module _ (two : Quick) (it : AreFrom start at (one ∷ two ∷ rest)) where
    a_byte_apart : two.at ≡ one.at + one.size + 1 → ⊥
    a_byte_apart is = let first = it.0 in let second = it.1.0 in omega (arith, is, first, second)

    a_byte_over_the_first : two.at + 1 ≡ one.at + one.size → ⊥
    a_byte_over_the_first is = let first = it.0 in let second = it.1.0 in omega (arith, is, first, second)

    twice_the_same : 1 ≤ one.size → two.at ≡ one.at → ⊥
    twice_the_same some is = let first = it.0 in let second = it.1.0 in omega (arith, some, is, first, second)

-- a row of fifteen forms, of which seventeen count, whose first form doesn't begin the line, or whose next ones leave a
-- byte out
module _ (forms : List Quick) (count : ℕ) (it : IsRow forms count) where
  fifteen_forms : length forms ≡ 15 → ⊥
  fifteen_forms is = let all = it.all in omega (arith, is, all)

  seventeen_count : count ≡ 17 → ⊥
  seventeen_count is = let few = it.few in omega (arith, is, few)

  first_a_byte_late : (d : Quick) → 0 < count → (slice_index_or forms 0 d).at ≡ 1 → ⊥
  first_a_byte_late d some is = let first = it.first d some in omega (arith, is, first)

  next_a_byte_late : (d : Quick) (i : ℕ) → i + 1 < count
      → (slice_index_or forms (i + 1) d).at ≡ (slice_index_or forms i d).at + (slice_index_or forms i d).size + 1 → ⊥
  next_a_byte_late d i within is = let next = it.next d i within in omega (arith, is, next)

-- a form that can't be made, or whose first operand is no register though its kind says one, which looks past the
-- bytes, or stands for other bytes
module _ (code : List ℕ) (size : ℕ) (q : Quick) (it : IsFormIn code size q) where
  unready_form : (IsQuick q → ⊥) → ⊥
  unready_form none = none it.ready

  form_without_a_register : has_register_first q.kind ≡ true → q.to ≡ 16 → ⊥
  form_without_a_register first number = let few = it.register first in omega (arith, number, few)

  form_past_the_bytes : q.at + 15 ≡ size → ⊥
  form_past_the_bytes is = let within = it.within in omega (arith, is, within)

  form_of_other_bytes : is_slow q.kind ≡ false → (StandsFor q (decoded_of (code_behind code q.at 0 15)) → ⊥) → ⊥
  form_of_other_bytes quick none = none (it.stands quick)

-- a line of eight bytes, of seventy-two, or of no whole words; with a form that isn't its code's, or forms in no row;
-- and one of a later stamp
module _ (stamp : ℕ) (line : Line) (it : IsLineBy stamp line) where
  eight_bytes : line.size ≡ 8 → ⊥
  eight_bytes is = let some = it.some in omega (arith, is, some)

  seventy_two_bytes : line.size ≡ 72 → ⊥
  seventy_two_bytes is = let size = it.size in omega (arith, is, size)

  no_whole_words : line.size ≡ 20 → ⊥
  no_whole_words is = let whole = it.whole in omega (arith, is, whole)

  form_of_another_line : (i : ℕ) (d : Quick) → i < 16
      → (IsFormIn line.code line.size (slice_index_or line.forms i d) → ⊥) → ⊥
  form_of_another_line i d few none = let all = it.row.all in none (it.forms i d (omega (arith, few, all)))

  forms_in_no_row : (IsRow line.forms line.count → ⊥) → ⊥
  forms_in_no_row none = none it.row

  later_stamp : line.stamp ≡ stamp + 1 → ⊥
  later_stamp is = let stamped = it.stamped in omega (arith, is, stamped)

-- a line that isn't one by itself, and one of this stamp whose code no page has
module _ (stamp : ℕ) (codes : List KeptCode) (m : List ℕ) (line : Line) (it : IsLineOf stamp codes m line) where
  no_line : (IsLineBy stamp line → ⊥) → ⊥
  no_line none = none it.by

  line_of_no_page : line.stamp ≡ stamp → (IsCodeInOne codes m line → ⊥) → ⊥
  line_of_no_page same none = none (it.here same)

-- a processor with other registers, other control registers or other translations; one that is halted, that is
-- shielded, or to which something is to be delivered
module _ (r : Regs) (c : Control) (t : Translations) (p : Processor) (it : IsPlain r c t p) where
  other_registers : p.regs ≢ r → ⊥
  other_registers other = other it.regs

  other_control : p.control ≢ c → ⊥
  other_control other = other it.control

  other_translations : p.tlb ≢ t → ⊥
  other_translations other = other it.tlb

  halted : p.halted ≡ true → ⊥
  halted is = false≢true (sym it.runs ∙ is)

  shielded : p.shielded ≡ true → ⊥
  shielded is = false≢true (sym it.open_to ∙ is)

  vector_due : p.pending ≡ 1 → ⊥
  vector_due is = let none = it.none in omega (arith, is, none)

-- a turn at the body's place, of a processor that is halted, that shows something, or that changes a control register
module _ (p : Processor) (m : List ℕ) (it : IsQuickTurn p m) where
  turn_of_the_body : enters_body p ≡ true → ⊥
  turn_of_the_body is = false≢true (sym it.no_body ∙ is)

  turn_of_the_halted : p.halted ≡ true → ⊥
  turn_of_the_halted is = false≢true (sym it.runs ∙ is)

  turn_that_shows : (turned p m).stepped ≢ Ran → ⊥
  turn_that_shows other = other it.ran

  turn_of_control : (turned p m).processor.control ≢ p.control → ⊥
  turn_of_control other = other it.control

-- no turn leads elsewhere or to other bytes; more turns begin with a quick one, and what is behind it are as many but
-- one
no_turn_moves : (p q : Processor) (m n : List ℕ) → q ≢ p → AreQuickTurns 0 p m q n → ⊥
unfolding AreQuickTurns
no_turn_moves p q m n other it = other it.0

no_turn_stores : (p q : Processor) (m n : List ℕ) → n ≢ m → AreQuickTurns 0 p m q n → ⊥
unfolding AreQuickTurns
no_turn_stores p q m n other it = other it.1

slow_first_turn : (k : ℕ) (p q : Processor) (m n : List ℕ) → (IsQuickTurn p m → ⊥) → AreQuickTurns (suc k) p m q n → ⊥
unfolding AreQuickTurns
slow_first_turn k p q m n none it = none it.0

one_turn_elsewhere : (p q : Processor) (m n : List ℕ) → q ≢ (turned p m).processor → AreQuickTurns 1 p m q n → ⊥
unfolding AreQuickTurns
one_turn_elsewhere p q m n other it = other it.1.0

-- turns over a window that some plain processor doesn't make; that change a byte of code, the places kept off, how many
-- bytes memory has, or CPL; and over a window that is none behind them
module _ (n : ℕ) (control : Control) (tlb : Translations) (from : Regs) (m : List ℕ) (before : Window) (to : Regs)
    (o : List ℕ) (after : Window) (it : AreMadeOn n control tlb from m before to o after) where
  turns_not_made : (p : Processor) → IsPlain from control tlb p
      → (AreQuickTurns n p m (record p { regs = to }) o → ⊥) → ⊥
  turns_not_made p plain none = none (it.turns p plain)

  byte_of_code_changed : (AreSameOnPages before.off m o → ⊥) → ⊥
  byte_of_code_changed none = none it.code

  other_places_off : after.off ≢ before.off → ⊥
  other_places_off other = other it.off

  a_byte_of_memory_more : length o ≡ length m + 1 → ⊥
  a_byte_of_memory_more is = let size = it.size in omega (arith, is, size)

  made_into_a_user : from.cpl ≡ 0 → to.cpl ≡ 3 → ⊥
  made_into_a_user supervisor user = let cpl = it.cpl in omega (arith, supervisor, user, cpl)

  window_of_another_memory : (IsWindow (length o) control to.cpl tlb after → ⊥) → ⊥
  window_of_another_memory none = none it.windowed

-- the same of turns over any window
module _ (n : ℕ) (control : Control) (tlb : Translations) (from : Regs) (m : List ℕ) (to : Regs) (o : List ℕ)
    (it : AreTurns n control tlb from m to o) where
  any_turns_not_made : (p : Processor) → IsPlain from control tlb p
      → (AreQuickTurns n p m (record p { regs = to }) o → ⊥) → ⊥
  any_turns_not_made p plain none = none (it.turns p plain)

  any_byte_of_memory_more : length o ≡ length m + 1 → ⊥
  any_byte_of_memory_more is = let size = it.size in omega (arith, is, size)

  any_made_into_a_user : from.cpl ≡ 0 → to.cpl ≡ 3 → ⊥
  any_made_into_a_user supervisor user = let cpl = it.cpl in omega (arith, supervisor, user, cpl)
