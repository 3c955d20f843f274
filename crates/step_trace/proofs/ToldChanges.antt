-- Which changes of a step pass a test, part by part.
use Rattle.std.proofs.Common.{◌≡◌, ℕ, zero, suc, ◌+◌, ◌/◌, Bool, true, false, List, [], ◌∷◌, ◌++◌, length, nat_lt, take, refl, sym, ap, ◌∙◌, arith, length-append, append_assoc}
use Rattle.std.specs.Prelude.{◌*◌, ◌==◌, ◌&&◌, ◌||◌, not, if◌then◌else◌, is_none}
use Rattle.std.proofs.lemmas.Bool.{le-ltb, lt-ltb, false≢true, or_parts, true≢false}
use Rattle.nk_bits.specs.declared.call.Answer.{Answer}
use Rattle.nk_bits.specs.declared.control.Control.{Control}
use Rattle.nk_bits.specs.declared.leaf.Leaf.{Leaf}
use Rattle.nk_bits.specs.declared.leaf.Upper.{Upper}
use Rattle.nk_bits.specs.Translations.{Pairs, Translations, look}
use Rattle.nk_bits.specs.UpperEntries.{KeptEntry}
use Rattle.phys_mem.specs.Memory.{frame_bytes}
use Rattle.x86_alu.specs.SignedNumbers.{bit, differ}
use Rattle.x86_regs.specs.declared.registers.Regs.{Regs}
use Rattle.x86_regs.specs.Operands.{wrapped}
use Rattle.cpu_step.specs.Processor.{Processor}
use Rattle.gate_state.specs.declared.seen.Seen.TheVariants as seen
use Rattle.gate_state.specs.declared.seen.Step.{Step}
use Rattle.gate_state.specs.declared.seen.Step.TheVariants as step
use Rattle.step_trace.specs.declared.line.Told.{Told}
use Rattle.step_trace.specs.StepChanges.{Answered, Change, Console, ControlRegister, Delivered, Dropped, Filled, Flag, Flags, Flushed, Forgotten, General, Halted, Kept, Privilege, Rip, Stack, Stored, Unread, cleared, control_changes, drops, fills, flag_changes, flushes, forgets, general_changes, has_entry, has_pair, has_span, is_unreadable, keeps, memory_changes, named_flags, run_rest, runs, shown_changes, step_changes, translation_changes, where_so}
use Rattle.step_trace.specs.StepLines.{has, is_console, is_delivered, is_rip, is_stored}
use Rattle.step_trace.specs.StepTexts.{changes_text}
use Rattle.step_trace.specs.ToldSteps.{IsToldOf, is_console_byte, is_delivery_step, registers_behind}
use Rattle.step_trace.proofs.ChangeTexts.{changes_behind}

-- none before passes, and so those behind tell
none_before : (test : Change → Bool) (before after : List Change) → has test before ≡ false
    → has test (before ++ after) ≡ has test after
none_before test [] after none = refl
none_before test (change ∷ before) after none =
    ap (λ b. b || has test (before ++ after)) (or_parts (test change) (has test before) none).0
    ∙ none_before test before after (or_parts (test change) (has test before) none).1

-- none behind passes, and so those before tell
none_behind : (test : Change → Bool) (before after : List Change) → has test after ≡ false
    → has test (before ++ after) ≡ has test before
none_behind test [] after none = none
none_behind test (change ∷ before) after none = ap (λ b. test change || b) (none_behind test before after none)

-- none of both passes
none_of_both : (test : Change → Bool) (before after : List Change) → has test before ≡ false
    → has test after ≡ false → has test (before ++ after) ≡ false
none_of_both test before after first second = none_before test before after first ∙ second

-- a change where there is one that doesn't pass
none_where : (test : Change → Bool) (b : Bool) (change : Change) → test change ≡ false
    → has test (where_so b change) ≡ false
none_where test true change fails = ap (λ b. b || false) fails
none_where test false change fails = refl

-- and one of two lists
none_of_either : (test : Change → Bool) (b : Bool) (one other : List Change) → has test one ≡ false
    → has test other ≡ false → has test (if b then one else other) ≡ false
none_of_either test true one other first second = first
none_of_either test false one other first second = second

-- no register passes
none_of_general : (test : Change → Bool) → ((n v : ℕ) → test (General n v) ≡ false)
    → (n : ℕ) (before after : List ℕ) → has test (general_changes n before after) ≡ false
none_of_general test fails n [] after = refl
none_of_general test fails n (a ∷ before) [] = refl
none_of_general test fails n (a ∷ before) (b ∷ after) =
    none_of_both test (where_so (not (a == b)) (General n b)) (general_changes (suc n) before after)
    (none_where test (not (a == b)) (General n b) (fails n b)) (none_of_general test fails (suc n) before after)

-- no flag passes
none_of_flags : (test : Change → Bool) → ((n : ℕ) (b : Bool) → test (Flag n b) ≡ false)
    → (places : List ℕ) (before after : ℕ) → has test (flag_changes places before after) ≡ false
none_of_flags test fails [] before after = refl
none_of_flags test fails (place ∷ places) before after =
    none_of_both test (where_so (differ (bit before place) (bit after place)) (Flag place (bit after place)))
    (flag_changes places before after)
    (none_where test (differ (bit before place) (bit after place)) (Flag place (bit after place))
    (fails place (bit after place)))
    (none_of_flags test fails places before after)

-- no run of bytes passes
none_of_runs : (test : Change → Bool) → ((n : ℕ) (bytes : List ℕ) → test (Stored n bytes) ≡ false)
    → (place more : ℕ) (before after : List ℕ) → has test (runs place more before after) ≡ false
none_of_runs test fails place zero [] after = refl
none_of_runs test fails place (suc more) [] after = refl
none_of_runs test fails place zero (a ∷ before) [] = refl
none_of_runs test fails place (suc more) (a ∷ before) [] = refl
none_of_runs test fails place (suc more) (a ∷ before) (b ∷ after) =
    none_of_runs test fails (suc place) more before after
none_of_runs test fails place zero (a ∷ before) (b ∷ after) =
    none_of_either test (a == b) (runs (suc place) zero before after)
    (Stored place (b ∷ take (run_rest before after) after) ∷ runs (suc place) (run_rest before after) before after)
    (none_of_runs test fails (suc place) zero before after)
    (ap (λ t. t || has test (runs (suc place) (run_rest before after) before after))
    (fails place (b ∷ take (run_rest before after) after))
    ∙ none_of_runs test fails (suc place) (run_rest before after) before after)

none_of_memory : (test : Change → Bool) → ((n : ℕ) (bytes : List ℕ) → test (Stored n bytes) ≡ false)
    → (n frame : ℕ) (before after : List ℕ) → has test (memory_changes n frame before after) ≡ false
none_of_memory test fails zero frame before after = refl
none_of_memory test fails (suc n) frame before after =
    none_of_both test (runs (4096 * frame) 0 (frame_bytes before frame) (frame_bytes after frame))
    (memory_changes n (suc frame) before after)
    (none_of_runs test fails (4096 * frame) 0 (frame_bytes before frame) (frame_bytes after frame))
    (none_of_memory test fails n (suc frame) before after)

-- nothing passes of what is kept of walks
none_of_fills : (test : Change → Bool) → ((page : ℕ) (leaf : Leaf) → test (Filled page leaf) ≡ false)
    → (before after : Pairs) → has test (fills before after) ≡ false
none_of_fills test fails before [] = refl
none_of_fills test fails before (pair ∷ after) =
    none_of_both test (where_so (not (has_pair pair before)) (Filled pair.0 pair.1)) (fills before after)
    (none_where test (not (has_pair pair before)) (Filled pair.0 pair.1) (fails pair.0 pair.1))
    (none_of_fills test fails before after)

none_of_drops : (test : Change → Bool) → ((page : ℕ) → test (Dropped page) ≡ false)
    → (before after : Pairs) → has test (drops before after) ≡ false
none_of_drops test fails [] after = refl
none_of_drops test fails (pair ∷ before) after =
    none_of_both test (where_so (is_none (look after pair.0)) (Dropped pair.0)) (drops before after)
    (none_where test (is_none (look after pair.0)) (Dropped pair.0) (fails pair.0))
    (none_of_drops test fails before after)

none_of_keeps : (test : Change → Bool) → ((level bits : ℕ) (it : Upper) → test (Kept level bits it) ≡ false)
    → (before after : List KeptEntry) → has test (keeps before after) ≡ false
none_of_keeps test fails before [] = refl
none_of_keeps test fails before (entry ∷ after) =
    none_of_both test (where_so (not (has_entry entry before)) (Kept entry.0 entry.1 entry.2)) (keeps before after)
    (none_where test (not (has_entry entry before)) (Kept entry.0 entry.1 entry.2) (fails entry.0 entry.1 entry.2))
    (none_of_keeps test fails before after)

none_of_forgets : (test : Change → Bool) → ((level bits : ℕ) → test (Forgotten level bits) ≡ false)
    → (before after : List KeptEntry) → has test (forgets before after) ≡ false
none_of_forgets test fails [] after = refl
none_of_forgets test fails (entry ∷ before) after =
    none_of_both test (where_so (not (has_span entry after)) (Forgotten entry.0 entry.1)) (forgets before after)
    (none_where test (not (has_span entry after)) (Forgotten entry.0 entry.1) (fails entry.0 entry.1))
    (none_of_forgets test fails before after)

-- a change of what the processor holds, but for RIP, and one of what is shown
abbrev is_held : Change → Bool
is_held (Rip n) = false
is_held (Stored place bytes) = false
is_held (Console byte) = false
is_held (Delivered it) = false
is_held (Answered answer) = false
is_held Unread = false
is_held _ = true

abbrev is_shown : Change → Bool
is_shown (Console byte) = true
is_shown (Delivered it) = true
is_shown (Answered answer) = true
is_shown Unread = true
is_shown _ = false

-- a test that none of a kind passes
abbrev Misses : (Change → Bool) → (Change → Bool) → Type 0
Misses test of = (change : Change) → of change ≡ true → test change ≡ false

-- a change where there is one of such a kind
none_missed : (test of : Change → Bool) → Misses test of → (b : Bool) (change : Change) → of change ≡ true
    → has test (where_so b change) ≡ false
none_missed test of misses b change so = none_where test b change (misses change so)

-- the parts of what the processor holds
none_of_registers : (test : Change → Bool) → Misses test is_held → (before after : Regs)
    → has test (registers_behind before after) ≡ false
none_of_registers test misses before after =
    let flag : List Change = flag_changes named_flags before.flags after.flags in
    let other : Bool = not (cleared named_flags before.flags == cleared named_flags after.flags) in
    let word : List Change = where_so other (Flags after.flags) in
    let cpl : List Change = where_so (not (before.cpl == after.cpl)) (Privilege after.cpl) in
    let ss : List Change = where_so (not (before.ss == after.ss)) (Stack after.ss) in
    none_of_both test (general_changes 0 before.general after.general) (flag ++ (word ++ (cpl ++ ss)))
    (none_of_general test (λ n v. misses (General n v) refl) 0 before.general after.general)
    (none_of_both test flag (word ++ (cpl ++ ss))
    (none_of_flags test (λ n b. misses (Flag n b) refl) named_flags before.flags after.flags)
    (none_of_both test word (cpl ++ ss) (none_missed test is_held misses other (Flags after.flags) refl)
    (none_of_both test cpl ss
    (none_missed test is_held misses (not (before.cpl == after.cpl)) (Privilege after.cpl) refl)
    (none_missed test is_held misses (not (before.ss == after.ss)) (Stack after.ss) refl))))

none_of_control : (test : Change → Bool) → Misses test is_held → (before after : Control)
    → has test (control_changes before after) ≡ false
none_of_control test misses before after =
    let zeroth : List Change = where_so (not (before.cr0 == after.cr0)) (ControlRegister 0 after.cr0) in
    let second : List Change = where_so (not (before.cr2 == after.cr2)) (ControlRegister 2 after.cr2) in
    let third : List Change = where_so (not (before.root == after.root)) (ControlRegister 3 (4096 * after.root)) in
    let fourth : List Change = where_so (not (before.cr4 == after.cr4)) (ControlRegister 4 after.cr4) in
    none_of_both test zeroth (second ++ (third ++ fourth))
    (none_missed test is_held misses (not (before.cr0 == after.cr0)) (ControlRegister 0 after.cr0) refl)
    (none_of_both test second (third ++ fourth)
    (none_missed test is_held misses (not (before.cr2 == after.cr2)) (ControlRegister 2 after.cr2) refl)
    (none_of_both test third fourth
    (none_missed test is_held misses (not (before.root == after.root)) (ControlRegister 3 (4096 * after.root)) refl)
    (none_missed test is_held misses (not (before.cr4 == after.cr4)) (ControlRegister 4 after.cr4) refl)))

none_of_translations : (test : Change → Bool) → Misses test is_held → (b : Bool) (before after : Translations)
    → has test (translation_changes b before after) ≡ false
none_of_translations test misses true before after = ap (λ t. t || false) (misses Flushed refl)
none_of_translations test misses false before after =
    let dropped : List Change = drops before.pairs after.pairs in
    let kept : List Change = keeps before.upper after.upper in
    let forgotten : List Change = forgets before.upper after.upper in
    none_of_both test (fills before.pairs after.pairs) (dropped ++ (kept ++ forgotten))
    (none_of_fills test (λ page leaf. misses (Filled page leaf) refl) before.pairs after.pairs)
    (none_of_both test dropped (kept ++ forgotten)
    (none_of_drops test (λ page. misses (Dropped page) refl) before.pairs after.pairs)
    (none_of_both test kept forgotten
    (none_of_keeps test (λ level bits it. misses (Kept level bits it) refl) before.upper after.upper)
    (none_of_forgets test (λ level bits. misses (Forgotten level bits) refl) before.upper after.upper)))

none_of_halt : (test : Change → Bool) → Misses test is_held → (b : Bool) → has test (where_so b Halted) ≡ false
none_of_halt test misses b = none_missed test is_held misses b Halted refl

-- nothing passes of what a call shows, and of what a step shows
none_of_call : (test : Change → Bool) (b : Bool) (answer : Answer) → test (Answered answer) ≡ false
    → test Unread ≡ false → has test (Answered answer ∷ where_so b Unread) ≡ false
none_of_call test b answer first second =
    ap (λ t. t || has test (where_so b Unread)) first ∙ none_where test b Unread second

none_of_shown : (test : Change → Bool) → Misses test is_shown → (it : Step) → has test (shown_changes it) ≡ false
none_of_shown test misses step.Rested = refl
none_of_shown test misses (step.Called called) =
    none_of_call test (is_unreadable called.source) called.answer (misses (Answered called.answer) refl)
    (misses Unread refl)
none_of_shown test misses (step.Seen seen.Event) = refl
none_of_shown test misses (step.Seen seen.Quiet) = refl
none_of_shown test misses (step.Seen (seen.Console byte)) = ap (λ t. t || false) (misses (Console byte) refl)
none_of_shown test misses (step.Seen (seen.Delivered it)) = ap (λ t. t || false) (misses (Delivered it) refl)

-- what passes of a step's changes is in memory, where nothing else passes
in_memory : (test : Change → Bool) (rip rest control memory kept shown halted : List Change)
    → has test rip ≡ false → has test rest ≡ false → has test control ≡ false → has test kept ≡ false
    → has test shown ≡ false → has test halted ≡ false
    → has test ((rip ++ rest) ++ (control ++ (memory ++ (kept ++ (shown ++ halted))))) ≡ has test memory
in_memory test rip rest control memory kept shown halted no_rip no_rest no_control no_kept no_shown no_halted =
    none_before test (rip ++ rest) (control ++ (memory ++ (kept ++ (shown ++ halted))))
    (none_of_both test rip rest no_rip no_rest)
    ∙ none_before test control (memory ++ (kept ++ (shown ++ halted))) no_control
    ∙ none_behind test memory (kept ++ (shown ++ halted))
    (none_of_both test kept (shown ++ halted) no_kept (none_of_both test shown halted no_shown no_halted))

-- and it is in what is shown
in_shown : (test : Change → Bool) (rip rest control memory kept shown halted : List Change)
    → has test rip ≡ false → has test rest ≡ false → has test control ≡ false → has test memory ≡ false
    → has test kept ≡ false → has test halted ≡ false
    → has test ((rip ++ rest) ++ (control ++ (memory ++ (kept ++ (shown ++ halted))))) ≡ has test shown
in_shown test rip rest control memory kept shown halted no_rip no_rest no_control no_memory no_kept no_halted =
    none_before test (rip ++ rest) (control ++ (memory ++ (kept ++ (shown ++ halted))))
    (none_of_both test rip rest no_rip no_rest)
    ∙ none_before test control (memory ++ (kept ++ (shown ++ halted))) no_control
    ∙ none_before test memory (kept ++ (shown ++ halted)) no_memory
    ∙ none_before test kept (shown ++ halted) no_kept
    ∙ none_behind test shown halted no_halted

-- and it is behind RIP's change
behind_rip : (test : Change → Bool) (rip rest others : List Change) → has test rip ≡ false
    → has test ((rip ++ rest) ++ others) ≡ has test (rest ++ others)
behind_rip test rip rest others no_rip =
    ap (has test) (append_assoc rip rest others) ∙ none_before test rip (rest ++ others) no_rip

-- all changes of a list pass, and so one does where there is one
abbrev is_any : List Change → Bool
is_any [] = false
is_any (change ∷ changes) = true

one_of_all : (b rest : Bool) → not b ≡ false → (b || rest) ≡ true
one_of_all true rest passes = refl
one_of_all false rest passes = absurd (true≢false passes)

all_pass : (test : Change → Bool) (changes : List Change) → has (λ change. not (test change)) changes ≡ false
    → has test changes ≡ is_any changes
all_pass test [] none = refl
all_pass test (change ∷ changes) none =
    one_of_all (test change) (has test changes)
    (or_parts (not (test change)) (has (λ change. not (test change)) changes) none).0

-- a line grew where there is a change
line_grew : (now next : List ℕ) (changes : List Change) → next ≡ now ++ changes_text changes
    → nat_lt (length now) (length next) ≡ is_any changes
line_grew now next [] told =
    le-ltb (length now) (length next) (omega (arith, ap length told, length-append now []))
line_grew now next (change ∷ changes) told =
    let longer : length next ≡ length now + length (changes_text (change ∷ changes)) =
    ap length told ∙ length-append now (changes_text (change ∷ changes)) in
    lt-ltb (length now) (length next) (omega arith)

-- memory grew the line where a byte of it changed
pub stored_told : (now next : List ℕ) (n : ℕ) (before after : List ℕ)
    → next ≡ now ++ changes_text (memory_changes n 0 before after)
    → nat_lt (length now) (length next) ≡ has is_stored (memory_changes n 0 before after)
stored_told now next n before after told =
    line_grew now next (memory_changes n 0 before after) told
    ∙ sym (all_pass is_stored (memory_changes n 0 before after)
    (none_of_memory (λ change. not (is_stored change)) (λ place bytes. refl) n 0 before after))

-- another change than RIP's, and none
abbrev is_other : Change → Bool
is_other change = not (is_rip change)

abbrev isnt_other : Change → Bool
isnt_other change = not (is_other change)

-- what tests miss
stored_misses_held : (change : Change) → is_held change ≡ true → is_stored change ≡ false
stored_misses_held (Stored place bytes) so = absurd (false≢true so)
stored_misses_held _ so = refl

stored_misses_shown : (change : Change) → is_shown change ≡ true → is_stored change ≡ false
stored_misses_shown (Stored place bytes) so = absurd (false≢true so)
stored_misses_shown _ so = refl

delivered_misses : (change : Change) → is_held change ≡ true → is_delivered change ≡ false
delivered_misses (Delivered it) so = absurd (false≢true so)
delivered_misses _ so = refl

console_misses : (change : Change) → is_held change ≡ true → is_console change ≡ false
console_misses (Console byte) so = absurd (false≢true so)
console_misses _ so = refl

rip_misses_held : (change : Change) → is_held change ≡ true → isnt_other change ≡ false
rip_misses_held (Rip n) so = absurd (false≢true so)
rip_misses_held _ so = refl

rip_misses_shown : (change : Change) → is_shown change ≡ true → isnt_other change ≡ false
rip_misses_shown (Rip n) so = absurd (false≢true so)
rip_misses_shown _ so = refl

-- bytes of memory that a step changed
stored_in_step : (size : ℕ) (it : Step) (p q : Processor) (m n : List ℕ)
    → has is_stored (step_changes size it p q m n) ≡ has is_stored (memory_changes (length m / 4096) 0 m n)
unfolding step_changes
stored_in_step size it p q m n =
    in_memory is_stored (where_so (not (wrapped (p.regs.rip + size) == q.regs.rip)) (Rip q.regs.rip))
    (registers_behind p.regs q.regs) (control_changes p.control q.control) (memory_changes (length m / 4096) 0 m n)
    (translation_changes (flushes it) p.tlb q.tlb) (shown_changes it) (where_so (not p.halted && q.halted) Halted)
    (none_where is_stored (not (wrapped (p.regs.rip + size) == q.regs.rip)) (Rip q.regs.rip) refl)
    (none_of_registers is_stored stored_misses_held p.regs q.regs)
    (none_of_control is_stored stored_misses_held p.control q.control)
    (none_of_translations is_stored stored_misses_held (flushes it) p.tlb q.tlb)
    (none_of_shown is_stored stored_misses_shown it)
    (none_of_halt is_stored stored_misses_held (not p.halted && q.halted))

-- what a step shows of a kind that nothing else is
shown_in_step : (test : Change → Bool) → Misses test is_held → ((n : ℕ) → test (Rip n) ≡ false)
    → ((n : ℕ) (bytes : List ℕ) → test (Stored n bytes) ≡ false)
    → (size : ℕ) (it : Step) (p q : Processor) (m n : List ℕ)
    → has test (step_changes size it p q m n) ≡ has test (shown_changes it)
unfolding step_changes
shown_in_step test misses no_rip no_stored size it p q m n =
    in_shown test (where_so (not (wrapped (p.regs.rip + size) == q.regs.rip)) (Rip q.regs.rip))
    (registers_behind p.regs q.regs) (control_changes p.control q.control) (memory_changes (length m / 4096) 0 m n)
    (translation_changes (flushes it) p.tlb q.tlb) (shown_changes it) (where_so (not p.halted && q.halted) Halted)
    (none_where test (not (wrapped (p.regs.rip + size) == q.regs.rip)) (Rip q.regs.rip) (no_rip q.regs.rip))
    (none_of_registers test misses p.regs q.regs)
    (none_of_control test misses p.control q.control)
    (none_of_memory test no_stored (length m / 4096) 0 m n)
    (none_of_translations test misses (flushes it) p.tlb q.tlb)
    (none_of_halt test misses (not p.halted && q.halted))

delivery_shown : (it : Step) → has is_delivered (shown_changes it) ≡ is_delivery_step it
delivery_shown step.Rested = refl
delivery_shown (step.Called called) =
    none_of_call is_delivered (is_unreadable called.source) called.answer refl refl
delivery_shown (step.Seen seen.Event) = refl
delivery_shown (step.Seen seen.Quiet) = refl
delivery_shown (step.Seen (seen.Console byte)) = refl
delivery_shown (step.Seen (seen.Delivered it)) = refl

console_shown : (it : Step) → has is_console (shown_changes it) ≡ is_console_byte it
console_shown step.Rested = refl
console_shown (step.Called called) =
    none_of_call is_console (is_unreadable called.source) called.answer refl refl
console_shown (step.Seen seen.Event) = refl
console_shown (step.Seen seen.Quiet) = refl
console_shown (step.Seen (seen.Console byte)) = refl
console_shown (step.Seen (seen.Delivered it)) = refl

-- a step has a delivery, or a byte of the console, where it is one
pub delivered_in_step : (size : ℕ) (it : Step) (p q : Processor) (m n : List ℕ)
    → has is_delivered (step_changes size it p q m n) ≡ is_delivery_step it
delivered_in_step size it p q m n =
    shown_in_step is_delivered delivered_misses (λ n. refl) (λ n bytes. refl) size it p q m n ∙ delivery_shown it

pub console_in_step : (size : ℕ) (it : Step) (p q : Processor) (m n : List ℕ)
    → has is_console (step_changes size it p q m n) ≡ is_console_byte it
console_in_step size it p q m n =
    shown_in_step is_console console_misses (λ n. refl) (λ n bytes. refl) size it p q m n ∙ console_shown it

-- the changes behind RIP's, and their text
abbrev others : Step → Processor → Regs → Control → Translations → Translations → Bool → ℕ → List ℕ → List ℕ
    → List Change
others it q regs control kept later halted frames m n =
    registers_behind regs q.regs ++ (control_changes control q.control ++ (memory_changes frames 0 m n
    ++ (translation_changes (flushes it) kept later ++ (shown_changes it ++ where_so (not halted && q.halted) Halted))))

abbrev others_text : Step → Processor → Regs → Control → Translations → Translations → Bool → ℕ → List ℕ → List ℕ
    → List ℕ
others_text it q regs control kept later halted frames m n =
    changes_text (registers_behind regs q.regs) ++ (changes_text (control_changes control q.control)
    ++ (changes_text (memory_changes frames 0 m n) ++ (changes_text (translation_changes (flushes it) kept later)
    ++ (changes_text (shown_changes it) ++ changes_text (where_so (not halted && q.halted) Halted)))))

six_texts : (a b c d e f : List Change)
    → changes_text (a ++ (b ++ (c ++ (d ++ (e ++ f)))))
    ≡ changes_text a ++ (changes_text b ++ (changes_text c ++ (changes_text d ++ (changes_text e ++ changes_text f))))
six_texts a b c d e f =
    changes_behind a (b ++ (c ++ (d ++ (e ++ f))))
    ∙ ap (λ l. changes_text a ++ l) (changes_behind b (c ++ (d ++ (e ++ f)))
    ∙ ap (λ l. changes_text b ++ l) (changes_behind c (d ++ (e ++ f))
    ∙ ap (λ l. changes_text c ++ l) (changes_behind d (e ++ f)
    ∙ ap (λ l. changes_text d ++ l) (changes_behind e f))))

-- none of them is RIP's
no_rip_behind : (it : Step) (p q : Processor) (frames : ℕ) (m n : List ℕ)
    → has isnt_other (others it q p.regs p.control p.tlb q.tlb p.halted frames m n) ≡ false
no_rip_behind it p q frames m n =
    let memory : List Change = memory_changes frames 0 m n in
    let kept : List Change = translation_changes (flushes it) p.tlb q.tlb in
    let halted : List Change = where_so (not p.halted && q.halted) Halted in
    none_of_both isnt_other (registers_behind p.regs q.regs)
    (control_changes p.control q.control ++ (memory ++ (kept ++ (shown_changes it ++ halted))))
    (none_of_registers isnt_other rip_misses_held p.regs q.regs)
    (none_of_both isnt_other (control_changes p.control q.control) (memory ++ (kept ++ (shown_changes it ++ halted)))
    (none_of_control isnt_other rip_misses_held p.control q.control)
    (none_of_both isnt_other memory (kept ++ (shown_changes it ++ halted))
    (none_of_memory isnt_other (λ place bytes. refl) frames 0 m n)
    (none_of_both isnt_other kept (shown_changes it ++ halted)
    (none_of_translations isnt_other rip_misses_held (flushes it) p.tlb q.tlb)
    (none_of_both isnt_other (shown_changes it) halted
    (none_of_shown isnt_other rip_misses_shown it)
    (none_of_halt isnt_other rip_misses_held (not p.halted && q.halted))))))

-- a line grew behind RIP's change where another one is told
more_in_step : (size : ℕ) (it : Step) (p q : Processor) (m n now next : List ℕ)
    → next ≡ now ++ others_text it q p.regs p.control p.tlb q.tlb p.halted (length m / 4096) m n
    → nat_lt (length now) (length next) ≡ has is_other (step_changes size it p q m n)
unfolding step_changes
more_in_step size it p q m n now next told =
    let behind : List Change = others it q p.regs p.control p.tlb q.tlb p.halted (length m / 4096) m n in
    line_grew now next behind
    (told ∙ ap (λ l. now ++ l) (sym (six_texts (registers_behind p.regs q.regs) (control_changes p.control q.control)
    (memory_changes (length m / 4096) 0 m n) (translation_changes (flushes it) p.tlb q.tlb) (shown_changes it)
    (where_so (not p.halted && q.halted) Halted))))
    ∙ sym (all_pass is_other behind (no_rip_behind it p q (length m / 4096) m n))
    ∙ sym (behind_rip is_other
    (where_so (not (wrapped (p.regs.rip + size) == q.regs.rip)) (Rip q.regs.rip)) (registers_behind p.regs q.regs)
    (control_changes p.control q.control
    ++ (memory_changes (length m / 4096) 0 m n ++ (translation_changes (flushes it) p.tlb q.tlb
    ++ (shown_changes it ++ where_so (not p.halted && q.halted) Halted))))
    (none_where is_other (not (wrapped (p.regs.rip + size) == q.regs.rip)) (Rip q.regs.rip) refl))

-- what is told of a step, where what is kept of the state before is that of its processor
pub step_told : (told : Told) (size : ℕ) (it : Step) (p q : Processor) (m n : List ℕ) (regs : Regs) (control : Control)
    (kept later : Translations) (halted : Bool) (now next : List ℕ)
    → regs ≡ p.regs → control ≡ p.control → kept ≡ p.tlb → halted ≡ p.halted → later ≡ q.tlb → length m ≡ length n
    → told.is_stored ≡ has is_stored (memory_changes (length n / 4096) 0 m n)
    → told.is_more ≡ nat_lt (length now) (length next)
    → next ≡ now ++ others_text it q regs control kept later halted (length n / 4096) m n
    → IsToldOf told (step_changes size it p q m n)
step_told told size it p q m n regs control kept later halted now next e1 e2 e3 e4 e5 e6 stored more text = record {
  stored = stored ∙ ap (λ k. has is_stored (memory_changes (k / 4096) 0 m n)) (sym e6)
      ∙ sym (stored_in_step size it p q m n);
  more = more ∙ more_in_step size it p q m n now next
      (text
      ∙ ap (λ r. now ++ others_text it q r control kept later halted (length n / 4096) m n) e1
      ∙ ap (λ c. now ++ others_text it q p.regs c kept later halted (length n / 4096) m n) e2
      ∙ ap (λ k. now ++ others_text it q p.regs p.control k later halted (length n / 4096) m n) e3
      ∙ ap (λ k. now ++ others_text it q p.regs p.control p.tlb k halted (length n / 4096) m n) e5
      ∙ ap (λ h. now ++ others_text it q p.regs p.control p.tlb q.tlb h (length n / 4096) m n) e4
      ∙ ap (λ f. now ++ others_text it q p.regs p.control p.tlb q.tlb p.halted (f / 4096) m n) (sym e6));
}
