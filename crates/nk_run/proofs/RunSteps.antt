-- Each step of a run keeps a replay beside it.
use Rattle.std.proofs.Common.{◌≡◌, ℕ, zero, suc, ◌+◌, Bool, true, false, ◌||◌, List, [], ◌∷◌, ◌++◌, length, refl, sym, ap, subst, ◌∙◌, append-nil}
use Rattle.std.specs.Prelude.{Option, None, Some}
use Rattle.std.specs.List.{list_any}
use Rattle.std.proofs.lemmas.List.Folds.{list_any-append}
use Rattle.std.proofs.lemmas.Option.{same_Some}
use Rattle.nk_bits.specs.Translations.{Translations}
use Rattle.nk_bits.specs.declared.call.Delivery.{Delivery}
use Rattle.nk_bits.specs.declared.call.CallWords.{CallWords}
use Rattle.nk_bits.specs.declared.rule.Rule.{Rule}
use Rattle.irq_plan.specs.declared.event.What.{What}
use Rattle.report_text.specs.RunLines.{call_line, console_line, delivery_line}
use Rattle.text_lines.specs.TextLines.{lines}
use Rattle.cpu_step.specs.declared.stepped.Stepped.{Stepped}
use Rattle.cpu_step.specs.declared.stepped.Stepped.TheVariants as stepped
use Rattle.nk_body.specs.declared.call.Call.{Call}
use Rattle.nk_body.specs.CallRules.{IsSourceOf, Sourced, made, made_unless, stand_of, verdict, wants, accepted_memory, written_unless}
use Rattle.nk_body.specs.NestedRecord.{Nested}
use Rattle.nk_body.specs.ReplayBeside.{IsAccepted, IsBeside, declares_table, is_opening_table}
use Rattle.nk_body.specs.BookLaws.{BesideLaws}
use Rattle.gate_state.specs.declared.moves.Move.{Move}
use Rattle.gate_state.specs.declared.moves.Move.TheVariants as move
use Rattle.gate_state.specs.GuardedStates.{IsGuarded}
use Rattle.gate_state.specs.MachineStates.{MachineState, Opening, nested_of}
use Rattle.gate_state.specs.MachineSteps.{Made, answer_in, asked_in, call_in, called_by, made_by_all, made_in, seen_by, shown_by_turn, source_of, turn_of, verdict_in, with_call}
use Rattle.gate_state.specs.SourceBytes.{SourceRead, in_front, read_on, source_byte, source_place, source_through, source_read, source_tlb, source_with}
use Rattle.replay_core.specs.JournalLines.{Passes}
use Rattle.replay_core.specs.ReplayedCalls.{Replayed, replay_from, replayed}
use Rattle.nk_run.specs.ReplayedRuns.{was_table}
use Rattle.nk_run.specs.RunStates.{shown, shown_by}
use Rattle.gate_state.specs.ShownSteps.{IsShown, IsShownCall, IsShownDelivery}
use Rattle.nk_run.proofs.HeardLines.{IsSmallCall, IsSmallDelivery, call_heard, console_heard, delivery_heard, noted_of}
use Rattle.nk_run.proofs.ToldSections.{opened}
use Rattle.nk_run.proofs.ReplaySteps.{replay_call, replay_line}

-- What is read for a call is what it takes.

read_count : (m : List ℕ) (root : ℕ) (n : ℕ) (tlb : Translations) (va : ℕ) (bytes : List ℕ)
    → (source_read m root tlb va n).bytes ≡ Some bytes → length bytes ≡ n
unfolding source_read
read_count m root zero tlb va bytes is = ap length (sym (same_Some [] bytes is))
read_count m root (suc n) tlb va bytes is =
    by_byte (source_byte m root tlb va) (source_read m root (source_tlb m root tlb va) (va + 1) n)
    (λ later found. read_count m root n (source_tlb m root tlb va) (va + 1) later found) is
  where
    by_later : (byte : ℕ) (o : Option (List ℕ)) → ((later : List ℕ) → o ≡ Some later → length later ≡ n)
        → in_front byte o ≡ Some bytes → length bytes ≡ suc n
    by_later byte None counts is = let no : None ≡ Some bytes = is in absurd (cc)
    by_later byte (Some later) counts is =
        ap length (sym (same_Some (byte ∷ later) bytes is)) ∙ ap suc (counts later refl)

    by_byte : (o : Option ℕ) (read : SourceRead) → ((later : List ℕ) → read.bytes ≡ Some later → length later ≡ n)
        → (read_on o (source_tlb m root tlb va) read).bytes ≡ Some bytes → length bytes ≡ suc n
    by_byte None read counts is = let no : None ≡ Some bytes = is in absurd (cc)
    by_byte (Some byte) read counts is = by_later byte read.bytes counts is

sourced_by : (m : List ℕ) (root : ℕ) (tlb : Translations) (va : ℕ) (o : Option ℕ)
    → IsSourceOf o (source_through m root tlb va o)
sourced_by m root tlb va None = refl
sourced_by m root tlb va (Some count) = by_read (source_read m root tlb va count).bytes refl
  where
    by_read : (o : Option (List ℕ)) → (source_read m root tlb va count).bytes ≡ o
        → IsSourceOf (Some count) (source_with o)
    by_read None is = tt
    by_read (Some bytes) is = read_count m root count tlb va bytes is

-- The calls that were accepted, and the frames that were page tables.

pub called_first : (mv : Move) (s : MachineState) (later : List Made)
    → called_by mv s later ≡ called_by mv s [] ++ later
called_first move.Serve s later = by_verdict (verdict_in s)
  where
    by_verdict : (v : Option Rule) → with_call v (made_in s) later ≡ with_call v (made_in s) [] ++ later
    by_verdict None = refl
    by_verdict (Some rule) = refl
called_first (move.Take what) s later = refl
called_first move.Turn s later = refl
called_first move.Rest s later = refl

was_more : (o : Opening) (before : List Made) (it : Made) (f : ℕ)
    → was_table o (before ++ it ∷ []) f ≡ (was_table o before f || declares_table f it.call)
was_more o before it f =
    let declares : Made → Bool = λ it. declares_table f it.call in
    ap (λ b. is_opening_table o.image o.frames f || b) (list_any-append declares before (it ∷ []))
    ∙ regroup (is_opening_table o.image o.frames f) (list_any declares before) (declares it)
  where
    regroup : (a b c : Bool) → (a || (b || (c || false))) ≡ ((a || b) || c)
    regroup true b c = refl
    regroup false true c = refl
    regroup false false true = refl
    regroup false false false = refl

-- the record and the memory of a replay beside a record of the run
abbrev pub replay_beside : Nested → (ℕ → ℕ → ℕ) → List ℕ → Replayed
replay_beside nk held m = record { nested = record nk { held = held }; memory = m }

-- what a step leaves of a replay, before the rest of the text
pub record IsStepped (o : Opening) (before : List Made) (s : MachineState) (held : ℕ → ℕ → ℕ) (m : List ℕ) (number : ℕ)
    (mv : Move) : Type 0 where
  pub number_after : ℕ
  pub held_after : ℕ → ℕ → ℕ
  pub memory_after : List ℕ
  pub goes : (rest : List ℕ) → replay_from number (lines (shown_by mv s ++ rest)) (replay_beside (nested_of s) held m)
      ≡ replay_from number_after (lines rest)
      (replay_beside (made_by_all (nested_of s) (called_by mv s [])) held_after memory_after)
  pub beside : IsBeside (opened o) (was_table o (before ++ called_by mv s []))
      (made_by_all (nested_of s) (called_by mv s [])) held_after memory_after

module _ (laws : BesideLaws) (o : Opening) (before : List Made) (s : MachineState)
    (guarded : IsGuarded o s) (held : ℕ → ℕ → ℕ) (m : List ℕ) (number : ℕ)
    (beside : IsBeside (opened o) (was_table o before) (nested_of s) held m) where
  nothing_more : IsBeside (opened o) (was_table o (before ++ [])) (nested_of s) held m
  nothing_more =
      subst (λ made. IsBeside (opened o) (was_table o made) (nested_of s) held m) (sym (append-nil before)) beside

  event_step : (what : What) → IsStepped o before s held m number (move.Take what)
  event_step what = record {
    number_after = number;
    held_after = held;
    memory_after = m;
    goes = λ rest. refl;
    beside = nothing_more;
  }

  rest_step : IsStepped o before s held m number move.Rest
  rest_step = record {
    number_after = number;
    held_after = held;
    memory_after = m;
    goes = λ rest. refl;
    beside = nothing_more;
  }

  -- a turn shows nothing, a byte or a delivery
  small_delivery : (it : Delivery) → IsShownDelivery it → IsSmallDelivery it
  small_delivery it shown = record { vector = shown.vector; code = shown.code; rip = shown.rip; cr2 = shown.cr2 }

  turn_goes : (how : Stepped) → IsShown (shown_by_turn how) → (after : ℕ) × ((rest : List ℕ)
      → replay_from number (lines (shown (shown_by_turn how) ++ rest)) (replay_beside (nested_of s) held m)
      ≡ replay_from after (lines rest) (replay_beside (nested_of s) held m))
  turn_goes stepped.Ran small = (number, λ rest. refl)
  turn_goes (stepped.Console byte) small = (
    number + 1,
    λ rest. replay_line number (console_line byte) rest (Some Passes)
        (replay_beside (nested_of s) held m) (console_heard byte small),
  )
  turn_goes (stepped.Delivered it) small = (
    number + 1,
    λ rest. replay_line number (delivery_line it) rest (Some Passes) (replay_beside (nested_of s) held m)
        (delivery_heard it (small_delivery it small)),
  )
  turn_goes stepped.Shutdown small = (number, λ rest. refl)

  turn_step : IsShown (seen_by move.Turn s) → IsStepped o before s held m number move.Turn
  turn_step small =
      let went = turn_goes (turn_of s).stepped small in
      record { number_after = went.0; held_after = held; memory_after = m; goes = went.1; beside = nothing_more }

  -- a call
  small_call : IsShownCall s → IsSmallCall (call_in s.processor.regs) (source_of s) (answer_in s)
  small_call shown = record {
    number = shown.number;
    a = shown.a;
    b = shown.b;
    c = shown.c;
    d = shown.d;
    taken = shown.source;
    value = shown.value;
    place = shown.place;
  }

  abbrev asking : CallWords
  asking = call_in s.processor.regs

  abbrev call : Call
  call = asked_in s

  abbrev source : Sourced
  source = source_of s

  abbrev also : Nested
  also = record (nested_of s) { held = held }

  sourced : IsSourceOf (wants s.ledger.book call) source
  sourced = sourced_by s.memory s.processor.control.root s.processor.tlb (source_place call) (wants s.ledger.book call)

  -- what the call makes, by its verdict
  abbrev made_with : Option Rule → Nested
  made_with v = made_by_all (nested_of s) (with_call v (made_in s) [])

  record IsCalledBeside (v : Option Rule) : Type 0 where
    held_after : ℕ → ℕ → ℕ
    memory_after : List ℕ
    made : made_unless v also call source (stand_of also call m) ≡ record (made_with v) { held = held_after }
    memory : written_unless v also call source m ≡ memory_after
    stands : IsBeside (opened o) (was_table o (before ++ with_call v (made_in s) []))
        (made_with v) held_after memory_after

  accepted : verdict_in s ≡ None → IsAccepted (nested_of s) call source
  accepted none = record { none = none; sourced = sourced; handler = guarded.tables.handler; kept = guarded.ledger }

  by_verdict : (v : Option Rule) → verdict_in s ≡ v → IsCalledBeside v
  by_verdict None none =
      let it = laws.stays (opened o) (was_table o before) (nested_of s) held m call source (made_in s).stand beside
      (accepted none) in
      record {
        held_after = (made also call source (stand_of also call m)).held;
        memory_after = accepted_memory also call source m;
        made = it.same;
        memory = refl;
        stands = subst (λ tabled. IsBeside (opened o) tabled (made_with None)
            (made also call source (stand_of also call m)).held (accepted_memory also call source m))
            (λ i f. sym (was_more o before (made_in s) f) i) it.beside;
      }
  by_verdict (Some rule) broken =
      record { held_after = held; memory_after = m; made = refl; memory = refl; stands = nothing_more }

  call_step : IsShownCall s → IsStepped o before s held m number move.Serve
  call_step small =
      let it = by_verdict (verdict_in s) refl in
      let same : verdict also call source ≡ verdict_in s = laws.judged (nested_of s) held call source in
      let makes : replayed (replay_beside (nested_of s) held m) (noted_of asking source (answer_in s))
      ≡ replay_beside (made_with (verdict_in s)) it.held_after it.memory_after =
      (λ i. record {
        nested = made_unless (same i) also call source (stand_of also call m);
        memory = written_unless (same i) also call source m;
      })
      ∙ (λ i. record { nested = it.made i; memory = it.memory i }) in
      record {
        number_after = number + 1;
        held_after = it.held_after;
        memory_after = it.memory_after;
        goes = λ rest.
            replay_call laws number rest (nested_of s) held m asking source (call_line asking source (answer_in s))
            (call_heard asking source (answer_in s) (small_call small)) sourced
            ∙ ap (replay_from (number + 1) (lines rest)) makes;
        beside = it.stands;
      }

  -- every step
  pub step_beside : (mv : Move) → IsShown (seen_by mv s) → IsShownCall s → IsStepped o before s held m number mv
  step_beside move.Serve shown small = call_step small
  step_beside (move.Take what) shown small = event_step what
  step_beside move.Turn shown small = turn_step shown
  step_beside move.Rest shown small = rest_step
