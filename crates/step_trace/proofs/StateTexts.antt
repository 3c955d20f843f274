-- The text of a state, part by part.
use Rattle.std.proofs.Common.{◌≡◌, ℕ, ◌+◌, ◌<◌, ◌≤◌, List, [], ◌∷◌, ◌++◌, drop, length, codes, decimal, slice_index, slice_index_or, sym, ap, ◌∙◌, refl, append_assoc}
use Rattle.std.proofs.lemmas.List.{drop_all, drop_more}
use Rattle.nk_bits.specs.declared.control.Control.{Control}
use Rattle.x86_regs.specs.declared.registers.Regs.{Regs}
use Rattle.cpu_step.specs.Processor.{Processor}
use Rattle.step_trace.specs.StepLines.{stand_in}
use Rattle.step_trace.specs.StepTexts.{control_text, flag_text, hex_4, named_text, register_names, registers_text, stand_name, state_text}

-- there are sixteen names
pub sixteen_names : length register_names ≡ 16
unfolding register_names
sixteen_names = refl

-- the registers from a number on begin with the one of that number
pub held_first : (names : List (List ℕ)) (values : List ℕ) (i : ℕ) → i < length names → i < length values
    → registers_text (drop i names) (drop i values)
    ≡ (codes " " ++ named_text (slice_index_or names i []) (slice_index values i))
    ++ registers_text (drop (i + 1) names) (drop (i + 1) values)
held_first names values i in_names in_values =
    let name = slice_index_or names i [] in
    let value = slice_index values i in
    let behind = registers_text (drop (i + 1) names) (drop (i + 1) values) in
    ap (λ l. registers_text l (drop i values)) (drop_more names i [] in_names)
    ∙ ap (λ l. registers_text (name ∷ drop (i + 1) names) l) (drop_more values i 0 in_values)
    ∙ sym (append_assoc (codes " ") (named_text name value) behind)

-- and at the end are none
pub none_held : (names : List (List ℕ)) (values : List ℕ) (i : ℕ) → length names ≤ i
    → registers_text (drop i names) (drop i values) ≡ []
none_held names values i past = ap (λ l. registers_text l (drop i values)) (drop_all i names past)

-- what is put at once, before what the registers hold, of them, and behind the control registers
abbrev place_words : ℕ → Processor → List ℕ
place_words turns p = codes "state turn " ++ (decimal turns
    ++ (codes " " ++ (stand_name (stand_in p) ++ (codes " cpl " ++ decimal p.regs.cpl))))

abbrev held_words : Regs → List ℕ
held_words regs =
    codes " " ++ (named_text (codes "rip") regs.rip ++ (codes " " ++ (named_text (codes "flags") regs.flags
    ++ (registers_text register_names regs.general ++ (codes " ss " ++ hex_4 regs.ss)))))

abbrev wait_words : Processor → List ℕ
wait_words p = codes " pending " ++ (hex_4 p.pending
    ++ (codes " shielded" ++ (flag_text p.shielded ++ (codes " halted" ++ (flag_text p.halted ++ codes "\n")))))

-- what stands behind the place, and behind what the registers hold
place_then : (turns stand cpl behind : List ℕ)
    → (codes "state turn " ++ (turns ++ (codes " " ++ (stand ++ (codes " cpl " ++ cpl))))) ++ behind
    ≡ codes "state turn " ++ (turns ++ (codes " " ++ (stand ++ (codes " cpl " ++ (cpl ++ behind)))))
place_then turns stand cpl behind =
    ap (λ l. codes "state turn " ++ l) (append_assoc turns (codes " " ++ (stand ++ (codes " cpl " ++ cpl))) behind
    ∙ ap (λ l. turns ++ (codes " " ++ l)) (append_assoc stand (codes " cpl " ++ cpl) behind))

held_then : (rip flags general ss behind : List ℕ)
    → (codes " " ++ (rip ++ (codes " " ++ (flags ++ (general ++ (codes " ss " ++ ss)))))) ++ behind
    ≡ codes " " ++ (rip ++ (codes " " ++ (flags ++ (general ++ (codes " ss " ++ (ss ++ behind))))))
held_then rip flags general ss behind =
    ap (λ l. codes " " ++ l) (append_assoc rip (codes " " ++ (flags ++ (general ++ (codes " ss " ++ ss)))) behind
    ∙ ap (λ l. rip ++ (codes " " ++ l)) (append_assoc flags (general ++ (codes " ss " ++ ss)) behind
    ∙ ap (λ l. flags ++ l) (append_assoc general (codes " ss " ++ ss) behind)))

-- four texts, one behind the other
four_texts : (now one two three four a b c d : List ℕ) → one ≡ now ++ a → two ≡ one ++ b → three ≡ two ++ c
    → four ≡ three ++ d → four ≡ now ++ (a ++ (b ++ (c ++ d)))
four_texts now one two three four a b c d e1 e2 e3 e4 =
    e4 ∙ ap (λ l. l ++ d) (e3 ∙ ap (λ l. l ++ c) (e2 ∙ ap (λ l. l ++ b) e1))
    ∙ append_assoc ((now ++ a) ++ b) c d ∙ append_assoc (now ++ a) b (c ++ d) ∙ append_assoc now a (b ++ (c ++ d))

-- their whole
whole : (turns : ℕ) (p : Processor)
    → place_words turns p ++ (held_words p.regs ++ (control_text p.control ++ wait_words p)) ≡ state_text turns p
unfolding state_text
whole turns p =
    place_then (decimal turns) (stand_name (stand_in p)) (decimal p.regs.cpl)
    (held_words p.regs ++ (control_text p.control ++ wait_words p))
    ∙ ap (λ l. codes "state turn " ++ (decimal turns
    ++ (codes " " ++ (stand_name (stand_in p) ++ (codes " cpl " ++ (decimal p.regs.cpl ++ l))))))
    (held_then (named_text (codes "rip") p.regs.rip) (named_text (codes "flags") p.regs.flags)
    (registers_text register_names p.regs.general) (hex_4 p.regs.ss) (control_text p.control ++ wait_words p))

-- and so they stand behind a line, with registers and control registers as they were lent
pub state_whole : (turns : ℕ) (p : Processor) (regs : Regs) (control : Control) (now one two three four : List ℕ)
    → regs ≡ p.regs → control ≡ p.control → one ≡ now ++ place_words turns p → two ≡ one ++ held_words regs
    → three ≡ two ++ control_text control → four ≡ three ++ wait_words p → four ≡ now ++ state_text turns p
state_whole turns p regs control now one two three four is_regs is_control e1 e2 e3 e4 =
    four_texts now one two three four (place_words turns p) (held_words p.regs) (control_text p.control) (wait_words p)
    e1 (e2 ∙ ap (λ r. one ++ held_words r) is_regs) (e3 ∙ ap (λ r. two ++ control_text r) is_control) e4
    ∙ ap (λ l. now ++ l) (whole turns p)
