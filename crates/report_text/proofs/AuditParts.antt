-- The parts of an audit's text, as the code puts them together.
use Rattle.std.proofs.Common.{◌≡◌, ℕ, Bool, List, [], ◌++◌, Option, None, Some, codes, decimal, refl, sym, ap, ◌∙◌, append_assoc}
use Rattle.std.specs.Prelude.{if◌then◌else◌}
use Rattle.std.proofs.lemmas.Bool.{eq-eqb, ne_eqb}
use Rattle.proc_audit.specs.ProcessList.{hidden_at, is_chain_good, overwritten}
use Rattle.write_log.specs.LogRecords.{LogRecord}
use Rattle.report_text.specs.AuditLines.{after_record, audit_end, chain_change, chain_text, hidden_count, line_unless, record_change, record_lines, slot_change}
use Rattle.report_text.specs.RunSummary.{count_line}
use Rattle.report_text.specs.SlotLines.{hiding_change, list_end}

-- the chain's line and those of a slot, by what was asked of the bytes
pub same_chain : (number : ℕ) (was is : Bool) (before after : List ℕ) → was ≡ is_chain_good before → is ≡ is_chain_good after
    → chain_change number was is ≡ chain_change number (is_chain_good before) (is_chain_good after)
same_chain number was is before after e f =
    ap (λ b. chain_change number b is) e ∙ ap (λ b. chain_change number (is_chain_good before) b) f

pub same_change : (number slot : ℕ) (was is : Option ℕ) (before after : List ℕ) → was ≡ hidden_at before slot
    → is ≡ hidden_at after slot
    → hiding_change number slot was is ≡ slot_change number before after slot
same_change number slot was is before after e f =
    ap (λ o. hiding_change number slot o is) e ∙ ap (λ o. hiding_change number slot (hidden_at before slot) o) f

-- the line of a process, unless it is the other one too
itself : (line : ℕ → List ℕ) (o : Option ℕ) → [] ≡ line_unless line o o
itself line None = refl
itself line (Some pid) = sym (ap (λ (b : Bool). if b then [] else line pid) (eq-eqb pid pid refl))

pub no_line : (line : ℕ → List ℕ) (one other : Option ℕ) → one ≡ other → [] ≡ line_unless line one other
no_line line one other e = itself line one ∙ ap (λ o. line_unless line one o) e

differs : (line : ℕ → List ℕ) (pid : ℕ) (other : Option ℕ) → (Some pid ≡ other → ⊥)
    → line pid ≡ line_unless line (Some pid) other
differs line pid None other = refl
differs line pid (Some second) other =
    sym (ap (λ (b : Bool). if b then [] else line pid) (ne_eqb pid second (λ e. other (ap (λ n. Some n) e))))

pub one_line : (line : ℕ → List ℕ) (one other : Option ℕ) (pid : ℕ) → one ≡ Some pid → (one ≡ other → ⊥)
    → line pid ≡ line_unless line one other
one_line line one other pid is unlike =
    differs line pid other (λ e. unlike (is ∙ e)) ∙ ap (λ o. line_unless line o other) (sym is)

pub none_line : (line : ℕ → List ℕ) (one other : Option ℕ) → one ≡ None → [] ≡ line_unless line one other
none_line line one other is = ap (λ o. line_unless line o other) (sym is)

-- what a record of the region does, and one of another
module _ (id number : ℕ) (b : List ℕ) (it : LogRecord) where
  module _ (same : it.region ≡ id) where
    pub lines_here : record_change number b (overwritten b it.offset it.bytes) ≡ record_lines id number b it
    lines_here =
        let told = record_change number b (overwritten b it.offset it.bytes) in
        ap (λ (t : Bool). if t then told else []) (sym (eq-eqb it.region id same))

    pub bytes_here : overwritten b it.offset it.bytes ≡ after_record id b it
    bytes_here = ap (λ (t : Bool). if t then overwritten b it.offset it.bytes else b) (sym (eq-eqb it.region id same))

  module _ (other : it.region ≡ id → ⊥) where
    pub lines_elsewhere : [] ≡ record_lines id number b it
    lines_elsewhere =
        let told = record_change number b (overwritten b it.offset it.bytes) in
        ap (λ (t : Bool). if t then told else []) (sym (ne_eqb it.region id other))

    pub bytes_elsewhere : b ≡ after_record id b it
    bytes_elsewhere =
        ap (λ (t : Bool). if t then overwritten b it.offset it.bytes else b) (sym (ne_eqb it.region id other))

-- the line of the records, and those behind it
pub end_parts : (records : ℕ) (b : List ℕ) → count_line (codes "records ") records ++ list_end b ≡ audit_end records b
unfolding audit_end count_line list_end
end_parts records b =
    let chain = chain_text (is_chain_good b) in
    ap (λ l. codes "records " ++ l)
    (append_assoc (decimal records) (codes "\n") (list_end b)
    ∙ ap (λ l. decimal records ++ (codes "\nhidden " ++ l)) (append_assoc (decimal (hidden_count b)) (codes "\n") chain))
