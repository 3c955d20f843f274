-- Audits at worked values: texts written by hand.
use Rattle.std.proofs.Common.{◌≡◌, ℕ, List, [], ◌∷◌, ◌++◌, codes, replicate, refl}
use Rattle.std.specs.Fmt.{digits}
use Rattle.proc_audit.specs.ProcessList.{is_chain_good, is_met, met_after}
use Rattle.write_log.specs.LogRecords.{LogRecord}
use Rattle.report_text.specs.AuditLines.{audit_end, audit_lines, audit_text, audited, broken_line, good_line, hidden_line, record_change, unhidden_line}
use Rattle.report_text.specs.ClosingSection.{lines_of}

-- a number below 256 in eight bytes, and a slot of two such
abbrev pub eight : ℕ → List ℕ
eight n = n ∷ replicate 7 0

abbrev slot : ℕ → ℕ → List ℕ
slot pid next = eight pid ++ eight next

abbrev pub written : ℕ → ℕ → List ℕ → LogRecord
written region offset bytes = record { region = region; offset = offset; bytes = bytes }

-- three slots in a chain, and a write by which the chain ends at the second one
abbrev pub three : LogRecord
three = written 256 0 (slot 0 2 ++ (slot 1 3 ++ slot 7 0))

abbrev pub cut_off : LogRecord
cut_off = written 256 24 (eight 0)

-- a process is hidden, and the chain stays good
pub cut_chain : audit_text 256 48 (three ∷ cut_off ∷ []) ≡ codes "h 1 2 7\nrecords 2\nhidden 1\nchain good\n"
unfolding audit_end audit_lines audited broken_line digits good_line hidden_line is_chain_good is_met lines_of met_after record_change unhidden_line
cut_chain = refl

-- the first slot leads to itself, so that the chain breaks, and another process is hidden
led_back :
    audit_text 256 48 (three ∷ cut_off ∷ written 256 8 (eight 1) ∷ [])
    ≡ codes "h 1 2 7\nb 2\nh 2 1 1\nrecords 3\nhidden 2\nchain broken\n"
unfolding audit_end audit_lines audited broken_line digits good_line hidden_line is_chain_good is_met lines_of met_after record_change unhidden_line
led_back = refl

-- records of other regions are numbered, and tell nothing
others :
    (audit_text 256 48 (written 7 0 (eight 1) ∷ three ∷ written 257 24 (eight 0) ∷ cut_off ∷ [])
    ≡ codes "h 3 2 7\nrecords 2\nhidden 1\nchain good\n") ×
    (audit_text 257 48 (three ∷ cut_off ∷ []) ≡ codes "records 0\nhidden 0\nchain good\n")
unfolding audit_end audit_lines audited broken_line digits good_line hidden_line is_chain_good is_met lines_of met_after record_change unhidden_line
others = (refl, refl)

-- a process becomes another while it is hidden
pub becomes_another :
    audit_text 256 48 (three ∷ cut_off ∷ written 256 32 (eight 9) ∷ [])
    ≡ codes "h 1 2 7\nu 2 2 7\nh 2 2 9\nrecords 3\nhidden 1\nchain good\n"
unfolding audit_end audit_lines audited broken_line digits good_line hidden_line is_chain_good is_met lines_of met_after record_change unhidden_line
becomes_another = refl

-- a hidden process is in the chain again, or is no more
unhidden :
    (audit_text 256 48 (three ∷ cut_off ∷ written 256 24 (eight 3) ∷ [])
    ≡ codes "h 1 2 7\nu 2 2 7\nrecords 3\nhidden 0\nchain good\n") ×
    (audit_text 256 48 (three ∷ cut_off ∷ written 256 32 (eight 0) ∷ [])
    ≡ codes "h 1 2 7\nu 2 2 7\nrecords 3\nhidden 0\nchain good\n")
unfolding audit_end audit_lines audited broken_line digits good_line hidden_line is_chain_good is_met lines_of met_after record_change unhidden_line
unhidden = (refl, refl)

-- a chain is broken by a next that leads to no slot or to one that it met, and becomes good again
breaks :
    (audit_text 256 48 (written 256 8 (eight 4) ∷ written 256 8 (eight 0) ∷ [])
    ≡ codes "b 0\ng 1\nrecords 2\nhidden 0\nchain good\n") ×
    (audit_text 256 16 (written 256 8 (eight 1) ∷ []) ≡ codes "b 0\nrecords 1\nhidden 0\nchain broken\n")
unfolding audit_end audit_lines audited broken_line digits good_line hidden_line is_chain_good is_met lines_of met_after record_change unhidden_line
breaks = (refl, refl)

-- fifteen bytes have no slot, nor has a region without bytes
no_slots :
    (audit_text 256 15 (written 256 0 (replicate 15 1) ∷ []) ≡ codes "records 1\nhidden 0\nchain good\n") ×
    (audit_text 256 0 [] ≡ codes "records 0\nhidden 0\nchain good\n")
unfolding audit_end audit_lines audited broken_line digits good_line hidden_line is_chain_good is_met lines_of met_after record_change unhidden_line
no_slots = (refl, refl)
