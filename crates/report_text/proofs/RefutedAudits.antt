-- Texts that aren't an audit's: it neither numbers, nor orders, nor counts so.
use Rattle.std.proofs.Common.{◌≡◌, [], ◌∷◌, codes, sym, ap, ◌∙◌, arith}
use Rattle.std.specs.Prelude.{slice_index}
use Rattle.report_text.specs.AuditLines.{audit_text}
use Rattle.report_text.proofs.WorkedAudits.{becomes_another, cut_chain, cut_off, eight, three, written}

-- records are not numbered from 1
from_one : audit_text 256 48 (three ∷ cut_off ∷ []) ≡ codes "h 2 2 7\nrecords 2\nhidden 1\nchain good\n" → ⊥
from_one said = let at : 49 ≡ 50 = ap (λ l. slice_index l 2) (sym cut_chain ∙ said) in omega (arith, at)

-- nor told by what stands at the end alone
untold : audit_text 256 48 (three ∷ cut_off ∷ []) ≡ codes "records 2\nhidden 1\nchain good\n" → ⊥
untold said = let at : 104 ≡ 114 = ap (λ l. slice_index l 0) (sym cut_chain ∙ said) in omega (arith, at)

-- a process that becomes another is told as gone first
late : audit_text 256 48 (three ∷ cut_off ∷ written 256 32 (eight 9) ∷ [])
    ≡ codes "h 1 2 7\nh 2 2 9\nu 2 2 7\nrecords 3\nhidden 1\nchain good\n" → ⊥
late said = let at : 117 ≡ 104 = ap (λ l. slice_index l 8) (sym becomes_another ∙ said) in omega (arith, at)

-- slots that the chain meets are not counted as hidden
all_counted : audit_text 256 48 (three ∷ cut_off ∷ []) ≡ codes "h 1 2 7\nrecords 2\nhidden 2\nchain good\n" → ⊥
all_counted said = let at : 49 ≡ 50 = ap (λ l. slice_index l 25) (sym cut_chain ∙ said) in omega (arith, at)
