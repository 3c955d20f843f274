-- Plan files at worked values.
use Rattle.std.proofs.Common.{◌≡◌, ℕ, ◌++◌, [], ◌∷◌, Ok, Err, codes, refl}
use Rattle.irq_plan.specs.declared.event.Event.{Event}
use Rattle.irq_plan.specs.declared.event.What.{What}
use Rattle.irq_plan.specs.declared.event.What.TheVariants.{Irq, Drop, Fill, Keep, Forget}
use Rattle.irq_plan.specs.PlanFile.{plan_of, read_from}

abbrev at : ℕ → What → Event
at due what = record { due = due; what = what }

-- no line, and a line of each form; the last LF may lack
forms :
    (plan_of [] ≡ Ok []) ×
    (plan_of (codes "5 irq 32\n") ≡ Ok (at 5 (Irq 32) ∷ [])) ×
    (plan_of (codes "5 irq 32") ≡ Ok (at 5 (Irq 32) ∷ [])) ×
    (plan_of (codes "5 drop ffffff8000004000\n") ≡ Ok (at 5 (Drop 0xFFFFFF8000004000) ∷ [])) ×
    (plan_of (codes "5 fill 1000\n") ≡ Ok (at 5 (Fill 0x1000) ∷ [])) ×
    (plan_of (codes "5 irq 32\n5 fill 0\n7 irq 47") ≡ Ok (at 5 (Irq 32) ∷ at 5 (Fill 0) ∷ at 7 (Irq 47) ∷ []))
unfolding plan_of read_from
forms = (refl, refl, refl, refl, refl, refl)

-- N has 1 to 10 digits, zeros in front counted in, is at most 2^32, and never falls
turns :
    (plan_of (codes "0000000005 irq 32") ≡ Ok (at 5 (Irq 32) ∷ [])) ×
    (plan_of (codes "00000000005 irq 32") ≡ Err 1) ×
    (plan_of (codes "4294967296 irq 32") ≡ Ok (at 4294967296 (Irq 32) ∷ [])) ×
    (plan_of (codes "4294967297 irq 32") ≡ Err 1) ×
    (plan_of (codes "1 irq 32\n0 irq 32") ≡ Err 2) ×
    (plan_of (codes "+5 irq 32") ≡ Err 1) ×
    (plan_of (codes "a irq 32") ≡ Err 1)
unfolding plan_of read_from
turns = (refl, refl, refl, refl, refl, refl, refl)

-- V is 32 to 47, without zeros in front
vectors :
    (plan_of (codes "0 irq 31") ≡ Err 1) ×
    (plan_of (codes "0 irq 48") ≡ Err 1) ×
    (plan_of (codes "5 irq 032") ≡ Err 1) ×
    (plan_of (codes "5 irq 20") ≡ Err 1)
unfolding plan_of read_from
vectors = (refl, refl, refl, refl)

-- PAGE has 1 to 16 digits of either case, is canonical, and has its low 12 bits clear
pages :
    (plan_of (codes "1 drop FFFFFF8000004000") ≡ Ok (at 1 (Drop 0xFFFFFF8000004000) ∷ [])) ×
    (plan_of (codes "1 drop 0000000000001000") ≡ Ok (at 1 (Drop 0x1000) ∷ [])) ×
    (plan_of (codes "1 drop 00000000000001000") ≡ Err 1) ×
    (plan_of (codes "5 fill 1001") ≡ Err 1) ×
    (plan_of (codes "5 fill 7ffffffff000") ≡ Ok (at 5 (Fill 0x7FFFFFFFF000) ∷ [])) ×
    (plan_of (codes "5 drop 800000000000") ≡ Err 1) ×
    (plan_of (codes "5 drop ffff800000000000") ≡ Ok (at 5 (Drop 0xFFFF800000000000) ∷ [])) ×
    (plan_of (codes "5 drop ffff7ffffffff000") ≡ Err 1) ×
    (plan_of (codes "5 drop 0x1000") ≡ Err 1)
unfolding plan_of read_from
pages = (refl, refl, refl, refl, refl, refl, refl, refl, refl)

-- L is one digit, 2 to 4; a level and a page stand behind `keep` and `forget` alone
entries :
    (plan_of (codes "5 keep 2 ffff800000000000") ≡ Ok (at 5 (Keep 2 0xFFFF800000000000) ∷ [])) ×
    (plan_of (codes "5 keep 4 0") ≡ Ok (at 5 (Keep 4 0) ∷ [])) ×
    (plan_of (codes "5 forget 3 7FFFFFFFF000\n5 keep 3 1000") ≡ Ok (at 5 (Forget 3 0x7FFFFFFFF000) ∷ at 5 (Keep 3 0x1000) ∷ [])) ×
    (plan_of (codes "5 keep 1 1000") ≡ Err 1) ×
    (plan_of (codes "5 forget 5 1000") ≡ Err 1) ×
    (plan_of (codes "5 keep 02 1000") ≡ Err 1) ×
    (plan_of (codes "5 keep 2 1001") ≡ Err 1) ×
    (plan_of (codes "5 keep 2 800000000000") ≡ Err 1) ×
    (plan_of (codes "5 keep 1000") ≡ Err 1) ×
    (plan_of (codes "5 forget 2") ≡ Err 1) ×
    (plan_of (codes "5 irq 2 32") ≡ Err 1) ×
    (plan_of (codes "5 fill 2 1000") ≡ Err 1) ×
    (plan_of (codes "5 keep 2 1000 x") ≡ Err 1) ×
    (plan_of (codes "0 irq 32\n4294967297 keep 2 1000") ≡ Err 2)
unfolding plan_of read_from
entries = (refl, refl, refl, refl, refl, refl, refl, refl, refl, refl, refl, refl, refl, refl)

-- three words or four, a space between each two; a line is never empty
spaces :
    (plan_of (codes "\n") ≡ Err 1) ×
    (plan_of (codes "1 irq 32\n\n") ≡ Err 2) ×
    (plan_of (codes "1 irq  32") ≡ Err 1) ×
    (plan_of (codes " 1 irq 32") ≡ Err 1) ×
    (plan_of (codes "1 irq 32 ") ≡ Err 1) ×
    (plan_of (codes "1 irq 32" ++ (13 ∷ 10 ∷ [])) ≡ Err 1) ×
    (plan_of (codes "1 fill") ≡ Err 1) ×
    (plan_of (codes "1 irq 32 x") ≡ Err 1) ×
    (plan_of (codes "1 IRQ 32") ≡ Err 1) ×
    (plan_of (codes "5 irq 32\n9 irq\n1") ≡ Err 2)
unfolding plan_of read_from
spaces = (refl, refl, refl, refl, refl, refl, refl, refl, refl, refl)
