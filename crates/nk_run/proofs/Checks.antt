-- Checks in a row.
use Rattle.std.proofs.Common.{◌≡◌, List, [], ◌∷◌, ◌++◌, refl, ap, ◌∙◌}
use Rattle.nk_run.specs.Outcome.{Check, Verdict, passes, ends, unheld, first_verdict, unless_ended}

unless_ended-assoc : (u v w : Verdict) → unless_ended u (unless_ended v w) ≡ unless_ended (unless_ended u v) w
unless_ended-assoc passes v w = refl
unless_ended-assoc (ends answer) v w = refl
unless_ended-assoc unheld v w = refl

-- the verdict of more checks is that of the first ones, unless these all pass
pub first_verdict-append : (xs ys : List Check) → first_verdict (xs ++ ys) ≡ unless_ended (first_verdict xs) (first_verdict ys)
first_verdict-append [] ys = refl
first_verdict-append (x ∷ xs) ys = ap (unless_ended x.finds) (first_verdict-append xs ys) ∙ unless_ended-assoc x.finds (first_verdict xs) (first_verdict ys)
