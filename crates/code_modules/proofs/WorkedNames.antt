-- Names of modules at worked values: which bytes a name may have, each at both ends of its range, and their neighbours.
use Rattle.std.proofs.Common.{◌≡◌, [], ◌∷◌, false, List, ℕ, Ok, Err, codes, refl}
use Rattle.code_modules.specs.ModuleList.{Listed, list_from, list_of}

abbrev named : List ℕ → Listed
named name = record { guard = false; name = name }

-- small letters and digits, up to the last of each
letters :
    (list_of (codes "pack az09\n") ≡ Ok (named (codes "az09") ∷ [])) ×
    (list_of (codes "pack a") ≡ Ok (named (codes "a") ∷ [])) ×
    (list_of (codes "pack z") ≡ Ok (named (codes "z") ∷ [])) ×
    (list_of (codes "pack 0") ≡ Ok (named (codes "0") ∷ [])) ×
    (list_of (codes "pack 9") ≡ Ok (named (codes "9") ∷ []))
unfolding list_of list_from
letters = (refl, refl, refl, refl, refl)

-- a point, an underscore and a hyphen
marks :
    (list_of (codes "pack .") ≡ Ok (named (codes ".") ∷ [])) ×
    (list_of (codes "pack _") ≡ Ok (named (codes "_") ∷ [])) ×
    (list_of (codes "pack -") ≡ Ok (named (codes "-") ∷ []))
unfolding list_of list_from
marks = (refl, refl, refl)

-- the bytes beside these: comma, slash, colon, circumflex, grave accent, brace
others :
    (list_of (codes "pack ,") ≡ Err 1) ×
    (list_of (codes "pack /") ≡ Err 1) ×
    (list_of (codes "pack :") ≡ Err 1) ×
    (list_of (codes "pack ^") ≡ Err 1) ×
    (list_of (codes "pack `") ≡ Err 1) ×
    (list_of (codes "pack {") ≡ Err 1) ×
    (list_of (codes "pack Z") ≡ Err 1)
unfolding list_of list_from
others = (refl, refl, refl, refl, refl, refl, refl)
