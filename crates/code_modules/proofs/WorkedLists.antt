-- Lists of modules at worked values.
use Rattle.std.proofs.Common.{◌≡◌, ◌++◌, [], ◌∷◌, true, false, List, ℕ, Ok, Err, codes, refl}
use Rattle.code_modules.specs.ModuleList.{Listed, list_from, list_of}

abbrev pack : List ℕ → Listed
pack name = record { guard = false; name = name }

abbrev guard : List ℕ → Listed
guard name = record { guard = true; name = name }

-- a line of each form; the last LF may lack
forms :
    (list_of (codes "pack a\n") ≡ Ok (pack (codes "a") ∷ [])) ×
    (list_of (codes "guard a") ≡ Ok (guard (codes "a") ∷ [])) ×
    (list_of (codes "pack a.b\nguard _x-9\n") ≡ Ok (pack (codes "a.b") ∷ guard (codes "_x-9") ∷ [])) ×
    (list_of (codes "pack .\npack .") ≡ Ok (pack (codes ".") ∷ pack (codes ".") ∷ []))
unfolding list_of list_from
forms = (refl, refl, refl, refl)

-- a file without lines, and lines out of form: by their first word, their name and their spaces
faults :
    (list_of [] ≡ Err 1) ×
    (list_of (codes "\n") ≡ Err 1) ×
    (list_of (codes "pack a\n\n") ≡ Err 2) ×
    (list_of (codes "pack") ≡ Err 1) ×
    (list_of (codes "pack ") ≡ Err 1) ×
    (list_of (codes "pack  a") ≡ Err 1) ×
    (list_of (codes " pack a") ≡ Err 1) ×
    (list_of (codes "pack a ") ≡ Err 1) ×
    (list_of (codes "pack a b") ≡ Err 1) ×
    (list_of (codes "Pack a") ≡ Err 1) ×
    (list_of (codes "guards a") ≡ Err 1) ×
    (list_of (codes "pack A") ≡ Err 1) ×
    (list_of (codes "pack a/b") ≡ Err 1) ×
    (list_of (codes "pack a" ++ (13 ∷ 10 ∷ [])) ≡ Err 1) ×
    (list_of (codes "pack " ++ (96 ∷ [])) ≡ Err 1) ×
    (list_of (codes "pack " ++ (123 ∷ [])) ≡ Err 1) ×
    (list_of (codes "pack :") ≡ Err 1) ×
    (list_of (codes "pack a\nguard b\npick c\npack d") ≡ Err 3)
unfolding list_of list_from
faults = (refl, refl, refl, refl, refl, refl, refl, refl, refl, refl, refl, refl, refl, refl, refl, refl, refl, refl)

-- a name has 64 bytes at most
long :
    (list_of (codes "pack aaaaaaaaaaaaaaaaaaaaaaaaaaaaaaaaaaaaaaaaaaaaaaaaaaaaaaaaaaaaaaaa")
    ≡ Ok (pack (codes "aaaaaaaaaaaaaaaaaaaaaaaaaaaaaaaaaaaaaaaaaaaaaaaaaaaaaaaaaaaaaaaa") ∷ [])) ×
    (list_of (codes "pack aaaaaaaaaaaaaaaaaaaaaaaaaaaaaaaaaaaaaaaaaaaaaaaaaaaaaaaaaaaaaaaaa") ≡ Err 1)
unfolding list_of list_from
long = (refl, refl)

abbrev ten : List ℕ → List ℕ
ten text = text ++ text ++ text ++ text ++ text ++ text ++ text ++ text ++ text ++ text

abbrev thirty_two : List ℕ
thirty_two = ten (codes "pack a\n") ++ ten (codes "pack a\n") ++ ten (codes "pack a\n") ++ codes "pack a\npack a\n"

-- line 33 is out of form, whatever it says, and an earlier line comes first
many :
    (list_of (thirty_two ++ codes "pack a") ≡ Err 33) ×
    (list_of (thirty_two ++ codes "x") ≡ Err 33) ×
    (list_of (codes "x\n" ++ thirty_two) ≡ Err 1)
unfolding list_of list_from
many = (refl, refl, refl)
