-- The list of modules: a line is `pack NAME` or `guard NAME`, with a single space.
use Rattle.std.specs.Prelude.{◌≡◌, ℕ, ◌+◌, ◌==◌, Bool, true, false, ◌&&◌, ◌||◌, nat_le, nat_lt, if◌then◌else◌, List, [], ◌∷◌, length, Option, None, Some, Result, Ok, Err, codes, ⊤}
use Rattle.std.specs.List.{list_all}
use Rattle.std.specs.Str.{bytes_eq}
use Rattle.code_modules.specs.declared.fault.ListFault.{ListFault}
use Rattle.code_modules.specs.declared.fault.ListFault.TheVariants.{Line, Memory}
use Rattle.text_lines.specs.TextLines.{lines, words}

-- a line in form: whether a guard page stands before the module, and the name of its file
pub record Listed : Type 0 where
  pub guard : Bool
  pub name : List ℕ

-- a byte of a name: a to z, 0 to 9, `_`, `.` or `-`
abbrev pub is_name_byte : ℕ → Bool
is_name_byte c =
    (nat_le 97 c && nat_le c 122) || ((nat_le 48 c && nat_le c 57) || (c == 95 || (c == 46 || c == 45)))

-- a name has 1 to 64 of them
abbrev pub is_module_name : List ℕ → Bool
is_module_name name = nat_lt 0 (length name) && nat_le (length name) 64 && list_all is_name_byte name

-- what the first word of a line says: true where a guard page stands before the module
abbrev pub guard_word : List ℕ → Option Bool
guard_word word =
    if bytes_eq word (codes "pack") then Some false
    else if bytes_eq word (codes "guard") then Some true
    else None

abbrev pub listed_with : Option Bool → List ℕ → Option Listed
listed_with None name = None
listed_with (Some guard) name = if is_module_name name then Some (record { guard = guard; name = name }) else None

-- a line by its words
abbrev pub listed_of : List (List ℕ) → Option Listed
listed_of (word ∷ name ∷ []) = listed_with (guard_word word) name
listed_of _ = None

-- a line before the later ones
abbrev pub listed_before : Listed → Result (List Listed) ℕ → Result (List Listed) ℕ
listed_before listed (Ok later) = Ok (listed ∷ later)
listed_before listed (Err number) = Err number

-- what a line, where it is in form, and the later ones make
abbrev pub listed_then : ℕ → Option Listed → Result (List Listed) ℕ → Result (List Listed) ℕ
listed_then number None later = Err number
listed_then number (Some listed) later = listed_before listed later

-- these lines, the first of which has this number; or the number of the first that is out of form, as line 33 is
unfoldable pub list_from : ℕ → List (List ℕ) → Result (List Listed) ℕ
list_from number [] = Ok []
list_from number (line ∷ later) =
    if nat_lt 32 number then Err number else listed_then number (listed_of (words line)) (list_from (number + 1) later)

-- the lines of a file; or the number, from 1 on, of its first line that is out of form, which is 1 where it has none
unfoldable pub list_of : List ℕ → Result (List Listed) ℕ
list_of bytes = if length bytes == 0 then Err 1 else list_from 1 (lines bytes)

-- a reading of the file may fail so: want of memory is free
abbrev pub IsListFault : List ℕ → ListFault → Type 0
IsListFault bytes (Line number) = list_of bytes ≡ Err number
IsListFault bytes Memory = ⊤
