-- What a row of checks says of the outcome.
use Rattle.std.proofs.Common.{◌≡◌, ◌≢◌, ◌⊎◌, ℕ, suc, ◌≤◌, inl, inr, true, false, List, [], ◌∷◌, ◌++◌, Option, Some, IsSome, IsSomeAnd, Contains, arith, refl, sym, ap, subst, ◌∙◌}
use Rattle.std.proofs.lemmas.Bool.{eqb-true, or_cases, or_left, or_right}
use Rattle.std.proofs.lemmas.Grind.{common_steps}
use Rattle.nk_host.specs.FaultCounts.{NeverFalls, RoseTo}
use Rattle.nk_host.specs.Told.{IfTold}
use Rattle.elf_image.specs.Rows.{first_fault}
use Rattle.command_words.specs.declared.command_line.Role.{Role}
use Rattle.command_words.specs.declared.command_line.Role.TheVariants.{Image, Input, Plan, Journal, ModuleList, Module, Text}
use Rattle.command_words.specs.declared.command_line.Command.{Command}
use Rattle.command_words.specs.declared.command_line.Command.TheVariants.{Scan}
use Rattle.command_words.specs.CommandLine.{IsAsked, command_of, name_in, roles_of}
use Rattle.file_scan.specs.ShelfChanges.{Change, Files, ShelfState}
use Rattle.nk_run.specs.Clauses.{IsNameOf, NameRose}
use Rattle.nk_run.specs.Outcome.{Answer, Check, IsReached, Verdict, checks_of, decided, ends, fetch, fetch_verdict, file_in, first_verdict, outcome, command_outcome, passes, form_checks, formed, formed_checks, image_checks, test, text_of, unheld, unless_ended}
use Rattle.nk_run.specs.Replies.{CommandSays, IsOwn, IsWant, IsWordRole, RefusesBy, Stops, StopsFetch, StopsIn, is_listed, is_same}
use Rattle.nk_run.proofs.Checks.{first_verdict-append}
use Rattle.nk_run.proofs.Told.{if_told, told_at}

-- a check that is reached in a row is reached in a longer one
reached-append : (role : Role) (xs ys : List Check) → IsReached role xs → IsReached role (xs ++ ys)
reached-append role [] ys h = absurd h
reached-append role (x ∷ xs) ys (inl here) = inl here
reached-append role (x ∷ xs) ys (inr later) = inr (later.0, reached-append role xs ys later.1)

-- a check that is reached in a row is reached behind checks that pass
pub both_pass : (u v : Verdict) → unless_ended u v ≡ passes → (u ≡ passes) × (v ≡ passes)
both_pass passes v h = (refl, h)
both_pass (ends answer) v h = cc
both_pass unheld v h = cc

reached-behind : (role : Role) (xs ys : List Check) → first_verdict xs ≡ passes → IsReached role ys → IsReached role (xs ++ ys)
reached-behind role [] ys e h = h
reached-behind role (x ∷ xs) ys e h =
    let parts = both_pass x.finds (first_verdict xs) e in inr (parts.0, reached-behind role xs ys parts.1 h)

-- a count that rose rose from what it was before
rose_from : (before mid after : ℕ) → before ≤ mid → RoseTo mid after → RoseTo before after
rose_from before mid after low rose = grind (arith, common_steps)

-- and so did the count of a name
pub name_rose_from : (words : List (List ℕ)) (before mid after : ShelfState) (role : Role)
    → NeverFalls before.faults mid.faults → mid.files ≡ before.files
    → NameRose words (record { before = mid; after = after }) role → NameRose words (record { before = before; after = after }) role
name_rose_from words before mid after role falls same (name, named, rose) = (
  name,
  subst (λ (told : Option Files). IsNameOf words told role name) same named,
  rose_from _ _ _ (falls name) rose,
)

listed_behind : (front roles : List Role) (role : Role) → is_listed roles role ≡ true → is_listed (front ++ roles) role ≡ true
listed_behind [] roles role h = h
listed_behind (other ∷ front) roles role h =
    or_right (is_same other role) (is_listed (front ++ roles) role) (listed_behind front roles role h)

listed_before : (roles more : List Role) (role : Role) → is_listed roles role ≡ true → is_listed (roles ++ more) role ≡ true
listed_before [] more role h = cc
listed_before (other ∷ roles) more role h = elim (or_cases (is_same other role) (is_listed roles role) h) [
  | inl here ↦ or_left (is_same other role) (is_listed (roles ++ more) role) here
  | inr later ↦ or_right (is_same other role) (is_listed (roles ++ more) role) (listed_before roles more role later)
]

-- the checks of a row pass, and then one of a later row stops both
pub stops_after : (words : List (List ℕ)) (before mid after : ShelfState) (front_roles roles : List Role)
    (front later : Files → List Check) (status : ℕ) (text : List ℕ)
    → NeverFalls before.faults mid.faults → mid.files ≡ before.files
    → IfTold before.files (λ files. first_verdict (front files) ≡ passes)
    → StopsIn words (record { before = mid; after = after }) roles later status text
    → StopsIn words (record { before = before; after = after }) (front_roles ++ roles) (λ files. front files ++ later files) status text
stops_after words before mid after front_roles roles front later status text falls same passed (inl stop) = inl (record {
  role = stop.role;
  listed = listed_behind front_roles roles stop.role stop.listed;
  unread = record {
    rose = name_rose_from words before mid after stop.role falls same stop.unread.rose;
    status_is = stop.unread.status_is;
    text_is = stop.unread.text_is;
  };
  reached = if_told before.files _ (λ files e.
      reached-behind stop.role (front files) (later files) (told_at before.files _ files e passed)
      (told_at mid.files _ files (same ∙ e) stop.reached));
})
stops_after words before mid after front_roles roles front later status text falls same passed (inr (inl want)) = inr (inl want)
stops_after words before mid after front_roles roles front later status text falls same passed (inr (inr stop)) = inr (inr (record {
  ended = if_told before.files _ (λ files e.
      first_verdict-append (front files) (later files)
      ∙ ap (λ (v : Verdict). unless_ended v (first_verdict (later files))) (told_at before.files _ files e passed)
      ∙ told_at mid.files _ files (same ∙ e) stop.ended);
  own = stop.own;
}))

-- what stops a row stops a longer one
pub stops_longer : (words : List (List ℕ)) (shelf : Change ShelfState) (roles more : List Role) (row later : Files → List Check)
    (status : ℕ) (text : List ℕ) → StopsIn words shelf roles row status text
    → StopsIn words shelf (roles ++ more) (λ files. row files ++ later files) status text
stops_longer words shelf roles more row later status text (inl stop) = inl (record {
  role = stop.role;
  listed = listed_before roles more stop.role stop.listed;
  unread = stop.unread;
  reached = if_told shelf.before.files _ (λ files e.
      reached-append stop.role (row files) (later files) (told_at shelf.before.files _ files e stop.reached));
})
stops_longer words shelf roles more row later status text (inr (inl want)) = inr (inl want)
stops_longer words shelf roles more row later status text (inr (inr stop)) = inr (inr (record {
  ended = if_told shelf.before.files _ (λ files e.
      first_verdict-append (row files) (later files)
      ∙ ap (λ (v : Verdict). unless_ended v (first_verdict (later files))) (told_at shelf.before.files _ files e stop.ended));
  own = stop.own;
}))

-- the image's checks pass, and then a check on the other files stops the row
pub stops_behind : (words : List (List ℕ)) (before mid after : ShelfState) (image : List ℕ) (roles : List Role)
    (later : Files → List Check) (status : ℕ) (text : List ℕ)
    → NeverFalls before.faults mid.faults → mid.files ≡ before.files
    → IfTold before.files (λ files. (image ≡ file_in files words Image) × (first_verdict (image_checks files words) ≡ passes))
    → StopsIn words (record { before = mid; after = after }) roles later status text
    → StopsIn words (record { before = before; after = after }) (Image ∷ roles) (λ files. image_checks files words ++ later files) status text
stops_behind words before mid after image roles later status text falls same passed stops =
    stops_after words before mid after (Image ∷ []) roles (λ files. image_checks files words) later status text falls same
    (if_told before.files _ (λ files e. (told_at before.files _ files e passed).1)) stops

-- checks that begin with the fetch of a role's file stop the row that is they alone
pub first_stops : (words : List (List ℕ)) (shelf : Change ShelfState) (role : Role) (later : Files → List Check) (status : ℕ)
    (text : List ℕ) → is_same role role ≡ true
    → Stops words shelf role (λ files. first_verdict (fetch files words role ∷ later files)) status text
    → StopsIn words shelf (role ∷ []) (λ files. fetch files words role ∷ later files) status text
first_stops words shelf role later status text same (inl stop) = inl (record {
  role = role;
  listed = or_left (is_same role role) false same;
  unread = stop;
  reached = if_told shelf.before.files _ (λ files e. inl refl);
})
first_stops words shelf role later status text same (inr (inl want)) = inr (inl want)
first_stops words shelf role later status text same (inr (inr stop)) = inr (inr stop)

-- those on an image that isn't scanned, and those on the image, do
pub formed_stops : (words : List (List ℕ)) (shelf : Change ShelfState) (status : ℕ) (text : List ℕ)
    → Stops words shelf Image (λ files. first_verdict (formed_checks files words)) status text
    → StopsIn words shelf (Image ∷ []) (λ files. formed_checks files words) status text
formed_stops words shelf status text stops =
    first_stops words shelf Image (λ files. test (formed (first_fault (file_in files words Image))) ∷ []) status text refl stops

pub image_stops : (words : List (List ℕ)) (shelf : Change ShelfState) (status : ℕ) (text : List ℕ)
    → Stops words shelf Image (λ files. first_verdict (image_checks files words)) status text
    → StopsIn words shelf (Image ∷ []) (λ files. image_checks files words) status text
image_stops words shelf status text stops =
    first_stops words shelf Image (λ files. form_checks (file_in files words Image)) status text refl stops

-- the fetch of a role's file stops the row that begins with it
pub fetch_stops : (words : List (List ℕ)) (shelf : Change ShelfState) (role : Role) (name : List ℕ) (roles : List Role)
    (later : Files → List Check) (status : ℕ) (text : List ℕ) → is_same role role ≡ true → name ≡ name_in words role
    → Stops words shelf role (λ files. fetch_verdict role (files name)) status text
    → StopsIn words shelf (role ∷ roles) (λ files. fetch files words role ∷ later files) status text
fetch_stops words shelf role name roles later status text same named (inl stop) = inl (record {
  role = role;
  listed = or_left (is_same role role) (is_listed roles role) same;
  unread = stop;
  reached = if_told shelf.before.files _ (λ files e. inl refl);
})
fetch_stops words shelf role name roles later status text same named (inr (inl want)) = inr (inl want)
fetch_stops words shelf role name roles later status text same named (inr (inr stop)) = inr (inr (record {
  ended = if_told shelf.before.files _ (λ files e.
      ap (λ (n : List ℕ). unless_ended (fetch_verdict role (files n)) (first_verdict (later files))) (sym named)
      ∙ ap (λ (v : Verdict). unless_ended v (first_verdict (later files))) (told_at shelf.before.files _ files e stop.ended));
  own = stop.own;
}))

-- a name that stands among the words is that of its role's file
word_name : (words : List (List ℕ)) (told : Option Files) (role : Role) (name : List ℕ) → IsWordRole role → name ≡ name_in words role
    → IsNameOf words told role name
word_name words told Image name among named = named
word_name words told Input name among named = named
word_name words told Plan name among named = named
word_name words told Journal name among named = named
word_name words told ModuleList name among named = named
word_name words told (Module number) name among named = absurd among
word_name words told Text name among named = named

-- the fetch of the file of that name is that of the role's file
pub word_stops : (words : List (List ℕ)) (shelf : Change ShelfState) (role : Role) (name : List ℕ) (status : ℕ) (text : List ℕ)
    → IsWordRole role → name ≡ name_in words role → StopsFetch shelf role name status text
    → Stops words shelf role (λ files. fetch_verdict role (files (name_in words role))) status text
word_stops words shelf role name status text among named (inl stop) = inl (record {
  rose = (name, word_name words shelf.before.files role name among named, stop.rose);
  status_is = stop.status_is;
  text_is = stop.text_is;
})
word_stops words shelf role name status text among named (inr (inl want)) = inr (inl want)
word_stops words shelf role name status text among named (inr (inr stop)) =
    let P : List ℕ → Type 0 = λ n. IfTold shelf.before.files
    (λ files. fetch_verdict role (files n) ≡ ends (record { status = status; text = text })) in
    inr (inr (record { ended = subst P named stop.ended; own = stop.own }))

-- a number that isn't one of those of the usage line and of the outside
own_number : (number : ℕ) → (number ≤ 1) ⊎ ((6 ≤ number) × (number ≤ 10)) → IsOwn number
own_number number (inl small) = record {
  small = omega (arith, small);
  not_usage = λ h. omega (arith, small, h);
  not_unread = λ h. omega (arith, small, h);
  not_cut = λ h. omega (arith, small, h);
  not_want = λ h. omega (arith, small, h);
}
own_number number (inr (large, within)) = record {
  small = within;
  not_usage = λ h. omega (arith, large, h);
  not_unread = λ h. omega (arith, large, h);
  not_cut = λ h. omega (arith, large, h);
  not_want = λ h. omega (arith, large, h);
}

-- the statuses of a walk are two of them
pub own_small : (status : ℕ) → status ≤ 1 → IsOwn status
own_small status small = own_number status (inl small)

pub own_zero : IsOwn 0
own_zero = own_small 0 (omega arith)

pub own_one : IsOwn 1
own_one = own_small 1 (omega arith)

-- and those from 6 on are the others
pub own_large : (status : ℕ) → 6 ≤ status → status ≤ 10 → IsOwn status
own_large status large within = own_number status (inr (large, within))

pub own_six : IsOwn 6
own_six = own_large 6 (omega arith) (omega arith)

pub own_nine : IsOwn 9
own_nine = own_large 9 (omega arith) (omega arith)

pub own_ten : IsOwn 10
own_ten = own_large 10 (omega arith) (omega arith)

-- a row passed, and then a check behind it refused
pub refused_stops : (words : List (List ℕ)) (shelf : Change ShelfState) (roles : List Role) (row later : Files → List Check)
    (number status : ℕ) (text : List ℕ) (verdict : Verdict) → IsOwn number
    → IfTold shelf.before.files (λ files. (first_verdict (row files) ≡ passes)
    × ((it : Answer) → verdict ≡ ends it → first_verdict (later files) ≡ ends it))
    → RefusesBy number verdict status text → StopsIn words shelf roles (λ files. row files ++ later files) status text
refused_stops words shelf roles row later number status text verdict own passed (inl want) = inr (inl want)
refused_stops words shelf roles row later number status text verdict own passed (inr (ended, is)) = inr (inr (record {
  ended = if_told shelf.before.files _ (λ files e.
      let given = told_at shelf.before.files _ files e passed in
      first_verdict-append (row files) (later files)
      ∙ ap (λ (v : Verdict). unless_ended v (first_verdict (later files))) given.0
      ∙ given.1 (record { status = status; text = text }) ended);
  own = subst IsOwn (sym is) own;
}))

pub some_is : {A : Type 0} (o : Option A) (x : A) → o ≡ Some x → IsSome o
some_is {A = A} o x e = let P : Option A → Type 0 = λ p. IsSome p in subst P (sym e) refl

-- two roles that are the same are one
same_role : (one other : Role) → is_same one other ≡ true → one ≡ other
same_role Image Image e = refl
same_role Input Input e = refl
same_role Plan Plan e = refl
same_role Journal Journal e = refl
same_role ModuleList ModuleList e = refl
same_role (Module a) (Module b) e = ap Module (eqb-true a b e)
same_role Text Text e = refl
same_role Image Input e = cc
same_role Image Plan e = cc
same_role Image Journal e = cc
same_role Image ModuleList e = cc
same_role Image (Module b) e = cc
same_role Input Image e = cc
same_role Input Plan e = cc
same_role Input Journal e = cc
same_role Input ModuleList e = cc
same_role Input (Module b) e = cc
same_role Plan Image e = cc
same_role Plan Input e = cc
same_role Plan Journal e = cc
same_role Plan ModuleList e = cc
same_role Plan (Module b) e = cc
same_role Journal Image e = cc
same_role Journal Input e = cc
same_role Journal Plan e = cc
same_role Journal ModuleList e = cc
same_role Journal (Module b) e = cc
same_role ModuleList Image e = cc
same_role ModuleList Input e = cc
same_role ModuleList Plan e = cc
same_role ModuleList Journal e = cc
same_role ModuleList (Module b) e = cc
same_role (Module a) Image e = cc
same_role (Module a) Input e = cc
same_role (Module a) Plan e = cc
same_role (Module a) Journal e = cc
same_role (Module a) ModuleList e = cc
same_role Image Text e = cc
same_role Input Text e = cc
same_role Plan Text e = cc
same_role Journal Text e = cc
same_role ModuleList Text e = cc
same_role (Module a) Text e = cc
same_role Text Image e = cc
same_role Text Input e = cc
same_role Text Plan e = cc
same_role Text Journal e = cc
same_role Text ModuleList e = cc
same_role Text (Module b) e = cc

contains_there : (roles : List Role) (role other : Role) → Contains roles role → Contains (other ∷ roles) role
contains_there roles role other (n, within, is) = (suc n, omega (arith, within), is)

listed_contains : (roles : List Role) (role : Role) → is_listed roles role ≡ true → Contains roles role
listed_contains [] role e = cc
listed_contains (other ∷ roles) role e = elim (or_cases (is_same other role) (is_listed roles role) e) [
  | inl here ↦ (0, omega arith, same_role other role here)
  | inr later ↦ contains_there roles role other (listed_contains roles role later)
]

-- the row of a command's checks on files, and the checks behind it
module _ (words : List (List ℕ)) (command : Command) (asked : command_of words ≡ Some command) (row later : Files → List Check)
    (whole : (files : Files) → checks_of command files words ≡ row files ++ later files) (other : Some command ≢ Some Scan) where
  role_asked : (role : Role) → is_listed (roles_of command) role ≡ true → IsAsked words role
  role_asked role listed =
      let P : Option Command → Type 0 = λ o. IsSomeAnd o (λ command. Contains (roles_of command) role) in
      subst P (sym asked) (listed_contains (roles_of command) role listed)

  abbrev pub answer : Files → Answer
  answer files = record { status = 0; text = text_of command files words }

  outcome_is : (files : Files) → outcome words files
      ≡ decided (unless_ended (first_verdict (row files)) (first_verdict (later files))) (answer files)
  outcome_is files =
      ap (λ (o : Option Command). command_outcome o words files) asked
      ∙ ap (λ (checks : List Check). decided (first_verdict checks) (answer files)) (whole files)
      ∙ ap (λ (v : Verdict). decided v (answer files)) (first_verdict-append (row files) (later files))

  -- a check of the row ended it
  row_ended : (files : Files) (it : Answer) → first_verdict (row files) ≡ ends it → outcome words files ≡ Some it
  row_ended files it e =
      outcome_is files ∙ ap (λ (v : Verdict). decided (unless_ended v (first_verdict (later files))) (answer files)) e

  -- the row passed, and the checks behind it decide
  pub row_passed : (files : Files) (v : Verdict) → first_verdict (row files) ≡ passes → first_verdict (later files) ≡ v
      → outcome words files ≡ decided v (answer files)
  row_passed files v e is =
      outcome_is files ∙ ap (λ (u : Verdict). decided (unless_ended u (first_verdict (later files))) (answer files)) e
      ∙ ap (λ (u : Verdict). decided u (answer files)) is

  pub wants_says : (shelf : Change ShelfState) (status : ℕ) (text : List ℕ) → IsWant status text → CommandSays words shelf status text
  wants_says shelf status text want = inr (inl (record {
    asked = some_is (command_of words) _ asked;
    want = want;
    counted = λ scan. absurd (other (sym asked ∙ scan));
  }))

  pub row_says : (shelf : Change ShelfState) (status : ℕ) (text : List ℕ)
      → StopsIn words shelf (roles_of command) row status text → CommandSays words shelf status text
  row_says shelf status text (inl stop) = inl (record {
    role = stop.role;
    unread = record {
      asked = role_asked stop.role stop.listed;
      rose = stop.unread.rose;
      reached = if_told shelf.before.files _ (λ files e.
          let P : Option Command → Type 0 = λ o. IsSomeAnd o (λ command. IsReached stop.role (checks_of command files words)) in
          subst P (sym asked) (subst (IsReached stop.role) (sym (whole files)) (reached-append stop.role (row files) (later files)
          (told_at shelf.before.files _ files e stop.reached))));
    };
    status_is = stop.unread.status_is;
    text_is = stop.unread.text_is;
  })
  row_says shelf status text (inr (inl want)) = wants_says shelf status text want
  row_says shelf status text (inr (inr stop)) = inr (inr (record {
    asked = some_is (command_of words) _ asked;
    outcome_is = if_told shelf.before.files _
        (λ files e. row_ended files (record { status = status; text = text }) (told_at shelf.before.files _ files e stop.ended));
    own = stop.own;
  }))

  -- what the command's outcome is, where files are told
  pub outcome_says : (shelf : Change ShelfState) (status : ℕ) (text : List ℕ) → IsOwn status
      → IfTold shelf.before.files (λ files. outcome words files ≡ Some (record { status = status; text = text })) → CommandSays words shelf status text
  outcome_says shelf status text own is = inr (inr (record { asked = some_is (command_of words) _ asked; outcome_is = is; own = own }))

  -- the row passed, and then a check refused
  pub later_says : (shelf : Change ShelfState) (number status : ℕ) (text : List ℕ) (verdict : Verdict) → IsOwn number
      → IfTold shelf.before.files (λ files. (first_verdict (row files) ≡ passes)
      × ((it : Answer) → verdict ≡ ends it → first_verdict (later files) ≡ ends it))
      → RefusesBy number verdict status text → CommandSays words shelf status text
  later_says shelf number status text verdict own passed (inl want) = wants_says shelf status text want
  later_says shelf number status text verdict own passed (inr (ended, is)) =
      outcome_says shelf status text (subst IsOwn (sym is) own) (if_told shelf.before.files _ (λ files e.
      let given = told_at shelf.before.files _ files e passed in
      let it : Answer = record { status = status; text = text } in
      row_passed files (ends it) given.0 (given.1 it ended)))

  -- the row passed, and so did the checks behind it
  pub all_says : (files : Files) → first_verdict (row files) ≡ passes → first_verdict (later files) ≡ passes
      → outcome words files ≡ Some (answer files)
  all_says files first last = row_passed files passes first last
