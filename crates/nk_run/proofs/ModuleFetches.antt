-- The modules of a list, fetched one by one.
use Rattle.std.proofs.Common.{◌≡◌, ℕ, zero, suc, ◌+◌, ◌<◌, ◌≤◌, ◌==◌, true, List, [], ◌∷◌, ◌++◌, length, map, take, drop, Option, Some, inl, inr, arith, refl, sym, ap, subst, ◌∙◌, add-one}
use Rattle.std.specs.Prelude.{option_map, slice_get, unwrap_or}
use Rattle.std.specs.List.{range_with_len}
use Rattle.std.proofs.Math.Seq.{drop-cons, take-suc, take_all}
use Rattle.std.proofs.lemmas.Bool.{cases_lt, eq-eqb, or_left, or_right}
use Rattle.std.proofs.lemmas.List.{drop_all, map-append}
use Rattle.std.proofs.lemmas.Option.{slice_get_cases}
use Rattle.nk_host.specs.FaultCounts.{NeverFalls}
use Rattle.nk_host.specs.Told.{IfTold}
use Rattle.code_modules.specs.ModuleList.{Listed}
use Rattle.command_words.specs.declared.command_line.Role.{Role}
use Rattle.command_words.specs.declared.command_line.Role.TheVariants.{Module}
use Rattle.file_scan.specs.ShelfChanges.{Change, Files, ShelfState}
use Rattle.nk_run.specs.Outcome.{IsReached, Verdict, fetch_verdict, first_verdict, module_fetches, module_held, modules_named, passes, unless_ended}
use Rattle.nk_run.specs.Replies.{StopsFetch, StopsIn, is_listed}
use Rattle.nk_run.proofs.Rows.{name_rose_from}
use Rattle.nk_run.proofs.Told.{if_told, told_at}

abbrev bytes_in : Files → Listed → List ℕ
bytes_in files it = (module_held files it).bytes

-- the first i of the listed modules were fetched, and these are their bytes; what the others give is what all give
pub record IsFetched (files : Files) (modules : List Listed) (i : ℕ) (bytes : List (List ℕ)) : Type 0 where
  pub bytes_are : bytes ≡ map (λ it. (module_held files it).bytes) (take i modules)
  pub verdict : first_verdict (module_fetches files 0 modules) ≡ first_verdict (module_fetches files i (drop i modules))
  pub reached : (role : Role) → IsReached role (module_fetches files i (drop i modules)) → IsReached role (module_fetches files 0 modules)

pub fetched_none : (files : Files) (modules : List Listed) (bytes : List (List ℕ)) → bytes ≡ [] → IsFetched files modules 0 bytes
fetched_none files [] bytes none = record { bytes_are = none; verdict = refl; reached = λ role there. there }
fetched_none files (it ∷ later) bytes none = record { bytes_are = none; verdict = refl; reached = λ role there. there }

abbrev name_at : List Listed → ℕ → Option (List ℕ)
name_at modules i = option_map (λ it. it.name) (slice_get modules i)

-- the module of a number, by its name
record IsListedAt (modules : List Listed) (i : ℕ) (name : List ℕ) : Type 0 where
  it : Listed
  named : it.name ≡ name
  first : drop i modules ≡ it ∷ drop (i + 1) modules
  last : take (i + 1) modules ≡ take i modules ++ it ∷ []

listed_at : (modules : List Listed) (i : ℕ) (name : List ℕ) → name_at modules i ≡ Some name → IsListedAt modules i name
listed_at modules i name is = elim (slice_get_cases modules i).1 [
  | inl here ↦ record {
    it = here.0;
    named = let same = sym (ap (option_map (λ (l : Listed). l.name)) here.2) ∙ is in cc;
    first =
        drop-cons modules i here.0 here.1 ∙ ap (λ x. x ∷ drop (suc i) modules) here.3
        ∙ ap (λ n. here.0 ∷ drop n modules) (sym (add-one i));
    last =
        ap (λ n. take n modules) (add-one i) ∙ take-suc modules i here.0 here.1
        ∙ ap (λ x. take i modules ++ x ∷ []) here.3;
  }
  | inr past ↦ absurd (let none = sym (ap (option_map (λ (l : Listed). l.name)) past.1) ∙ is in cc)
]

-- the fetch of a module's file is that of its name's
named_verdict : (files : Files) (modules : List Listed) (i : ℕ) (name : List ℕ) (at : IsListedAt modules i name)
    → fetch_verdict (Module i) (files at.it.name) ≡ fetch_verdict (Module i) (files name)
named_verdict files modules i name at = ap (λ (n : List ℕ). fetch_verdict (Module i) (files n)) at.named

-- one module more was fetched
pub fetched_more : (files : Files) (modules : List Listed) (i : ℕ) (bytes more : List (List ℕ)) (name b : List ℕ)
    → option_map (λ it. it.name) (slice_get modules i) ≡ Some name → files name ≡ Some b
    → fetch_verdict (Module i) (files name) ≡ passes → more ≡ bytes ++ b ∷ []
    → IsFetched files modules i bytes → IsFetched files modules (i + 1) more
fetched_more files modules i bytes more name b is held passed pushed so_far =
    let at = listed_at modules i name is in
    let here : bytes_in files at.it ≡ b =
    ap (λ (n : List ℕ). unwrap_or (files n) []) at.named ∙ ap (λ (o : Option (List ℕ)). unwrap_or o []) held in
    let passes_here = named_verdict files modules i name at ∙ passed in
    record {
      bytes_are =
          pushed ∙ ap (λ bs. bs ++ b ∷ []) so_far.bytes_are
          ∙ ap (λ x. map (bytes_in files) (take i modules) ++ x ∷ []) (sym here)
          ∙ sym (map-append (bytes_in files) (take i modules) (at.it ∷ []))
          ∙ ap (map (bytes_in files)) (sym at.last);
      verdict =
          so_far.verdict ∙ ap (λ ms. first_verdict (module_fetches files i ms)) at.first
          ∙ ap (λ (v : Verdict). unless_ended v (first_verdict (module_fetches files (i + 1) (drop (i + 1) modules)))) passes_here;
      reached = λ role later.
          let P : List Listed → Type 0 = λ ms. IsReached role (module_fetches files i ms) in
          so_far.reached role (subst P (sym at.first) (inr (passes_here, later)));
    }

-- all were
pub fetched_all : (files : Files) (modules : List Listed) (i : ℕ) (bytes : List (List ℕ)) → length modules ≤ i
    → IsFetched files modules i bytes
    → (bytes ≡ map (λ it. (module_held files it).bytes) modules) × (first_verdict (module_fetches files 0 modules) ≡ passes)
fetched_all files modules i bytes past so_far = (
  so_far.bytes_are ∙ ap (map (bytes_in files)) (take_all i modules past),
  so_far.verdict ∙ ap (λ ms. first_verdict (module_fetches files i ms)) (drop_all i modules past),
)

-- a module's role is one of those of a list
role_within : (n a i : ℕ) → a ≤ i → i < a + n → is_listed (map Module (range_with_len a n)) (Module i) ≡ true
role_within zero a i low high = absurd (omega (arith, low, high))
role_within (suc n) a i low high = elim (cases_lt a i) [
  | inl later ↦
      or_right (a == i) (is_listed (map Module (range_with_len (a + 1) n)) (Module i))
      (role_within n (a + 1) i (omega (arith, later)) (omega (arith, high)))
  | inr here ↦
      or_left (a == i) (is_listed (map Module (range_with_len (a + 1) n)) (Module i)) (eq-eqb a i (omega (arith, low, here)))
]

-- the fetch of a module's file stops the row
pub module_stops : (words : List (List ℕ)) (before mid after : ShelfState) (modules : List Listed) (i : ℕ)
    (bytes : List (List ℕ)) (name : List ℕ) (status : ℕ) (text : List ℕ) → i < 32
    → NeverFalls before.faults mid.faults → mid.files ≡ before.files
    → IfTold before.files (λ files. modules ≡ modules_named files words)
    → option_map (λ it. it.name) (slice_get modules i) ≡ Some name
    → IfTold before.files (λ files. IsFetched files modules i bytes)
    → StopsFetch (record { before = mid; after = after }) (Module i) name status text
    → StopsIn words (record { before = before; after = after }) (map Module (range_with_len 0 32))
    (λ files. module_fetches files 0 modules) status text
module_stops words before mid after modules i bytes name status text few falls same modules_are is so_far (inl stop) =
    let at = listed_at modules i name is in
    let P : List Listed → Type 0 = λ ms. name_at ms i ≡ Some name in
    inl (record {
      role = Module i;
      listed = role_within 32 0 i (omega arith) (omega (arith, few));
      unread = record {
        rose = name_rose_from words before mid after (Module i) falls same (
          name,
          if_told mid.files _ (λ files e. subst P (told_at before.files _ files (sym same ∙ e) modules_are) is),
          stop.rose,
        );
        status_is = stop.status_is;
        text_is = stop.text_is;
      };
      reached = if_told before.files _ (λ files e.
          let Q : List Listed → Type 0 = λ ms. IsReached (Module i) (module_fetches files i ms) in
          (told_at before.files _ files e so_far).reached (Module i) (subst Q (sym at.first) (inl refl)));
    })
module_stops words before mid after modules i bytes name status text few falls same modules_are is so_far (inr (inl want)) = inr (inl want)
module_stops words before mid after modules i bytes name status text few falls same modules_are is so_far (inr (inr stop)) =
    let at = listed_at modules i name is in
    inr (inr (record {
      ended = if_told before.files _ (λ files e.
          (told_at before.files _ files e so_far).verdict
          ∙ ap (λ ms. first_verdict (module_fetches files i ms)) at.first
          ∙ ap (λ (v : Verdict). unless_ended v (first_verdict (module_fetches files (i + 1) (drop (i + 1) modules))))
          (named_verdict files modules i name at ∙ told_at mid.files _ files (same ∙ e) stop.ended));
      own = stop.own;
    }))

-- where files are told the modules are those that the list names
pub named_stops : (words : List (List ℕ)) (shelf : Change ShelfState) (roles : List Role) (modules : List Listed) (status : ℕ)
    (text : List ℕ) → IfTold shelf.before.files (λ files. modules ≡ modules_named files words)
    → StopsIn words shelf roles (λ files. module_fetches files 0 modules) status text
    → StopsIn words shelf roles (λ files. module_fetches files 0 (modules_named files words)) status text
named_stops words shelf roles modules status text named (inl stop) = inl (record {
  role = stop.role;
  listed = stop.listed;
  unread = stop.unread;
  reached = if_told shelf.before.files _ (λ files e.
      let P : List Listed → Type 0 = λ ms. IsReached stop.role (module_fetches files 0 ms) in
      subst P (told_at shelf.before.files _ files e named) (told_at shelf.before.files _ files e stop.reached));
})
named_stops words shelf roles modules status text named (inr (inl want)) = inr (inl want)
named_stops words shelf roles modules status text named (inr (inr stop)) = inr (inr (record {
  ended = if_told shelf.before.files _ (λ files e.
      ap (λ ms. first_verdict (module_fetches files 0 ms)) (sym (told_at shelf.before.files _ files e named))
      ∙ told_at shelf.before.files _ files e stop.ended);
  own = stop.own;
}))
