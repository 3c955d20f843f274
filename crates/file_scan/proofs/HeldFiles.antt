-- From what holds where a file is held to what holds of the file that is.
use Rattle.std.proofs.Common.{◌≡◌, ◌∙◌, ℕ, ◌<◌, List, length, Option, Some, None, refl, sym, subst, arith}
use Rattle.std.specs.Prelude.{IsSomeAnd, MatchResult, Result, Ok, Err}
use Rattle.file_scan.specs.declared.pieces.Admitted.{Admitted}
use Rattle.file_scan.specs.declared.pieces.Stop.{Stop}
use Rattle.file_scan.specs.declared.pieces.Stop.TheVariants.{Faulty, Longer, Protected, Unread, Want}
use Rattle.file_scan.specs.HeldFile.{AreFilesKept, OfFile, WhereHeld}
use Rattle.file_scan.specs.GoodImages.{longest_file}
use Rattle.file_scan.specs.ScanStops.{HasFault, HasFound, IsGoodWith, IsStop}
use Rattle.file_scan.specs.WalkedPieces.{IsStopWhereHeld}
use Rattle.file_scan.specs.ShelfChanges.{Files, ShelfState}

some_file : (o : Option (List ℕ)) (P Q : List ℕ → Type 0) → IsSomeAnd o Q → ((b : List ℕ) → o ≡ Some b → P b) → IsSomeAnd o P
some_file None P Q held all = absurd held
some_file (Some b) P Q held all = all b refl

of_file : (told : Option Files) (name : List ℕ) (P Q : List ℕ → Type 0) → OfFile told name Q → WhereHeld told name P → OfFile told name P
of_file None name P Q held all = tt
of_file (Some files) name P Q held all = some_file (files name) P Q held all

the_file : (o : Option (List ℕ)) (b : List ℕ) (Q : List ℕ → Type 0) → IsSomeAnd o Q → o ≡ Some b → Q b
the_file o b Q held is =
    let R : Option (List ℕ) → Type 0 = λ it. IsSomeAnd it Q in
    subst R is held

where_held : (told : Option Files) (name : List ℕ) (Q : List ℕ → Type 0) → OfFile told name Q → WhereHeld told name Q
where_held None name Q held b is = absurd is
where_held (Some files) name Q held b is = the_file (files name) b Q held is

module _ (before between after : ShelfState) (name : List ℕ) (Q : List ℕ → Type 0) (held : OfFile before.files name Q)
    (kept : AreFilesKept (record { before = before; after = between })) where
  since : (P : List ℕ → Type 0) → WhereHeld between.files name P → OfFile before.files name P
  since P all =
      let R : Option Files → Type 0 = λ files. WhereHeld files name P in
      of_file before.files name P Q held (subst R kept.same_files all)

  pub still_held : WhereHeld between.files name Q
  still_held =
      let R : Option Files → Type 0 = λ files. WhereHeld files name Q in
      subst R (sym kept.same_files) (where_held before.files name Q held)

  pub said_since : (r : Result Admitted Stop)
      → MatchResult r (λ it. WhereHeld between.files name (IsGoodWith it.entry it.pages))
      (IsStopWhereHeld (record { before = between; after = after }) name)
      → MatchResult r (λ it. OfFile before.files name (IsGoodWith it.entry it.pages))
      (IsStop (record { before = before; after = after }) name)
  said_since (Ok it) all = since (IsGoodWith it.entry it.pages) all
  said_since (Err Unread) rose = omega (arith, kept.never_falls name, rose)
  said_since (Err Want) rose = omega (arith, kept.wants_stand, rose)
  said_since (Err Longer) all = since (λ b. longest_file < length b) all
  said_since (Err (Faulty fault)) all = since (HasFault fault) all
  said_since (Err (Protected found)) all = (all.0, all.1, since (HasFound found) all.2)

-- A shelf at three moments: what is kept and known from the first to the second, and from the second to the third.
module _ (before between after : ShelfState) (name : List ℕ) (kept : AreFilesKept (record { before = before; after = between })) where
  pub known_before : (P : List ℕ → Type 0) → WhereHeld between.files name P → WhereHeld before.files name P
  known_before P all =
      let R : Option Files → Type 0 = λ files. WhereHeld files name P in
      subst R kept.same_files all

  pub known_still : (P : List ℕ → Type 0) → WhereHeld before.files name P → WhereHeld between.files name P
  known_still P all =
      let R : Option Files → Type 0 = λ files. WhereHeld files name P in
      subst R (sym kept.same_files) all

  pub kept_on : AreFilesKept (record { before = between; after = after }) → AreFilesKept (record { before = before; after = after })
  kept_on then = record {
    same_files = then.same_files ∙ kept.same_files;
    never_falls = λ other. omega (arith, kept.never_falls other, then.never_falls other);
    wants_stand = omega (arith, kept.wants_stand, then.wants_stand);
  }

  pub stopped_since : (stop : Stop) → IsStopWhereHeld (record { before = between; after = after }) name stop
      → IsStopWhereHeld (record { before = before; after = after }) name stop
  stopped_since Unread rose = omega (arith, kept.never_falls name, rose)
  stopped_since Want rose = omega (arith, kept.wants_stand, rose)
  stopped_since Longer all = known_before (λ b. longest_file < length b) all
  stopped_since (Faulty fault) all = known_before (HasFault fault) all
  stopped_since (Protected found) all = (all.0, all.1, known_before (HasFound found) all.2)
