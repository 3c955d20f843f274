-- What readers gave and writers took, where their bytes are known.
use Rattle.std.specs.Prelude.{◌≡◌, ℕ, ◌+◌, ◌<◌, ◌≤◌, List, ◌++◌, length, Option, Some, IfSome}
use Rattle.std.specs.Io.KnownBytes.{Consumes, IsAtEnd}

-- the reader gave some bytes, at most so many
abbrev pub GivesAtMost : Option (List ℕ) → Option (List ℕ) → ℕ → Type 0
GivesAtMost before after most = (given : List ℕ) × (length given ≤ most) × Consumes before after given

-- the reader gave n bytes, which were put behind those that stood before
pub record GivesMore (before after : Option (List ℕ)) (old new : List ℕ) (n : ℕ) : Type 0 where
  pub given : List ℕ
  pub count : length given ≡ n
  pub behind : new ≡ old ++ given
  pub consumed : Consumes before after given
  pub end : n ≡ 0 → IsAtEnd after

-- the bytes are all that the reader had
abbrev pub IsAllOf : Option (List ℕ) → List ℕ → Type 0
IsAllOf before bytes = IfSome before (λ all. bytes ≡ all)

-- the reader had more bytes than so many
abbrev pub HadMore : Option (List ℕ) → ℕ → Type 0
HadMore before most = IfSome before (λ all. most < length all)

-- the stream has so many bytes in all
abbrev pub HasLength : Option (List ℕ) → ℕ → Type 0
HasLength all n = IfSome all (λ bytes. n ≡ length bytes)

-- the reader was moved to a start, where its place was known, and has since given the bytes from there to a place
pub record CameTo {F : Type 0} (position : F → Option ℕ) (remaining : F → Option (List ℕ)) (now : F) (at : ℕ) : Type 0 where
  pub from : F
  pub moved : F
  pub start : ℕ
  pub there : IfSome (position from) (λ _. position moved ≡ Some start)
  pub between : List ℕ
  pub given : Consumes (remaining moved) (remaining now) between
  pub behind : start + length between ≡ at

-- the reader stands at a place, as it came to it in some way
abbrev pub StandsAt : {F : Type 0} → (F → Option ℕ) → (F → Option (List ℕ)) → F → ℕ → Type 0
StandsAt position remaining now at = ∥ CameTo position remaining now at ∥₁

-- the reader was moved to a place, where its place was known, and then gave the bytes
pub record GivesAt {F : Type 0} (position : F → Option ℕ) (remaining : F → Option (List ℕ)) (before after : F) (at : ℕ) (bytes : List ℕ) : Type 0 where
  pub moved : F
  pub there : IfSome (position before) (λ _. position moved ≡ Some at)
  pub given : Consumes (remaining moved) (remaining after) bytes
