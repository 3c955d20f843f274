-- What a shelf that tells its files answers where it is read, and that what it tells are bytes. Files are a function from
-- a name's bytes to the file's, None where no file is held.
use Rattle.std.specs.Prelude.{◌≡◌, ℕ, ◌+◌, ◌<◌, ◌≤◌, List, length, take, drop, slice_index, Option, Some, IfSome, IsSomeAnd}

-- the bytes are the whole file of the name
abbrev pub IsFile : (List ℕ → Option (List ℕ)) → List ℕ → List ℕ → Type 0
IsFile files name bytes = files name ≡ Some bytes

-- a file is held under the name, and it has more bytes than `most`
abbrev pub IsLonger : (List ℕ → Option (List ℕ)) → List ℕ → ℕ → Type 0
IsLonger files name most = IsSomeAnd (files name) (λ file. most < length file)

-- each element of the file is a byte
abbrev pub IsFileOfBytes : List ℕ → Type 0
IsFileOfBytes file = (i : ℕ) → slice_index file i < 256

-- so is each file that is held
abbrev pub AreFilesOfBytes : (List ℕ → Option (List ℕ)) → Type 0
AreFilesOfBytes files = (name : List ℕ) → IfSome (files name) IsFileOfBytes

-- a file of so many bytes is held under the name
abbrev pub HasSize : (List ℕ → Option (List ℕ)) → List ℕ → ℕ → Type 0
HasSize files name size = IsSomeAnd (files name) (λ file. length file ≡ size)

-- the file of the name, where one is held, has so many bytes from a place on
abbrev pub IsWithin : (List ℕ → Option (List ℕ)) → List ℕ → ℕ → ℕ → Type 0
IsWithin files name at len = IfSome (files name) (λ file. at + len ≤ length file)

-- the bytes are those of the name's file from a place on
abbrev pub IsPiece : (List ℕ → Option (List ℕ)) → List ℕ → ℕ → List ℕ → Type 0
IsPiece files name at bytes = IsSomeAnd (files name) (λ file. bytes ≡ take (length bytes) (drop at file))
