-- A shelf in memory, as contracts see it.
use Rattle.std.specs.Prelude.{ℕ, Bool, ◌||◌, List, position, slice_get, slice_index, slice_set, Option, None, Some, is_none, option_map, option_and_then, map, String, Vec, if◌then◌else◌}
use Rattle.std.specs.String.{string_bytes}
use Rattle.std.specs.declared.alloc.Global.{Global}
use Rattle.std.specs.Str.{bytes_eq}
use Rattle.nk_host.specs.Attempts.{is_due}
use Rattle.nk_host.specs.FaultCounts.{raised}

-- a file under a name, both as bytes
pub record NamedFile : Type 0 where
  pub name : List ℕ
  pub bytes : List ℕ

-- the files, the count of faults beside each of them and that of all names not held, which reads fail, and the reads so
-- far: fetches, sizes and pieces
pub record Stock : Type 0 where
  pub files : List NamedFile
  pub counts : List ℕ
  pub others : ℕ
  pub failing : List ℕ
  pub reads : ℕ

-- the place of the first file of a name
abbrev pub name_place : List NamedFile → List ℕ → Option ℕ
name_place files name = position (λ file. bytes_eq file.name name) files

-- the bytes of the first file of a name
abbrev pub file_of : List NamedFile → List ℕ → Option (List ℕ)
file_of files name = option_and_then (λ i. option_map (λ file. file.bytes) (slice_get files i)) (name_place files name)

-- what stands for a name: something of its place, or something else where it isn't held
abbrev pub at_place : {A : Type 0} → Option ℕ → A → (ℕ → A) → A
at_place None other held = other
at_place (Some i) other held = held i

-- the count of faults of a name
abbrev pub count_of : Stock → List ℕ → ℕ
count_of s name = at_place (name_place s.files name) s.others (λ i. slice_index s.counts i)

-- the shelf with the count of a name raised
abbrev pub with_fault : Stock → List ℕ → Stock
with_fault s name = at_place (name_place s.files name)
    (record s { others = raised s.others })
    (λ i. record s { counts = slice_set s.counts i (raised (slice_index s.counts i)) })

-- the read of a name fails: its number is among the failing ones, or the name isn't held
abbrev pub read_fails : Stock → List ℕ → Bool
read_fails s name = is_due s.failing (raised s.reads) || is_none (file_of s.files name)

-- the shelf after the read of a name
abbrev pub after_read : Stock → List ℕ → Stock
after_read s name =
    let begun = record s { reads = raised s.reads } in
    if read_fails s name then with_fault begun name else begun

-- the files of a vector of names and bytes
abbrev pub named_files : List (String Global × Vec ℕ Global) → List NamedFile
named_files held = map (λ file. record { name = string_bytes file.0; bytes = file.1.items }) held
