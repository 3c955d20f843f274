-- Bytes that wait and go out in pieces.
use Rattle.std.specs.Prelude.{ℕ, List, [], ◌++◌, Option}
use Rattle.std.specs.Io.KnownBytes.{Appends}
use Rattle.nk_host.specs.PiecesOut.{MovedOn}
use Rattle.nk_host.specs.Taken.{AppendsPrefix}

pub record PiecesLaws : Type 0 where
  pub moved_none : (a : Option (List ℕ)) (h : List ℕ) → MovedOn a a h h []
  pub moved_on : (a b c : Option (List ℕ)) (h l m x y : List ℕ)
      → MovedOn a b h l x → MovedOn b c l m y → MovedOn a c h m (x ++ y)
  pub moved_cut : (a b c : Option (List ℕ)) (h l x y : List ℕ)
      → MovedOn a b h l x → AppendsPrefix b c (l ++ y) → AppendsPrefix a c (h ++ (x ++ y))
  pub moved_all : (a b : Option (List ℕ)) (h x : List ℕ) → MovedOn a b h [] x → Appends a b (h ++ x)
  pub prefix_longer : (a b : Option (List ℕ)) (x y : List ℕ) → AppendsPrefix a b x → AppendsPrefix a b (x ++ y)
