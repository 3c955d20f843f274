-- Bytes that are taken up, wait, and go out in pieces.
use Rattle.std.proofs.Common.{◌≡◌, ℕ, ◌+◌, ◌<◌, Option, List, [], ◌∷◌, ◌++◌, length, get_or, take, drop, sym, ap, ◌∙◌, subst, append_assoc, append-nil, arith, length-append, take-append-drop}
use Rattle.std.proofs.Math.Seq.{take-append-add}
use Rattle.std.proofs.lemmas.List.{take-append-le, take_more}
use Rattle.std.proofs.KnownBytes.{Appends-trans, Appends-nil}
use Rattle.std.specs.Io.KnownBytes.{Appends}
use Rattle.nk_host.specs.Taken.{AppendsPrefix}
use Rattle.nk_host.specs.PiecesOut.{MovedOn}

-- no byte was taken up, and none went out
pub moved_none : (a : Option (List ℕ)) (h : List ℕ) → MovedOn a a h h []
moved_none a h = record { done = []; appended = Appends-nil a; whole = sym (append-nil h) }

-- all that waited went out
pub moved_out : (a b : Option (List ℕ)) (h l : List ℕ) → Appends a b h → l ≡ [] → MovedOn a b h l []
moved_out a b h l all e = record { done = h; appended = all; whole = ap (λ m. h ++ m) e }

-- one list of bytes was taken up behind another
pub moved_on : (a b c : Option (List ℕ)) (h l m x y : List ℕ) → MovedOn a b h l x → MovedOn b c l m y → MovedOn a c h m (x ++ y)
moved_on a b c h l m x y first next = record {
  done = first.done ++ next.done;
  appended = Appends-trans a b c first.done next.done first.appended next.appended;
  whole =
      append_assoc first.done next.done m ∙ ap (λ l. first.done ++ l) next.whole ∙ sym (append_assoc first.done l y)
      ∙ ap (λ l. l ++ y) first.whole ∙ append_assoc h x y;
}

-- bytes that wait behind the rest were taken up
pub moved_in : (a b : Option (List ℕ)) (h l m x : List ℕ) → MovedOn a b h l [] → m ≡ l ++ x → MovedOn a b h m x
moved_in a b h l m x w e = record {
  done = w.done;
  appended = w.appended;
  whole = ap (λ m. w.done ++ m) e ∙ sym (append_assoc w.done l x) ∙ ap (λ l. l ++ x) (w.whole ∙ append-nil h);
}

-- where none waits any more, all went out
pub moved_all : (a b : Option (List ℕ)) (h x : List ℕ) → MovedOn a b h [] x → Appends a b (h ++ x)
moved_all a b h x w = subst (Appends a b) (sym (append-nil w.done) ∙ w.whole) w.appended

-- a prefix of a text is one of a longer text
pub prefix_longer : (a b : Option (List ℕ)) (x y : List ℕ) → AppendsPrefix a b x → AppendsPrefix a b (x ++ y)
prefix_longer a b x y (n, short, appended) = (
  n,
  omega (arith, short, length-append x y),
  subst (Appends a b) (sym (take-append-le n x y short)) appended,
)

-- bytes went out, and a prefix of those behind them
prefix_behind : (a b c : Option (List ℕ)) (x y : List ℕ) → Appends a b x → AppendsPrefix b c y → AppendsPrefix a c (x ++ y)
prefix_behind a b c x y whole (n, short, appended) = (
  length x + n,
  omega (arith, short, length-append x y),
  subst (Appends a c) (sym (take-append-add x y n)) (Appends-trans a b c x (take n y) whole appended),
)

-- bytes were taken up, and of what waited and what came then only a prefix went out
pub moved_cut : (a b c : Option (List ℕ)) (h l x y : List ℕ) → MovedOn a b h l x → AppendsPrefix b c (l ++ y) → AppendsPrefix a c (h ++ (x ++ y))
moved_cut a b c h l x y w cut =
    subst (AppendsPrefix a c) (sym (append_assoc w.done l y) ∙ ap (λ l. l ++ y) w.whole ∙ append_assoc h x y)
    (prefix_behind a b c w.done (l ++ y) w.appended cut)

-- bytes were taken up to a place, and so was the byte there
pub moved_byte : (a b c : Option (List ℕ)) (h l m bytes : List ℕ) (i d : ℕ) → i < length bytes → MovedOn a b h l (take i bytes)
    → MovedOn b c l m (get_or bytes i d ∷ []) → MovedOn a c h m (take (i + 1) bytes)
moved_byte a b c h l m bytes i d below first next =
    subst (MovedOn a c h m) (sym (take_more bytes i d below)) (moved_on a b c h l m (take i bytes) (get_or bytes i d ∷ []) first next)

-- bytes were taken up to a place, and at the byte there a fault cut them
pub cut_byte : (a b c : Option (List ℕ)) (h l bytes : List ℕ) (i d : ℕ) → i < length bytes → MovedOn a b h l (take i bytes)
    → AppendsPrefix b c (l ++ get_or bytes i d ∷ []) → AppendsPrefix a c (h ++ bytes)
cut_byte a b c h l bytes i d below w cut =
    let more = take (i + 1) bytes in
    let first : AppendsPrefix a c (h ++ more) =
    subst (λ x. AppendsPrefix a c (h ++ x)) (sym (take_more bytes i d below)) (moved_cut a b c h l (take i bytes) (get_or bytes i d ∷ []) w cut) in
    subst (AppendsPrefix a c) (append_assoc h more (drop (i + 1) bytes) ∙ ap (λ x. h ++ x) (take-append-drop (i + 1) bytes))
    (prefix_longer a c (h ++ more) (drop (i + 1) bytes) first)
