-- Bytes that go out piece by piece: those that went out, and the rest.
use Rattle.std.proofs.Common.{◌≡◌, ℕ, ◌+◌, ◌≤◌, Option, List, [], ◌++◌, length, take, drop, sym, ap, ◌∙◌, subst, refl, append_assoc, append-nil, take-append-drop, arith, length-append}
use Rattle.std.proofs.Math.Seq.{take-append-add}
use Rattle.std.proofs.lemmas.List.{take-append-le}
use Rattle.std.proofs.KnownBytes.{Appends-trans, Appends-nil}
use Rattle.std.specs.Io.KnownBytes.{Appends}
use Rattle.nk_host.specs.Taken.{AppendsPrefix}

-- the bytes that are done went out of all, and were appended to what was taken before
pub record WentOut (all rest : List ℕ) (before now : Option (List ℕ)) : Type 0 where
  pub done : List ℕ
  pub split : all ≡ done ++ rest
  pub appended : Appends before now done

-- at first none went out
pub none_out : (all : List ℕ) (taken : Option (List ℕ)) → WentOut all all taken taken
none_out all taken = record { done = []; split = refl; appended = Appends-nil taken }

-- a piece and what comes later are the rest that was cut in two
pub cut_in_two : (rest piece later : List ℕ) (n : ℕ) → piece ≡ take n rest → later ≡ drop n rest → rest ≡ piece ++ later
cut_in_two rest piece later n front back = sym (ap (λ l. l ++ later) front ∙ ap (λ l. take n rest ++ l) back ∙ take-append-drop n rest)

-- the first piece of the rest went out too
pub more_out : (all rest piece later : List ℕ) (before now after : Option (List ℕ))
    → WentOut all rest before now → rest ≡ piece ++ later → Appends now after piece → WentOut all later before after
more_out all rest piece later before now after w e a = record {
  done = w.done ++ piece;
  split = w.split ∙ ap (λ l. w.done ++ l) e ∙ sym (append_assoc w.done piece later);
  appended = Appends-trans before now after w.done piece w.appended a;
}

-- with no rest, all went out
pub all_out : (all rest : List ℕ) (before now : Option (List ℕ)) → WentOut all rest before now → rest ≡ [] → Appends before now all
all_out all rest before now w e =
    subst (Appends before now) (sym (w.split ∙ ap (λ l. w.done ++ l) e ∙ append-nil w.done)) w.appended

-- what is done and the first k bytes of the next piece are a prefix
prefix_joined : (all done piece later : List ℕ) (k : ℕ) → all ≡ done ++ (piece ++ later) → k ≤ length piece
    → done ++ take k piece ≡ take (length done + k) all
prefix_joined all done piece later k e short =
    sym (ap (take (length done + k)) e ∙ take-append-add done (piece ++ later) k ∙ ap (λ l. done ++ l) (take-append-le k piece later short))

prefix_short : (all done piece later : List ℕ) (k : ℕ) → all ≡ done ++ (piece ++ later) → k ≤ length piece → length done + k ≤ length all
prefix_short all done piece later k e short = omega (arith, ap length e, length-append done (piece ++ later), length-append piece later)

-- a prefix of the next piece is a prefix of all
pub prefix_out : (all rest piece later : List ℕ) (before now after : Option (List ℕ))
    → WentOut all rest before now → rest ≡ piece ++ later → AppendsPrefix now after piece → AppendsPrefix before after all
prefix_out all rest piece later before now after w e p =
    let (k, short, appended) = p in
    let whole = w.split ∙ ap (λ l. w.done ++ l) e in (
      length w.done + k,
      prefix_short all w.done piece later k whole short,
      subst (Appends before after) (prefix_joined all w.done piece later k whole short) (Appends-trans before now after w.done (take k piece) w.appended appended),
    )
