-- A packet's bytes, one part behind another: each taken up, or cut by a fault.
use Rattle.std.proofs.Common.{◌≡◌, ℕ, ◌+◌, ◌%◌, ◌<◌, ◌≤◌, List, [], ◌∷◌, ◌++◌, length, get_or, take, drop, Option, Result, Ok, Err, OnOk, Bool, true, false, if◌then◌else◌, sym, ap, ◌∙◌, subst, refl, append_assoc, append-nil, take-append-drop, arith}
use Rattle.std.proofs.lemmas.List.{take_all, take_more}
use Rattle.std.proofs.lemmas.List.Sums.{fold-append}
use Rattle.std.specs.Io.KnownBytes.{Appends}
use Rattle.nk_host.specs.PiecesOut.{MovedOn}
use Rattle.nk_host.specs.PieceLaws.{PiecesLaws}
use Rattle.nk_host.specs.Taken.{AppendsPrefix}
use Rattle.nk_host.specs.TextPuts.{IsTextPut}
use Rattle.hex.specs.Hex.{encode_lower}
use Rattle.gdb_packets.specs.Packets.{escaped, is_marked, packet_of, body_sum, with_bit_5_turned}
use Rattle.gdb_packets.specs.Sendings.{IsTakenUp, sum_behind}

-- one body is sent behind another
by_mark : (marked : Bool) (byte : ℕ) (x y : List ℕ)
    → (if marked then 0x7D ∷ with_bit_5_turned byte ∷ (x ++ y) else byte ∷ (x ++ y))
    ≡ (if marked then 0x7D ∷ with_bit_5_turned byte ∷ x else byte ∷ x) ++ y
by_mark true byte x y = refl
by_mark false byte x y = refl

pub escaped-append : (a b : List ℕ) → escaped (a ++ b) ≡ escaped a ++ escaped b
unfolding escaped
escaped-append [] b = refl
escaped-append (byte ∷ a) b =
    ap (λ (l : List ℕ). if is_marked byte then 0x7D ∷ with_bit_5_turned byte ∷ l else byte ∷ l) (escaped-append a b)
    ∙ by_mark (is_marked byte) byte (escaped a) (escaped b)

-- and a byte more of a body
pub sent_more : (body : List ℕ) (i d : ℕ) → i < length body
    → escaped (take (i + 1) body) ≡ escaped (take i body) ++ escaped (get_or body i d ∷ [])
sent_more body i d below = ap escaped (take_more body i d below) ∙ escaped-append (take i body) (get_or body i d ∷ [])

pub no_sum : 0 ≡ body_sum (escaped [])
unfolding escaped
no_sum = refl

-- its sum with the byte
pub sum_more : (body : List ℕ) (i d sum more : ℕ) → i < length body → sum ≡ body_sum (escaped (take i body))
    → more ≡ sum_behind sum (escaped (get_or body i d ∷ [])) → more ≡ body_sum (escaped (take (i + 1) body))
sum_more body i d sum more below is step =
    step ∙ ap (λ (s : ℕ). sum_behind s (escaped (get_or body i d ∷ []))) is
    ∙ sym (fold-append (λ total byte. (total + byte) % 256) 0 (escaped (take i body)) (escaped (get_or body i d ∷ [])))
    ∙ ap body_sum (sym (sent_more body i d below))

-- what is sent of a packet behind its first byte
abbrev pub rest_of : List ℕ → List ℕ
rest_of body = escaped body ++ (0x23 ∷ encode_lower (body_sum (escaped body) ∷ []))

module _ (laws : PiecesLaws) where
  -- a body as it is sent: none of it, a byte more, and all of it
  pub none_sent : (a : Option (List ℕ)) (held : List ℕ) → MovedOn a a held held (escaped [])
  unfolding escaped
  none_sent a held = laws.moved_none a held

  pub byte_sent : (a b c : Option (List ℕ)) (held waits later body : List ℕ) (i d : ℕ) → i < length body
      → MovedOn a b held waits (escaped (take i body)) → MovedOn b c waits later (escaped (get_or body i d ∷ []))
      → MovedOn a c held later (escaped (take (i + 1) body))
  byte_sent a b c held waits later body i d below first next =
      subst (MovedOn a c held later) (sym (sent_more body i d below))
      (laws.moved_on a b c held waits later (escaped (take i body)) (escaped (get_or body i d ∷ [])) first next)

  pub all_sent : (a b : Option (List ℕ)) (held later body : List ℕ) (i : ℕ) → length body ≤ i
      → MovedOn a b held later (escaped (take i body)) → MovedOn a b held later (escaped body)
  all_sent a b held later body i past first =
      subst (λ (l : List ℕ). MovedOn a b held later (escaped l)) (take_all i body past) first

module _ (laws : PiecesLaws) {O A E : Type 0} (taken : O → Option (List ℕ)) (faults : O → ℕ) where
  -- a fault cuts the first part, and so the whole
  pub cut_first : (old new : O) (held later x y : List ℕ) (fault : E)
      → IsTakenUp {A = A} taken faults old new held later x (Err fault)
      → IsTakenUp {A = A} taken faults old new held later (x ++ y) (Err fault)
  cut_first old new held later x y fault it = record {
    never_falls = it.never_falls;
    failed = it.failed;
    moved = tt;
    cut =
        subst (AppendsPrefix (taken old) (taken new)) (append_assoc held x y)
        (laws.prefix_longer (taken old) (taken new) (held ++ x) y it.cut);
  }

  -- the first part was taken up, and then the second one, or a fault cut it
  pub both_parts : (old mid new : O) (held waits later x y : List ℕ) (r : Result A E)
      → MovedOn (taken old) (taken mid) held waits x → faults old ≤ faults mid
      → IsTakenUp taken faults mid new waits later y r → IsTakenUp taken faults old new held later (x ++ y) r
  both_parts old mid new held waits later x y (Ok a) first low next = record {
    never_falls = omega (arith, low, next.never_falls);
    failed = tt;
    moved = laws.moved_on (taken old) (taken mid) (taken new) held waits later x y first next.moved;
    cut = tt;
  }
  both_parts old mid new held waits later x y (Err e) first low next = record {
    never_falls = omega (arith, low, next.never_falls);
    failed = omega (arith, low, next.failed);
    moved = tt;
    cut = laws.moved_cut (taken old) (taken mid) (taken new) held waits x y first next.cut;
  }

  -- a fault cuts a body
  pub body_cut : (old mid new : O) (held waits later body : List ℕ) (i d : ℕ) (fault : E) → i < length body
      → MovedOn (taken old) (taken mid) held waits (escaped (take i body)) → faults old ≤ faults mid
      → IsTakenUp {A = A} taken faults mid new waits later (escaped (get_or body i d ∷ [])) (Err fault)
      → IsTakenUp {A = A} taken faults old new held later (escaped body) (Err fault)
  body_cut old mid new held waits later body i d fault below first low next =
      let front = escaped (take i body) in
      let byte = escaped (get_or body i d ∷ []) in
      let text : (front ++ byte) ++ escaped (drop (i + 1) body) ≡ escaped body =
      ap (λ l. l ++ escaped (drop (i + 1) body)) (sym (sent_more body i d below))
      ∙ sym (escaped-append (take (i + 1) body) (drop (i + 1) body)) ∙ ap escaped (take-append-drop (i + 1) body) in
      subst (λ l. IsTakenUp {A = A} taken faults old new held later l (Err fault)) text
      (cut_first old new held later (front ++ byte) (escaped (drop (i + 1) body)) fault
      (both_parts old mid new held waits later front byte (Err fault) first low next))

  -- where none waited before: all went out at the end, or a fault cut it
  pub went_out : (old mid new : O) (waits left text : List ℕ) (r : Result A E)
      → MovedOn (taken old) (taken mid) [] waits text → faults old ≤ faults mid
      → IsTakenUp taken faults mid new waits left [] r → OnOk r (left ≡ []) → IsTextPut taken faults old new text r
  went_out old mid new waits left text (Ok a) first low last none =
      let moved : MovedOn (taken old) (taken new) [] [] (text ++ []) =
      subst (λ l. MovedOn (taken old) (taken new) [] l (text ++ [])) none
      (laws.moved_on (taken old) (taken mid) (taken new) [] waits left text [] first last.moved) in
      record {
        never_falls = omega (arith, low, last.never_falls);
        failed = tt;
        all =
            subst (Appends (taken old) (taken new)) (append-nil text)
            (laws.moved_all (taken old) (taken new) [] (text ++ []) moved);
        some = tt;
      }
  went_out old mid new waits left text (Err e) first low last none = record {
    never_falls = omega (arith, low, last.never_falls);
    failed = omega (arith, low, last.failed);
    all = tt;
    some =
        subst (AppendsPrefix (taken old) (taken new)) (append-nil text)
        (laws.moved_cut (taken old) (taken mid) (taken new) [] waits text [] first last.cut);
  }

  pub text_cut : (old new : O) (later text : List ℕ) (fault : E)
      → IsTakenUp {A = A} taken faults old new [] later text (Err fault) → IsTextPut {A = A} taken faults old new text (Err fault)
  text_cut old new later text fault it =
      record { never_falls = it.never_falls; failed = it.failed; all = tt; some = it.cut }

  -- a packet's first byte, and what is behind it
  pub packet_taken : (old mid new : O) (held waits later body : List ℕ) (r : Result A E)
      → MovedOn (taken old) (taken mid) held waits (0x24 ∷ []) → faults old ≤ faults mid
      → IsTakenUp taken faults mid new waits later (rest_of body) r
      → IsTakenUp taken faults old new held later (packet_of body) r
  unfolding packet_of
  packet_taken old mid new held waits later body r first low next =
      both_parts old mid new held waits later (0x24 ∷ []) (rest_of body) r first low next

  pub packet_cut : (old new : O) (held later body : List ℕ) (fault : E)
      → IsTakenUp {A = A} taken faults old new held later (0x24 ∷ []) (Err fault)
      → IsTakenUp {A = A} taken faults old new held later (packet_of body) (Err fault)
  unfolding packet_of
  packet_cut old new held later body fault it = cut_first old new held later (0x24 ∷ []) (rest_of body) fault it
