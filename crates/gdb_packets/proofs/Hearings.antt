-- A text is cut at the first byte of a value in one way, so that the packet that was heard is the first one.
use Rattle.std.proofs.Common.{◌≡◌, ◌<◌, ℕ, ◌==◌, Bool, true, false, List, [], ◌∷◌, ◌++◌, length, slice_index_or, drop, Option, Some, None, refl, sym, ap, subst, ◌∙◌, arith, eq-eqb, true≢false, append_assoc, append-nil, ap₂, IfOk, Result, Ok, Err}
use Rattle.std.proofs.lemmas.List.Elements.{All-head, All-nil, All-push, All-tail}
use Rattle.std.proofs.KnownBytes.{Consumes-nil, Consumes-trans}
use Rattle.std.specs.Io.KnownBytes.{Consumes}
use Rattle.text_lines.specs.Numerals.{numeral}
use Rattle.gdb_packets.specs.declared.heard.Heard.{Heard}
use Rattle.gdb_packets.specs.declared.heard.HearFault.{HearFault}
use Rattle.gdb_packets.specs.declared.heard.Heard.TheVariants.{Body, Damaged, End}
use Rattle.gdb_packets.specs.BytesHeard.{AreFewHeard, IsAllHeard, IsHeardBy, IsHeardTo, IsRestEnd, IsRestHeard, IsPairHeard, IsRestIn, IsRestPacket, IsSought}
use Rattle.gdb_packets.specs.Packets.{IsEnd, IsHeard, IsPacketHeard, IsWithout, heard_by, is_sum}

module _ (mark : ℕ) where
  abbrev Differs : ℕ → Type 0
  Differs c = (c == mark) ≡ false

  itself : Differs mark → ⊥
  itself differs = true≢false (sym (eq-eqb mark mark refl) ∙ differs)

  -- the first bytes of equal lists, and what is behind them
  heads : (c d : ℕ) (x y : List ℕ) → c ∷ x ≡ d ∷ y → c ≡ d
  heads c d x y same = ap (λ (l : List ℕ). slice_index_or l 0 0) same

  tails : (c d : ℕ) (x y : List ℕ) → c ∷ x ≡ d ∷ y → x ≡ y
  tails c d x y same = ap (λ (l : List ℕ). drop 1 l) same

  pub cut_once : (a b x y : List ℕ) → IsWithout mark a → IsWithout mark b → a ++ (mark ∷ x) ≡ b ++ (mark ∷ y)
      → (a ≡ b) × (x ≡ y)
  cut_once [] [] x y one other same = (refl, tails mark mark x y same)
  cut_once [] (d ∷ b) x y one other same =
      absurd (itself (subst Differs (sym (heads mark d x (b ++ (mark ∷ y)) same)) (All-head Differs d b other)))
  cut_once (c ∷ a) [] x y one other same =
      absurd (itself (subst Differs (heads c mark (a ++ (mark ∷ x)) y same) (All-head Differs c a one)))
  cut_once (c ∷ a) (d ∷ b) x y one other same =
      let later = cut_once a b x y (All-tail Differs c a one) (All-tail Differs d b other)
      (tails c d (a ++ (mark ∷ x)) (b ++ (mark ∷ y)) same) in
      (ap₂ (λ e l. e ∷ l) (heads c d (a ++ (mark ∷ x)) (b ++ (mark ∷ y)) same) later.0, later.1)

  -- what lacks a byte isn't cut at it
  pub cut_nowhere : (a x : List ℕ) → IsWithout mark (a ++ (mark ∷ x)) → ⊥
  cut_nowhere [] x lacks = itself (All-head Differs mark x lacks)
  cut_nowhere (c ∷ a) x lacks = cut_nowhere a x (All-tail Differs c (a ++ (mark ∷ x)) lacks)

-- behind a packet's first byte: no end of a body, or fewer than two bytes behind it
pub rest_without : (before after : Option (List ℕ)) (bytes body : List ℕ) → IsAllHeard 0x23 before after bytes
    → IsRestHeard before after body End
rest_without None after bytes body all = tt
rest_without (Some before) None bytes body all = all.heard
rest_without (Some before) (Some after) bytes body all = record {
  none = λ found behind high low rest.
      cut_nowhere 0x23 found (high ∷ low ∷ behind)
      (subst (IsWithout 0x23) (sym (all.heard ∙ ap (λ l. bytes ++ l) all.end ∙ append-nil bytes) ∙ rest.whole) all.lacks);
  all = all.end;
}

-- consumed in two parts
split : (bytes later before middle after : List ℕ) → before ≡ bytes ++ middle → middle ≡ later ++ after
    → before ≡ bytes ++ (later ++ after)
split bytes later before middle after one two = one ∙ ap (λ l. bytes ++ l) two

ends_behind : (body later : List ℕ) → (body ++ (0x23 ∷ [])) ++ later ≡ body ++ (0x23 ∷ later)
ends_behind body later = append_assoc body (0x23 ∷ []) later

too_few : (bytes found behind : List ℕ) (high low : ℕ) → length bytes < 2 → bytes ≡ high ∷ low ∷ behind → ⊥
too_few bytes found behind high low few is = omega (arith, few, ap length is)

pub rest_short : (before middle after : Option (List ℕ)) (body : List ℕ) → IsHeardTo 0x23 before middle body
    → AreFewHeard middle after → IsRestHeard before after body End
rest_short None middle after body to few = tt
rest_short (Some before) None after body to few = absurd to.heard
rest_short (Some before) (Some middle) None body to few = few.heard
rest_short (Some before) (Some middle) (Some after) body to few =
    let left : middle ≡ few.bytes = few.heard ∙ ap (λ l. few.bytes ++ l) few.end ∙ append-nil few.bytes in
    record {
      none = λ found behind high low rest.
          too_few few.bytes found behind high low few.few
          (sym left ∙ (cut_once 0x23 body found middle (high ∷ low ∷ behind) to.lacks rest.inside
          (sym (to.heard ∙ ends_behind body middle) ∙ rest.whole)).1);
      all = few.end;
    }

abbrev ends : Heard → Bool
ends Body = false
ends Damaged = false
ends End = true

judged_in : (before after body : List ℕ) (heard : Heard) (b : Bool) → heard ≡ heard_by b
    → IsRestPacket before after body heard → IsRestIn before after body heard
judged_in before after body Body b is packet = packet
judged_in before after body Damaged b is packet = packet
judged_in before after body End true is packet = absurd (true≢false (ap ends is))
judged_in before after body End false is packet = absurd (true≢false (ap ends is))

pub rest_heard : (before middle after : Option (List ℕ)) (body : List ℕ) (high low : ℕ) (heard : Heard)
    → IsHeardTo 0x23 before middle body → Consumes middle after (high ∷ low ∷ [])
    → heard ≡ heard_by (is_sum body (numeral 16 2 (high ∷ low ∷ []))) → IsRestHeard before after body heard
rest_heard None middle after body high low heard to pair is = tt
rest_heard (Some before) None after body high low heard to pair is = absurd to.heard
rest_heard (Some before) (Some middle) None body high low heard to pair is = pair
rest_heard (Some before) (Some middle) (Some after) body high low heard to pair is =
    judged_in before after body heard (is_sum body (numeral 16 2 (high ∷ low ∷ []))) is (record {
      high = high;
      low = low;
      rest = record {
        whole = to.heard ∙ ends_behind body middle ∙ ap (λ l. body ++ (0x23 ∷ l)) pair;
        inside = to.lacks;
      };
      judged = is;
    })

-- and with the first byte before it
starts_behind : (noise later : List ℕ) → (noise ++ (0x24 ∷ [])) ++ later ≡ noise ++ (0x24 ∷ later)
starts_behind noise later = append_assoc noise (0x24 ∷ []) later

whole_packet : (before middle after noise body : List ℕ) (heard : Heard) → before ≡ (noise ++ (0x24 ∷ [])) ++ middle
    → IsWithout 0x24 noise → IsRestPacket middle after body heard → IsPacketHeard before after body heard
whole_packet before middle after noise body heard begins lacks packet = record {
  high = packet.high;
  low = packet.low;
  first = record {
    noise = noise;
    whole = begins ∙ starts_behind noise middle ∙ ap (λ l. noise ++ (0x24 ∷ l)) packet.rest.whole;
    outside = lacks;
    inside = packet.rest.inside;
  };
  judged = packet.judged;
}

whole_end : (before middle after noise : List ℕ) → before ≡ (noise ++ (0x24 ∷ [])) ++ middle → IsWithout 0x24 noise
    → IsRestEnd middle after → IsEnd before after
whole_end before middle after noise begins lacks end = record {
  none = λ body behind high low first.
      end.none body behind high low (record {
        whole = (cut_once 0x24 noise first.noise middle (body ++ (0x23 ∷ high ∷ low ∷ behind)) lacks first.outside
            (sym (begins ∙ starts_behind noise middle) ∙ first.whole)).1;
        inside = first.inside;
      });
  all = end.all;
}

whole_in : (before middle after noise body : List ℕ) (heard : Heard) → before ≡ (noise ++ (0x24 ∷ [])) ++ middle
    → IsWithout 0x24 noise → IsRestIn middle after body heard → IsHeard before after body heard
whole_in before middle after noise body Body begins lacks rest = whole_packet before middle after noise body Body begins lacks rest
whole_in before middle after noise body Damaged begins lacks rest =
    whole_packet before middle after noise body Damaged begins lacks rest
whole_in before middle after noise body End begins lacks rest = whole_end before middle after noise begins lacks rest

pub all_heard : (before middle after : Option (List ℕ)) (noise body : List ℕ) (heard : Heard)
    → IsHeardTo 0x24 before middle noise → IsRestHeard middle after body heard → IsHeardBy before after body heard
all_heard None middle after noise body heard to rest = tt
all_heard (Some before) None after noise body heard to rest = absurd to.heard
all_heard (Some before) (Some middle) None noise body heard to rest = rest
all_heard (Some before) (Some middle) (Some after) noise body heard to rest =
    whole_in before middle after noise body heard to.heard to.lacks rest

pub none_heard : (before after : Option (List ℕ)) (noise body : List ℕ) → IsAllHeard 0x24 before after noise
    → IsHeardBy before after body End
none_heard None after noise body all = tt
none_heard (Some before) None noise body all = all.heard
none_heard (Some before) (Some after) noise body all = record {
  none = λ found behind high low first.
      cut_nowhere 0x24 first.noise (found ++ (0x23 ∷ high ∷ low ∷ behind))
      (subst (IsWithout 0x24) (sym (all.heard ∙ ap (λ l. noise ++ l) all.end ∙ append-nil noise) ∙ first.whole) all.lacks);
  all = all.end;
}

-- by what was found
pub sought_to : (mark : ℕ) (before after : Option (List ℕ)) (bytes : List ℕ) (found : Bool) → found ≡ true
    → IsSought mark before after bytes found → IsHeardTo mark before after bytes
sought_to mark before after bytes found is sought = subst (IsSought mark before after bytes) is sought

pub sought_all : (mark : ℕ) (before after : Option (List ℕ)) (bytes : List ℕ) (found : Bool) → found ≡ false
    → IsSought mark before after bytes found → IsAllHeard mark before after bytes
sought_all mark before after bytes found is sought = subst (IsSought mark before after bytes) is sought

pub pair_some : (before after : Option (List ℕ)) (pair : Option (ℕ × ℕ)) (high low : ℕ) → pair ≡ Some (high, low)
    → IsPairHeard before after pair → Consumes before after (high ∷ low ∷ [])
pair_some before after pair high low is heard = subst (IsPairHeard before after) is heard

pub pair_none : (before after : Option (List ℕ)) (pair : Option (ℕ × ℕ)) → pair ≡ None → IsPairHeard before after pair
    → AreFewHeard before after
pair_none before after pair is heard = subst (IsPairHeard before after) is heard

pub ok_all : (result : Result Heard HearFault) (P Q : Heard → Type 0) → ((heard : Heard) → P heard → Q heard)
    → IfOk result P → IfOk result Q
ok_all (Ok heard) P Q all holds = all heard holds
ok_all (Err fault) P Q all holds = tt

-- bytes were passed over that have none of that value: none at first, and one more
pub record ArePassed (mark : ℕ) (before after : Option (List ℕ)) : Type 0 where
  pub noise : List ℕ
  pub lacks : IsWithout mark noise
  pub heard : Consumes before after noise

pub none_passed : (mark : ℕ) (before : Option (List ℕ)) → ArePassed mark before before
none_passed mark before =
    record { noise = []; lacks = All-nil (λ c. (c == mark) ≡ false); heard = Consumes-nil before }

pub more_passed : (mark byte : ℕ) (before middle after : Option (List ℕ)) → ArePassed mark before middle
    → Consumes middle after (byte ∷ []) → (byte == mark) ≡ false → ArePassed mark before after
more_passed mark byte before middle after it next other = record {
  noise = it.noise ++ (byte ∷ []);
  lacks = All-push (λ c. (c == mark) ≡ false) it.noise byte it.lacks other;
  heard = Consumes-trans before middle after it.noise (byte ∷ []) it.heard next;
}
