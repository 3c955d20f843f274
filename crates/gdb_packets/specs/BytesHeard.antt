-- What is heard of a source byte by byte, where it tells what is left.
use Rattle.std.specs.Prelude.{◌≡◌, ◌<◌, ◌≤◌, ⊤, ℕ, Bool, true, false, List, [], ◌∷◌, ◌++◌, length, Option, Some, None, Result, IfErr, OnOk}
use Rattle.std.specs.Io.KnownBytes.{Consumes, IsAtEnd, prepend_known}
use Rattle.text_lines.specs.Numerals.{numeral}
use Rattle.nk_host.specs.FaultCounts.{RoseTo}
use Rattle.gdb_packets.specs.declared.heard.Heard.{Heard}
use Rattle.gdb_packets.specs.declared.heard.Heard.TheVariants.{End}
use Rattle.gdb_packets.specs.declared.heard.HearFault.{HearFault}
use Rattle.gdb_packets.specs.declared.heard.HearFault.TheVariants.{Source, NoMemory}
use Rattle.gdb_packets.specs.declared.listener.Listener.{Listener}
use Rattle.gdb_packets.specs.Packets.{IsHeard, IsWithout, heard_by, is_sum}

-- what is left in all: the bytes that wait, and then those of the source
abbrev pub left_of : {S : Type 0} → (S → Option (List ℕ)) → Listener S → Option (List ℕ)
left_of left it = prepend_known it.waiting.items (left it.source)

-- the count of the source's faults, and the source itself
abbrev pub listener_faults : {S : Type 0} → (S → ℕ) → Listener S → ℕ
listener_faults faults it = faults it.source

abbrev pub listener_source : {S : Type 0} → Listener S → S
listener_source it = it.source

-- bytes of a source were taken, of which each waits; there are none only at its end
pub record AreTaken (before after : Option (List ℕ)) (waiting : List ℕ) : Type 0 where
  pub taken : Consumes before after waiting
  pub end : waiting ≡ [] → IsAtEnd after

-- a byte was heard, or there is none
abbrev pub IsByteHeard : Option (List ℕ) → Option (List ℕ) → Option ℕ → Type 0
IsByteHeard before after None = Consumes before after [] × IsAtEnd after
IsByteHeard before after (Some byte) = Consumes before after (byte ∷ [])

-- bytes without one of that value were heard, and then that one, or the end
pub record IsHeardTo (mark : ℕ) (before after : Option (List ℕ)) (bytes : List ℕ) : Type 0 where
  pub lacks : IsWithout mark bytes
  pub heard : Consumes before after (bytes ++ mark ∷ [])

pub record IsAllHeard (mark : ℕ) (before after : Option (List ℕ)) (bytes : List ℕ) : Type 0 where
  pub lacks : IsWithout mark bytes
  pub heard : Consumes before after bytes
  pub end : IsAtEnd after

abbrev pub IsSought : ℕ → Option (List ℕ) → Option (List ℕ) → List ℕ → Bool → Type 0
IsSought mark before after bytes true = IsHeardTo mark before after bytes
IsSought mark before after bytes false = IsAllHeard mark before after bytes

-- bytes without one of that value were passed over, and then that one, or the end
pub record IsPassedOver (mark : ℕ) (before after : Option (List ℕ)) (found : Bool) : Type 0 where
  pub noise : List ℕ
  pub sought : IsSought mark before after noise found

-- two bytes were heard, or fewer and the end
pub record AreFewHeard (before after : Option (List ℕ)) : Type 0 where
  pub bytes : List ℕ
  pub few : length bytes < 2
  pub heard : Consumes before after bytes
  pub end : IsAtEnd after

abbrev pub IsPairHeard : Option (List ℕ) → Option (List ℕ) → Option (ℕ × ℕ) → Type 0
IsPairHeard before after None = AreFewHeard before after
IsPairHeard before after (Some pair) = Consumes before after (pair.0 ∷ pair.1 ∷ [])

-- what is heard behind a packet's first byte: a body, its end, and the two digits of its sum; or none is whole in what was
-- left
pub record IsPacketRest (bytes body : List ℕ) (high low : ℕ) (behind : List ℕ) : Type 0 where
  pub whole : bytes ≡ body ++ (0x23 ∷ high ∷ low ∷ behind)
  pub inside : IsWithout 0x23 body

pub record IsRestPacket (before after body : List ℕ) (heard : Heard) : Type 0 where
  pub high : ℕ
  pub low : ℕ
  pub rest : IsPacketRest before body high low after
  pub judged : heard ≡ heard_by (is_sum body (numeral 16 2 (high ∷ low ∷ [])))

pub record IsRestEnd (before after : List ℕ) : Type 0 where
  pub none : (body behind : List ℕ) (high low : ℕ) → IsPacketRest before body high low behind → ⊥
  pub all : after ≡ []

abbrev pub IsRestIn : List ℕ → List ℕ → List ℕ → Heard → Type 0
IsRestIn before after body End = IsRestEnd before after
IsRestIn before after body heard = IsRestPacket before after body heard

abbrev pub IsRestHeard : Option (List ℕ) → Option (List ℕ) → List ℕ → Heard → Type 0
IsRestHeard None after body heard = ⊤
IsRestHeard (Some before) None body heard = ⊥
IsRestHeard (Some before) (Some after) body heard = IsRestIn before after body heard

-- what was heard, where the source tells it
abbrev pub IsHeardBy : Option (List ℕ) → Option (List ℕ) → List ℕ → Heard → Type 0
IsHeardBy None after body heard = ⊤
IsHeardBy (Some before) None body heard = ⊥
IsHeardBy (Some before) (Some after) body heard = IsHeard before after body heard

-- a fault of the source raised its count, and want of memory did not
abbrev pub IsFaultBy : ℕ → ℕ → HearFault → Type 0
IsFaultBy before after (Source it) = RoseTo before after
IsFaultBy before after NoMemory = after ≡ before

pub record IsHearing {A : Type 0} (before after : ℕ) (result : Result A HearFault) : Type 0 where
  pub never_falls : before ≤ after
  pub failed : IfErr result (IsFaultBy before after)
  pub kept : OnOk result (after ≡ before)
