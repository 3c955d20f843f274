-- That these are bytes, as a test and as a rule.
use Rattle.std.proofs.Common.{◌≡◌, ℕ, ◌<◌, true, nat_lt, List}
use Rattle.std.specs.List.{list_all}
use Rattle.std.proofs.lemmas.Bool.{lt-ltb, ltb-true}
use Rattle.std.proofs.lemmas.List.Elements.{All-weaker}
use Rattle.std.proofs.lemmas.List.Sums.{AllPass-from_list_all, list_all-from_AllPass}
use Rattle.x86_decode.specs.Spelling.{AreBytes}

pub bytes_pass : (bytes : List ℕ) → AreBytes bytes → list_all (λ byte. nat_lt byte 256) bytes ≡ true
bytes_pass bytes are =
    list_all-from_AllPass (λ byte. nat_lt byte 256) bytes
    (All-weaker (λ b. b < 256) (λ b. nat_lt b 256 ≡ true) (λ b small. lt-ltb b 256 small) bytes are)

pub passed_are_bytes : (bytes : List ℕ) → list_all (λ byte. nat_lt byte 256) bytes ≡ true → AreBytes bytes
passed_are_bytes bytes pass =
    All-weaker (λ b. nat_lt b 256 ≡ true) (λ b. b < 256) (λ b h. ltb-true b 256 h) bytes
    (AllPass-from_list_all (λ byte. nat_lt byte 256) bytes pass)
