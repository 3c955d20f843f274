-- The numbers that a call stores have 64 bits where its words do.
use Rattle.std.proofs.Common.{◌<◌, ◌^◌, ◌==◌}
use Rattle.std.proofs.lemmas.Bool.{cond_both}
use Rattle.nk_bits.specs.declared.call.CallWords.{CallWords}
use Rattle.nk_body.specs.Calls.{call_of}
use Rattle.nk_body.specs.CallLeft.{IsWide}

pub wide_of : (words : CallWords) → words.a < 2 ^ 64 → words.c < 2 ^ 64 → IsWide (call_of words)
unfolding call_of
wide_of words first third =
    cond_both (words.number == 1) _ _ IsWide (λ is. first) (λ other.
    cond_both (words.number == 2) _ _ IsWide (λ is. tt) (λ other.
    cond_both (words.number == 3) _ _ IsWide (λ is. third) (λ other.
    cond_both (words.number == 4) _ _ IsWide (λ is. tt) (λ other.
    cond_both (words.number == 5) _ _ IsWide (λ is. tt) (λ other.
    cond_both (words.number == 6) _ _ IsWide (λ is. tt) (λ other.
    cond_both (words.number == 7) _ _ IsWide (λ is. tt) (λ other.
    cond_both (words.number == 8) _ _ IsWide (λ is. tt) (λ other.
    cond_both (words.number == 9) _ _ IsWide (λ is. tt) (λ other. tt)))))))))
