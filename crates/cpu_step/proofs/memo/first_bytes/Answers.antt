use Rattle.std.proofs.Common.{◌≡◌, ℕ, List, [], ◌∷◌, get_or, ap, refl, ◌∙◌, w64}
use Rattle.std.specs.Int.{to_le_bytes}
use Rattle.cpu_step.specs.DecodingMemo.{bytes_of_words}
use Rattle.cpu_step.proofs.memo.first_bytes.Goals as goal

abbrev row : List ℕ → List ℕ → List ℕ
row a b =
    get_or a 0 0 ∷ (get_or a 1 0 ∷ (get_or a 2 0 ∷ (get_or a 3 0 ∷ (get_or a 4 0 ∷ (get_or a 5 0 ∷ (get_or a 6 0 ∷ (get_or a 7 0 ∷
    (get_or b 0 0 ∷ (get_or b 1 0 ∷ (get_or b 2 0 ∷ (get_or b 3 0 ∷ (get_or b 4 0 ∷ (get_or b 5 0 ∷ (get_or b 6 0 ∷ []))))))))))))))

row_of_words : (low high : ℕ) → row (to_le_bytes w64 low) (to_le_bytes w64 high) ≡ bytes_of_words low high
unfolding bytes_of_words
row_of_words low high = refl

pub returns : goal.returns
returns c = record {
  bytes = ap (λ (x : List ℕ × List ℕ). row x.0 x.1) (λ j. (c.to_le_bytes-a.ensures j, c.to_le_bytes-b.ensures j)) ∙ row_of_words c.args.low c.args.high;
}
