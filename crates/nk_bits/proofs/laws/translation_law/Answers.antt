use Rattle.nk_bits.proofs.KeptLaws.{kept_within, look_within}
use Rattle.nk_bits.proofs.TranslationLaws.{look_dropped, look_dropped_other, look_filled}
use Rattle.nk_bits.proofs.laws.translation_law.Goals as goal

pub returns : goal.returns
returns c = record {
  dropped = look_dropped;
  dropped_other = look_dropped_other;
  filled = look_filled;
  look_within = look_within;
  kept_within = kept_within;
}
