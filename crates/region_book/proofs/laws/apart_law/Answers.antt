use Rattle.region_book.proofs.BytePlaces.{listed_region, one_region, others_stay, two_regions}
use Rattle.region_book.proofs.laws.apart_law.Goals as goal

pub returns : goal.returns
returns c = record {
  within = λ book id a b r sound found. one_region book sound id r found a b;
  between = λ book id other a b r q sound differ found q_found. two_regions book sound id other r q differ found q_found a b;
  stays = λ book id other offset b r q m bytes sound differ found q_found.
      others_stay book sound id other r q differ found q_found c.memory_law.ensures.byte_elsewhere m bytes offset b;
  listed = λ book k d sound below. listed_region book sound k d below;
}
