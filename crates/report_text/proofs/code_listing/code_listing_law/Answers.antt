use Rattle.report_text.proofs.ListingProofs.{listing_only, listing_right}
use Rattle.report_text.proofs.code_listing.code_listing_law.Goals as goal

pub returns : goal.returns
returns c = record {
  right = λ b at count bytes. listing_right b bytes c.decoding_law.ensures at count;
  only = λ b at count text bytes is. listing_only b bytes c.decoding_law.ensures at count text is;
}
