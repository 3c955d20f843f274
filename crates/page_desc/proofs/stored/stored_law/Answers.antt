use Rattle.page_desc.proofs.DescriptorValues.{descriptor_count}
use Rattle.page_desc.proofs.DescriptorsKept.{change_unseen, descriptors_held, descriptors_same, others_stay}
use Rattle.page_desc.proofs.stored.stored_law.Goals as goal

pub returns : goal.returns
returns c = record {
  count = descriptor_count;
  agree = λ frames m n held size same. (descriptors_same frames m n held size same, descriptors_held frames m n held size same);
  unseen = λ frames m n held differs. change_unseen c.mask_law.ensures.alike m n differs;
  others = others_stay;
}
