use Rattle.phys_mem.proofs.MaskedBytes.{length-masked, byte_hidden, byte_seen, number_seen, entry_seen, entry_hidden, frame_seen, stored_seen, stored_hidden, zeroed_seen, masked_bytes, mask_unhidden, masks_alike}
use Rattle.phys_mem.proofs.laws.mask_law.Goals as goal

pub returns : goal.returns
returns c = record {
  length = length-masked;
  byte_hidden = byte_hidden;
  byte_seen = byte_seen;
  number_seen = number_seen;
  entry_seen = entry_seen;
  entry_hidden = entry_hidden;
  frame_seen = frame_seen;
  stored_seen = stored_seen;
  stored_hidden = stored_hidden;
  zeroed_seen = zeroed_seen;
  bytes = masked_bytes;
  unhidden = mask_unhidden;
  alike = masks_alike;
}
