use Rattle.phys_mem.proofs.EntryPlaces.{entry_elsewhere, entry_stored, entry_apart, entry_bound, stores_in_frame}
use Rattle.phys_mem.proofs.FrameBytes.{entry_zeroed, entry_zeroed_elsewhere, frame_elsewhere, frame_zeroed_elsewhere, length-frame_zeroed, zeroed_byte, zeroed_byte_elsewhere}
use Rattle.phys_mem.proofs.laws.frame_law.Goals as goal

pub returns : goal.returns
returns c = record {
  entry_elsewhere = entry_elsewhere;
  entry_stored = entry_stored;
  entry_apart = entry_apart;
  entry_bound = entry_bound;
  entry_zeroed = entry_zeroed;
  entry_zeroed_elsewhere = entry_zeroed_elsewhere;
  byte_zeroed = zeroed_byte;
  byte_zeroed_elsewhere = zeroed_byte_elsewhere;
  length_zeroed = length-frame_zeroed;
  frame_elsewhere = frame_elsewhere;
  frame_zeroed_elsewhere = frame_zeroed_elsewhere;
  within_frame = stores_in_frame;
}
