use Rattle.gdb_packets.proofs.SentBack.{heard_back, no_end, no_start, one_packet, sent}
use Rattle.gdb_packets.proofs.laws.packet_law.Goals as goal

pub returns : goal.returns
returns c = record { no_end = no_end; no_start = no_start; sent = sent; once = one_packet; heard = heard_back }
