use Rattle.std.proofs.Common.{◌≡◌, ℕ, ◌<◌, ◌≤◌, IfSome, length, get_or}
use Rattle.std.specs.Prelude.{slice_get, slice_index}
use Rattle.write_log.specs.LogBytes.{log_in}
use Rattle.report_text.proofs.two_states.read_bytes.Given as goal

abbrev pub invariant-loop-at : goal.invariant-loop-at
invariant-loop-at l =
    record {
      room : l.count ≤ length l.buffer;
      read : IfSome (slice_get (log_in l.log l.mem) l.i)
          (λ of. (k : ℕ) → k < l.at → get_or l.buffer k 0 ≡ slice_index of.bytes k);
    }
