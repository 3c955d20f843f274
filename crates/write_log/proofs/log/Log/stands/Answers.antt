use Rattle.std.proofs.Common.{◌≡◌, ◌≤◌, Some, add-one, arith, sym, ap, ◌∙◌}
use Rattle.write_log.specs.LogBytes.{end_of, record_at, record_place}
use Rattle.write_log.proofs.HeldLogs.{ends_before}
use Rattle.write_log.proofs.LogWalk.{end_more, record_length, record_of}
use Rattle.write_log.proofs.log.Log.stands.Goals as goal

pub returns : goal.returns
returns c =
    let place : end_of c.args.mem.now c.args.spot.place ≡ end_of c.args.mem.now (record_place c.args.mem.now c.args.i) = ap (end_of c.args.mem.now) c.requires.spot in
    let within : end_of c.args.mem.now c.args.spot.place ≤ 0x2A000 =
    omega (arith, place, ends_before c.args.self.now c.args.mem.now c.requires.held c.args.i c.requires.number, c.requires.held.used) in
    record {
      within = within;
      size = c.requires.held.size;
      next = ap (record_place c.args.mem.now) (add-one c.args.i) ∙ end_more c.args.mem.now 0x1A000 c.args.i ∙ sym place;
      entry = record_of c.args.mem.now 0x1A000 c.args.i c.args.self.now.records c.requires.number
          ∙ ap (λ p. Some (record_at c.args.mem.now p)) (sym c.requires.spot);
      count = record_length c.args.mem.now c.args.spot.place (omega (arith, within, c.requires.held.size));
    }
