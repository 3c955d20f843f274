use Rattle.std.proofs.Common.{◌∙◌}
use Rattle.nk_body.proofs.OpeningBooks.{handler_seen, put_descriptors, put_regions, put_unseen}
use Rattle.nk_body.proofs.kernel.opened.Goals as goal

pub returns-clause-described : goal.returns-clause-described
returns-clause-described c =
    (put_descriptors c.args.frames c.start-regions.result c.start-log.result c.args.mem.now c.start-regions.new.mem c.start-log.new.mem c.requires.held
    c.start-regions.ensures.held c.start-log.ensures.held c.start-regions.ensures.elsewhere c.start-log.ensures.elsewhere c.stored_law.ensures).0

pub returns-clause-seen : goal.returns-clause-seen
returns-clause-seen c =
    put_unseen c.args.frames c.start-regions.result c.start-log.result c.args.mem.now c.start-regions.new.mem c.start-log.new.mem c.requires.held
    c.start-regions.ensures.held c.start-log.ensures.held c.start-regions.ensures.elsewhere c.start-log.ensures.elsewhere
    c.held_regions_law.ensures c.held_log_law.ensures

pub returns-clause-trap : goal.returns-clause-trap
returns-clause-trap c = c.load64.ensures ∙ handler_seen c.start-log.new.mem c.mask_law.ensures.number_seen

pub returns-clause-form : goal.returns-clause-form
returns-clause-form c =
    record {
      stored = (put_descriptors c.args.frames c.start-regions.result c.start-log.result c.args.mem.now c.start-regions.new.mem c.start-log.new.mem
          c.requires.held c.start-regions.ensures.held c.start-log.ensures.held c.start-regions.ensures.elsewhere c.start-log.ensures.elsewhere
          c.stored_law.ensures).1;
      regions = (put_regions c.args.frames c.start-regions.result c.start-log.result c.args.mem.now c.start-regions.new.mem c.start-log.new.mem
          c.requires.held c.start-regions.ensures.held c.start-log.ensures.held c.start-regions.ensures.elsewhere c.start-log.ensures.elsewhere c.held_regions_law.ensures).1;
      log = c.start-log.ensures.held;
    }
