use Rattle.std.proofs.Common.{rules, ◌-◌, ◌%◌, arith, get_or}
use Rattle.mem_access.proofs.KeptOff.{left_for_writes, pages_off}
use Rattle.mem_access.proofs.window.Window.keep_off.Goals as goal

pub returns-clause-window : goal.returns-clause-window
returns-clause-window c = λ size control cpl tlb is.
    let page = c.args.place - c.args.place % 4096 in record {
      read = is.read;
      write = λ i d less.
          left_for_writes c.args.self.now.off c.args.slot page (search rules) size control cpl tlb (get_or c.args.self.now.write i d) (get_or c.drop_pages.new.pages i d)
          (is.write i d (search (rules, less, c.drop_pages.ensures.length))) (c.drop_pages.ensures.pages i d (omega (arith, less, c.drop_pages.ensures.length)));
      off = pages_off c.args.self.now.off c.args.slot page (search rules) (omega arith) is.off;
    }
