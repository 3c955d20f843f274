use Rattle.std.proofs.Common.{length, arith, sym, ◌∙◌}
use Rattle.nk_bits.specs.Accesses.{View}
use Rattle.page_walk.specs.MemoryAccess.{view_of}
use Rattle.cpu_step.proofs.KeptBytes.{lent_kept}
use Rattle.cpu_step.proofs.LentPages.{before_the_end, decides_alone}
use Rattle.cpu_step.proofs.LongerCode.{DecodingFacts}
use Rattle.cpu_step.proofs.PageFetches.{PageFacts}
use Rattle.cpu_step.proofs.sole_turns.kept_answer.Goals as goal

pub run_on_page-requires-clause-page : goal.run_on_page-requires-clause-page
run_on_page-requires-clause-page c = omega (arith, c.in-Some.ensures.agrees, c.in-Some.ensures.page)

pub returns-in-Some : goal.returns-in-Some
returns-in-Some c =
    let m = c.args.mem.now in
    let rip = c.args.regs.now.rip in
    let view : View = view_of m c.args.control.now c.args.regs.now.cpl in
    let pages : PageFacts = record { held = c.access_law.ensures.held; found_again = c.access_law.ensures.found_again } in
    let decodings : DecodingFacts = record { right = c.decoding_law.ensures.right; only = c.decoding_law.ensures.only } in
    record {
      decided =
          decides_alone pages decodings m c.bytes_law.ensures view rip (omega arith) c.args.tlb.now c.args.tlb.now c.run_on_page.result.now c.answer_of.result.now
          (lent_kept (length m) m c.args.control.now c.args.regs.now.cpl c.args.tlb.now rip c.in-Some.place c.run_on_page.result.now c.in-Some.ensures c.run_on_page.ensures.bytes)
          (c.run_on_page.ensures.length ∙ sym (before_the_end rip (omega (arith, c.in-Some.ensures.page)))) c.run_on_page.ensures.length c.answer_of.ensures.decoded;
      formed = c.answer_of.ensures.formed;
    }
