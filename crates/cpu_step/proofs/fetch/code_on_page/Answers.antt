use Rattle.std.proofs.Common.{◌<◌, ◌^◌, arith, sym, ◌∙◌}
use Rattle.nk_bits.specs.Accesses.{View}
use Rattle.page_walk.specs.MemoryAccess.{view_of}
use Rattle.cpu_step.proofs.LongerCode.{DecodingFacts}
use Rattle.cpu_step.proofs.PageFetches.{PageFacts}
use Rattle.cpu_step.proofs.LentPages.{before_the_end, decides_alone, refused_first}
use Rattle.cpu_step.proofs.fetch.code_on_page.Goals as goal

pub answer_of-requires : goal.answer_of-requires
answer_of-requires c = record { length = c.in-Ok.ensures.length ∙ before_the_end c.args.regs.now.rip c.requires.page }

pub returns-in-Ok : goal.returns-in-Ok
returns-in-Ok c =
    let view : View = view_of c.args.mem.now c.args.control.now c.args.regs.now.cpl in
    let fits : c.args.regs.now.rip < 2 ^ 64 = omega arith in
    let pages : PageFacts = record { held = c.access_law.ensures.held; found_again = c.access_law.ensures.found_again } in
    let decodings : DecodingFacts = record { right = c.decoding_law.ensures.right; only = c.decoding_law.ensures.only } in
    record {
      answer = record {
        decided =
            decides_alone pages decodings c.args.mem.now c.bytes_law.ensures view c.args.regs.now.rip fits c.args.tlb.now c.bytes_at.new.tlb c.in-Ok.bytes.now c.answer_of.result.now
            c.in-Ok.ensures.found c.in-Ok.ensures.length (c.in-Ok.ensures.length ∙ before_the_end c.args.regs.now.rip c.requires.page) c.answer_of.ensures.decoded;
        formed = c.answer_of.ensures.formed;
      };
      fault = tt;
      frames = c.in-Ok.ensures.frames;
    }

pub returns-in-Err : goal.returns-in-Err
returns-in-Err c =
    let view : View = view_of c.args.mem.now c.args.control.now c.args.regs.now.cpl in
    let fits : c.args.regs.now.rip < 2 ^ 64 = omega arith in
    record {
      answer = tt;
      fault = sym (refused_first c.args.mem.now view c.args.regs.now.rip c.args.tlb.now c.bytes_at.new.tlb c.in-Err.fault fits c.in-Err.ensures.refused);
      frames = c.in-Err.ensures.frames;
    }
