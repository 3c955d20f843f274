use Rattle.std.proofs.Common.{◌<◌, ◌^◌, arith, sym, ◌∙◌}
use Rattle.nk_bits.specs.Accesses.{View}
use Rattle.page_walk.specs.MemoryAccess.{view_of}
use Rattle.x86_decode.specs.declared.instruction.Decoded.TheVariants.{Whole, Short, TooLong, Unknown}
use Rattle.cpu_step.proofs.LongerCode.{DecodingFacts}
use Rattle.cpu_step.proofs.PageFetches.{PageFacts}
use Rattle.cpu_step.proofs.LentPages.{first_decides, left_bounds, refused_first}
use Rattle.cpu_step.proofs.fetch.fetch_by_pages.Goals as goal

pub returns-in-Err-clause-outcome : goal.returns-in-Err-clause-outcome
returns-in-Err-clause-outcome c =
    let view : View = view_of c.args.mem.now c.args.control.now c.args.regs.now.cpl in
    let fits : c.args.regs.now.rip < 2 ^ 64 = omega arith in
    sym (refused_first c.args.mem.now view c.args.regs.now.rip c.args.tlb.now c.bytes_at.new.tlb c.in-Err.fault fits c.in-Err.ensures.refused)

pub decode-requires : goal.decode-requires
decode-requires c = omega (arith, c.in-Ok.ensures.length, (left_bounds c.args.regs.now.rip).1)

pub returns-in-Whole-clause-outcome : goal.returns-in-Whole-clause-outcome
returns-in-Whole-clause-outcome c =
    let view : View = view_of c.args.mem.now c.args.control.now c.args.regs.now.cpl in
    let fits : c.args.regs.now.rip < 2 ^ 64 = omega arith in
    let pages : PageFacts = record { held = c.access_law.ensures.held; found_again = c.access_law.ensures.found_again } in
    let decodings : DecodingFacts = record { right = c.decoding_law.ensures.right; only = c.decoding_law.ensures.only } in
    first_decides pages decodings c.args.mem.now c.bytes_law.ensures view c.args.regs.now.rip fits c.args.tlb.now c.bytes_at.new.tlb c.in-Ok.bytes.now (Whole c.in-Whole.instr c.in-Whole.size)
    c.in-Ok.ensures.found c.in-Ok.ensures.length c.in-Whole.ensures.value

pub returns-in-Short-clause-outcome : goal.returns-in-Short-clause-outcome
returns-in-Short-clause-outcome c =
    let view : View = view_of c.args.mem.now c.args.control.now c.args.regs.now.cpl in
    let fits : c.args.regs.now.rip < 2 ^ 64 = omega arith in
    let pages : PageFacts = record { held = c.access_law.ensures.held; found_again = c.access_law.ensures.found_again } in
    let decodings : DecodingFacts = record { right = c.decoding_law.ensures.right; only = c.decoding_law.ensures.only } in
    c.fetch_across.ensures.outcome
    ∙ first_decides pages decodings c.args.mem.now c.bytes_law.ensures view c.args.regs.now.rip fits c.args.tlb.now c.bytes_at.new.tlb c.in-Ok.bytes.now Short
    c.in-Ok.ensures.found c.in-Ok.ensures.length c.in-Short.ensures.value

pub returns-in-TooLong-clause-outcome : goal.returns-in-TooLong-clause-outcome
returns-in-TooLong-clause-outcome c =
    let view : View = view_of c.args.mem.now c.args.control.now c.args.regs.now.cpl in
    let fits : c.args.regs.now.rip < 2 ^ 64 = omega arith in
    let pages : PageFacts = record { held = c.access_law.ensures.held; found_again = c.access_law.ensures.found_again } in
    let decodings : DecodingFacts = record { right = c.decoding_law.ensures.right; only = c.decoding_law.ensures.only } in
    first_decides pages decodings c.args.mem.now c.bytes_law.ensures view c.args.regs.now.rip fits c.args.tlb.now c.bytes_at.new.tlb c.in-Ok.bytes.now TooLong
    c.in-Ok.ensures.found c.in-Ok.ensures.length c.in-TooLong.ensures.value

pub returns-in-Unknown-clause-outcome : goal.returns-in-Unknown-clause-outcome
returns-in-Unknown-clause-outcome c =
    let view : View = view_of c.args.mem.now c.args.control.now c.args.regs.now.cpl in
    let fits : c.args.regs.now.rip < 2 ^ 64 = omega arith in
    let pages : PageFacts = record { held = c.access_law.ensures.held; found_again = c.access_law.ensures.found_again } in
    let decodings : DecodingFacts = record { right = c.decoding_law.ensures.right; only = c.decoding_law.ensures.only } in
    first_decides pages decodings c.args.mem.now c.bytes_law.ensures view c.args.regs.now.rip fits c.args.tlb.now c.bytes_at.new.tlb c.in-Ok.bytes.now Unknown
    c.in-Ok.ensures.found c.in-Ok.ensures.length c.in-Unknown.ensures.value
