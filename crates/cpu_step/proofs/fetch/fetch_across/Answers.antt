use Rattle.std.proofs.Common.{ℕ, ◌+◌, ◌-◌, ◌<◌, ◌^◌, List, length, arith, ap, sym, ◌∙◌}
use Rattle.std.proofs.lemmas.List.Elements.{All-from_get_or}
use Rattle.nk_bits.specs.Outcomes.{refused}
use Rattle.nk_bits.specs.Accesses.{View}
use Rattle.page_walk.specs.MemoryAccess.{view_of}
use Rattle.x86_decode.specs.Reader.{decoded_of}
use Rattle.x86_decode.specs.Spelling.{AreBytes}
use Rattle.x86_regs.specs.Operands.{wrapped}
use Rattle.x86_regs.specs.declared.faults.Fault.TheVariants.{General}
use Rattle.cpu_step.specs.InstructionFetch.{decided_by}
use Rattle.cpu_step.proofs.LongerCode.{DecodingFacts}
use Rattle.cpu_step.proofs.PageFetches.{PageFacts}
use Rattle.cpu_step.proofs.LentPages.{at_the_start, left_bounds, next_start, refused_behind, second_page}
use Rattle.cpu_step.proofs.fetch.fetch_across.Goals as goal

pub joined-requires-clause-first : goal.joined-requires-clause-first
joined-requires-clause-first c = omega (arith, c.requires.first, (left_bounds c.args.regs.now.rip).1)

pub joined-requires-clause-second : goal.joined-requires-clause-second
joined-requires-clause-second c =
    let n : ℕ = length c.args.first.now in
    let rip : ℕ = c.args.regs.now.rip in
    let fits : rip < 2 ^ 64 = omega arith in
    let less : n < 15 = omega (arith, c.if-first-eq-LONGEST.false, c.requires.first, (left_bounds rip).1) in
    omega (arith, c.in-Ok.ensures.length, at_the_start (wrapped (rip + n)) (next_start rip n fits c.requires.first less))

pub returns-in-Ok-clause-outcome : goal.returns-in-Ok-clause-outcome
returns-in-Ok-clause-outcome c =
    let m : List ℕ = c.args.mem.now in
    let first : List ℕ = c.args.first.now in
    let view : View = view_of m c.args.control.now c.args.regs.now.cpl in
    let rip : ℕ = c.args.regs.now.rip in
    let fits : rip < 2 ^ 64 = omega arith in
    let less : length first < 15 = omega (arith, c.if-first-eq-LONGEST.false, c.requires.first, (left_bounds rip).1) in
    let are : AreBytes first = All-from_get_or (λ b. b < 256) first 0 (λ k below. omega (arith, c.type_inv.first k)) in
    let pages : PageFacts = record { held = c.access_law.ensures.held; found_again = c.access_law.ensures.found_again } in
    let decodings : DecodingFacts = record { right = c.decoding_law.ensures.right; only = c.decoding_law.ensures.only } in
    c.decided.ensures.outcome c.bytes_at.new.tlb
    ∙ (ap (λ x. decided_by (decoded_of x) c.bytes_at.new.tlb (refused (General 0) c.bytes_at.new.tlb)) c.joined.ensures
    ∙ sym (second_page pages decodings m c.bytes_law.ensures view rip fits first c.in-Ok.second.now c.args.tlb.now c.bytes_at.new.tlb
    are c.requires.first less c.in-Ok.ensures.found c.in-Ok.ensures.length))

pub returns-in-Err-clause-outcome : goal.returns-in-Err-clause-outcome
returns-in-Err-clause-outcome c =
    let n : ℕ = length c.args.first.now in
    let view : View = view_of c.args.mem.now c.args.control.now c.args.regs.now.cpl in
    let left : 0 < 15 - n = omega (arith, c.if-first-eq-LONGEST.false, c.requires.first, (left_bounds c.args.regs.now.rip).1) in
    sym (refused_behind c.args.mem.now view c.args.regs.now.rip c.args.first.now c.args.tlb.now c.bytes_at.new.tlb c.in-Err.fault (15 - n) left c.in-Err.ensures.refused)
