use Rattle.std.proofs.Common.{◌≡◌, ◌≢◌, ◌+◌, ◌*◌, ◌/◌, ◌≤◌, ℕ, length, arith, ap, ◌∙◌}
use Rattle.phys_mem.specs.Memory.{byte_at}
use Rattle.vmmu.proofs.SeenStores.{books_stay, others_stay}
use Rattle.vmmu.proofs.entries.clear_frame.Goals as goal

pub returns-clause-descriptors : goal.returns-clause-descriptors
returns-clause-descriptors c =
    let inside : 4096 * c.args.frame + 4096 ≤ length c.args.mem.now = omega (arith, c.requires.held.size, c.requires.frame) in
    let apart : (p : ℕ) → p / 4096 ≢ c.args.frame → byte_at c.zero_frame.new.self p ≡ byte_at c.args.mem.now p =
    λ p other. ap (λ l. byte_at l p) c.zero_frame.ensures.zeroed
    ∙ c.frame_law.ensures.byte_zeroed_elsewhere c.args.mem.now c.args.frame p inside other in
    (c.stored_law.ensures.agree c.args.frames.now c.args.mem.now c.zero_frame.new.self c.requires.held c.zero_frame.ensures.length
    (λ p least. books_stay c.args.frames.now c.args.frame c.args.mem.now c.zero_frame.new.self c.requires.shown apart p)).0

pub returns-clause-held : goal.returns-clause-held
returns-clause-held c =
    let inside : 4096 * c.args.frame + 4096 ≤ length c.args.mem.now = omega (arith, c.requires.held.size, c.requires.frame) in
    let apart : (p : ℕ) → p / 4096 ≢ c.args.frame → byte_at c.zero_frame.new.self p ≡ byte_at c.args.mem.now p =
    λ p other. ap (λ l. byte_at l p) c.zero_frame.ensures.zeroed
    ∙ c.frame_law.ensures.byte_zeroed_elsewhere c.args.mem.now c.args.frame p inside other in
    (c.stored_law.ensures.agree c.args.frames.now c.args.mem.now c.zero_frame.new.self c.requires.held c.zero_frame.ensures.length
    (λ p least. books_stay c.args.frames.now c.args.frame c.args.mem.now c.zero_frame.new.self c.requires.shown apart p)).1

pub returns-clause-others : goal.returns-clause-others
returns-clause-others c =
    let inside : 4096 * c.args.frame + 4096 ≤ length c.args.mem.now = omega (arith, c.requires.held.size, c.requires.frame) in
    others_stay c.args.frames.now c.args.frame c.args.mem.now c.zero_frame.new.self c.requires.shown
    (λ p other. ap (λ l. byte_at l p) c.zero_frame.ensures.zeroed
    ∙ c.frame_law.ensures.byte_zeroed_elsewhere c.args.mem.now c.args.frame p inside other)
