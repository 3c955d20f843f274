use Rattle.std.proofs.Common.{◌≡◌, ◌≢◌, ◌+◌, ◌*◌, ◌/◌, ℕ, length, arith, ap, ◌∙◌}
use Rattle.std.specs.List.{All}
use Rattle.phys_mem.specs.MaskedMemory.{is_book_frame, masked}
use Rattle.phys_mem.specs.Memory.{byte_at, stores}
use Rattle.vmmu.proofs.SeenStores.{books_stay, frames_seen, others_stay, stores_apart, stores_shown}
use Rattle.vmmu.proofs.entries.store_entry.Goals as goal

pub returns-clause-seen : goal.returns-clause-seen
returns-clause-seen c =
    let ws = stores 8 (4096 * c.args.frame + 8 * c.args.index) c.args.value in
    let here : All (λ w. w.0 / 4096 ≡ c.args.frame) ws =
    c.frame_law.ensures.within_frame 8 (4096 * c.args.frame + 8 * c.args.index) c.args.value c.args.frame (omega arith) (omega (arith, c.requires.index)) in
    let shown = frames_seen c.args.frames.now c.args.frame c.args.mem.now c.requires.held c.requires.shown in
    ap (λ k. masked (is_book_frame (k / 4096)) c.store64.new.self) c.store64.ensures.length
    ∙ ap (masked (is_book_frame (length c.args.mem.now / 4096))) c.store64.ensures.stored
    ∙ c.mask_law.ensures.stored_seen (is_book_frame (length c.args.mem.now / 4096)) c.args.mem.now ws
    (stores_shown (is_book_frame (length c.args.mem.now / 4096)) c.args.frame ws shown here)

pub returns-clause-descriptors : goal.returns-clause-descriptors
returns-clause-descriptors c =
    let ws = stores 8 (4096 * c.args.frame + 8 * c.args.index) c.args.value in
    let here : All (λ w. w.0 / 4096 ≡ c.args.frame) ws =
    c.frame_law.ensures.within_frame 8 (4096 * c.args.frame + 8 * c.args.index) c.args.value c.args.frame (omega arith) (omega (arith, c.requires.index)) in
    let apart : (p : ℕ) → p / 4096 ≢ c.args.frame → byte_at c.store64.new.self p ≡ byte_at c.args.mem.now p =
    λ p other. ap (λ l. byte_at l p) c.store64.ensures.stored
    ∙ c.memory_law.ensures.byte_elsewhere c.args.mem.now ws p (stores_apart c.args.frame p ws other here) in
    (c.stored_law.ensures.agree c.args.frames.now c.args.mem.now c.store64.new.self c.requires.held c.store64.ensures.length
    (λ p least. books_stay c.args.frames.now c.args.frame c.args.mem.now c.store64.new.self c.requires.shown apart p)).0

pub returns-clause-held : goal.returns-clause-held
returns-clause-held c =
    let ws = stores 8 (4096 * c.args.frame + 8 * c.args.index) c.args.value in
    let here : All (λ w. w.0 / 4096 ≡ c.args.frame) ws =
    c.frame_law.ensures.within_frame 8 (4096 * c.args.frame + 8 * c.args.index) c.args.value c.args.frame (omega arith) (omega (arith, c.requires.index)) in
    let apart : (p : ℕ) → p / 4096 ≢ c.args.frame → byte_at c.store64.new.self p ≡ byte_at c.args.mem.now p =
    λ p other. ap (λ l. byte_at l p) c.store64.ensures.stored
    ∙ c.memory_law.ensures.byte_elsewhere c.args.mem.now ws p (stores_apart c.args.frame p ws other here) in
    (c.stored_law.ensures.agree c.args.frames.now c.args.mem.now c.store64.new.self c.requires.held c.store64.ensures.length
    (λ p least. books_stay c.args.frames.now c.args.frame c.args.mem.now c.store64.new.self c.requires.shown apart p)).1

pub returns-clause-others : goal.returns-clause-others
returns-clause-others c =
    let ws = stores 8 (4096 * c.args.frame + 8 * c.args.index) c.args.value in
    let here : All (λ w. w.0 / 4096 ≡ c.args.frame) ws =
    c.frame_law.ensures.within_frame 8 (4096 * c.args.frame + 8 * c.args.index) c.args.value c.args.frame (omega arith) (omega (arith, c.requires.index)) in
    let apart : (p : ℕ) → p / 4096 ≢ c.args.frame → byte_at c.store64.new.self p ≡ byte_at c.args.mem.now p =
    λ p other. ap (λ l. byte_at l p) c.store64.ensures.stored
    ∙ c.memory_law.ensures.byte_elsewhere c.args.mem.now ws p (stores_apart c.args.frame p ws other here) in
    others_stay c.args.frames.now c.args.frame c.args.mem.now c.store64.new.self c.requires.shown apart
