use Rattle.std.proofs.Common.{◌≡◌, ℕ, ap, sym, ◌∙◌, arith}
use Rattle.std.specs.List.{flat_map, range_with_len}
use Rattle.asm_text.specs.Candidates.{best_of}
use Rattle.asm_text.specs.Skipping.{by_mode}
use Rattle.asm_text.proofs.ModRmSkips.{modes_all}
use Rattle.asm_text.proofs.Bests.{best_none, best_step}
use Rattle.asm_text.proofs.search.try_modrms.Goals as goal

pub loop-mode-init : goal.loop-mode-init
loop-mode-init c = sym (best_none c.args.instr.now c.args.best.now.items)

pub loop-mode-preserved : goal.loop-mode-preserved
loop-mode-preserved c =
    best_step c.args.instr.now c.args.best.now.items
    (by_mode c.args.stem.now c.args.form.now c.args.tail.now) c.loop-mode.mode
    c.loop-mode.best.items c.try_mode.new.best.items c.loop-mode.invariant c.try_mode.ensures

pub returns : goal.returns
returns c =
    let last : c.loop-mode.mode ≡ 4 = omega arith in
    c.loop-mode.invariant
    ∙ (ap (λ (n : ℕ). best_of c.args.instr.now c.args.best.now.items (flat_map (by_mode c.args.stem.now c.args.form.now c.args.tail.now) (range_with_len 0 n))) last
    ∙ ap (best_of c.args.instr.now c.args.best.now.items) (modes_all c.args.stem.now c.args.form.now c.args.tail.now))
