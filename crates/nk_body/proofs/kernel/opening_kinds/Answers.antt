use Rattle.std.proofs.Common.{◌≡◌, List, [], ◌∷◌, ◌++◌, sym, ap, ◌∙◌, arith, map}
use Rattle.std.specs.List.{range_with_len}
use Rattle.std.proofs.lemmas.List.FromFn.{map-range_with_len_more}
use Rattle.nk_bits.specs.declared.kind.Kind.{Kind}
use Rattle.boot_map.specs.OpeningKinds.{kind_at, kinds}
use Rattle.nk_body.proofs.kernel.opening_kinds.Goals as goal

pub loop-frame-preserved : goal.loop-frame-preserved
loop-frame-preserved c =
    c.in_ok-push.ensures.items
    ∙ ap (λ (list : List Kind). list ++ c.kind.result ∷ []) c.loop-frame.invariant
    ∙ ap (λ (kind : Kind). map (kind_at c.args.image.now c.args.layout.now.frames) (range_with_len 0 c.loop-frame.frame) ++ kind ∷ []) c.kind.ensures
    ∙ sym (map-range_with_len_more (kind_at c.args.image.now c.args.layout.now.frames) 0 c.loop-frame.frame c.loop-frame.frame (omega arith))

pub returns : goal.returns
unfolding kinds
returns c =
    let all : c.loop-frame.frame ≡ c.args.layout.now.frames = omega (arith, c.frames-frame-end.ensures.frames) in
    c.loop-frame.invariant ∙ ap (λ n. map (kind_at c.args.image.now c.args.layout.now.frames) (range_with_len 0 n)) all
