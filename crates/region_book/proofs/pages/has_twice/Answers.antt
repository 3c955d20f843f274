use Rattle.std.proofs.Common.{ℕ, List, arith, refl, sym, ◌∙◌}
use Rattle.std.specs.Prelude.{slice_index}
use borrow.Author.Count.{below_more}
use Rattle.region_book.proofs.OnceFrames.{IsNewAt, new_by_test, none_twice, once_by_places, twice_by_test}
use Rattle.region_book.proofs.pages.has_twice.Goals as goal

pub returns-then-contains-clause-twice : goal.returns-then-contains-clause-twice
returns-then-contains-clause-twice c =
    let list : List ℕ = c.args.list.now in
    let place : ℕ = c.loop-place.place in
    sym (twice_by_test list place (slice_index list place) c.loop-place-test.true refl
    (sym c.contains.ensures ∙ c.if-contains.true))

pub loop-place-preserved : goal.loop-place-preserved
loop-place-preserved c =
    let list : List ℕ = c.args.list.now in
    let place : ℕ = c.loop-place.place in
    below_more (IsNewAt list) place c.loop-place.invariant
    (new_by_test list place (slice_index list place) c.loop-place-test.true refl
    (sym c.contains.ensures ∙ c.if-contains.false))

pub returns-clause-twice : goal.returns-clause-twice
returns-clause-twice c = sym (none_twice c.args.list.now (λ i below. c.loop-place.invariant i (omega arith)))

pub returns-clause-once : goal.returns-clause-once
returns-clause-once c none = once_by_places c.args.list.now (λ i below. c.loop-place.invariant i (omega arith))
