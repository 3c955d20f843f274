use Rattle.std.proofs.Common.{◌≡◌, ◌+◌, [], ◌∷◌, ◌++◌, arith, ap, sym, length, length-append, map, ◌∙◌}
use Rattle.std.proofs.lemmas.Bool.{eqb-true}
use Rattle.std.proofs.lemmas.List.{map-append}
use Rattle.code_modules.specs.ListReading.{as_entry, as_listed}
use Rattle.code_modules.specs.ModuleList.{list_of}
use Rattle.code_modules.proofs.ListSteps.{bad_line, begins, good_line, no_line, too_late}
use Rattle.code_modules.proofs.list.read_entries.Goals as goal

pub loop-rest-init : goal.loop-rest-init
loop-rest-init c =
    let none : length c.new-entries.result.items ≡ 0 = ap length c.new-entries.ensures.items in
    record {
      so_far = begins c.args.bytes.now (map as_entry c.new-entries.result.items) c.requires (ap (map as_entry) c.new-entries.ensures.items);
      count = omega arith;
      few = omega arith;
      some = omega arith;
    }

pub returns-then-number-gt-MOST_MODULES-clause-fault :
    goal.returns-then-number-gt-MOST_MODULES-clause-fault
returns-then-number-gt-MOST_MODULES-clause-fault c =
    too_late (list_of c.args.bytes.now) (map as_entry c.loop-rest.entries.items) c.loop-rest.number
    c.loop-rest.rest.now c.cut_line.result.0.now c.cut_line.result.1.now
    c.loop-rest.invariant.so_far c.cut_line.ensures.lines (omega arith)

pub returns-in_default-clause-fault : goal.returns-in_default-clause-fault
returns-in_default-clause-fault c =
    bad_line (list_of c.args.bytes.now) (map as_entry c.loop-rest.entries.items) c.loop-rest.number
    c.loop-rest.rest.now c.cut_line.result.0.now c.cut_line.result.1.now
    c.loop-rest.invariant.so_far c.cut_line.ensures.lines (omega arith) (sym c.in_default.ensures)

pub loop-rest-preserved : goal.loop-rest-preserved
loop-rest-preserved c =
    let pushed = c.in_default-push.ensures.items in
    let longer : length c.push.new.self.items ≡ length c.loop-rest.entries.items + 1 =
    ap length pushed ∙ length-append c.loop-rest.entries.items (c.in-Some-keep.entry ∷ []) in
    record {
      so_far = good_line (list_of c.args.bytes.now) (map as_entry c.loop-rest.entries.items) c.loop-rest.number
          c.loop-rest.rest.now c.cut_line.result.0.now c.cut_line.result.1.now (as_listed c.in-Some.line)
          (map as_entry c.push.new.self.items) c.loop-rest.invariant.so_far c.cut_line.ensures.lines (omega arith)
          (sym c.in-Some.ensures)
          (ap (map as_entry) pushed ∙ map-append as_entry c.loop-rest.entries.items (c.in-Some-keep.entry ∷ [])
          ∙ ap (λ x. map as_entry c.loop-rest.entries.items ++ x ∷ []) c.in-Some-keep.ensures);
      count = omega arith;
      few = omega arith;
      some = omega arith;
    }

pub returns-clause-list : goal.returns-clause-list
returns-clause-list c =
    no_line (list_of c.args.bytes.now) (map as_entry c.loop-rest.entries.items) c.loop-rest.number
    c.loop-rest.rest.now c.loop-rest.invariant.so_far
    (eqb-true (length c.loop-rest.rest.now) 0 (sym c.is_empty.ensures ∙ c.loop-rest-test.false))
