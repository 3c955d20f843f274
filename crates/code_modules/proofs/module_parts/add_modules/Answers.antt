use Rattle.std.proofs.Common.{◌≡◌, ◌+◌, ◌<◌, ◌≤◌, ℕ, Bool, false, [], List, Vec, Global, arith, ap, refl, sym, subst, drop, get_or, length, map, ◌∙◌}
use Rattle.std.specs.List.{list_all}
use Rattle.std.proofs.lemmas.List.{drop_all, get_or-map, length-map}
use Rattle.code_modules.specs.JoinAnswers.{ends_before_directory, modules_with}
use Rattle.code_modules.specs.JoinedParts.{CodeModule, JoinedPart, module_part, module_parts, module_start}
use Rattle.code_modules.specs.PartWords.{Leads, as_file_part, as_part}
use Rattle.code_modules.proofs.PlacingSteps.{between, first_part, leads_on, modules_from, one_ends_late, others_end}
use Rattle.code_modules.proofs.module_parts.add_modules.Goals as goal

abbrev bytes_of : Vec ℕ Global → List ℕ
bytes_of m = m.items

-- the bytes of a module, by its place
stands_at : (modules : List (Vec ℕ Global)) (i : ℕ) (m : Vec ℕ Global) (bytes : List ℕ) → i < length modules
    → m ≡ get_or modules i m → bytes ≡ m.items → bytes ≡ get_or (map bytes_of modules) i bytes
stands_at modules i m bytes inside is same =
    same ∙ ap bytes_of is ∙ sym (get_or-map bytes_of modules i m bytes inside)

pub returns-in_default-clause-placed : goal.returns-in_default-clause-placed
returns-in_default-clause-placed c =
    let ms : List (List ℕ) = map bytes_of c.args.modules.now in
    let i : ℕ = c.loop-i.i in
    let guard : Bool = get_or c.args.guards.now c.loop-i.i false in
    let bytes : List ℕ = c.as_slice.result.now in
    let inside : c.loop-i.i < length c.args.guards.now = omega arith in
    let within : c.loop-i.i < length (map bytes_of c.args.modules.now) = omega (arith, length-map c.args.modules.now bytes_of) in
    let here = stands_at c.args.modules.now i c.index-modules-i.result bytes c.loop-i-test.true c.index-modules-i.is c.as_slice.ensures.value in
    c.loop-i.invariant.ends
    ∙ one_ends_late c.loop-i.end guard bytes (modules_with (drop i c.args.guards.now) (drop i ms))
    (modules_with (drop (i + 1) c.args.guards.now) (drop (i + 1) ms)) (module_part (module_start c.loop-i.end guard) bytes)
    (modules_from c.args.guards.now ms i guard bytes false inside within refl here) refl c.in_default.ensures

pub loop-i-preserved : goal.loop-i-preserved
loop-i-preserved c =
    let ms : List (List ℕ) = map bytes_of c.args.modules.now in
    let i : ℕ = c.loop-i.i in
    let guard : Bool = get_or c.args.guards.now c.loop-i.i false in
    let bytes : List ℕ = c.as_slice.result.now in
    let inside : c.loop-i.i < length c.args.guards.now = omega arith in
    let within : c.loop-i.i < length (map bytes_of c.args.modules.now) = omega (arith, length-map c.args.modules.now bytes_of) in
    let here = stands_at c.args.modules.now i c.index-modules-i.result bytes c.loop-i-test.true c.index-modules-i.is c.as_slice.ensures.value in
    let whole = modules_from c.args.guards.now ms i guard bytes false inside within refl here in
    let from : List CodeModule = modules_with (drop i c.args.guards.now) (drop i ms) in
    let later : List CodeModule = modules_with (drop (i + 1) c.args.guards.now) (drop (i + 1) ms) in
    let part : JoinedPart = as_part c.in-Some.part in
    let bounds = between c.loop-i.end guard bytes from later part whole c.in-Some.ensures.0 c.loop-i.invariant.low c.in-Some.ensures.1 in
    let size = ap length (ap (λ (p : JoinedPart). p.bytes) c.in-Some.ensures.0) in
    record {
      placed = leads_on (map as_file_part c.args.layout.now.parts.items) (map as_file_part c.loop-i.layout.parts.items)
          (map as_file_part c.add.new.self.parts.items) c.args.layout.now.end c.loop-i.layout.end c.add.new.self.end
          (module_parts c.args.from (modules_with c.args.guards.now ms)) (module_parts c.loop-i.end from)
          (module_parts (part.address + part.memory_size) later) part c.loop-i.invariant.placed
          (first_part c.loop-i.end guard bytes from later part whole c.in-Some.ensures.0) c.add.ensures.listed c.add.ensures.end;
      ends = c.loop-i.invariant.ends ∙ others_end c.loop-i.end guard bytes from later part whole c.in-Some.ensures.0 c.in-Some.ensures.1;
      low = bounds.0;
      high = bounds.1;
      count = omega arith;
      small = omega (arith, bounds.2, size);
    }

pub returns-clause-placed : goal.returns-clause-placed
returns-clause-placed c =
    let ms : List (List ℕ) = map bytes_of c.args.modules.now in
    let past : length c.args.guards.now ≤ c.loop-i.i = omega arith in
    let none : module_parts c.loop-i.end (modules_with (drop c.loop-i.i c.args.guards.now) (drop c.loop-i.i (map bytes_of c.args.modules.now))) ≡ [] =
    ap (λ gs. module_parts c.loop-i.end (modules_with gs (drop c.loop-i.i ms))) (drop_all c.loop-i.i c.args.guards.now past) in
    let P : List JoinedPart → Type 0 = λ ps. Leads (map as_file_part c.args.layout.now.parts.items) c.args.layout.now.end
    (map as_file_part c.loop-i.layout.parts.items) c.loop-i.layout.end
    (module_parts c.args.from (modules_with c.args.guards.now (map bytes_of c.args.modules.now))) ps in
    (c.loop-i.invariant.ends ∙ ap (list_all ends_before_directory) none, subst P none c.loop-i.invariant.placed)
