-- `deallocate` gives the bytes and the right to free them back to the allocator. Assumes `Logic`.
use Rattle.std.proofs.Common.{◌≡◌, ℕ, ◌+◌, ◌^◌, ◌<◌, List, [], ◌∷◌, length, refl, sym, ap, subst, ◌∙◌, arith, w64, lit<}
use Rattle.std.proofs.raw_atomic.Walks.{proved}
use Rattle.std.proofs.VecSteps.Shapes.{after}
use Rattle.std.proofs.alloc.Calls.{Goes-blank}
use Rattle.std.specs.contracts.alloc.Global as HP
use Rattle.std.specs.contracts.impls.GlobalAllocator.TheImpl.{ghosts}
use Rattle.std.specs.contracts.impls.GlobalAllocator.deallocate as g
use Rattle.std.proofs.impls.GlobalAllocator.deallocate.Met.{met}
use base.Fraction.{full_share}
use base.Fml.{ftrue, flft, fat, froom}
use base.Logic.{emp, never, id⊢}
use lib.Dec.{T}
use mir.Syntax.{named, ty_ptr, ty_unit}
use mir.Val.{Val, WT, has_ty, vptr, vint, vunit}
use prog.Capped.{capped_is}
use prog.Memory.{size, align, capped}
use contract.Monad.{fact, fact_i}
use contract.Running.{tables}
use types.Kit.{‵, raw, ◌⊛◌, some, later, await, pick, at_ret, ◌$◌, ◌∵◌, !, qed, move, keep, drop, use0, use1, use2, split, join, rewrite, fsplit, fjoin, flt_l, flt_i, feq_l, feq_i, suffices, done}
use types.Run.{of_opd, unit_lit, lit, and_then, no_more, first, blocks, exec, returns, enter}
use types.ByLocal.{alloc_all, pass_all, free_all, look_at, get, sets, lands_last, take_at, give_at, env}
use denote.Builtin.{unit, usize, RefOf}
use denote.Exit.{yes}
use denote.Plain.{uint_vals, uint_Tells}
use denote.RattleType.{owns}
use denote.RawPtr.{Ptr, RawPtr, block_ptr, ptr_val, in_a_block, rawptr_vals, rawptr_Tells, rawptr_Lawful}
use denote.Ref.{ShrRef, shr_vals, shr_Tells}
use denote.Signature.{plain}
use denote.Steps.{only, nothing, heard}
use denote.Triple.Call.{calls_at_last}
use denote.Triple.Clauses.{lasts}
use denote.Triple.Spec.{triple_of}
use denote.Triple.Table.{framed}
use denote.Triple.Walked.{Stays, walk_of, stay_dropped, Goes-dropped, ends_at}
use Rattle.phys_mem.specs.Ownership.{bytes_row, cells_own}
use Rattle.phys_mem.specs.declared.cells.Cells.{Cells}
use Rattle.phys_mem.specs.contracts.cells.Cells.{the_row as R}
use Rattle.phys_mem.specs.contracts.cells.deallocate as f
use Rattle.phys_mem.proofs.Rows.{to_room}
use Rattle.phys_mem.proofs.cells.Cells.TheLaws.{lowers}
use Rattle.phys_mem.proofs.cells.deallocate.Statement.{statement}
use Rattle.phys_mem.proofs.cells.deallocate.Code as code

abbrev stayed : Stays f.ended.signature.params f.ended.kept
stayed = (stay_dropped _ yes, (stay_dropped _ yes, (stay_dropped _ yes, (stay_dropped _ yes, tt))))

pub deallocate_spec : {M : Type 1} → statement M
deallocate_spec 𝓤 𝓛 𝓜 𝓡 wired =
    let c = f.clauses 𝓛 𝓜.mem 𝓡.returns in let W = walk_of 𝓛 f.ended stayed c in let 𝓣 = tables 𝓤 𝓛.H 𝓜 𝓡 𝓡.env in
    let spelt : Cells → List Val = λ x. lowers.lowered x ∷ [] in
    proved 𝓛 f.ended stayed c 𝓜 𝓡
    (Goes-dropped 𝓛 1 (RefOf (0 ∷ []) tt (plain (λ _. HP.the_row)) (λ _. tt)) yes (λ κs x w. refl), (Goes-dropped 𝓛 1 (plain (λ _. RawPtr)) yes (λ κs x w. refl), (Goes-dropped 𝓛 1 (plain (λ _. usize)) yes (λ κs x w. refl), (Goes-blank 𝓛 1 (plain (λ _. R)) yes (λ κs x w. tt), tt))))
    f.Key.name code.function (code.unfolded 𝓤 𝓛.H 𝓜 𝓡 wired)
    (λ κs. (shr_vals, (rawptr_vals, (uint_vals w64, (spelt, tt))))) (λ κs. (shr_Tells (named 0) κs.0 HP.the_row, (rawptr_Tells, (uint_Tells w64, (lowers.val_is, tt)))))
    (λ κs qs bounds a _ are.
    let κ = κs.0 in let q = qs.0 in let alloc = a.0 in let start = a.1.0 in let len = a.1.1.0 in let cells = a.1.1.1.0 in
    let vss : List Val × (List Val × (List Val × (List Val × Unit {0}))) = (shr_vals alloc, (rawptr_vals start, (uint_vals w64 len, (spelt cells, tt)))) in
    let y : W.Ghost = ((κs, qs, bounds, a, vss), tt) in
    let fits : len < 2 ^ 64 = are.1.1.0.1 in let τ = bytes_row len in
    let G = triple_of 𝓛 g.signature (g.spec 𝓛 𝓜.mem 𝓡.returns) in
    let laid : (capped (size τ) ≡ len) × (capped (align τ) ≡ 1) = (capped_is (size τ) (omega arith) ∙ omega arith, capped_is 1 (lit< tt)) in
    qed 𝓛 (((‵ (flft κ q) ⊛ ‵ ftrue) ⊛ ‵ (owns (ShrRef (named 0) κ HP.the_row ∷ RawPtr ∷ usize ∷ R ∷ []) a vss))
    ∷ raw (fact 𝓤 ((cells.heap ≡ alloc.now) × (cells.at ≡ start) × (length cells.bytes ≡ len) × (cells.spare ≡ 0))) ∷ []) ∵
    split ! $ split ! $ move ! (2 ∷ []) $ fsplit ! $ fsplit ! $ keep ! (2 ∷ 1 ∷ 3 ∷ 5 ∷ []) $ fsplit ! $ drop ! $ fsplit ! $ drop ! $ fsplit ! $ fsplit ! $ keep ! (5 ∷ 1 ∷ 3 ∷ 4 ∷ []) $ heard ! _ (λ asked.
    -- [what the owner owns; the `&` to the handle; the token of κ]
    enter ! _ _ _ _ _ $ alloc_all ! (λ l. pass_all ! refl ((tt, tt), (((rawptr_Lawful 𝓛).typed start _ refl).0, ((tt, record { fits = fits }), ((tt, tt), tt)))) $
    in_a_block ! cells.at (λ p. cells_own cells.heap p cells.bytes cells.spare) (id⊢ 𝓤 (never 𝓤)) (λ b o e. fsplit ! $ flt_l ! (λ few. fsplit ! $
    let p : Ptr = block_ptr b o in let whole : length cells.bytes + cells.spare ≡ len = omega (arith, asked.2, asked.3) in
    let z : G.Ghost = ((κs, qs, tt, (alloc, (p, (len, (1, tt)))), (shr_vals alloc, (vptr b o ∷ [], (vint w64 len ∷ [], (vint w64 1 ∷ [], tt))))), τ) in
    take_at ! 2 $ rewrite ! 0 (λ (r : Ptr). ‵ (fat full_share ty_ptr (l 2) 0 (ptr_val r))) (sym asked.1 ∙ e) refl $ give_at ! 2 $ first ! $ blocks ! $
    use1 𝓛 (‵ (froom (bytes_row (length cells.bytes)) b o)) (to_room 𝓛 b cells.bytes o) $ rewrite ! 0 (λ (k : ℕ). ‵ (froom (bytes_row k) b o)) asked.2 refl $
    move ! (1 ∷ []) $ fsplit ! $ drop ! $ rewrite ! 0 (λ (k : ℕ). ‵ (ghosts.dealloc_token cells.heap (bytes_row k) p)) whole refl $ move ! (1 ∷ 0 ∷ []) $ fjoin ! $
    use0 𝓛 (raw (fact 𝓤 ((capped (size τ) ≡ len) × (capped (align τ) ≡ 1)))) (fact_i 𝓤 _ (emp 𝓤) laid) $ join ! $
    -- [the `requires`; the `&` to the handle; the token of κ; the locals]
    nothing ! $ flt_i ! 1 (2 ^ 64) (lit< tt) $ feq_i ! (List Val) (vint w64 1 ∷ []) (vint w64 1 ∷ []) refl $ fjoin ! $ fjoin ! $
    flt_i ! len (2 ^ 64) fits $ feq_i ! (List Val) (vint w64 len ∷ []) (vint w64 len ∷ []) refl $ fjoin ! $ fjoin ! $ feq_i ! (List Val) (vptr b o ∷ []) (vptr b o ∷ []) refl $ fjoin ! $
    move ! (2 ∷ []) $ feq_i ! (List Val) (shr_vals alloc) (shr_vals alloc) refl $ fjoin ! $ fjoin ! $ nothing ! $ move ! (3 ∷ 0 ∷ []) $ join ! $ join ! $ use2 𝓛 (raw (G.pre z)) (id⊢ 𝓤 _) $
    calls_at_last ! (framed 𝓤 𝓛.H 𝓜 𝓣) G (met 𝓤 𝓛 𝓜 𝓡 (code.calls-std_heap::GlobalAllocator::deallocate 𝓡.env wired)) z (and_then ! (get ! refl) (and_then ! (get ! refl) (and_then ! (get ! refl) (and_then ! (lit ! tt) (no_more !))))) (λ v.
    use1 𝓛 (later (some (λ (u : Unit {0}). ((‵ (flft κ q) ⊛ ‵ ftrue) ⊛ ‵ (unit.own_val u (v ∷ [])))
    ⊛ some (λ (ws : Unit {0} × (Unit {0} × (Unit {0} × (Unit {0} × Unit {0})))). ‵ (lasts g.ended z.0.0 z.0.3 ws) ⊛ ‵ ftrue)))) (id⊢ 𝓤 _) $ await ! tt $ pick ! (λ u.
    split ! $ split ! $ split ! $ move ! (2 ∷ []) $ feq_l ! (λ is_unit.
    lands_last ! refl (subst (λ (x : Val). T (has_ty ty_unit x) × WT x) (sym (ap only is_unit)) (tt, tt)) $ exec ! 𝓣.C 𝓣.Λ (env code.Mir.locals l) (after 1 (code.function).body) (at_ret _ (W.post y)) $
    sets ! (of_opd ! (unit_lit !)) refl (tt, tt) $ returns ! (look_at ! 0 refl) $ free_all ! refl $ keep ! (0 ∷ []) $
    suffices ! _ (ends_at 𝓛 f.ended stayed c y vunit tt (tt, (tt, (tt, (tt, tt)))) (tt, (tt, (tt, (tt, tt))))) $
    nothing ! $ move ! (1 ∷ 0 ∷ []) $ join ! $ feq_i ! (List Val) (vunit ∷ []) (vunit ∷ []) refl $ nothing ! $ nothing ! $ fjoin ! $ nothing ! $ fjoin ! $ nothing ! $ fjoin ! $ nothing ! $ fjoin ! $ join ! $
    move ! (1 ∷ 0 ∷ []) $ join ! $ nothing ! $ move ! (1 ∷ 0 ∷ []) $ done !))))))))
