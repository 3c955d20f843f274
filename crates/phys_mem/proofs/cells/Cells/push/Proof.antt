-- `push` writes into the room after the bytes. Assumes `Logic`.
use Rattle.std.proofs.Common.{◌≡◌, ℕ, suc, ◌+◌, ◌-◌, ◌^◌, ◌<◌, List, [], ◌∷◌, ◌++◌, length, refl, sym, ap, ◌∙◌, arith, w8, w64}
use Rattle.std.proofs.lemmas.List.{length-append}
use Rattle.std.proofs.raw_atomic.Walks.{proved}
use Rattle.std.proofs.VecSteps.Shapes.{after}
use Rattle.std.specs.contracts.impls.GlobalAllocator.TheImpl.{ghosts}
use base.Fraction.{full_share}
use base.Fml.{ftrue, flft, fat, froom}
use base.Logic.{never, id⊢}
use mir.Syntax.{named, ty_int, ty_ptr}
use mir.Val.{Val, vptr, vunit}
use contract.Monad.{fact}
use contract.Running.{tables}
use types.Kit.{‵, raw, ◌⊛◌, at_ret, ◌$◌, ◌∵◌, !, qed, move, keep, use1, use2, split, join, rewrite, fsplit, fsplit3, fjoin, fjoin3, flt_l, flt_i, feq_i, suffices, frame, done}
use types.Run.{of_opd, bin, unit_lit, init, stop, assigns_last, first, blocks, exec, returns, enter}
use types.ByLocal.{alloc_all, pass_all, free_all, look_at, get, through, sets, take_at, give_at, env}
use denote.Builtin.{u8, usize}
use denote.Exit.{yes}
use denote.Memory.{part_at}
use denote.Plain.{uint_in, uint_vals, uint_Tells}
use denote.RattleType.{owns}
use denote.RawPtr.{Ptr, RawPtr, block_ptr, ptr_val, in_a_block, rawptr_vals, rawptr_Tells, rawptr_Lawful}
use denote.Ref.{MutRef, mut_vals, mut_Tells}
use denote.Signature.{plain}
use denote.Steps.{nothing, heard, opens, closes}
use denote.Triple.Walked.{Stays, walk_of, says, stay_ref, stay_dropped, Goes-ref, Goes-dropped, ends_at}
use Rattle.phys_mem.specs.Ownership.{bytes_row, cells_own}
use Rattle.phys_mem.specs.declared.cells.Cells.{Cells}
use Rattle.phys_mem.specs.contracts.cells.Cells.{the_row as R}
use Rattle.phys_mem.specs.contracts.cells.Cells.push as f
use Rattle.phys_mem.proofs.Rows.{Row, glue}
use Rattle.phys_mem.proofs.cells.Cells.push.Statement.{statement}
use Rattle.phys_mem.proofs.cells.Cells.push.Code as code

abbrev stayed : Stays f.ended.signature.params f.ended.kept
stayed = (stay_ref (0 ∷ []) tt (plain (λ _. R)), (stay_dropped _ yes, (stay_dropped _ yes, (stay_dropped _ yes, tt))))

pub push_spec : {M : Type 1} → statement M
push_spec 𝓤 𝓛 𝓜 𝓡 wired =
    let c = f.clauses 𝓛 𝓜.mem 𝓡.returns in let W = walk_of 𝓛 f.ended stayed c in let 𝓣 = tables 𝓤 𝓛.H 𝓜 𝓡 𝓡.env in
    proved 𝓛 f.ended stayed c 𝓜 𝓡
    (Goes-ref 𝓛 1 0 tt (plain (λ _. R)), (Goes-dropped 𝓛 1 (plain (λ _. RawPtr)) yes (λ κs x w. refl), (Goes-dropped 𝓛 1 (plain (λ _. usize)) yes (λ κs x w. refl), (Goes-dropped 𝓛 1 (plain (λ _. u8)) yes (λ κs x w. refl), tt))))
    f.Key.name code.function (code.unfolded 𝓤 𝓛.H 𝓜 𝓡 wired)
    (λ κs. (mut_vals, (rawptr_vals, (uint_vals w64, (uint_vals w8, tt))))) (λ κs. (mut_Tells (named 0) κs.0 R, (rawptr_Tells, (uint_Tells w64, (uint_Tells w8, tt)))))
    (λ κs qs bounds a _ are.
    let κ = κs.0 in let q = qs.0 in let rb = a.0.ref_ptr.0 in let ro = a.0.ref_ptr.1 in
    let cells = a.0.now in let start = a.1.0 in let at = a.1.1.0 in let value = a.1.1.1.0 in
    let vss : List Val × (List Val × (List Val × (List Val × Unit {0}))) = (mut_vals a.0, (rawptr_vals start, (uint_vals w64 at, (uint_vals w8 value, tt)))) in
    let y : W.Ghost = ((κs, qs, bounds, a, vss), tt) in
    qed 𝓛 (((‵ (flft κ q) ⊛ ‵ ftrue) ⊛ ‵ (owns (MutRef (named 0) κ R ∷ RawPtr ∷ usize ∷ u8 ∷ []) a vss)) ∷ raw (fact 𝓤 ((start ≡ cells.at) × (at ≡ length cells.bytes) × (0 < cells.spare))) ∷ []) ∵
    split ! $ split ! $ move ! (2 ∷ []) $ fsplit ! $ fsplit3 ! $ keep ! (6 ∷ 1 ∷ 2 ∷ 4 ∷ []) $ heard ! _ (λ asked.
    -- [what γ is seen at; the borrow; the token of κ]
    enter ! _ _ _ _ _ $ alloc_all ! (λ l. pass_all ! refl ((tt, tt), (((rawptr_Lawful 𝓛).typed start _ refl).0, ((tt, record { fits = are.1.1.0.1 }), ((tt, record { fits = are.1.1.1.0.1 }), tt)))) $
    opens ! tt R {h = cells} rb ro (λ vs. move ! (1 ∷ []) $ fsplit ! $ move ! (1 ∷ []) $
    in_a_block ! cells.at (λ p. cells_own cells.heap p cells.bytes cells.spare) (id⊢ 𝓤 (never 𝓤)) (λ b o e. fsplit ! $ flt_l ! (λ few. fsplit ! $ move ! (1 ∷ []) $ fsplit ! $
    -- [the room; the right to free; the bytes; the fields; the cell; the open borrow, in three entries; the locals]
    let end = length cells.bytes + o in let left = cells.spare - 1 in let bytes = cells.bytes ++ value ∷ [] in
    let one_more : cells.spare ≡ suc left = omega (arith, asked.2) in
    let long : length bytes ≡ length cells.bytes + 1 = length-append cells.bytes (value ∷ []) in
    let new : Cells = record { heap = cells.heap; at = cells.at; bytes = bytes; spare = left } in
    rewrite ! 0 (λ (k : ℕ). ‵ (froom (bytes_row k) b end)) one_more refl $
    use1 𝓛 (‵ (froom (ty_int w8) b end) ⊛ ‵ (froom (bytes_row left) b (end + 1))) (𝓛.laws.room_uncons (ty_int w8) left b end) $ split ! $
    rewrite ! 0 (λ (k : ℕ). ‵ (froom (ty_int w8) b (k + o))) (sym asked.1) refl $
    take_at ! 2 $ rewrite ! 0 (λ (p : Ptr). ‵ (fat full_share ty_ptr (l 2) 0 (ptr_val p))) (asked.0 ∙ e) refl $ give_at ! 2 $
    first ! $ blocks ! $ sets ! (bin ! (get ! refl) (get ! refl) tt) refl (tt, tt) $
    assigns_last ! (of_opd ! (get ! refl)) (through ! refl (stop !)) (init ! 0 refl (tt, record { fits = are.1.1.1.0.1 })) $
    exec ! 𝓣.C 𝓣.Λ (env code.Mir.locals l) (after 1 (code.function).body) (at_ret _ (W.post y)) $ sets ! (of_opd ! (unit_lit !)) refl (tt, tt) $
    -- [the byte; the room after it; the right to free; the bytes before it; ..]
    use1 𝓛 (‵ (part_at u8 full_share value b (at + o))) (uint_in 𝓛 full_share w8 value b (at + o)) $ nothing ! $ move ! (1 ∷ 0 ∷ []) $ fjoin ! $
    move ! (3 ∷ 0 ∷ []) $ use2 𝓛 (‵ (Row 𝓛 b o bytes)) (glue 𝓛 b cells.bytes (value ∷ []) o (at + o) (ap (λ k. k + o) asked.1)) $
    rewrite ! 1 (λ (k : ℕ). ‵ (froom (bytes_row left) b k)) {x = length bytes + o} (omega arith) refl $
    rewrite ! 2 (λ (k : ℕ). ‵ (ghosts.dealloc_token cells.heap (bytes_row k) (block_ptr b o))) {x = length bytes + left} (omega arith) refl $
    move ! (1 ∷ 2 ∷ 0 ∷ []) $ fjoin ! $ move ! (1 ∷ 0 ∷ []) $ fjoin ! $ flt_i ! (length bytes + left) (2 ^ 63) (omega arith) $ fjoin ! $
    rewrite ! 0 (λ (p : Ptr). ‵ (cells_own cells.heap p bytes left)) (sym e) refl $ move ! (1 ∷ 0 ∷ []) $ fjoin ! $ move ! (1 ∷ 0 ∷ []) $ closes ! tt R new vs rb ro $
    returns ! (look_at ! 0 refl) $ free_all ! refl $ keep ! (0 ∷ 1 ∷ 2 ∷ []) $
    suffices ! _ (ends_at 𝓛 f.ended stayed c y vunit tt (new, (tt, (tt, (tt, tt)))) (tt, (tt, (tt, (tt, tt))))) $ says ! (refl, refl, refl, omega arith) $
    feq_i ! (List Val) (vunit ∷ []) (vunit ∷ []) refl $ move ! (1 ∷ 2 ∷ 3 ∷ 0 ∷ []) $ nothing ! $ move ! (3 ∷ 0 ∷ []) $ join ! $ frame ! $
    feq_i ! (List Val) (vptr rb ro ∷ []) (vptr rb ro ∷ []) refl $ fjoin3 ! $ nothing ! $ nothing ! $ fjoin ! $ nothing ! $ fjoin ! $ nothing ! $ fjoin ! $ move ! (1 ∷ 0 ∷ []) $ fjoin ! $ done !))))))
