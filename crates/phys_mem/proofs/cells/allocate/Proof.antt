-- `allocate` takes the new allocation as room for bytes, with the right to free it. Assumes `Logic`.
use Rattle.std.proofs.Common.{◌≡◌, ℕ, ◌+◌, ◌^◌, ◌<◌, true, false, List, [], ◌∷◌, ◌++◌, refl, ap, ◌∙◌, arith, w64, lit<}
use Rattle.std.proofs.raw_atomic.Walks.{proved}
use Rattle.std.proofs.VecSteps.Shapes.{after, head, arm_body}
use Rattle.std.proofs.alloc.Calls.{Answer, answer_val, Answer-typed}
use Rattle.std.proofs.RcSteps.{Good, first_Good}
use Rattle.std.proofs.ResultValues.{ok_of, err_of}
use Rattle.std.specs.Prelude.{Ok, Err, IfOk}
use Rattle.std.specs.contracts.alloc.AllocError as AE
use Rattle.std.specs.contracts.alloc.Global as HP
use Rattle.std.specs.contracts.result.Result as RS
use Rattle.std.specs.contracts.impls.GlobalAllocator.TheImpl.{ghosts}
use Rattle.std.specs.contracts.impls.GlobalAllocator.allocate as g
use Rattle.std.proofs.impls.GlobalAllocator.allocate.Met.{met}
use Rattle.std.specs.Allocator.{block_if_ok}
use seplogic.Ra.Ura.{Ura}
use base.Fml.{Fml, ftrue, fsep, flft, froom}
use base.Logic.{ent, sep, emp, never, fst∗, id⊢}
use mir.Syntax.{Body, Ty, named}
use mir.Val.{Val, of_list, vptr, vint, vstruct, vcons, vnil}
use prog.Capped.{capped_is}
use prog.Memory.{size, align, capped}
use prog.Wp.{Env, Wp, after_seq, at_return}
use contract.Monad.{fact, fact_i}
use contract.Running.{tables}
use types.Logic.{Logic, sem}
use types.Kit.{Goal, Item, Seq, Sq, Post as After, ‵, raw, ◌⊛◌, some, later, await, pick, any_q, prop, at_ret, ◌$◌, ◌∵◌, !, qed, move, keep, drop, use0, use1, use2, split, join, rewrite, fsplit, fjoin, fpick, fpack, flt_i, feq_l, feq_i, suffices, frame, done}
use types.Match.{live, vrt, in_variant}
use types.Part.{whole, agg}
use types.Run.{stop, fld, lit, of_opd, and_then, no_more, first, exec, switches_on, returns, enter}
use types.ByLocal.{alloc_all, pass_all, free_all, look_at, get, get_in, get_tag, sets, sets_last, lands_as, env}
use denote.Builtin.{usize, RefOf}
use denote.Exit.{yes}
use denote.Laws.{Is}
use denote.Param.{layout}
use denote.Plain.{uint_vals, uint_Tells}
use denote.RattleType.{RattleType, Valss, owns}
use denote.RawPtr.{Ptr, RawPtr, block_ptr, null_ptr, ptr_val, room_for, in_a_block}
use denote.Ref.{ShrRef, shr_vals, shr_Tells}
use denote.Signature.{plain}
use denote.Steps.{only, nothing, owned, heard}
use denote.Struct.Declared as Declared
use denote.Struct.Owning.{shape}
use denote.Struct.Struct.{Struct, Struct-Makes, within}
use denote.Struct.Tuple.{Tuple, tuple_type}
use denote.Triple.Call.{calls_at}
use denote.Triple.Clauses.{lasts}
use denote.Triple.Spec.{triple_of}
use denote.Triple.Table.{framed}
use denote.Triple.Walked.{Stays, walk_of, says, stay_dropped, Goes-dropped, ends_at}
use Rattle.phys_mem.specs.Ownership.{bytes_row}
use Rattle.phys_mem.specs.declared.cells.Cells.{Cells}
use Rattle.phys_mem.specs.contracts.cells.Cells.{the_row as R, the_type}
use Rattle.phys_mem.specs.contracts.cells.allocate as f
use Rattle.phys_mem.proofs.cells.allocate.Statement.{statement}
use Rattle.phys_mem.proofs.cells.allocate.Code as code

abbrev stayed : Stays f.ended.signature.params f.ended.kept
stayed = (stay_dropped _ yes, (stay_dropped _ yes, tt))

abbrev Fields : RattleType
Fields = Struct (shape the_type)

abbrev Refusal : RattleType
Refusal = Struct (Declared.shape AE.the_type)

abbrev Pair : RattleType
Pair = Tuple (RawPtr ∷ R ∷ [])

abbrev Out : RattleType
Out = RS.the_row Pair AE.the_row

abbrev pair_val : Val → Val → Val
pair_val u v = vstruct (vcons u (vcons v vnil))

pair_of : {M : Type 1} {𝓤 : Ura M} (𝓛 : Logic 𝓤) (p : Ptr) (cells : Cells) (u v : Val)
    → ent 𝓤 (sep 𝓤 (sem 𝓛 (RawPtr.own_val p (u ∷ []))) (sem 𝓛 (R.own_val cells (v ∷ [])))) (sem 𝓛 (Pair.own_val (p, cells) (pair_val u v ∷ [])))
pair_of 𝓛 p cells u v =
    qed 𝓛 (‵ (RawPtr.own_val p (u ∷ [])) ∷ ‵ (R.own_val cells (v ∷ [])) ∷ []) ∵ nothing ! $ move ! (2 ∷ 0 ∷ []) $ fjoin ! $ move ! (1 ∷ 0 ∷ []) $ fjoin ! $
    feq_i ! (List Val) (pair_val u v ∷ []) (pair_val u v ∷ []) refl $ fjoin ! $
    fpack ! (Valss (RawPtr ∷ R ∷ [])) (within (Declared.shape (tuple_type (RawPtr ∷ R ∷ []))) (p, (cells, tt)) (pair_val u v ∷ [])) (u ∷ [], (v ∷ [], tt)) $ done !

module _ {M : Type 1} {𝓤 : Ura M} {𝓛 : Logic 𝓤} {K : Type 0} {Γ : List (Item 𝓤)} {G : Goal 𝓤 𝓛.H} (token : Ty → Ptr → Fml) (τ : Ty) (v : Val) where
  -- the two cases of what the allocator answered
  answers : K → (r : Answer.Denot) → ((b o : ℕ) → v ≡ answer_val true b o → Seq K 𝓛 (‵ (froom τ b o) ∷ ‵ (token τ (block_ptr b o)) ∷ Γ) G) → (v ≡ answer_val false 0 0 → Seq K 𝓛 Γ G)
      → Seq K 𝓛 (‵ (Answer.own_val r (v ∷ [])) ∷ ‵ (block_if_ok token τ r) ∷ Γ) G
  answers t (Ok p) ok none =
      fpick t (λ us. fsplit t $ feq_l t (λ e. fpick t (λ vss. fsplit t $ feq_l t (λ e'. fsplit t $ feq_l t (λ e''. drop t $
      in_a_block t p (λ z. fsep (room_for τ z) (token τ z)) (fst∗ 𝓤 (never 𝓤) (sem 𝓛 (token τ null_ptr))) (λ b o at. fsplit t $
      ok b o (ap only e ∙ ap (λ (ws : List Val). live 0 (of_list ws)) (e' ∙ ap (λ (ws : List Val). ws ++ []) (e'' ∙ ap (λ (z : Ptr). ptr_val z ∷ []) at)))))))))
  answers t (Err n) ok none =
      fpick t (λ us. fsplit t $ feq_l t (λ e. fpick t (λ vss. fsplit t $ feq_l t (λ e'. fsplit t $ fpick t (λ void. fsplit t $ feq_l t (λ e''. drop t $ drop t $ drop t $
      none (ap only e ∙ ap (λ (ws : List Val). live 1 (of_list ws)) (e' ∙ ap (λ (ws : List Val). ws ++ []) e''))))))))

pub allocate_spec : {M : Type 1} → statement M
allocate_spec 𝓤 𝓛 𝓜 𝓡 wired =
    let c = f.clauses 𝓛 𝓜.mem 𝓡.returns in let W = walk_of 𝓛 f.ended stayed c in let 𝓣 = tables 𝓤 𝓛.H 𝓜 𝓡 𝓡.env in
    proved 𝓛 f.ended stayed c 𝓜 𝓡
    (Goes-dropped 𝓛 1 (RefOf (0 ∷ []) tt (plain (λ _. HP.the_row)) (λ _. tt)) yes (λ κs x w. refl), (Goes-dropped 𝓛 1 (plain (λ _. usize)) yes (λ κs x w. refl), tt))
    f.Key.name code.function (code.unfolded 𝓤 𝓛.H 𝓜 𝓡 wired)
    (λ κs. (shr_vals, (uint_vals w64, tt))) (λ κs. (shr_Tells (named 0) κs.0 HP.the_row, (uint_Tells w64, tt)))
    (λ κs qs bounds a _ are.
    let κ = κs.0 in let q = qs.0 in let alloc = a.0 in let len = a.1.0 in
    let vss : List Val × (List Val × Unit {0}) = (shr_vals alloc, (uint_vals w64 len, tt)) in
    let y : W.Ghost = ((κs, qs, bounds, a, vss), tt) in
    let fits : len < 2 ^ 64 = are.1.0.1 in let τ = bytes_row len in
    let G = triple_of 𝓛 g.signature (g.spec 𝓛 𝓜.mem 𝓡.returns) in
    let z : G.Ghost = ((κs, qs, tt, (alloc, (len, (1, tt))), (shr_vals alloc, (vint w64 len ∷ [], (vint w64 1 ∷ [], tt)))), τ) in
    let laid : (capped (size τ) ≡ len) × (capped (align τ) ≡ 1) = (capped_is (size τ) (omega arith) ∙ omega arith, capped_is 1 (lit< tt)) in
    let out : (r : Out.Denot) (v : Val) → IfOk r (λ t. (t.1.at ≡ t.0) × (t.1.heap ≡ alloc.now) × (t.1.bytes ≡ []) × (t.1.spare ≡ len)) → Sq 𝓛 (‵ (Out.own_val r (v ∷ [])) ∷ ‵ (flft κ q) ∷ []) (prop (W.post y v)) = λ r v says_so.
    suffices ! _ (ends_at 𝓛 f.ended stayed c y v r (tt, (tt, tt)) (tt, (tt, tt))) $ says ! says_so $
    nothing ! $ move ! (2 ∷ 0 ∷ []) $ join ! $ frame ! $ nothing ! $ nothing ! $ fjoin ! $ nothing ! $ fjoin ! $ done ! in
    let both : Body = head (after 1 (code.function).body) in let En : (ℕ → ℕ) → Env 𝓤 𝓛.H = λ l. env (code.function).locals l in
    let Then : (ℕ → ℕ) → After 𝓤 𝓛.H = λ l. any_q (after_seq 𝓤 𝓛.H (Wp 𝓤 𝓛.H 𝓣.C 𝓣.Λ (En l) (after 2 (code.function).body) (at_return 𝓤 𝓛.H (En l) (W.post y))) (at_return 𝓤 𝓛.H (En l) (W.post y))) in
    qed 𝓛 (((‵ (flft κ q) ⊛ ‵ ftrue) ⊛ ‵ (owns (ShrRef (named 0) κ HP.the_row ∷ usize ∷ []) a vss)) ∷ raw (fact 𝓤 (len < 2 ^ 63)) ∷ []) ∵
    split ! $ split ! $ move ! (2 ∷ []) $ fsplit ! $ fsplit ! $ keep ! (5 ∷ 1 ∷ 3 ∷ []) $ heard ! _ (λ small.
    enter ! _ _ _ _ _ $ alloc_all ! (λ l. pass_all ! refl ((tt, tt), ((tt, record { fits = fits }), tt)) $
    -- [the `&` to the handle; the token of κ; the locals]
    nothing ! $ flt_i ! 1 (2 ^ 64) (lit< tt) $ feq_i ! (List Val) (vint w64 1 ∷ []) (vint w64 1 ∷ []) refl $ fjoin ! $ fjoin ! $
    flt_i ! len (2 ^ 64) fits $ feq_i ! (List Val) (vint w64 len ∷ []) (vint w64 len ∷ []) refl $ fjoin ! $ fjoin ! $
    move ! (1 ∷ []) $ feq_i ! (List Val) (shr_vals alloc) (shr_vals alloc) refl $ fjoin ! $ fjoin ! $ nothing ! $ move ! (2 ∷ 0 ∷ []) $ join ! $ join ! $
    use0 𝓛 (raw (fact 𝓤 ((capped (size τ) ≡ len) × (capped (align τ) ≡ 1)))) (fact_i 𝓤 _ (emp 𝓤) laid) $ move ! (1 ∷ 0 ∷ []) $ use2 𝓛 (raw (G.pre z)) (id⊢ 𝓤 _) $
    calls_at ! (framed 𝓤 𝓛.H 𝓜 𝓣) G (met 𝓤 𝓛 𝓜 𝓡 (code.calls-std_heap::GlobalAllocator::allocate 𝓡.env wired)) z (and_then ! (get ! refl) (and_then ! (get ! refl) (and_then ! (lit ! tt) (no_more !)))) (λ v.
    use1 𝓛 (later (some (λ (r : Answer.Denot). ((‵ (flft κ q) ⊛ ‵ ftrue) ⊛ ‵ (Answer.own_val r (v ∷ [])))
    ⊛ some (λ (ws : Unit {0} × (Unit {0} × (Unit {0} × Unit {0}))). ‵ (lasts g.ended z.0.0 z.0.3 ws) ⊛ ‵ (block_if_ok (ghosts.dealloc_token alloc.now) τ r))))) (id⊢ 𝓤 _) $ await ! tt $ pick ! (λ r.
    split ! $ split ! $ split ! $ move ! (3 ∷ []) $ pick ! (λ ws. split ! $ drop ! $ move ! (3 ∷ 0 ∷ 1 ∷ []) $
    answers (ghosts.dealloc_token alloc.now) τ v ! r
    (λ b o e.
    let p : Ptr = block_ptr b o in let cells : Cells = record { heap = alloc.now; at = p; bytes = []; spare = len } in
    let made : Val = pair_val (vptr b o) (vstruct vnil) in let typed : Good (layout Pair) made = (tt, (tt, (tt, tt))) in let good = first_Good (layout Pair) made typed in
    lands_as ! e refl (Answer-typed true b o) $ first ! $ switches_on ! (get_tag ! (vrt ! refl (fld ! refl (stop !))) (whole !)) $ exec ! 𝓣.C 𝓣.Λ (En l) (arm_body 0 both) (Then l) $
    sets ! (of_opd ! (get_in ! (vrt ! refl (fld ! refl (stop !))) (in_variant ! 0 0 refl refl (whole !)))) refl (tt, tt) $ sets ! (agg ! (no_more !)) refl (tt, tt) $
    sets ! (agg ! (and_then ! (get ! refl) (and_then ! (get ! refl) (no_more !)))) refl typed $ sets_last ! (agg ! (and_then ! (lit ! tt) (and_then ! (get ! refl) (no_more !)))) refl good $
    exec ! 𝓣.C 𝓣.Λ (En l) (after 2 (code.function).body) (at_ret (En l) (W.post y)) $ sets ! (of_opd ! (get ! refl)) refl good $
    rewrite ! 0 (λ (k : ℕ). ‵ (froom τ b k)) {x = 0 + o} (omega arith) refl $ rewrite ! 1 (λ (k : ℕ). ‵ (ghosts.dealloc_token alloc.now (bytes_row k) p)) {x = 0 + len} (omega arith) refl $ fjoin ! $
    nothing ! $ fjoin ! $ flt_i ! (0 + len) (2 ^ 63) (omega arith) $ fjoin ! $
    owned ! Fields (Is Fields) (Struct-Makes 𝓛 (shape the_type) tt) tt (vstruct vnil ∷ []) (tt, (refl, tt)) $ fjoin ! $
    feq_i ! (List Val) (vptr b o ∷ []) (vptr b o ∷ []) refl $ use2 𝓛 (‵ (Pair.own_val (p, cells) (made ∷ []))) (pair_of 𝓛 p cells (vptr b o) (vstruct vnil)) $
    use1 𝓛 (‵ (Out.own_val (Ok (p, cells)) (live 0 (vcons made vnil) ∷ []))) (ok_of 𝓛 Pair AE.the_row (p, cells) made) $
    returns ! (look_at ! 0 refl) $ free_all ! refl $ keep ! (0 ∷ 1 ∷ []) $ out (Ok (p, cells)) (live 0 (vcons made vnil)) (refl, refl, refl, refl))
    (λ e.
    let refused : Val = live 1 (vcons (vstruct vnil) vnil) in
    lands_as ! e refl (Answer-typed false 0 0) $ first ! $ switches_on ! (get_tag ! (vrt ! refl (fld ! refl (stop !))) (whole !)) $ exec ! 𝓣.C 𝓣.Λ (En l) (arm_body 1 both) (Then l) $
    sets ! (of_opd ! (get_in ! (vrt ! refl (fld ! refl (stop !))) (in_variant ! 1 0 refl refl (whole !)))) refl (tt, tt) $
    sets_last ! (agg ! (and_then ! (lit ! tt) (and_then ! (get ! refl) (no_more !)))) refl (tt, (record { fits = lit< tt }, (tt, tt))) $
    exec ! 𝓣.C 𝓣.Λ (En l) (after 2 (code.function).body) (at_ret (En l) (W.post y)) $ sets ! (of_opd ! (get ! refl)) refl (tt, (record { fits = lit< tt }, (tt, tt))) $
    owned ! Refusal (Is Refusal) (Struct-Makes 𝓛 (Declared.shape AE.the_type) tt) tt (vstruct vnil ∷ []) (tt, (refl, tt)) $
    use1 𝓛 (‵ (Out.own_val (Err (record {})) (refused ∷ []))) (err_of 𝓛 Pair AE.the_row (record {}) (vstruct vnil)) $
    returns ! (look_at ! 0 refl) $ free_all ! refl $ keep ! (0 ∷ 1 ∷ []) $ out (Err (record {})) refused tt)))))))
