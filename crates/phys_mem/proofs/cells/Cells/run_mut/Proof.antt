-- `run_mut` lends a run of bytes, and their owner follows it. Assumes `Logic`.
use Rattle.std.proofs.Common.{◌≡◌, ℕ, ◌+◌, ◌*◌, ◌^◌, ◌<◌, ◌≤◌, List, [], ◌∷◌, length, refl, sym, ◌∙◌, arith, w64, MutBor}
use Rattle.std.proofs.raw_atomic.Walks.{proved}
use Rattle.std.proofs.VecSteps.Shapes.{after}
use Rattle.std.specs.contracts.impls.GlobalAllocator.TheImpl.{ghosts}
use seplogic.Ra.Ura.{Ura}
use base.Fraction.{full_share}
use base.Fml.{Fml, GName, ftrue, fsep, flft, fat, froom}
use base.Logic.{ent, sep, never, id⊢}
use mir.Syntax.{named, ty_ptr}
use mir.Val.{Val}
use contract.Monad.{fact}
use contract.Running.{tables}
use types.Logic.{Logic, sem}
use types.Kit.{‵, raw, ◌⊛◌, some, later, await, pick, at_ret, ◌$◌, ◌∵◌, !, qed, move, keep, use1, use2, split, split3, join, group, rewrite, fsplit, fsplit3, fjoin, fpack, flt_l, flt_i, suffices, frame, done}
use types.Part.{agg}
use types.Run.{of_opd, bin, and_then, no_more, first, blocks, exec, returns, enter}
use types.ByLocal.{alloc_all, pass_all, free_all, look_at, get, sets, sets_last, take_at, give_at, env}
use denote.Array.{Array}
use denote.Builtin.{u8, usize}
use denote.Exit.{yes, no}
use denote.Follow.{follows}
use denote.FollowSlice.{Elements, lends_Elements}
use denote.Memory.{mem, cell_at, part_of}
use denote.Plain.{uint_vals, uint_Tells}
use denote.RattleType.{RattleType, owns}
use denote.RawPtr.{Ptr, RawPtr, block_ptr, ptr_val, in_a_block, rawptr_vals, rawptr_Tells, rawptr_Lawful}
use denote.Ref.{MutRef, mut_vals, mut_Tells}
use denote.Signature.{plain, mut_ref_to}
use denote.Slice.{MutSlice, slice_val}
use denote.Steps.{nothing, heard, opens}
use denote.Struct.Struct.{Struct}
use denote.Struct.Owning.{shape}
use denote.Triple.Walked.{Stays, walk_of, says, stay_dropped, Goes-dropped, Goes-spent_ref, ends_at}
use Rattle.phys_mem.specs.Ownership.{bytes_row, cells_own}
use Rattle.phys_mem.specs.Runs.{run_at, with_run}
use Rattle.phys_mem.specs.CellsLends.{with_bytes}
use Rattle.phys_mem.specs.declared.cells.Cells.{Cells}
use Rattle.phys_mem.specs.contracts.cells.Cells.{the_row as R, the_type}
use Rattle.phys_mem.specs.contracts.cells.Cells.run_mut as f
use Rattle.phys_mem.proofs.RunLaws.{length-run_at, length-with_run}
use Rattle.phys_mem.proofs.Rows.{Row, Around, run_out, run_in}
use Rattle.phys_mem.proofs.cells.Cells.run_mut.Statement.{statement}
use Rattle.phys_mem.proofs.cells.Cells.run_mut.Code as code

abbrev stayed : Stays f.ended.signature.params f.ended.kept
stayed = (stay_dropped (mut_ref_to (0 ∷ []) tt (plain (λ _. R))) no, (stay_dropped _ yes, (stay_dropped _ yes, (stay_dropped _ yes, tt))))

-- what the owner holds in fields, which is nothing
abbrev Fields : RattleType
Fields = Struct (shape the_type)

module _ {M : Type 1} {𝓤 : Ura M} (𝓛 : Logic 𝓤) (rb ro : ℕ) (cells : Cells) (at len b o : ℕ) (vs : List Val) where
  abbrev new : List ℕ → Cells
  new ws = with_bytes cells (with_run cells.bytes at ws)

  -- the room past k bytes, and the right to free all
  abbrev Tail : ℕ → Fml
  Tail k = fsep (froom (bytes_row cells.spare) b (k + o)) (ghosts.dealloc_token cells.heap (bytes_row (k + cells.spare)) (block_ptr b o))

  -- all but the run
  abbrev Rest : Fml
  Rest = fsep (Around 𝓛 b cells.bytes at len o) (fsep (Tail (length cells.bytes)) (fsep (Fields.own_val tt vs) (cell_at full_share R.mir vs rb ro)))

  back : cells.at ≡ block_ptr b o → at + len ≤ length cells.bytes → length cells.bytes + cells.spare < 2 ^ 63 → (ws : List ℕ) → length ws ≡ length (run_at cells.bytes at len)
      → ent 𝓤 (sep 𝓤 (sem 𝓛 (Row 𝓛 b (at + o) ws)) (sem 𝓛 Rest)) (sem 𝓛 ((mem R).own_at (new ws) rb ro))
  unfolding part_of
  back e within few ws same =
      let count : length ws ≡ len = same ∙ length-run_at cells.bytes at len within in
      let bytes = with_run cells.bytes at ws in
      let long : length bytes ≡ length cells.bytes = length-with_run cells.bytes at ws (omega arith) in
      qed 𝓛 (‵ (Row 𝓛 b (at + o) ws) ∷ ‵ Rest ∷ []) ∵ move ! (1 ∷ []) $ fsplit ! $ move ! (2 ∷ 0 ∷ []) $
      use2 𝓛 (‵ (Row 𝓛 b o bytes)) (run_in 𝓛 b cells.bytes at len o within ws count) $ move ! (1 ∷ []) $ fsplit3 ! $
      rewrite ! 0 (λ (k : ℕ). ‵ (Tail k)) (sym long) refl $ move ! (3 ∷ 0 ∷ []) $ fjoin ! $ flt_i ! (length bytes + cells.spare) (2 ^ 63) (omega arith) $ fjoin ! $
      rewrite ! 0 (λ (p : Ptr). ‵ (cells_own cells.heap p bytes cells.spare)) (sym e) refl $ move ! (1 ∷ 0 ∷ []) $ fjoin ! $ move ! (1 ∷ 0 ∷ []) $ fjoin ! $
      fpack ! (List Val) (λ us. fsep (cell_at full_share R.mir us rb ro) (R.own_val (new ws) us)) vs $ done !

pub run_mut_spec : {M : Type 1} → statement M
run_mut_spec 𝓤 𝓛 𝓜 𝓡 wired =
    let c = f.clauses 𝓛 𝓜.mem 𝓡.returns in let W = walk_of 𝓛 f.ended stayed c in let 𝓣 = tables 𝓤 𝓛.H 𝓜 𝓡 𝓡.env in
    let goes = Goes-dropped 𝓛 1 (plain (λ _. usize)) yes (λ κs x w. refl) in
    proved 𝓛 f.ended stayed c 𝓜 𝓡
    (Goes-spent_ref 𝓛 1 (0 ∷ []) tt (plain (λ _. R)), (Goes-dropped 𝓛 1 (plain (λ _. RawPtr)) yes (λ κs x w. refl), (goes, (goes, tt))))
    f.Key.name code.function (code.unfolded 𝓤 𝓛.H 𝓜 𝓡 wired)
    (λ κs. (mut_vals, (rawptr_vals, (uint_vals w64, (uint_vals w64, tt))))) (λ κs. (mut_Tells (named 0) κs.0 R, (rawptr_Tells, (uint_Tells w64, (uint_Tells w64, tt)))))
    (λ κs qs bounds a _ are.
    let κ = κs.0 in let q = qs.0 in let rb = a.0.ref_ptr.0 in let ro = a.0.ref_ptr.1 in let γ = a.0.ghost_name in
    let cells = a.0.now in let start = a.1.0 in let at = a.1.1.0 in let len = a.1.1.1.0 in
    let vss : List Val × (List Val × (List Val × (List Val × Unit {0}))) = (mut_vals a.0, (rawptr_vals start, (uint_vals w64 at, (uint_vals w64 len, tt)))) in
    let y : W.Ghost = ((κs, qs, bounds, a, vss), tt) in
    qed 𝓛 (((‵ (flft κ q) ⊛ ‵ ftrue) ⊛ ‵ (owns (MutRef (named 0) κ R ∷ RawPtr ∷ usize ∷ usize ∷ []) a vss)) ∷ raw (fact 𝓤 ((start ≡ cells.at) × (at + len ≤ length cells.bytes))) ∷ []) ∵
    split ! $ split ! $ move ! (2 ∷ []) $ fsplit ! $ fsplit3 ! $ keep ! (6 ∷ 1 ∷ 2 ∷ 4 ∷ []) $ heard ! _ (λ asked.
    -- [what γ is seen at; the borrow; the token of κ]
    enter ! _ _ _ _ _ $ alloc_all ! (λ l. pass_all ! refl ((tt, tt), (((rawptr_Lawful 𝓛).typed start _ refl).0, ((tt, record { fits = are.1.1.0.1 }), ((tt, record { fits = are.1.1.1.0.1 }), tt)))) $
    opens ! tt R {h = cells} rb ro (λ vs. move ! (1 ∷ []) $ fsplit ! $ move ! (1 ∷ []) $
    in_a_block ! cells.at (λ p. cells_own cells.heap p cells.bytes cells.spare) (id⊢ 𝓤 (never 𝓤)) (λ b o e. fsplit ! $ flt_l ! (λ few. fsplit ! $
    -- [the bytes; the room and the right to free; the fields; the cell; the open borrow, in three entries; the locals]
    let within = asked.1 in let xs = run_at cells.bytes at len in let long = length-run_at cells.bytes at len within in
    take_at ! 2 $ rewrite ! 0 (λ (p : Ptr). ‵ (fat full_share ty_ptr (l 2) 0 (ptr_val p))) (asked.0 ∙ e) refl $ give_at ! 2 $
    first ! $ blocks ! $ sets ! (bin ! (get ! refl) (get ! refl) tt) refl (tt, tt) $
    use1 𝓛 (‵ (Row 𝓛 b (at + o) xs) ⊛ ‵ (Around 𝓛 b cells.bytes at len o)) (run_out 𝓛 b cells.bytes at len o within) $ split ! $
    sets_last ! (agg ! (and_then ! (get ! refl) (and_then ! (get ! refl) (no_more !)))) refl (tt, (tt, (record { fits = are.1.1.1.0.1 }, tt))) $
    exec ! 𝓣.C 𝓣.Λ (env code.Mir.locals l) (after 1 (code.function).body) (at_ret _ (W.post y)) $ sets ! (of_opd ! (get ! refl)) refl (tt, (tt, (record { fits = are.1.1.1.0.1 }, tt))) $
    move ! (3 ∷ 4 ∷ []) $ fjoin ! $ move ! (3 ∷ 0 ∷ []) $ fjoin ! $ move ! (2 ∷ 0 ∷ []) $ fjoin ! $ move ! (2 ∷ 3 ∷ 4 ∷ 1 ∷ 0 ∷ []) $ group ! 5 $
    let put = new 𝓛 rb ro cells at len b o vs in let rest = sem 𝓛 (Rest 𝓛 rb ro cells at len b o vs) in
    let roomy : length xs < 2 ^ 64 = omega arith in let fitting : length xs * 1 < 2 ^ 63 = omega arith in
    let way = back 𝓛 rb ro cells at len b o vs e within few in let code = R.coded.code cells in let place : ℕ × ℕ = (b, at + o) in
    use1 𝓛 (later (some (λ (δ : GName). raw (Elements 𝓛 R u8 put (named 0) κ q rb ro b (at + o) γ xs (roomy, fitting) rest way δ)))) (lends_Elements 𝓛 R u8 put (named 0) κ q rb ro b (at + o) γ xs (roomy, fitting) rest way code code) $ await ! tt $ pick ! (λ δ.
    let r : MutBor (List ℕ) = record { ref_ptr = place; ghost_name = δ; now = xs } in
    returns ! (look_at ! 0 refl) $ free_all ! refl $ keep ! (0 ∷ []) $
    use1 𝓛 (‵ ((MutSlice (named 0) κ u8).own_val r (slice_val place (length xs) ∷ [])) ⊛ ‵ (flft κ q) ⊛ ‵ (follows R (Array u8 0) γ δ put)) (id⊢ 𝓤 _) $ split3 ! $
    rewrite ! 0 (λ (k : ℕ). ‵ ((MutSlice (named 0) κ u8).own_val r (slice_val place k ∷ []))) long refl $
    suffices ! _ (ends_at 𝓛 f.ended stayed c y (slice_val place len) r (tt, (tt, (tt, (tt, tt)))) (tt, (tt, (tt, (tt, tt))))) $
    nothing ! $ nothing ! $ fjoin ! $ nothing ! $ fjoin ! $ nothing ! $ fjoin ! $ nothing ! $ fjoin ! $ join ! $ nothing ! $ move ! (2 ∷ 0 ∷ []) $ join ! $ join ! $ frame ! $ says ! refl $ done !)))))))
