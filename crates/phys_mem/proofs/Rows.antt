-- Bytes side by side in a block, cut and put together again. Assumes `Logic`.
use Rattle.std.proofs.Common.{◌≡◌, ℕ, zero, suc, ◌+◌, ◌≤◌, List, [], ◌∷◌, ◌++◌, length, take, drop, refl, sym, ap, subst, ◌∙◌, arith}
use Rattle.std.proofs.lemmas.List.{length-take, take-append-drop, drop-drop, append_assoc}
use seplogic.Ra.Ura.{Ura}
use base.Logic.{ent, sep, via, snd∗, id⊢, mono_r}
use base.Fraction.{full_share}
use base.Fml.{Fml, Lft, fsep, fat, froom}
use mir.Syntax.{w8, ty_int}
use mir.Val.{vint}
use types.Logic.{Logic, sem}
use types.Run.{forget}
use types.SemTy.{cells}
use types.Kit.{‵, ◌⊛◌, ◌$◌, ◌∵◌, !, qed, by, move, keep, drop as skip, use1, use2, split, rewrite, fsplit, fjoin, done}
use denote.Builtin.{u8}
use denote.Memory.{mem, shared_of}
use denote.Plain.{uint_out}
use denote.Slice.{elements_shared}
use denote.Steps.{nothing}
use Rattle.phys_mem.specs.Ownership.{bytes_row}
use Rattle.phys_mem.specs.Runs.{run_at, with_run}
use Rattle.phys_mem.proofs.RunLaws.{with_run-fits, length-run_at}

module _ {M : Type 1} {𝓤 : Ura M} (𝓛 : Logic 𝓤) (b : ℕ) where
  abbrev pub Row : ℕ → List ℕ → Fml
  Row o bs = cells (mem u8) bs b o

  pub cut : (xs ys : List ℕ) (o at : ℕ) → at ≡ length xs + o → ent 𝓤 (sem 𝓛 (Row o (xs ++ ys))) (sep 𝓤 (sem 𝓛 (Row o xs)) (sem 𝓛 (Row at ys)))
  cut [] ys o at e = qed 𝓛 (‵ (Row o ys) ∷ []) ∵ rewrite ! 0 (λ (k : ℕ). ‵ (Row k ys)) {x = at} (omega arith) refl $ nothing ! $ done !
  cut (x ∷ xs) ys o at e = let more : at ≡ suc (length xs) + o = e in qed 𝓛 (‵ (Row o (x ∷ xs ++ ys)) ∷ []) ∵ fsplit ! $ move ! (1 ∷ []) $
      use1 𝓛 (‵ (Row (o + 1) xs) ⊛ ‵ (Row at ys)) (cut xs ys (o + 1) at (omega arith)) $ split ! $ move ! (2 ∷ 0 ∷ []) $ fjoin ! $ done !

  pub glue : (xs ys : List ℕ) (o at : ℕ) → at ≡ length xs + o → ent 𝓤 (sep 𝓤 (sem 𝓛 (Row o xs)) (sem 𝓛 (Row at ys))) (sem 𝓛 (Row o (xs ++ ys)))
  glue [] ys o at e = qed 𝓛 (‵ (Row o []) ∷ ‵ (Row at ys) ∷ []) ∵ skip ! $ rewrite ! 0 (λ (k : ℕ). ‵ (Row k ys)) {x = o} (omega arith) refl $ done !
  glue (x ∷ xs) ys o at e = let more : at ≡ suc (length xs) + o = e in qed 𝓛 (‵ (Row o (x ∷ xs)) ∷ ‵ (Row at ys) ∷ []) ∵ fsplit ! $ move ! (1 ∷ 2 ∷ []) $
      use2 𝓛 (‵ (Row (o + 1) (xs ++ ys))) (glue xs ys (o + 1) at (omega arith)) $ move ! (1 ∷ 0 ∷ []) $ fjoin ! $ done !

  -- bytes are room, whatever they are
  pub to_room : (bs : List ℕ) (o : ℕ) → ent 𝓤 (sem 𝓛 (Row o bs)) (sem 𝓛 (froom (bytes_row (length bs)) b o))
  to_room [] o = 𝓛.laws.room_nil (ty_int w8) b o
  to_room (x ∷ bs) o = qed 𝓛 (‵ (Row o (x ∷ bs)) ∷ []) ∵ fsplit ! $ use1 𝓛 (‵ (fat full_share (ty_int w8) b o (vint w8 x))) (uint_out 𝓛 full_share w8 x b o) $ forget ! 0 refl $ move ! (1 ∷ []) $
      use1 𝓛 (‵ (froom (bytes_row (length bs)) b (o + 1))) (to_room bs (o + 1)) $ move ! (1 ∷ []) $ by ! (𝓛.laws.room_cons (ty_int w8) (length bs) b o)

  module _ (m : List ℕ) (p n o : ℕ) where
    -- the bytes but for the n from place p on
    abbrev pub Around : Fml
    Around = fsep (Row o (take p m)) (Row (n + (p + o)) (drop (p + n) m))

    pub run_out : p + n ≤ length m → ent 𝓤 (sem 𝓛 (Row o m)) (sep 𝓤 (sem 𝓛 (Row (p + o) (run_at m p n))) (sem 𝓛 Around))
    run_out h =
        let run = run_at m p n in
        let parted : m ≡ take p m ++ (run ++ drop (p + n) m) = sym (take-append-drop p m) ∙ ap (λ l. take p m ++ l) (sym (take-append-drop n (drop p m)) ∙ ap (λ l. run ++ l) (drop-drop n p m)) in
        qed 𝓛 (‵ (Row o m) ∷ []) ∵ rewrite ! 0 (λ (l : List ℕ). ‵ (Row o l)) parted refl $
        use1 𝓛 (‵ (Row o (take p m)) ⊛ ‵ (Row (p + o) (run ++ drop (p + n) m))) (cut (take p m) (run ++ drop (p + n) m) o (p + o) (omega (arith, length-take p m))) $ split ! $ move ! (1 ∷ []) $
        use1 𝓛 (‵ (Row (p + o) run) ⊛ ‵ (Row (n + (p + o)) (drop (p + n) m))) (cut run (drop (p + n) m) (p + o) (n + (p + o)) (omega (arith, length-run_at m p n h))) $
        split ! $ move ! (2 ∷ 1 ∷ []) $ fjoin ! $ move ! (1 ∷ []) $ done !

    pub run_in : p + n ≤ length m → (bs : List ℕ) → length bs ≡ n → ent 𝓤 (sep 𝓤 (sem 𝓛 (Row (p + o) bs)) (sem 𝓛 Around)) (sem 𝓛 (Row o (with_run m p bs)))
    run_in h bs long =
        let rest = drop (p + n) m in
        let whole : take p m ++ (bs ++ rest) ≡ with_run m p bs = ap (λ k. take p m ++ (bs ++ drop (p + k) m)) (sym long) ∙ sym (with_run-fits m p bs (omega arith) ∙ append_assoc (take p m) bs (drop (p + length bs) m)) in
        qed 𝓛 (‵ (Row (p + o) bs) ∷ ‵ Around ∷ []) ∵ move ! (1 ∷ []) $ fsplit ! $ move ! (2 ∷ 1 ∷ []) $
        use2 𝓛 (‵ (Row (p + o) (bs ++ rest))) (glue bs rest (p + o) (n + (p + o)) (omega arith)) $ move ! (1 ∷ 0 ∷ []) $
        use2 𝓛 (‵ (Row o (take p m ++ (bs ++ rest)))) (glue (take p m) (bs ++ rest) o (p + o) (omega (arith, length-take p m))) $
        rewrite ! 0 (λ (l : List ℕ). ‵ (Row o l)) whole refl $ done !

  module _ (κ : Lft) where
    abbrev Seen : ℕ → List ℕ → Fml
    Seen o bs = elements_shared u8 bs b o κ

    from_on : (m : List ℕ) (p o at : ℕ) → p ≤ length m → at ≡ p + o → ent 𝓤 (sem 𝓛 (Seen o m)) (sem 𝓛 (Seen at (drop p m)))
    from_on m zero o at h e = let same : o ≡ at = omega arith in subst (λ k. ent 𝓤 (sem 𝓛 (Seen o m)) (sem 𝓛 (Seen k m))) same (id⊢ 𝓤 _)
    from_on [] (suc p) o at h e = absurd (omega arith)
    from_on (x ∷ m) (suc p) o at h e = via 𝓤 (sem 𝓛 (Seen (o + 1) m)) (snd∗ 𝓤 (sem 𝓛 (shared_of u8 x b o κ)) (sem 𝓛 (Seen (o + 1) m))) (from_on m p (o + 1) at (omega arith) (omega arith))

    up_to : (xs ys : List ℕ) (o : ℕ) → ent 𝓤 (sem 𝓛 (Seen o (xs ++ ys))) (sem 𝓛 (Seen o xs))
    up_to [] ys o = qed 𝓛 (‵ (Seen o ys) ∷ []) ∵ keep ! [] $ done !
    up_to (x ∷ xs) ys o = mono_r 𝓤 (sem 𝓛 (shared_of u8 x b o κ)) (up_to xs ys (o + 1))

    pub run_seen : (m : List ℕ) (p n o : ℕ) → p ≤ length m → ent 𝓤 (sem 𝓛 (Seen o m)) (sem 𝓛 (Seen (p + o) (run_at m p n)))
    run_seen m p n o h = qed 𝓛 (‵ (Seen o m) ∷ []) ∵ use1 𝓛 (‵ (Seen (p + o) (drop p m))) (from_on m p o (p + o) h refl) $
        rewrite ! 0 (λ (l : List ℕ). ‵ (Seen (p + o) l)) (sym (take-append-drop n (drop p m))) refl $ by ! (up_to (take n (drop p m)) (drop n (drop p m)) (p + o))
