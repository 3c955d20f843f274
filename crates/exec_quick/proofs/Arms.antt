-- What each arm of a turn by a quick form needs: its kind's parts are read off the kind, the rest is its function's.
use Rattle.std.proofs.Common.{ℕ, ◌≡◌, inl, inr, true, false, List, length, refl, sym, ap, subst, ◌∙◌}
use Rattle.decode_fields.specs.Widths.{IsWidth}
use Rattle.nk_bits.specs.declared.control.Control.{Control}
use Rattle.nk_bits.specs.Translations.{Translations}
use Rattle.x86_regs.specs.declared.form.Form.{Form}
use Rattle.x86_regs.specs.declared.registers.Regs.{Regs}
use Rattle.mem_access.specs.declared.window.Window.{Window}
use Rattle.mem_access.specs.Windows.{IsWindow}
use Rattle.exec_quick.specs.declared.quick.Kind.{Kind}
use Rattle.exec_quick.specs.declared.quick.Quick.{Quick}
use Rattle.exec_quick.specs.declared.quick.Went.{Went}
use Rattle.exec_quick.specs.QuickForms.{AreSameOnPages, effect_made, form_by, is_left, is_slow, is_supervisor, next_address, quiet_outcome, went}
use Rattle.exec_quick.specs.TurnsByForm.{IsTurn}

-- the four widths
pub is_8 : IsWidth 8
is_8 = inl refl

pub is_16 : IsWidth 16
is_16 = inr (inl refl)

pub is_32 : IsWidth 32
is_32 = inr (inr (inl refl))

pub is_64 : IsWidth 64
is_64 = inr (inr (inr refl))

-- the pages of a memory that stays
unmoved : (places : List ℕ) {m n : List ℕ} → n ≡ m → AreSameOnPages places m n
unmoved places {m} same = subst (λ (n : List ℕ). AreSameOnPages places m n) (sym same) (λ _ _ _ _ _. refl)

-- an arm whose kind is the supervisor's
pub supervised :
    {q : Quick} {k : Kind} {at : ℕ} {control : Control} {tlb : Translations} {regs : Regs} {m : List ℕ}
    {window : Window} {result : Went} {after : Regs} {n : List ℕ} {kept : Window} →
    q.kind ≡ k → is_slow k ≡ false → (is_left result ≡ false → regs.cpl ≡ 0) →
    (is_left result ≡ false
    → quiet_outcome (went result (next_address at q.size) after) n tlb
    ≡ effect_made (form_by k) q (record regs { rip = at }) control m tlb) →
    (is_left result ≡ true → (after ≡ regs) × (n ≡ m)) →
    IsWindow (length m) control regs.cpl tlb kept → kept.off ≡ window.off → AreSameOnPages window.off m n →
    length n ≡ length m → after.cpl ≡ regs.cpl →
    IsTurn q at control tlb regs m window result after n kept
supervised {q} {k} {at} {control} {tlb} {regs} {m} {window} {result} {after} {n} {kept} same quick supervisor made
    left is off code sized privilege =
    record {
      kept_is = is;
      quick = λ _. ap is_slow same ∙ quick;
      supervisor = λ on _. supervisor on;
      made = λ on. made on ∙ ap (λ (form : Form). effect_made form q (record regs { rip = at }) control m tlb)
          (sym (ap form_by same));
      left = left;
      off = off;
      code = code;
      sized = sized;
      privilege = privilege;
    }

-- an arm whose function speaks of the quick form itself
pub own :
    {q : Quick} {k : Kind} {at : ℕ} {control : Control} {tlb : Translations} {regs : Regs} {m : List ℕ}
    {window : Window} {result : Went} {after : Regs} {n : List ℕ} {kept : Window} →
    q.kind ≡ k → is_slow k ≡ false → is_supervisor k ≡ false →
    (is_left result ≡ false
    → quiet_outcome (went result (next_address at q.size) after) n tlb
    ≡ effect_made (form_by k) q (record regs { rip = at }) control m tlb) →
    (is_left result ≡ true → (after ≡ regs) × (n ≡ m)) →
    IsWindow (length m) control regs.cpl tlb kept → kept.off ≡ window.off → AreSameOnPages window.off m n →
    length n ≡ length m → after.cpl ≡ regs.cpl →
    IsTurn q at control tlb regs m window result after n kept
own {q} {k} {at} {control} {tlb} {regs} {m} {window} {result} {after} {n} {kept} same quick plain made
    left is off code sized privilege =
    record {
      kept_is = is;
      quick = λ _. ap is_slow same ∙ quick;
      supervisor = λ _ supervisor.
          let one : is_supervisor k ≡ true = sym (ap is_supervisor same) ∙ supervisor in
          let two : is_supervisor k ≡ false = plain in
          cc;
      made = λ on. made on ∙ ap (λ (form : Form). effect_made form q (record regs { rip = at }) control m tlb)
          (sym (ap form_by same));
      left = left;
      off = off;
      code = code;
      sized = sized;
      privilege = privilege;
    }

-- an arm whose function speaks of the form with the kind's parts put in
pub in_window :
    {q : Quick} {k : Kind} {at : ℕ} {control : Control} {tlb : Translations} {regs : Regs} {m : List ℕ}
    {window : Window} {result : Went} {after : Regs} {n : List ℕ} {kept : Window} →
    q.kind ≡ k → is_slow k ≡ false → is_supervisor k ≡ false →
    (is_left result ≡ false
    → quiet_outcome (went result (next_address at q.size) after) n tlb
    ≡ effect_made (form_by k) (record q { kind = k }) (record regs { rip = at }) control m tlb) →
    (is_left result ≡ true → (after ≡ regs) × (n ≡ m)) →
    IsWindow (length m) control regs.cpl tlb kept → kept.off ≡ window.off → AreSameOnPages window.off m n →
    length n ≡ length m → after.cpl ≡ regs.cpl →
    IsTurn q at control tlb regs m window result after n kept
in_window {q} {k} {at} {control} {tlb} {regs} {m} {window} {result} {after} {n} {kept} same quick plain made
    left is off code sized privilege =
    own same quick plain
    (λ on. made on ∙ ap (λ (kind : Kind).
    effect_made (form_by k) (record q { kind = kind }) (record regs { rip = at }) control m tlb) (sym same))
    left is off code sized privilege

-- the same of functions that leave memory and window
pub own_alone :
    {q : Quick} {k : Kind} {at : ℕ} {control : Control} {tlb : Translations} {regs : Regs} {m : List ℕ}
    {window : Window} {result : Went} {after : Regs} {n : List ℕ} →
    q.kind ≡ k → is_slow k ≡ false → is_supervisor k ≡ false → IsWindow (length m) control regs.cpl tlb window →
    (is_left result ≡ false
    → quiet_outcome (went result (next_address at q.size) after) n tlb
    ≡ effect_made (form_by k) q (record regs { rip = at }) control m tlb) →
    (is_left result ≡ true → (after ≡ regs) × (n ≡ m)) →
    n ≡ m → after.cpl ≡ regs.cpl →
    IsTurn q at control tlb regs m window result after n window
own_alone {q} {k} {at} {control} {tlb} {regs} {m} {window} {result} {after} {n} same quick plain is made
    left memory privilege =
    own same quick plain made left is refl (unmoved window.off memory)
    (ap length memory) privilege

pub alone :
    {q : Quick} {k : Kind} {at : ℕ} {control : Control} {tlb : Translations} {regs : Regs} {m : List ℕ}
    {window : Window} {result : Went} {after : Regs} {n : List ℕ} →
    q.kind ≡ k → is_slow k ≡ false → is_supervisor k ≡ false → IsWindow (length m) control regs.cpl tlb window →
    (is_left result ≡ false
    → quiet_outcome (went result (next_address at q.size) after) n tlb
    ≡ effect_made (form_by k) (record q { kind = k }) (record regs { rip = at }) control m tlb) →
    (is_left result ≡ true → (after ≡ regs) × (n ≡ m)) →
    n ≡ m → after.cpl ≡ regs.cpl →
    IsTurn q at control tlb regs m window result after n window
alone {q} {k} {at} {control} {tlb} {regs} {m} {window} {result} {after} {n} same quick plain is made
    left memory privilege =
    own_alone same quick plain is
    (λ on. made on ∙ ap (λ (kind : Kind).
    effect_made (form_by k) (record q { kind = kind }) (record regs { rip = at }) control m tlb) (sym same))
    left memory privilege

pub supervised_alone :
    {q : Quick} {k : Kind} {at : ℕ} {control : Control} {tlb : Translations} {regs : Regs} {m : List ℕ}
    {window : Window} {result : Went} {after : Regs} {n : List ℕ} →
    q.kind ≡ k → is_slow k ≡ false → (is_left result ≡ false → regs.cpl ≡ 0) →
    IsWindow (length m) control regs.cpl tlb window →
    (is_left result ≡ false
    → quiet_outcome (went result (next_address at q.size) after) n tlb
    ≡ effect_made (form_by k) q (record regs { rip = at }) control m tlb) →
    (is_left result ≡ true → (after ≡ regs) × (n ≡ m)) →
    n ≡ m → after.cpl ≡ regs.cpl →
    IsTurn q at control tlb regs m window result after n window
supervised_alone {q} {k} {at} {control} {tlb} {regs} {m} {window} {result} {after} {n} same quick supervisor is made
    left memory privilege =
    supervised same quick supervisor made left is refl
    (unmoved window.off memory) (ap length memory) privilege
