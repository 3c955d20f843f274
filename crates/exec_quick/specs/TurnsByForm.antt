-- A turn by a quick form: what it leaves, in one record.
use Rattle.std.specs.Prelude.{ℕ, ◌≡◌, true, false, List, length}
use Rattle.nk_bits.specs.declared.control.Control.{Control}
use Rattle.nk_bits.specs.Translations.{Translations}
use Rattle.x86_regs.specs.declared.registers.Regs.{Regs}
use Rattle.mem_access.specs.declared.window.Window.{Window}
use Rattle.mem_access.specs.Windows.{IsWindow}
use Rattle.exec_quick.specs.declared.quick.Quick.{Quick}
use Rattle.exec_quick.specs.declared.quick.Went.{Went}
use Rattle.exec_quick.specs.QuickForms.{AreSameOnPages, effect_made, form_by, is_left, is_slow, is_supervisor, next_address, quiet_outcome, went}

-- from these registers, memory and window a turn by the form that stands at a place led to those
pub record IsTurn (q : Quick) (at : ℕ) (control : Control) (tlb : Translations) (regs : Regs) (m : List ℕ)
    (window : Window) (result : Went) (after : Regs) (n : List ℕ) (kept : Window) : Type 0 where
  pub kept_is : IsWindow (length m) control regs.cpl tlb kept
  pub quick : is_left result ≡ false → is_slow q.kind ≡ false
  pub supervisor : is_left result ≡ false → is_supervisor q.kind ≡ true → regs.cpl ≡ 0
  pub made : is_left result ≡ false
      → quiet_outcome (went result (next_address at q.size) after) n tlb
      ≡ effect_made (form_by q.kind) q (record regs { rip = at }) control m tlb
  pub left : is_left result ≡ true → (after ≡ regs) × (n ≡ m)
  pub off : kept.off ≡ window.off
  pub code : AreSameOnPages window.off m n
  pub sized : length n ≡ length m
  pub privilege : after.cpl ≡ regs.cpl
