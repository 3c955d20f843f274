-- The pushes of a delivery to a page that is kept.
use Rattle.std.proofs.Common.{◌≡◌, ℕ, ◌+◌, ◌-◌, ◌*◌, ◌≤◌, ◌^◌, ◌<◌, List, ◌∷◌, false, length, drop, arith, refl, sym, ap, ◌∙◌}
use Rattle.std.specs.Prelude.{Ok}
use Rattle.nk_bits.specs.declared.access.Access.TheVariants.{Write}
use Rattle.nk_bits.specs.declared.control.Control.{Control}
use Rattle.nk_bits.specs.declared.fault.AccessFault.{AccessFault}
use Rattle.nk_bits.specs.declared.leaf.Target.{Target}
use Rattle.nk_bits.specs.Accesses.{accessed, crosses}
use Rattle.nk_bits.specs.Outcomes.{Outcome}
use Rattle.nk_bits.specs.Translations.{Translations}
use Rattle.phys_mem.specs.Memory.{stored, stores}
use Rattle.page_walk.specs.MemoryAccess.{bytes_written, stores_at, view_of}
use Rattle.mem_access.specs.KeptRuns.{IsKeptRun}
use Rattle.x86_regs.specs.Operands.{lowered}
use Rattle.trap_unit.specs.TrapDelivery.{Pushed, made_at, pushed, pushed_on, pushes}

-- so many of the values were pushed, the last one to this place: the pushes of the others are left
pub record ArePushed (values : List ℕ) (place : ℕ) (before : List ℕ) (count at : ℕ) (m : List ℕ) : Type 0 where
  pub size : length m ≡ length before
  pub here : at + 8 * count ≡ place + 8 * length values
  pub left : (control : Control) (tlb : Translations) (top : ℕ) → top < 2 ^ 64 → IsKeptRun (length before) control 0 Write tlb (lowered top (8 * length values)) (8 * length values) place →
      pushes control values top before tlb ≡ pushes control (drop count values) (lowered top (8 * count)) m tlb

abbrev pushed_by : ℕ → ℕ → List ℕ → Outcome AccessFault Target → Pushed
pushed_by va value m check = record { memory = bytes_written m va 8 value check.answer; tlb = check.tlb; answer = made_at va check.answer }

module _ (puts : (va width value : ℕ) (target : Target) → crosses va width ≡ false → stores_at va width target value ≡ stores width target.first value) where
  pushed_kept : (size : ℕ) (m : List ℕ) (control : Control) (tlb : Translations) (va count place offset value top : ℕ) →
      IsKeptRun size control 0 Write tlb va count place → offset + 8 ≤ count → va + offset ≡ lowered top 8 →
      pushed control value top m tlb ≡ record { memory = stored m (stores 8 (place + offset) value); tlb = tlb; answer = Ok (va + offset) }
  unfolding pushed
  pushed_kept size m control tlb va count place offset value top run within is =
      let target : Target = record { first = place + offset; second = 0 } in
      ap (λ (at : ℕ). pushed_by at value m (accessed (view_of m control 0) Write tlb at 8)) (sym is)
      ∙ (sym (ap (pushed_by (va + offset) value m) (run.found m offset 8 (omega arith) within))
      ∙ ap (λ (s : List (ℕ × ℕ)). record { memory = stored m s; tlb = tlb; answer = Ok (va + offset) }) (puts (va + offset) 8 value target (run.one offset 8 within)))

  -- one more
  pub one_pushed : (values : List ℕ) (place : ℕ) (before : List ℕ) (count at : ℕ) (m : List ℕ) (value : ℕ) (after : List ℕ) →
      ArePushed values place before count at m → count < length values → length values ≤ 6 → drop count values ≡ value ∷ drop (count + 1) values →
      after ≡ stored m (stores 8 (at - 8) value) → length after ≡ length m → ArePushed values place before (count + 1) (at - 8) after
  one_pushed values place before count at m value after are below few first put size = record {
    size = size ∙ are.size;
    here = omega (arith, are.here, below);
    left = λ control tlb top fits run.
        let base : ℕ = lowered top (8 * length values) in
        let offset : ℕ = 8 * length values - 8 * (count + 1) in
        let rest : List ℕ = drop (count + 1) values in
        let there : place + offset ≡ at - 8 = omega (arith, are.here, below) in
        let next : base + offset ≡ lowered top (8 * (count + 1)) = omega (arith, run.page, below, few) in
        let is : base + offset ≡ lowered (lowered top (8 * count)) 8 = omega (arith, run.page, below, few) in
        are.left control tlb top fits run
        ∙ (ap (λ (left : List ℕ). pushes control left (lowered top (8 * count)) m tlb) first
        ∙ (ap (λ (it : Pushed). pushed_on it.answer it.memory it.tlb (pushes control rest))
        (pushed_kept (length before) m control tlb base (8 * length values) place offset value (lowered top (8 * count)) run (omega (arith, below)) is)
        ∙ (ap (λ (last : ℕ). pushes control rest last (stored m (stores 8 (place + offset) value)) tlb) next
        ∙ (ap (λ (place : ℕ). pushes control rest (lowered top (8 * (count + 1))) (stored m (stores 8 place value)) tlb) there
        ∙ ap (λ (m : List ℕ). pushes control rest (lowered top (8 * (count + 1))) m tlb) (sym put)))));
  }

-- none yet
pub none_pushed : (values : List ℕ) (place : ℕ) (m : List ℕ) → length values ≤ 6 → ArePushed values place m 0 (place + 8 * length values) m
none_pushed values place m few = record {
  size = refl;
  here = omega arith;
  left = λ control tlb top fits run.
      ap (λ (last : ℕ). pushes control values last m tlb) (omega (arith, fits));
}
