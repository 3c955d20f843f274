-- What a call leaves of the books that it doesn't touch, from what the part that makes it says; and what a refused one leaves.
use Rattle.std.proofs.Common.{◌≡◌, ◌⊎◌, ℕ, ◌/◌, ◌<◌, ◌≤◌, Bool, true, false, List, length, arith, refl, sym, ap, subst, ◌∙◌, inl, inr}
use Rattle.std.specs.Prelude.{OnErr, OnSome, Option, None, Some, Result, Ok, Err, is_some}
use Rattle.std.proofs.lemmas.Bool.{false≢true}
use Rattle.phys_mem.specs.MaskedMemory.{is_book_frame}
use Rattle.phys_mem.specs.Memory.{byte_at}
use Rattle.nk_bits.specs.declared.rule.Rule.{Rule}
use Rattle.nk_bits.specs.Rules.{rule_of}
use Rattle.policy_book.specs.PolicyRules.{is_logged}
use Rattle.region_book.specs.RegionRecords.{Book, region_of}
use Rattle.vmmu.specs.declared.tables.Tables4.{Tables4}
use Rattle.region_book.specs.RegionBytes.{RegionIndex}
use Rattle.write_log.specs.LogBytes.{LogCounts}
use Rattle.nk_body.specs.declared.call.Call.{Call}
use Rattle.nk_body.specs.declared.call.Call.TheVariants.{Write}
use Rattle.nk_body.specs.BooksTouched.{LeavesBooks, touches_descriptors, touches_regions}
use Rattle.nk_body.specs.NestedRecord.{HoldsBooks, OwnState}
use Rattle.nk_body.proofs.CallsMade.{own_of}
use Rattle.nk_body.proofs.HeldBooks.{book_place}
use Rattle.nk_body.proofs.RegionsHeld.{frames_are}

-- what is said of a result that names a rule, of another one that names the same
pub err_as : {A B : Type 0} (P : Type 0) (r : Result A Rule) (s : Result B Rule) → rule_of s ≡ rule_of r → OnErr r P → OnErr s P
err_as P (Ok a) (Ok b) same p = tt
err_as P (Ok a) (Err e) same p = absurd (false≢true (ap is_some (sym same)))
err_as P (Err d) (Ok b) same p = tt
err_as P (Err d) (Err e) same p = p

-- and of any result
pub err_on : {A B : Type 0} {P : Type 0} (r : Result A B) → P → OnErr r P
err_on (Ok a) p = tt
err_on (Err b) p = p

-- what is said where a call breaks a rule
pub none_on : (P : Type 0) (verdict : Option Rule) → None ≡ verdict → OnSome verdict P
none_on P None is = tt
none_on P (Some e) is = absurd (false≢true (ap is_some is))

pub some_on : {P : Type 0} (rule : Rule) (verdict : Option Rule) → Some rule ≡ verdict → P → OnSome verdict P
some_on rule None is p = tt
some_on rule (Some e) is p = p

-- the kernel stands as it stood where its parts do
module _ (t u : Tables4) (trap : ℕ) (regions after : RegionIndex) (log later_log : LogCounts) (own : OwnState)
    (view : own_of t trap regions log ≡ own) where
  pub own_stands : u ≡ t → after ≡ regions → later_log ≡ log → own_of u trap after later_log ≡ own
  own_stands tables books logs = (λ i. own_of (tables i) trap (books i) (logs i)) ∙ view

untouched : (b : Bool) → b ≡ true → b ≡ false → ⊥
untouched b on off = false≢true (sym off ∙ on)

-- the call by another name
pub call_leaves : {book : Book} {m later : List ℕ} {call other : Call} → call ≡ other → LeavesBooks book other m later
    → LeavesBooks book call m later
call_leaves {book = book} {m = m} {later = later} same leaves = subst (λ (it : Call). LeavesBooks book it m later) (sym same) leaves

module _ (book : Book) (call : Call) (m later : List ℕ) where
  -- memory stays
  pub leaves_all : later ≡ m → LeavesBooks book call m later
  leaves_all same = record {
    descriptors = λ off p low is. ap (λ l. byte_at l p) same;
    regions = λ off p low high. ap (λ l. byte_at l p) same;
    log = λ off p low high. ap (λ l. byte_at l p) same;
  }

  -- a call on page tables
  pub tables_leave : touches_descriptors call ≡ true
      → ((p : ℕ) → 0x1A000 ≤ p → p < 0x40000 → byte_at later p ≡ byte_at m p) → LeavesBooks book call m later
  tables_leave on same = record {
    descriptors = λ off. absurd (untouched (touches_descriptors call) on off);
    regions = λ off p low high. same p (omega (arith, low)) high;
    log = λ off p low high. same p low (omega (arith, high));
  }

  -- pages are declared
  pub pages_leave : touches_descriptors call ≡ true → touches_regions call ≡ true
      → ((p : ℕ) → p < 0x2A000 → byte_at later p ≡ byte_at m p) → LeavesBooks book call m later
  pages_leave frames on same = record {
    descriptors = λ off. absurd (untouched (touches_descriptors call) frames off);
    regions = λ off. absurd (untouched (touches_regions call) on off);
    log = λ off p low high. same p high;
  }

  -- a region of the pool is allocated or freed
  pub pool_leaves : touches_regions call ≡ true
      → ((p : ℕ) → is_book_frame (length m / 4096) (p / 4096) ≡ true → (p < 0x2A000) ⊎ (0x40000 ≤ p) → byte_at later p ≡ byte_at m p)
      → LeavesBooks book call m later
  pool_leaves on same = record {
    descriptors = λ off p low is. same p is (inr low);
    regions = λ off. absurd (untouched (touches_regions call) on off);
    log = λ off p low high. same p (book_place (length m / 4096) p low (omega (arith, high))) (inl high);
  }

  -- the handler is set: every byte of the books' frames stays
  pub handler_leaves : (own : OwnState) → HoldsBooks own m
      → ((p : ℕ) → is_book_frame own.frames (p / 4096) ≡ true → byte_at later p ≡ byte_at m p) → LeavesBooks book call m later
  handler_leaves own held same = record {
    descriptors = λ off p low is. same p (sym (ap (λ n. is_book_frame n (p / 4096)) (frames_are own m held)) ∙ is);
    regions = λ off p low high. same p (book_place own.frames p (omega (arith, low)) high);
    log = λ off p low high. same p (book_place own.frames p low (omega (arith, high)));
  }

-- a range of a region is written
module _ (book : Book) (region offset place count : ℕ) (m later : List ℕ) where
  pub write_leaves : ((p : ℕ) → 0x40000 ≤ p → is_book_frame (length m / 4096) (p / 4096) ≡ true → byte_at later p ≡ byte_at m p)
      → (is_logged (region_of book region) ≡ false → (p : ℕ) → 0x1A000 ≤ p → p < 0x2A000 → byte_at later p ≡ byte_at m p)
      → LeavesBooks book (Write region offset place count) m later
  write_leaves frames unlogged = record {
    descriptors = λ off. frames;
    regions = λ off. absurd (untouched true refl off);
    log = unlogged;
  }
