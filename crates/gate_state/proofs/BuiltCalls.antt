-- Where a call begins, built at concrete values: what isn't asked of such a processor may be anything, DF for one.
use Rattle.std.proofs.Common.{◌≡◌, ℕ, Bool, true, false, List, refl}
use Rattle.nk_bits.specs.Accesses.{wp_of}
use Rattle.nk_bits.specs.Translations.{Translations}
use Rattle.x86_alu.specs.SignedNumbers.{bit}
use Rattle.x86_regs.specs.declared.delivery.Tables.{Tables}
use Rattle.x86_regs.specs.Combinations.{direction_flag, interrupt_flag}
use Rattle.cpu_step.specs.Processor.{Processor}
use Rattle.gate_state.specs.GateCalls.{IsCalling}

-- whatever general registers, SS, CR2, root, tables, translations, input and pending vectors are, and whether or not a
-- shield stands
module _ (general : List ℕ) (ss cr2 root cr4 efer : ℕ) (tables : Tables) (tlb : Translations) (input : List ℕ)
    (pending : ℕ) (shielded : Bool) where
  -- the supervisor behind the entry gate's CLI, with these flags and this CR0
  abbrev caller : ℕ → ℕ → Processor
  caller flags cr0 = record {
    regs = record { general = general; rip = 0xFFFFFF8000001002; flags = flags; cpl = 0; ss = ss };
    control = record { cr0 = cr0; cr2 = cr2; root = root; cr4 = cr4; efer = efer };
    tables = tables;
    tlb = tlb;
    input = input;
    pending = pending;
    shielded = shielded;
    halted = false;
  }

  -- with any flags but IF, and any CR0 with WP
  calls : (flags cr0 : ℕ) → bit flags interrupt_flag ≡ false → wp_of cr0 ≡ true → IsCalling (caller flags cr0)
  calls flags cr0 off kept = record { supervisor = refl; runs = refl; rip = refl; uninterrupted = off; kept = kept }

  -- with the flags as a run begins; with DF; and with every flag but IF, CD and NW set in CR0
  calls_plainly : IsCalling (caller 2 0x80010001)
  unfolding wp_of
  calls_plainly = calls 2 0x80010001 refl refl

  calls_backwards : IsCalling (caller 0x402 0x80010001)
  unfolding wp_of
  calls_backwards = calls 0x402 0x80010001 refl refl

  calls_with_all : IsCalling (caller 0xCD7 0xE0010001)
  unfolding wp_of
  calls_with_all = calls 0xCD7 0xE0010001 refl refl

-- the flags of the second and the third have DF
backwards : (bit 0x402 direction_flag ≡ true) × (bit 0xCD7 direction_flag ≡ true)
backwards = (refl, refl)
