-- Lines of code and stretches at worked values: two forms one behind the other, a line that the code of its page has,
-- four codes on a page that is kept, and turns that are made over them. Memory is 64 bytes, with code from place 16 on;
-- the page FFFFFF8000000000 is kept, and is frame 0.
use Rattle.std.proofs.Common.{◌≡◌, ℕ, zero, suc, ◌+◌, ◌%◌, ◌<◌, true, false, ◌*◌, ◌++◌, List, [], ◌∷◌, inl, refl, ap, sym, subst, arith}
use Rattle.std.specs.Prelude.{replicate, slice_index_or}
use Rattle.std.proofs.lemmas.List.Elements.{All-cons, All-nil, All-replicate}
use Rattle.decode_fields.specs.declared.parts.Rep.TheVariants.{No}
use Rattle.nk_bits.specs.declared.control.Control.{Control}
use Rattle.nk_bits.specs.declared.access.Access.TheVariants.{Fetch}
use Rattle.nk_bits.specs.Accesses.{accessed, completed, crosses, first_part, has_canonical_bytes, reached, smep_of, wp_of}
use Rattle.nk_bits.specs.Outcomes.{answered}
use Rattle.nk_bits.specs.Translations.{NamesFramesIn, Translations}
use Rattle.page_walk.specs.MemoryAccess.{view_of}
use Rattle.phys_mem.specs.Memory.{byte_at, number_at}
use Rattle.x86_decode.specs.declared.operation.Op.TheVariants as op
use Rattle.x86_decode.specs.Grid.{entry_at, slots_from}
use Rattle.page_walk.specs.AccessPlans.{gathered}
use Rattle.x86_regs.specs.Effects.{effect_of}
use Rattle.x86_regs.specs.declared.delivery.Tables.{Tables}
use Rattle.x86_regs.specs.declared.registers.Regs.{Regs}
use Rattle.nk_bits.specs.declared.leaf.Leaf.{Leaf}
use Rattle.mem_access.specs.declared.window.KeptPage.{KeptPage}
use Rattle.mem_access.specs.declared.window.Window.{Window}
use Rattle.mem_access.specs.Windows.{IsReadPage, IsWindow, IsWritePage}
use Rattle.exec_quick.specs.declared.quick.Kind.TheVariants as kind
use Rattle.exec_quick.specs.declared.quick.Quick.{Quick}
use Rattle.cpu_step.specs.declared.kept_code.KeptCode.{KeptCode}
use Rattle.cpu_step.specs.declared.lines.Line.{Line}
use Rattle.cpu_step.specs.CodeLines.{AreFrom, AreMadeOn, IsCodeInOne, IsPageStretch, IsStretch, page_place}
use Rattle.cpu_step.specs.KeptFetches.{IsKeptCode}
use Rattle.cpu_step.specs.Processor.{Processor}
use Rattle.cpu_step.specs.InstructionFetch.{instruction_at}
use Rattle.cpu_step.specs.QuickTurns.{AreQuickTurns}
use Rattle.cpu_step.specs.Turns.{instructed, turned}

-- NOP of so many bytes at a place
abbrev nop_at : ℕ → ℕ → Quick
nop_at at size = record {
  kind = kind.Nothing;
  op = op.Nop;
  width = 64;
  size = size;
  at = at;
  to = 17;
  from = 17;
  base = 16;
  index = 16;
  scale = 1;
  follows_rip = false;
  displacement = 0;
  value = 0;
  rep = No;
}

-- five bytes and two in the line that begins at 401000, from its first byte on; and the second one alone
two_forms : AreFrom 0x401000 0x401000 (nop_at 0 5 ∷ nop_at 5 2 ∷ [])
two_forms = (refl, (refl, tt))

second_form : AreFrom 0x401000 0x401005 (nop_at 5 2 ∷ [])
second_form = (refl, tt)

-- code of one place
abbrev code_at : ℕ → ℕ → KeptCode
code_at start base = record { start = start; last = 0; base = base }

-- sixteen bytes of code, and memory that has them from place 16 on
abbrev code_bytes : List ℕ
code_bytes = 0x48 ∷ 0x01 ∷ 0xC3 ∷ 0x29 ∷ 0xC4 ∷ 0x53 ∷ 0x5B ∷ 0xFA
    ∷ 0x90 ∷ 0xEB ∷ 0x05 ∷ 0xE2 ∷ 0x06 ∷ 0x74 ∷ 0x07 ∷ 0xC9 ∷ []

abbrev pub memory : List ℕ
memory = replicate 16 0x90 ++ code_bytes ++ replicate 32 0x90

-- a line of these bytes at 401010, without a form, whose number is 1
abbrev line : Line
line = record {
  at = 0x401010;
  stamp = 1;
  size = 16;
  code = code_bytes ++ replicate 48 0;
  count = 0;
  forms = replicate 16 (nop_at 0 1);
}

-- code that begins there under number 1, and other code under the other numbers
abbrev four : List KeptCode
four = code_at 0x404010 0 ∷ code_at 0x401010 16 ∷ code_at 0x402010 0 ∷ code_at 0x403010 0 ∷ []

last_eight : (k : ℕ) → k < 8 → byte_at line.code (8 + k) ≡ byte_at memory (16 + (8 + k))
last_eight zero less = refl
last_eight (suc zero) less = refl
last_eight (suc (suc zero)) less = refl
last_eight (suc (suc (suc zero))) less = refl
last_eight (suc (suc (suc (suc zero)))) less = refl
last_eight (suc (suc (suc (suc (suc zero))))) less = refl
last_eight (suc (suc (suc (suc (suc (suc zero)))))) less = refl
last_eight (suc (suc (suc (suc (suc (suc (suc zero))))))) less = refl
last_eight (suc (suc (suc (suc (suc (suc (suc (suc k)))))))) less = absurd (omega (arith, less))

same_bytes : (k : ℕ) → k < 16 → byte_at line.code k ≡ byte_at memory (16 + k)
same_bytes zero less = refl
same_bytes (suc zero) less = refl
same_bytes (suc (suc zero)) less = refl
same_bytes (suc (suc (suc zero))) less = refl
same_bytes (suc (suc (suc (suc zero)))) less = refl
same_bytes (suc (suc (suc (suc (suc zero))))) less = refl
same_bytes (suc (suc (suc (suc (suc (suc zero)))))) less = refl
same_bytes (suc (suc (suc (suc (suc (suc (suc zero))))))) less = refl
same_bytes (suc (suc (suc (suc (suc (suc (suc (suc k)))))))) less =
    let behind : 8 + k ≡ suc (suc (suc (suc (suc (suc (suc (suc k))))))) = omega arith in
    subst (λ n. byte_at line.code n ≡ byte_at memory (16 + n)) behind (last_eight k (omega (arith, less)))

has_code : IsCodeInOne four memory line
has_code d = record { from = omega arith; to = omega arith; same = same_bytes }

-- the supervisor over the page that is kept
abbrev pub control : Control
control = record { cr0 = 0x80010001; cr2 = 0; root = 5; cr4 = 0x100020; efer = 0xD00 }

abbrev pub tlb : Translations
tlb = record {
  pairs = (0xFFFFFF8000000, record { frame = 0; rights = record { can_write = true; user = false; exec = true } }) ∷ [];
  upper = [];
}

-- code at place 16 of memory, on that page
abbrev kept : KeptCode
kept = code_at 0xFFFFFF8000000010 16

fetched_first : (m : List ℕ) → answered (record { first = 16; second = 0 }) tlb
    ≡ accessed (view_of m control 0) Fetch tlb 0xFFFFFF8000000010 1
unfolding accessed completed reached crosses has_canonical_bytes first_part wp_of smep_of
fetched_first m = refl

is_kept : IsKeptCode 64 control 0 tlb kept
is_kept = record {
  page = omega arith;
  bound = omega arith;
  inside = omega arith;
  elsewhere = λ supervisor. inl (omega arith);
  aligned = refl;
  fetched = λ m ahead near.
      let none : 0 ≡ ahead = omega (arith, near) in
      subst (λ n. answered (record { first = 16 + n; second = 0 }) tlb
      ≡ accessed (view_of m control 0) Fetch tlb (0xFFFFFF8000000010 + n) 1) none (fetched_first m);
}

-- no page of data, and a window without one, which keeps off the first page of memory under each number
abbrev no_page : KeptPage
no_page = record { start = 0; base = 0; room = 0; spare = 0 }

abbrev pub window : Window
window = record { read = replicate 8 no_page; write = replicate 8 no_page; off = 0 ∷ 0 ∷ 0 ∷ 0 ∷ [] }

off_pages : (i : ℕ) → slice_index_or window.off i 0 % 4096 ≡ 0
off_pages zero = refl
off_pages (suc zero) = refl
off_pages (suc (suc zero)) = refl
off_pages (suc (suc (suc zero))) = refl
off_pages (suc (suc (suc (suc i)))) = refl

pub is_window : IsWindow 64 control 0 tlb window
is_window = record {
  read = All-replicate (IsReadPage 64 control 0 tlb) 8 no_page
      (record { room = omega arith; kept = λ some. absurd (omega (arith, some)) });
  write = All-replicate (IsWritePage 64 control 0 tlb window.off) 8 no_page (record {
    room = omega arith;
    kept = λ some. absurd (omega (arith, some));
    read = λ some. absurd (omega (arith, some));
    apart = λ some. absurd (omega (arith, some));
  });
  off = off_pages;
}

named_frames : NamesFramesIn 64 tlb
named_frames = record {
  pairs = All-cons (λ (pair : ℕ × Leaf). 4096 * pair.1.frame < 64)
      (0xFFFFFF8000000, record { frame = 0; rights = record { can_write = true; user = false; exec = true } }) []
      (omega arith) (All-nil (λ (pair : ℕ × Leaf). 4096 * pair.1.frame < 64));
  upper = λ i d less. absurd (omega (arith, less));
}

-- the page of code alone, and the same code under each number
page_stretch : IsPageStretch 64 control 0 tlb kept window
page_stretch = record { kept = is_kept; windowed = is_window; off = refl; frames = named_frames }

first_places : (i : ℕ) (d : KeptCode) → i < 4
    → slice_index_or window.off i 0 ≡ page_place (slice_index_or (kept ∷ kept ∷ kept ∷ kept ∷ []) i d)
first_places zero d few = refl
first_places (suc zero) d few = refl
first_places (suc (suc zero)) d few = refl
first_places (suc (suc (suc zero))) d few = refl
first_places (suc (suc (suc (suc i)))) d few = absurd (omega (arith, few))

stretch : IsStretch 64 control 0 tlb (kept ∷ kept ∷ kept ∷ kept ∷ []) window
stretch = record {
  count = refl;
  kept = All-replicate (IsKeptCode 64 control 0 tlb) 4 kept is_kept;
  windowed = is_window;
  off = first_places;
  frames = named_frames;
}

-- registers before a NOP of the kept page, and behind it
abbrev pub regs : ℕ → Regs
regs rip = record {
  general = 0 ∷ 1 ∷ 2 ∷ 3 ∷ 4 ∷ 5 ∷ 6 ∷ 7 ∷ 8 ∷ 9 ∷ 10 ∷ 11 ∷ 12 ∷ 13 ∷ 14 ∷ 15 ∷ [];
  rip = rip;
  flags = 2;
  cpl = 0;
  ss = 0x10;
}

-- no turn, which changes nothing
no_turn : (from : Regs) → from.cpl ≡ 0 → AreMadeOn 0 control tlb from memory window from memory window
unfolding AreQuickTurns
no_turn from supervisor = record {
  turns = λ p plain. (ap (λ (r : Regs). record p { regs = r }) (sym plain.regs), refl);
  code = λ i few p above below. refl;
  off = refl;
  size = refl;
  cpl = refl;
  windowed = subst (λ cpl. IsWindow 64 control cpl tlb window) (sym supervisor) is_window;
}

-- one NOP, at place 24 of memory, whatever tables and input are
abbrev pub plain : Tables → List ℕ → ℕ → Processor
plain tables input rip = record {
  regs = regs rip;
  control = control;
  tables = tables;
  tlb = tlb;
  input = input;
  pending = 0;
  shielded = false;
  halted = false;
}

pub one_turn : (tables : Tables) (input : List ℕ)
    → AreQuickTurns 1 (plain tables input 0xFFFFFF8000000018) memory (plain tables input 0xFFFFFF8000000019) memory
unfolding AreQuickTurns turned instructed instruction_at entry_at slots_from effect_of gathered accessed completed reached crosses has_canonical_bytes first_part number_at wp_of smep_of
one_turn tables input = (record { no_body = refl; runs = refl; ran = refl; control = refl }, (refl, refl))
