-- Turns by lines of code: what they leave, one after the other, and what stays as it was seen.
use Rattle.std.proofs.Common.{◌≡◌, ℕ, zero, suc, ◌+◌, ◌-◌, ◌%◌, ◌^◌, ◌<◌, ◌≤◌, true, false, List, [], ◌∷◌, All, length, get_or, refl, ap, sym, subst, ◌∙◌, arith}
use Rattle.std.specs.Prelude.{◌&&◌, not}
use Rattle.std.proofs.lemmas.List.Elements.{All-weaker}
use Rattle.nk_bits.specs.declared.control.Control.{Control}
use Rattle.nk_bits.specs.declared.leaf.Target.{Target}
use Rattle.nk_bits.specs.declared.fault.AccessFault.{AccessFault}
use Rattle.nk_bits.specs.Accesses.{View, wp_of}
use Rattle.nk_bits.specs.Outcomes.{Outcome, and_then, answered, refused}
use Rattle.nk_bits.specs.Translations.{NamesFramesIn, Translations}
use Rattle.page_walk.specs.MemoryAccess.{view_of}
use Rattle.phys_mem.specs.Memory.{IsBytes, byte_at}
use Rattle.x86_decode.specs.Reader.{decoded_of}
use Rattle.x86_regs.specs.declared.faults.Fault.TheVariants.{General}
use Rattle.x86_regs.specs.declared.registers.Regs.{Regs}
use Rattle.mem_access.specs.declared.window.Window.{Window}
use Rattle.mem_access.specs.Windows.{IsWindow}
use Rattle.exec_quick.specs.declared.quick.Quick.{Quick}
use Rattle.exec_quick.specs.declared.quick.Went.{Went}
use Rattle.exec_quick.specs.declared.quick.Went.TheVariants.{Left, On, Off}
use Rattle.exec_quick.specs.QuickForms.{AreSameOnPages, effect_made, form_by, instruction_of, is_left, is_slow, is_supervisor, quiet_outcome, went}
use Rattle.cpu_step.specs.declared.kept_code.KeptCode.{KeptCode}
use Rattle.cpu_step.specs.declared.lines.Line.{Line}
use Rattle.cpu_step.specs.CodeLines.{AreFrom, AreMadeOn, AreTurns, IsCodeIn, IsCodeInOne, IsFormIn, IsLineOf, IsPageStretch, IsPlain, IsStretch, code_behind, code_number, page_place}
use Rattle.cpu_step.specs.DecodingMemo.{place_found}
use Rattle.cpu_step.specs.InstructionFetch.{decided_by, instruction_at}
use Rattle.cpu_step.specs.KeptFetches.{IsKeptCode}
use Rattle.cpu_step.specs.Processor.{Processor}
use Rattle.cpu_step.specs.QuickTurns.{AreQuickTurns}
use Rattle.cpu_step.specs.Turns.{Turned, is_at_body, ran, turned}
use Rattle.cpu_step.proofs.LongerCode.{DecodingFacts}
use Rattle.cpu_step.proofs.PageFetches.{PageFacts, decided_on_page}
use Rattle.cpu_step.proofs.QuickTurnLemmas.{more_turns, no_turns, not_at_body, one_more, quick_turned}

-- the same code by another list of bytes, which stand from another place on
code_alike : (m c : List ℕ) (p at size i n : ℕ) → ((k : ℕ) → k < size → byte_at c k ≡ byte_at m (p + k)) → at + i + n ≤ size → code_behind m (p + at) i n ≡ code_behind c at i n
code_alike m c p at size i zero same within = refl
code_alike m c p at size i (suc n) same within =
    let less : at + i < size = omega (arith, within) in
    let place : p + (at + i) ≡ p + at + i = omega arith in
    let byte : byte_at m (p + at + i) ≡ byte_at c (at + i) = sym (same (at + i) less ∙ ap (byte_at m) place) in
    λ j. byte j ∷ code_alike m c p at size (suc i) n same (omega (arith, within)) j

-- the forms behind this one stand where RIP goes on: a line ends below 2 ^ 64
pub wrapped_from : (code : List ℕ) (start at size all : ℕ) (forms : List Quick) → start + all ≤ 2 ^ 64 → All (IsFormIn code all) forms →
    AreFrom start (at + size) forms → AreFrom start ((at + size) % 2 ^ 64) forms
wrapped_from code start at size all [] bound right from = tt
wrapped_from code start at size all (q ∷ forms) bound right from =
    let here : (at + size) % 2 ^ 64 ≡ at + size = omega (arith, bound, from.0, (right 0 q (omega arith)).within) in
    subst (λ n. AreFrom start n (q ∷ forms)) (sym here) from

-- no turn
no_turns_to : (p : Processor) (m : List ℕ) (regs : Regs) → p.regs ≡ regs → AreQuickTurns 0 p m (record p { regs = regs }) m
unfolding AreQuickTurns
no_turns_to p m regs same = (ap (λ (r : Regs). record p { regs = r }) (sym same), refl)

plain_is : (regs : Regs) (control : Control) (tlb : Translations) (p : Processor) → IsPlain regs control tlb p → record p { regs = regs; control = control; tlb = tlb } ≡ p
plain_is regs control tlb p plain = λ j. record p { regs = sym plain.regs j; control = sym plain.control j; tlb = sym plain.tlb j }

pub went_cpl : (answer : Went) (next : ℕ) (regs : Regs) → (went answer next regs).cpl ≡ regs.cpl
went_cpl Left next regs = refl
went_cpl On next regs = refl
went_cpl Off next regs = refl

module _ (control : Control) (tlb : Translations) where
  pub none_on : (regs : Regs) (m : List ℕ) (w : Window) → IsWindow (length m) control regs.cpl tlb w → AreMadeOn 0 control tlb regs m w regs m w
  none_on regs m w windowed = record {
    turns = λ p plain. no_turns_to p m regs plain.regs;
    code = λ i few p from to. refl;
    off = refl;
    size = refl;
    cpl = refl;
    windowed = windowed;
  }

  pub no_turn : (regs : Regs) (m : List ℕ) → AreTurns 0 control tlb regs m regs m
  no_turn regs m = record { turns = λ p plain. no_turns_to p m regs plain.regs; size = refl; cpl = refl }

  -- nothing is made, but the window may be another
  pub left_on : (at : ℕ) (a b : Regs) (m n : List ℕ) (w v : Window) → b ≡ a → n ≡ m → v.off ≡ w.off → IsWindow (length m) control a.cpl tlb v →
      AreMadeOn 0 control tlb (record a { rip = at }) m w (record b { rip = at }) n v
  left_on at a b m n w v same kept off windowed =
      subst (λ (x : Regs × List ℕ). AreMadeOn 0 control tlb (record a { rip = at }) m w (record x.0 { rip = at }) x.1 v) (λ j. (sym same j, sym kept j)) (record {
        turns = λ p plain. no_turns_to p m (record a { rip = at }) plain.regs;
        code = λ i few p from to. refl;
        off = off;
        size = refl;
        cpl = refl;
        windowed = windowed;
      })

  pub more_on : (k j : ℕ) (a b d : Regs) (m n o : List ℕ) (w v u : Window) → AreMadeOn k control tlb a m w b n v → AreMadeOn j control tlb b n v d o u →
      AreMadeOn (k + j) control tlb a m w d o u
  more_on k j a b d m n o w v u first later = record {
    turns = λ p plain. more_turns k j p (record p { regs = b }) (record p { regs = d }) m n o (first.turns p plain)
        (later.turns (record p { regs = b }) (record {
          regs = refl;
          control = plain.control;
          tlb = plain.tlb;
          runs = plain.runs;
          open_to = plain.open_to;
          none = plain.none;
        }));
    code = λ i few p from to.
        let same : get_or v.off i 0 ≡ get_or w.off i 0 = ap (λ (off : List ℕ). get_or off i 0) first.off in
        later.code i few p (omega (arith, from, same)) (omega (arith, to, same)) ∙ first.code i few p from to;
    off = later.off ∙ first.off;
    size = later.size ∙ first.size;
    cpl = later.cpl ∙ first.cpl;
    windowed = later.windowed;
  }

  pub turns_more : (k j : ℕ) (a b d : Regs) (m n o : List ℕ) (v u : Window) → AreTurns k control tlb a m b n → AreMadeOn j control tlb b n v d o u →
      AreTurns (k + j) control tlb a m d o
  turns_more k j a b d m n o v u first later = record {
    turns = λ p plain. more_turns k j p (record p { regs = b }) (record p { regs = d }) m n o (first.turns p plain)
        (later.turns (record p { regs = b }) (record {
          regs = refl;
          control = plain.control;
          tlb = plain.tlb;
          runs = plain.runs;
          open_to = plain.open_to;
          none = plain.none;
        }));
    size = later.size ∙ first.size;
    cpl = later.cpl ∙ first.cpl;
  }

  -- a turn that sets RIP, one that goes on behind its instruction, and none
  pub off_on : (answer : Went) (a b : Regs) (m o : List ℕ) (w v : Window) (next : ℕ) → answer ≡ Off →
      (is_left answer ≡ false → AreMadeOn 1 control tlb a m w (went answer next b) o v) → AreMadeOn 1 control tlb a m w b o v
  off_on answer a b m o w v next is made = subst (λ x. is_left x ≡ false → AreMadeOn 1 control tlb a m w (went x next b) o v) is made refl

  pub behind_on : (answer : Went) (a b : Regs) (m o : List ℕ) (w v : Window) (next : ℕ) → answer ≡ On →
      (is_left answer ≡ false → AreMadeOn 1 control tlb a m w (went answer next b) o v) → AreMadeOn 1 control tlb a m w (record b { rip = next }) o v
  behind_on answer a b m o w v next is made = subst (λ x. is_left x ≡ false → AreMadeOn 1 control tlb a m w (went x next b) o v) is made refl

  pub left_by : (answer : Went) (a b : Regs) (m o : List ℕ) (w v : Window) → answer ≡ Left →
      (is_left answer ≡ true → AreMadeOn 0 control tlb a m w b o v) → AreMadeOn 0 control tlb a m w b o v
  left_by answer a b m o w v is made = made (ap is_left is)

  pub none_more : (k : ℕ) (a b d : Regs) (m n o : List ℕ) (w v u : Window) → AreMadeOn k control tlb a m w b n v → AreMadeOn 0 control tlb b n v d o u →
      AreMadeOn k control tlb a m w d o u
  none_more k a b d m n o w v u first later = subst (λ i. AreMadeOn i control tlb a m w d o u) (omega arith) (more_on k 0 a b d m n o w v u first later)

  -- code is kept, and memory has the code of lines, behind turns that were made
  module _ (n : ℕ) (a b : Regs) (m o : List ℕ) (w v : Window) (made : AreMadeOn n control tlb a m w b o v) where
    pub page_stretch_on : (code : KeptCode) → IsPageStretch (length m) control a.cpl tlb code w → IsPageStretch (length o) control b.cpl tlb code v
    page_stretch_on code stretch = record {
      kept = subst (λ (x : ℕ × ℕ). IsKeptCode x.0 control x.1 tlb code) (λ j. (sym made.size j, sym made.cpl j)) stretch.kept;
      windowed = made.windowed;
      off = ap (λ (off : List ℕ). get_or off (code_number code.start) 0) made.off ∙ stretch.off;
      frames = subst (λ size. NamesFramesIn size tlb) (sym made.size) stretch.frames;
    }

    module _ (codes : List KeptCode) (stretch : IsStretch (length m) control a.cpl tlb codes w) where
      pub stretch_on : IsStretch (length o) control b.cpl tlb codes v
      stretch_on = record {
        count = stretch.count;
        kept = subst (λ (x : ℕ × ℕ). All (IsKeptCode x.0 control x.1 tlb) codes) (λ j. (sym made.size j, sym made.cpl j)) stretch.kept;
        windowed = made.windowed;
        off = λ i d few. ap (λ (off : List ℕ). get_or off i 0) made.off ∙ stretch.off i d few;
        frames = subst (λ size. NamesFramesIn size tlb) (sym made.size) stretch.frames;
      }

      code_on : (line : Line) → IsCodeInOne codes m line → IsCodeInOne codes o line
      code_on line one = λ d.
          let number : ℕ = code_number line.at in
          let code : KeptCode = get_or codes number d in
          let is : IsCodeIn code m line = one d in
          let off : get_or w.off number 0 ≡ page_place code = stretch.off number d (omega arith) in
          let kept : IsKeptCode (length m) control a.cpl tlb code = stretch.kept number d (omega (arith, stretch.count)) in
          let place : ℕ = code.base + (line.at - code.start) in record {
            from = is.from;
            to = is.to;
            same = λ k less. is.same k less ∙ sym (made.code number (omega arith) (place + k) (omega (arith, off))
                (omega (arith, off, is.from, is.to, less, kept.page, kept.aligned)));
          }

      pub lines_on : (stamp : ℕ) (lines : List Line) → All (IsLineOf stamp codes m) lines → All (IsLineOf stamp codes o) lines
      lines_on stamp lines all =
          All-weaker (IsLineOf stamp codes m) (IsLineOf stamp codes o)
          (λ (line : Line) (is : IsLineOf stamp codes m line). record { by = is.by; here = λ e. code_on line (is.here e) }) lines all

  module _ (pages : PageFacts) (decodings : DecodingFacts) (code : KeptCode) (line : Line) (q : Quick) (at : ℕ) (a : Regs) (m : List ℕ) (w : Window)
      (bytes : IsBytes m) (kept : IsKeptCode (length m) control a.cpl tlb code) (is : IsCodeIn code m line) (form : IsFormIn line.code line.size q)
      (here : at ≡ line.at + q.at) (quick : is_slow q.kind ≡ false) (supervisor : is_supervisor q.kind ≡ true → a.cpl ≡ 0) where
    abbrev ahead : ℕ
    ahead = line.at + q.at - code.start

    near : ahead ≤ code.last
    near = omega (arith, is.from, is.to, form.within)

    stands_at : code.start + ahead ≡ at
    stands_at = omega (arith, is.from, here)

    fetched : instruction_at m (view_of m control a.cpl) at tlb ≡ answered (record { instr = instruction_of q; size = q.size }) tlb
    fetched =
        let view : View = view_of m control a.cpl in
        let begins : ℕ = code.base + (line.at - code.start) in
        let place : ℕ = begins + q.at in
        let there : code.base + ahead ≡ place = omega (arith, is.from) in
        let fits : at < 2 ^ 64 = omega (arith, stands_at, near, kept.page, kept.bound) in
        let within : at % 4096 ≤ 4080 = omega (arith, stands_at, near, kept.page) in
        let found : place_found view at tlb ≡ answered place tlb =
        subst (λ (x : ℕ × ℕ). place_found view x.0 tlb ≡ answered x.1 tlb) (λ j. (stands_at j, there j))
        (ap (λ (o : Outcome AccessFault Target). and_then o (λ target after. answered target.first after)) (sym (kept.fetched m ahead near))) in
        decided_on_page pages decodings m bytes view at tlb tlb place fits within found
        ∙ (ap (λ d. decided_by (decoded_of d) tlb (refused (General 0) tlb)) (code_alike m line.code begins q.at line.size 0 15 is.same (omega (arith, form.within)))
        ∙ ap (λ d. decided_by d tlb (refused (General 0) tlb)) (form.stands quick).means)

    turn : (r : Regs) (o : List ℕ) → quiet_outcome r o tlb ≡ effect_made (form_by q.kind) q (record a { rip = at }) control m tlb → (p : Processor) → IsPlain (record a { rip = at }) control tlb p →
        AreQuickTurns 1 (record p { regs = record a { rip = at }; control = control; tlb = tlb }) m (record p { regs = r; control = control; tlb = tlb }) o
    turn r o made p plain =
        let it : Processor = record p { regs = record a { rip = at }; control = control; tlb = tlb } in
        let elsewhere : is_at_body it.regs ≡ false = not_at_body (length m) it code ahead kept near stands_at in
        let turns : ran (record it { regs = r }) o ≡ turned it m =
        quick_turned it m r o q plain.none plain.open_to elsewhere (form.stands quick).form ((form.stands quick).lawful a.cpl supervisor) fetched made in
        one_more 0 it it (record it { regs = r }) m m o (no_turns it m) (record {
          no_body = ap (λ b. b && not (wp_of control.cr0)) elsewhere;
          runs = plain.runs;
          ran = ap (λ (t : Turned). t.stepped) (sym turns);
          control = ap (λ (t : Turned). t.processor.control) (sym turns);
        }) turns

    pub turn_on : (r : Regs) (o : List ℕ) → quiet_outcome r o tlb ≡ effect_made (form_by q.kind) q (record a { rip = at }) control m tlb → length o ≡ length m → r.cpl ≡ a.cpl →
        AreTurns 1 control tlb (record a { rip = at }) m r o
    turn_on r o made size cpl = record {
      turns = λ p plain. subst (λ (x : Processor). AreQuickTurns 1 x m (record x { regs = r }) o) (plain_is (record a { rip = at }) control tlb p plain) (turn r o made p plain);
      size = size;
      cpl = cpl;
    }

    pub one_on : (r : Regs) (o : List ℕ) (v : Window) → quiet_outcome r o tlb ≡ effect_made (form_by q.kind) q (record a { rip = at }) control m tlb →
        AreSameOnPages w.off m o → v.off ≡ w.off → length o ≡ length m → r.cpl ≡ a.cpl → IsWindow (length m) control a.cpl tlb v →
        AreMadeOn 1 control tlb (record a { rip = at }) m w r o v
    one_on r o v made same off size cpl windowed = record {
      turns = (turn_on r o made size cpl).turns;
      code = same;
      off = off;
      size = size;
      cpl = cpl;
      windowed = subst (λ (x : ℕ × ℕ). IsWindow x.0 control x.1 tlb v) (λ j. (sym size j, sym cpl j)) windowed;
    }
