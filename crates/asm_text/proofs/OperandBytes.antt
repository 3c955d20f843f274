-- The bytes behind an opcode are ModRM, SIB and displacement as they are put together, and a rest.
use Rattle.std.proofs.Common.{◌≡◌, ℕ, suc, ◌+◌, ◌%◌, ◌<◌, ◌⊎◌, ◌≤◌, Bool, true, false, ◌&&◌, ◌||◌, not, cond, nat_eq, List, [], ◌∷◌, ◌++◌, length, take, drop, refl, ap, sym, subst, ◌∙◌, arith, inl, inr}
use Rattle.std.proofs.lemmas.Bool.{cond_both, eqb-true}
use Rattle.std.proofs.lemmas.List.{drop-drop, length-drop, take-append-drop}
use Rattle.std.proofs.lemmas.List.Elements.{All-drop}
use Rattle.decode_fields.specs.ModRm.{displacement, displacement_from, displacement_size, front_size, has_sib, is_register, is_rip_relative, lacks_base, mod_field, modrm_byte, modrm_length, sib_byte}
use Rattle.x86_decode.specs.declared.shape.RowLayout.{RowLayout}
use Rattle.x86_decode.specs.declared.shape.RowLayout.TheVariants.{Plain, AnyForm, Memory, Register, Ignored}
use Rattle.x86_decode.specs.Meaning.{layout_length}
use Rattle.x86_decode.specs.Spelling.{AreBytes}
use Rattle.asm_text.specs.Assembly.{byte_if, number_bytes_of, operand_bytes, place_bytes}
use Rattle.asm_text.specs.Fitting.{asks_sib, is_ignored_layout}
use Rattle.asm_text.proofs.Numbers.{signed_back_1, signed_back_4}

-- the bytes of a displacement of a size that there is
disp_back : (size front : ℕ) (bytes : List ℕ) → (size ≡ 0) ⊎ ((size ≡ 1) ⊎ (size ≡ 4)) → AreBytes (drop front bytes) → size ≤ length (drop front bytes) → number_bytes_of size (displacement_from front size bytes) ≡ take size (drop front bytes)
disp_back size front bytes (inl is) are there = subst (λ (n : ℕ). number_bytes_of n (displacement_from front n bytes) ≡ take n (drop front bytes)) (sym is) refl
disp_back size front bytes (inr (inl is)) are there =
    let P : ℕ → Type 0 = λ n. number_bytes_of n (displacement_from front n bytes) ≡ take n (drop front bytes) in
    subst P (sym is) (signed_back_1 (drop front bytes) are (omega arith))
disp_back size front bytes (inr (inr is)) are there =
    let P : ℕ → Type 0 = λ n. number_bytes_of n (displacement_from front n bytes) ≡ take n (drop front bytes) in
    subst P (sym is) (signed_back_4 (drop front bytes) are (omega arith))

size_known : (modrm sib : ℕ) → (displacement_size modrm sib ≡ 0) ⊎ ((displacement_size modrm sib ≡ 1) ⊎ (displacement_size modrm sib ≡ 4))
size_known modrm sib =
    let P : ℕ → Type 0 = λ n. (n ≡ 0) ⊎ ((n ≡ 1) ⊎ (n ≡ 4)) in
    let wide : Bool = nat_eq (mod_field modrm) 2 || is_rip_relative modrm || lacks_base modrm sib in
    cond_both (nat_eq (mod_field modrm) 1) 1 (cond wide 4 0) P (λ h. inr (inl refl))
    (λ h. cond_both wide 4 0 P (λ g. inr (inr refl)) (λ g. inl refl))

-- a list of ModRM, SIB if there is one, a displacement, and a rest
split_by : (sib : Bool) (modrm disp size : ℕ) (rest : List ℕ) → cond sib 2 1 + size ≤ suc (length rest) → number_bytes_of size disp ≡ take size (drop (cond sib 2 1) (modrm ∷ rest))
    → modrm ∷ rest ≡ (modrm ∷ (byte_if sib (sib_byte (modrm ∷ rest)) ++ number_bytes_of size disp)) ++ drop (cond sib 2 1 + size) (modrm ∷ rest)
split_by false modrm disp size rest there back =
    let behind : drop (1 + size) (modrm ∷ rest) ≡ drop size rest = sym (drop-drop size 1 (modrm ∷ rest)) in
    ap (λ r. modrm ∷ r) (sym (take-append-drop size rest) ∙ (ap (λ t. t ++ drop size rest) (sym back) ∙ ap (λ t. number_bytes_of size disp ++ t) (sym behind)))
split_by true modrm disp size [] there back = absurd (omega arith)
split_by true modrm disp size (first ∷ rest) there back =
    let behind : drop (2 + size) (modrm ∷ (first ∷ rest)) ≡ drop size rest = sym (drop-drop size 2 (modrm ∷ (first ∷ rest))) in
    ap (λ r. modrm ∷ (first ∷ r)) (sym (take-append-drop size rest) ∙ (ap (λ t. t ++ drop size rest) (sym back) ∙ ap (λ t. number_bytes_of size disp ++ t) (sym behind)))

modrm_split : (bytes : List ℕ) → AreBytes bytes → modrm_length bytes ≤ length bytes → bytes ≡ place_bytes (modrm_byte bytes) (sib_byte bytes) (displacement bytes) ++ drop (modrm_length bytes) bytes
unfolding modrm_length
modrm_split [] are there = absurd (omega arith)
modrm_split (modrm ∷ rest) are there =
    let bytes : List ℕ = modrm ∷ rest in
    let front : ℕ = front_size modrm in
    let size : ℕ = displacement_size modrm (sib_byte bytes) in
    split_by (has_sib modrm) modrm (displacement bytes) size rest there
    (disp_back size front bytes (size_known modrm (sib_byte bytes)) (All-drop (λ b. b < 256) front bytes are) (omega (arith, length-drop front bytes)))

-- what is behind an opcode, by its layout
pub operands_split : (layout : RowLayout) (bytes : List ℕ) → AreBytes bytes → layout_length layout bytes ≤ length bytes → bytes ≡ operand_bytes layout (modrm_byte bytes) (sib_byte bytes) (displacement bytes) ++ drop (layout_length layout bytes) bytes
operands_split Plain bytes are there = refl
operands_split AnyForm bytes are there = modrm_split bytes are there
operands_split Memory bytes are there = modrm_split bytes are there
operands_split Register bytes are there = modrm_split bytes are there
operands_split Ignored [] are there = absurd (omega arith)
operands_split Ignored (modrm ∷ rest) are there = refl

-- the size of a displacement by what it depends on
abbrev size_by : ℕ → Bool → Bool → ℕ
size_by field relative baseless = cond (nat_eq field 1) 1 (cond (nat_eq field 2 || relative || baseless) 4 0)

-- without SIB its byte doesn't matter
place_alone : (modrm sib disp : ℕ) → has_sib modrm ≡ false → place_bytes modrm sib disp ≡ place_bytes modrm 0 disp
place_alone modrm sib disp none =
    let by : Bool → ℕ → List ℕ = λ b s. modrm ∷ (byte_if b s ++ number_bytes_of (size_by (mod_field modrm) (is_rip_relative modrm) (b && nat_eq (mod_field modrm) 0 && nat_eq (s % 8) 5)) disp) in
    ap (λ b. by b sib) none ∙ ap (λ b. by b 0) (sym none)

pub operands_alone : (layout : RowLayout) (modrm sib disp : ℕ) → asks_sib layout modrm ≡ false → operand_bytes layout modrm sib disp ≡ operand_bytes layout modrm 0 disp
operands_alone Plain modrm sib disp none = refl
operands_alone AnyForm modrm sib disp none = place_alone modrm sib disp none
operands_alone Memory modrm sib disp none = place_alone modrm sib disp none
operands_alone Register modrm sib disp none = place_alone modrm sib disp none
operands_alone Ignored modrm sib disp none = refl

-- a register has no displacement
register_size : (modrm sib : ℕ) → is_register modrm ≡ true → displacement_size modrm sib ≡ 0
register_size modrm sib register =
    let three : mod_field modrm ≡ 3 = eqb-true (mod_field modrm) 3 register in
    let by : Bool → ℕ → ℕ = λ r m. size_by m (nat_eq m 0 && nat_eq (modrm % 8) 5) ((not r && nat_eq (modrm % 8) 4) && nat_eq m 0 && nat_eq (sib % 8) 5) in
    ap (λ r. by r (mod_field modrm)) register ∙ ap (by true) three

place_register : (modrm sib disp other : ℕ) → is_register modrm ≡ true → place_bytes modrm sib disp ≡ place_bytes modrm sib other
place_register modrm sib disp other register =
    let by : ℕ → ℕ → List ℕ = λ n d. modrm ∷ (byte_if (has_sib modrm) sib ++ number_bytes_of n d) in
    ap (λ n. by n disp) (register_size modrm sib register) ∙ ap (λ n. by n other) (sym (register_size modrm sib register))

pub operands_register : (layout : RowLayout) (modrm sib disp other : ℕ) → (is_ignored_layout layout || is_register modrm) ≡ true → operand_bytes layout modrm sib disp ≡ operand_bytes layout modrm sib other
operands_register Plain modrm sib disp other register = refl
operands_register AnyForm modrm sib disp other register = place_register modrm sib disp other register
operands_register Memory modrm sib disp other register = place_register modrm sib disp other register
operands_register Register modrm sib disp other register = place_register modrm sib disp other register
operands_register Ignored modrm sib disp other register = refl
