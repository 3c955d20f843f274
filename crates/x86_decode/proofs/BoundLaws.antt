-- The registers that ModRM names are among sixteen, and without REX among eight.
use Rattle.std.proofs.Common.{ℕ, ◌+◌, ◌*◌, ◌%◌, ◌<◌, Bool, true, false, cond, nat_eq, Some, None, List, arith}
use Rattle.std.specs.Prelude.{IfSome}
use Rattle.std.proofs.lemmas.Bool.{cond_both}
use Rattle.decode_fields.specs.declared.place.Place.TheVariants.{Reg, Mem}
use Rattle.decode_fields.specs.Bounds.{IsAddress, IsHigh, IsLow, IsPlace}
use Rattle.decode_fields.specs.ModRm.{displacement, has_sib, is_register, is_rip_relative, lacks_base, rm_field, reg_field, modrm_byte, place_of, plain_address, reg_of, rex_b, rex_x, sib_address, sib_byte}

register_small : (field rex : ℕ) → field % 8 + 8 * (rex % 2) < 16
register_small field rex = omega arith

optional : (b : Bool) (n : ℕ) → n < 16 → IfSome (cond b None (Some n)) (λ number. number < 16)
optional true n small = tt
optional false n small = small

sib_ok : (modrm sib rex disp : ℕ) → IsAddress (sib_address modrm sib rex disp)
sib_ok modrm sib rex disp = record {
  base = optional (lacks_base modrm sib) (rm_field sib + 8 * rex_b rex) (register_small sib rex);
  index = optional (nat_eq (reg_field sib + 8 * rex_x rex) 4) (reg_field sib + 8 * rex_x rex) (omega arith);
}

plain_ok : (modrm rex disp : ℕ) → IsAddress (plain_address modrm rex disp)
plain_ok modrm rex disp = record {
  base = optional (is_rip_relative modrm) (rm_field modrm + 8 * rex_b rex) (register_small modrm rex);
  index = tt;
}

address_ok : (modrm sib rex disp : ℕ) → IsAddress (cond (has_sib modrm) (sib_address modrm sib rex disp) (plain_address modrm rex disp))
address_ok modrm sib rex disp = cond_both (has_sib modrm) _ _ IsAddress (λ h. sib_ok modrm sib rex disp) (λ h. plain_ok modrm rex disp)

pub place_of-bound : (bytes : List ℕ) (rex : ℕ) → IsPlace (place_of bytes rex)
unfolding place_of
place_of-bound bytes rex =
    cond_both (is_register (modrm_byte bytes)) _ _ IsPlace (λ h. register_small (modrm_byte bytes) rex)
    (λ h. address_ok (modrm_byte bytes) (sib_byte bytes) rex (displacement bytes))

pub place_of-high : (bytes : List ℕ) (rex : ℕ) → IsHigh (place_of bytes rex) → ⊥
unfolding place_of
place_of-high bytes rex =
    cond_both (is_register (modrm_byte bytes)) (Reg (rm_field (modrm_byte bytes) + 8 * rex_b rex)) (Mem _) (λ p. IsHigh p → ⊥) (λ h high. absurd high) (λ h high. absurd high)

pub place_of-low : (bytes : List ℕ) → IsLow (place_of bytes 0)
unfolding place_of
place_of-low bytes =
    cond_both (is_register (modrm_byte bytes)) (Reg (rm_field (modrm_byte bytes) + 8 * rex_b 0)) (Mem _) IsLow (λ h. omega arith) (λ h. tt)

pub reg_of-bound : (bytes : List ℕ) (rex : ℕ) → reg_of bytes rex < 16
reg_of-bound bytes rex = omega arith

pub reg_of-low : (bytes : List ℕ) → reg_of bytes 0 < 8
reg_of-low bytes = omega arith
