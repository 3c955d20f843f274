-- Each element of a made image is a byte.
use Rattle.std.proofs.Common.{◌≡◌, ℕ, ◌+◌, ◌-◌, ◌*◌, ◌/◌, ◌%◌, ◌<◌, zero, suc, Bool, true, false, ◌&&◌, List, [], ◌∷◌, map, refl, lit<, mod-lt}
use Rattle.std.specs.Prelude.{if◌then◌else◌, nat_le, nat_lt, slice_index}
use Rattle.std.specs.List.{list_all, range_with_len}
use Rattle.std.proofs.lemmas.Bool.{and_parts, ltb-true}
use Rattle.elf_image.specs.WrittenHeaders.{Field, byte_in_fields, file_header, number_byte}
use Rattle.image_maker.specs.MadeImage.{data_header, image_byte, image_len, image_of_number, number_in, script_byte, script_pages, script_record, text, text_header, user_code}

either_byte : (b : Bool) (x y : ℕ) → x < 256 → y < 256 → (if b then x else y) < 256
either_byte true x y first second = first
either_byte false x y first second = second

of_number : (number k : ℕ) → number_byte number k < 256
of_number number k = mod-lt _ (lit< tt)

of_fields : (fields : List Field) (at : ℕ) → byte_in_fields fields at < 256
of_fields [] at = lit< tt
of_fields (f ∷ later) at =
    either_byte (nat_le f.place at && nat_lt at (f.place + f.count)) (number_byte f.number (at - f.place)) (byte_in_fields later at)
    (of_number f.number (at - f.place)) (of_fields later at)

-- bytes that are written out
of_list : (bytes : List ℕ) → list_all (λ x. nat_lt x 256) bytes ≡ true → (i : ℕ) → slice_index bytes i < 256
of_list [] all i = lit< tt
of_list (x ∷ bytes) all zero = ltb-true x 256 (and_parts (nat_lt x 256) (list_all (λ x. nat_lt x 256) bytes) all).0
of_list (x ∷ bytes) all (suc i) =
    of_list bytes (and_parts (nat_lt x 256) (list_all (λ x. nat_lt x 256) bytes) all).1 i

-- by the part of the file that holds it
of_place : (n at : ℕ) → image_byte n at < 256
unfolding image_byte
of_place n at =
    either_byte (nat_lt at 64) _ _ (of_fields (file_header 0xFFFFFFFF80000000 2) at)
    (either_byte (nat_lt at 120) _ _ (of_fields text_header (at - 64))
    (either_byte (nat_lt at 176) _ _ (of_fields (data_header n) (at - 120))
    (either_byte (nat_lt at 4096) _ _ (lit< tt)
    (either_byte (nat_lt at 4165) _ _ (of_list text refl (at - 4096))
    (either_byte (nat_lt at 8192) _ _ (lit< tt)
    (either_byte (nat_lt at (8192 + 4096 * script_pages n)) (script_byte n (at - 8192)) _
    (of_number (number_in (script_record n ((at - 8192) / 40)) ((at - 8192) % 40 / 8)) ((at - 8192) % 8))
    (of_list user_code refl (at - (8192 + 4096 * script_pages n)))))))))

-- one after another
of_all : (f : ℕ → ℕ) → ((at : ℕ) → f at < 256) → (places : List ℕ) (i : ℕ) → slice_index (map f places) i < 256
of_all f each [] i = lit< tt
of_all f each (at ∷ places) zero = each at
of_all f each (at ∷ places) (suc i) = of_all f each places i

pub made_bytes : (n i : ℕ) → slice_index (image_of_number n) i < 256
unfolding image_of_number
made_bytes n i = of_all (image_byte n) (of_place n) (range_with_len 0 (image_len n)) i
