-- The lines on an image, byte for byte. Lists of bytes nest to the right, as a format writes them.
use Rattle.std.specs.Prelude.{ℕ, ◌++◌, List, codes}
use Rattle.std.specs.Fmt.{decimal}
use Rattle.hex.specs.Hex.{encode_lower}
use Rattle.report_text.specs.RunLines.{hex_16}

-- the image's first fault: its number, its name and its value
unfoldable pub image_line : ℕ → List ℕ → ℕ → List ℕ
image_line number name value =
    codes "image " ++ (decimal number ++ (codes " " ++ (name ++ (codes " " ++ (decimal value ++ codes "\n")))))

-- the least address with a protected encoding, and the encoding's bytes
unfoldable pub protected_line : ℕ → List ℕ → List ℕ
protected_line address bytes =
    codes "protected " ++ (hex_16 address ++ (codes " " ++ (encode_lower bytes ++ codes "\n")))

-- the image is admitted: its entry and the number of its executable pages
unfoldable pub admitted_line : ℕ → ℕ → List ℕ
admitted_line entry pages =
    codes "admitted entry " ++ (hex_16 entry ++ (codes " pages " ++ (decimal pages ++ codes "\n")))
