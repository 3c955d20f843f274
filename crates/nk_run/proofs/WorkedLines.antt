-- Lines of statuses, of `scan` and of `map` at worked values.
use Rattle.std.proofs.Common.{◌≡◌, true, false, List, [], ◌∷◌, Ok, Err, codes, refl}
use Rattle.std.specs.Fmt.{char_count, digits, padded_integral}
use Rattle.hex.specs.Hex.{encode_with}
use Rattle.nk_bits.specs.declared.leaf.Leaf.{Leaf}
use Rattle.nk_bits.specs.declared.leaf.Rights.{Rights}
use Rattle.report_text.specs.ImageLines.{admitted_line, image_line, protected_line}
use Rattle.report_text.specs.RunLines.{hex_16}
use Rattle.command_words.specs.declared.command_line.Role.TheVariants.{Image, Input, Plan, Journal, ModuleList, Module, Text}
use Rattle.nk_run.specs.Lines.{empty_line, frame_line, journal_line, list_line, longer_line, missing_line, no_memory_line, nofit_line, noaddress_line, noregion_line, text_line, noroom_line, plan_line, rights_text, unread_line, usage_line, walk_line}

-- the usage line, as the formats have it
usage : usage_line ≡ codes "usage: nkrun scan IMAGE | map IMAGE FRAMES VA | run IMAGE INPUT PLAN STEPS FRAMES | replay IMAGE FRAMES JOURNAL | make NUMBER | work NUMBER | join IMAGE LIST | audit IMAGE FRAMES JOURNAL ID | asm TEXT | list IMAGE ADDR COUNT\n"
unfolding usage_line
usage = refl

-- lines of refusals
refusals :
    (no_memory_line ≡ codes "no memory\n") ×
    (unread_line Image ≡ codes "unread image\n") ×
    (unread_line Input ≡ codes "unread input\n") ×
    (unread_line Plan ≡ codes "unread plan\n") ×
    (unread_line Journal ≡ codes "unread journal\n") ×
    (unread_line ModuleList ≡ codes "unread list\n") ×
    (unread_line (Module 31) ≡ codes "unread module\n") ×
    (longer_line Image ≡ codes "longer image 67108864\n") ×
    (longer_line Input ≡ codes "longer input 67108864\n") ×
    (longer_line Plan ≡ codes "longer plan 67108864\n") ×
    (longer_line Journal ≡ codes "longer journal 67108864\n") ×
    (longer_line ModuleList ≡ codes "longer list 67108864\n") ×
    (longer_line (Module 0) ≡ codes "longer module 1048576\n") ×
    (plan_line 1 ≡ codes "plan line 1\n") ×
    (journal_line 12 ≡ codes "journal line 12\n") ×
    (list_line 33 ≡ codes "list line 33\n") ×
    (empty_line 0 ≡ codes "module 0 empty\n") ×
    (nofit_line ≡ codes "nofit\n") ×
    (noregion_line 300 ≡ codes "noregion 300\n") ×
    (noregion_line 8589934591 ≡ codes "noregion 8589934591\n") ×
    (unread_line Text ≡ codes "unread text\n") ×
    (longer_line Text ≡ codes "longer text 67108864\n") ×
    (text_line 2 ≡ codes "text line 2\n") ×
    (noaddress_line 0 ≡ codes "noaddress 0000000000000000\n") ×
    (noaddress_line 0xFFFFFFFF80001000 ≡ codes "noaddress ffffffff80001000\n") ×
    (noroom_line 600 512 ≡ codes "noroom 600 512\n") ×
    (image_line 13 (codes "TooLarge") 0 ≡ codes "image 13 TooLarge 0\n") ×
    (image_line 1 (codes "Short") 18446744073709551615 ≡ codes "image 1 Short 18446744073709551615\n") ×
    (protected_line 0xFFFFFFFF80001FFE (0x0F ∷ 0x22 ∷ 0xC0 ∷ []) ≡ codes "protected ffffffff80001ffe 0f22c0\n")
unfolding no_memory_line unread_line longer_line plan_line journal_line list_line empty_line nofit_line noregion_line text_line noaddress_line noroom_line image_line protected_line hex_16 padded_integral char_count digits encode_with
refusals = (refl, refl, refl, refl, refl, refl, refl, refl, refl, refl, refl, refl, refl, refl, refl, refl, refl, refl, refl, refl, refl, refl, refl, refl, refl, refl, refl, refl, refl)

abbrev rights : Rights → Leaf
rights given = record { frame = 71; rights = given }

-- lines of `scan` and of `map`
answers :
    (admitted_line 0xFFFFFFFF80000000 2 ≡ codes "admitted entry ffffffff80000000 pages 2\n") ×
    (walk_line (Ok (rights (record { can_write = true; user = false; exec = false }))) ≡ codes "frame 71 rw-s\n") ×
    (walk_line (Ok (rights (record { can_write = false; user = false; exec = true }))) ≡ codes "frame 71 r-xs\n") ×
    (walk_line (Ok (rights (record { can_write = true; user = true; exec = true }))) ≡ codes "frame 71 rwxu\n") ×
    (walk_line (Ok (rights (record { can_write = false; user = true; exec = false }))) ≡ codes "frame 71 r--u\n") ×
    (walk_line (Err 4) ≡ codes "missing 4\n") ×
    (walk_line (Err 1) ≡ codes "missing 1\n")
unfolding admitted_line frame_line missing_line rights_text hex_16 padded_integral char_count digits
answers = (refl, refl, refl, refl, refl, refl, refl)
