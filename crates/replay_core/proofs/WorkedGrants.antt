-- The call that was answered with an identifier, at worked journals.
use Rattle.std.proofs.Common.{◌≡◌, ℕ, List, ◌++◌, [], None, Some, Option, codes, refl}
use Rattle.hex.specs.Hex.{decode_pairs}
use Rattle.nk_bits.specs.declared.call.CallWords.{CallWords}
use Rattle.replay_core.specs.GrantedCalls.{granted_in, granted_of}

abbrev words_are : ℕ → ℕ → ℕ → ℕ → ℕ → Option CallWords
words_are number a b c d = Some (record { number = number; a = a; b = b; c = c; d = d })

-- 64 bytes of the pool, under policy 4
abbrev pub allocation : List ℕ
allocation = codes "k 7 40 4 0 0 - 256 ffffff8000010000\n"

abbrev given : Option CallWords
given = words_are 7 64 4 0 0

-- the answer tells, whatever the call's number
answers :
    (granted_of [] 256 ≡ None) ×
    (granted_of allocation 256 ≡ given) ×
    (granted_of allocation 255 ≡ None) ×
    (granted_of allocation 257 ≡ None) ×
    (granted_of allocation 0 ≡ None) ×
    (granted_of (codes "k 7 40 4 0 0 - 256 ffffff8000010000") 256 ≡ given) ×
    (granted_of (codes "k 6 ffff800000047000 1000 1 0 - 256 -\n") 256 ≡ words_are 6 0xFFFF800000047000 4096 1 0) ×
    (granted_of (codes "k 0 1 2 3 4 - 1 -\n") 1 ≡ words_are 0 1 2 3 4) ×
    (granted_of (codes "k 1 5000 0 0 0 - 0 -\n") 0 ≡ words_are 1 0x5000 0 0 0)
unfolding granted_of granted_in decode_pairs
answers = (refl, refl, refl, refl, refl, refl, refl, refl, refl)

-- the first such line counts, behind any lines but the end and those out of form
places :
    (granted_of (codes "c 41\ni 32 - ffffff8000001010 -\n" ++ allocation) 256 ≡ given) ×
    (granted_of (codes "k 1 0 0 0 0 - 0 -\n" ++ allocation ++ codes "k 8 100 0 0 0 - 0 -\nend halted\n") 256 ≡ given) ×
    (granted_of (allocation ++ codes "k 7 10 1 0 0 - 256 ffffff8000010040\n") 256 ≡ given) ×
    (granted_of (codes "k 8 100 0 0 0 - 256 -\n" ++ allocation) 256 ≡ words_are 8 256 0 0 0) ×
    (granted_of (allocation ++ codes "k 7 10 1 5 6 - 257 ffffff8000010040\n") 257 ≡ words_are 7 16 1 5 6) ×
    (granted_of (allocation ++ codes "\n") 256 ≡ given) ×
    (granted_of (codes "\n" ++ allocation) 256 ≡ None) ×
    (granted_of (codes "end halted\n" ++ allocation) 256 ≡ None) ×
    (granted_of (codes "c 41\nend steps\n" ++ allocation) 256 ≡ None) ×
    (granted_of (codes "turns 5\n" ++ allocation) 256 ≡ None) ×
    (granted_of (codes "K\n" ++ allocation) 256 ≡ None)
unfolding granted_of granted_in decode_pairs
places = (refl, refl, refl, refl, refl, refl, refl, refl, refl, refl, refl)

-- a line whose source is out of form is out of form, though the search takes no source
sources :
    (granted_of (codes "k 9 100 0 1000 2 0aff 0 -\n" ++ allocation) 256 ≡ given) ×
    (granted_of (codes "k 9 100 0 1000 2 ! 22 -\n" ++ allocation) 256 ≡ given) ×
    (granted_of (codes "k 9 100 0 1000 2  0 -\n" ++ allocation) 256 ≡ given) ×
    (granted_of (codes "k 9 100 0 1000 2 0af 0 -\n" ++ allocation) 256 ≡ None) ×
    (granted_of (codes "k 9 100 0 1000 2 0aFF 0 -\n" ++ allocation) 256 ≡ None) ×
    (granted_of (codes "k 9 100 0 1000 2 0axx 0 -\n" ++ allocation) 256 ≡ None) ×
    (granted_of (codes "k 7 40 4 0 0 -- 256 ffffff8000010000\n") 256 ≡ None) ×
    (granted_of (codes "k 7 40 4 0 0 - 0256 ffffff8000010000\n") 256 ≡ None)
unfolding granted_of granted_in decode_pairs
sources = (refl, refl, refl, refl, refl, refl, refl, refl)
