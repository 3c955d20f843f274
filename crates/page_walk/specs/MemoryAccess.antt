-- Accesses by linear address over a memory: what a load and a fetch give, and what a store leaves (SDM volume 3, 4.6).
use Rattle.std.specs.Prelude.{ℕ, ◌+◌, ◌-◌, ◌*◌, ◌/◌, ◌%◌, ◌^◌, List, ◌++◌, length, take, drop, min, Result, Ok, Err}
use Rattle.nk_bits.specs.declared.access.Access.TheVariants.{Read, Write, Fetch}
use Rattle.nk_bits.specs.declared.control.Control.{Control}
use Rattle.nk_bits.specs.declared.leaf.Target.{Target}
use Rattle.nk_bits.specs.declared.fault.AccessFault.{AccessFault}
use Rattle.nk_bits.specs.Translations.{Translations}
use Rattle.nk_bits.specs.Outcomes.{Outcome, answered, and_then}
use Rattle.nk_bits.specs.Accesses.{View, wp_of, smep_of, first_part, accessed}
use Rattle.phys_mem.specs.Memory.{byte_at, number_at, entry_in, stores, stored}

-- the view of a memory under these control registers, at this CPL
abbrev pub view_of : List ℕ → Control → ℕ → View
view_of m control cpl = record {
  entries = entry_in m;
  frames = length m / 4096;
  root = control.root;
  cpl = cpl;
  wp = wp_of control.cr0;
  smep = smep_of control.cr4;
}

-- the number whose bytes stand at these places, least significant first
abbrev pub value_at : List ℕ → ℕ → ℕ → Target → ℕ
value_at m va width target =
    let part = first_part va width in
    number_at m part target.first + 256 ^ part * number_at m (width - part) target.second

-- the stores that put the width low bytes of a number at these places
abbrev pub stores_at : ℕ → ℕ → Target → ℕ → List (ℕ × ℕ)
stores_at va width target value =
    let part = first_part va width in
    stores part target.first value ++ stores (width - part) target.second (value / 256 ^ part)

-- a load, and the fetch of one byte
abbrev pub loaded : List ℕ → View → Translations → ℕ → ℕ → Outcome AccessFault ℕ
loaded m view tlb va width = and_then (accessed view Read tlb va width) (λ target after. answered (value_at m va width target) after)

abbrev pub fetched : List ℕ → View → Translations → ℕ → Outcome AccessFault ℕ
fetched m view tlb va = and_then (accessed view Fetch tlb va 1) (λ target after. answered (byte_at m target.first) after)

-- how many bytes there are from an address to the end of its page, counted to fifteen at most
unfoldable pub bytes_left : ℕ → ℕ
bytes_left va = min 15 (4096 - va % 4096)

-- the fetch of these bytes at once, judged as that of the first one is
abbrev pub page_fetched : List ℕ → View → Translations → ℕ → Outcome AccessFault (List ℕ)
page_fetched m view tlb va = and_then (accessed view Fetch tlb va 1) (λ target after. answered (take (bytes_left va) (drop target.first m)) after)

-- a store answers nothing but that it is made
abbrev pub saved : View → Translations → ℕ → ℕ → Outcome AccessFault Unit
saved view tlb va width = and_then (accessed view Write tlb va width) (λ target after. answered tt after)

-- the memory after a store, by the answer of its check: the bytes stand at the places found, or none has changed
abbrev pub bytes_written : List ℕ → ℕ → ℕ → ℕ → Result Target AccessFault → List ℕ
bytes_written m va width value (Ok target) = stored m (stores_at va width target value)
bytes_written m va width value (Err fault) = m
