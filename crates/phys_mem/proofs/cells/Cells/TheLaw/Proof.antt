-- A `&` to the owner of an allocation holds a `&` to each of its bytes. Assumes `Logic`.
use denote.Struct.Lending.{of_Lends}
use Rattle.phys_mem.specs.contracts.cells.Cells as C
use Rattle.phys_mem.proofs.Sharing.{cells_lent_laws, Lends-cells}
use Rattle.phys_mem.proofs.cells.Cells.TheLaw.Statement.{statement}

pub shares : statement
shares =
    of_Lends C.struct C.the_codes C.the_heap C.the_lent (λ c p. cells_lent_laws c.at c.bytes c.spare) tt
    (λ M 𝓤 𝓛 c p. Lends-cells 𝓛 c.heap c.at c.bytes c.spare)
