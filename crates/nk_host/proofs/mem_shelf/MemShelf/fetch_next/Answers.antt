use Rattle.std.proofs.Common.{List, ap, subst, ◌∙◌}
use Rattle.nk_host.specs.Files.{AreFilesOfBytes}
use Rattle.nk_host.specs.ShelfInMemory.{NamedFile, Stock, file_of, named_files}
use Rattle.nk_host.proofs.mem_shelf.MemShelf.fetch_next.Goals as goal

pub returns-in-Some-clause-bytes : goal.returns-in-Some-clause-bytes
returns-in-Some-clause-bytes c =
    subst (λ (files : List NamedFile). AreFilesOfBytes (file_of files))
    (ap named_files c.deref.ensures.value ∙ ap (λ (s : Stock). s.files) c.self.view_is) c.are_files_of_bytes.ensures

pub returns-in_default-clause-bytes : goal.returns-in_default-clause-bytes
returns-in_default-clause-bytes c =
    subst (λ (files : List NamedFile). AreFilesOfBytes (file_of files))
    (ap named_files c.deref.ensures.value ∙ ap (λ (s : Stock). s.files) c.self.view_is) c.are_files_of_bytes.ensures
