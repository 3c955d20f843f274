use Rattle.image_maker.specs.MadeImage.{image_of_number}
use Rattle.image_maker.proofs.MadeBytes.{made_bytes}
use Rattle.image_maker.proofs.MadeImages.{made_direct, made_formed, made_free, made_nowhere, made_room, made_user}
use Rattle.image_maker.proofs.laws.made_image_law.Goals as goal

pub returns-clause-bytes : goal.returns-clause-bytes
returns-clause-bytes c = made_bytes

pub returns-clause-formed : goal.returns-clause-formed
returns-clause-formed c = made_formed (record { file = c.written_law.ensures.file; program = c.written_law.ensures.program })

pub returns-clause-clean : goal.returns-clause-clean
returns-clause-clean c = λ n most. c.clean_law.ensures.unfound (image_of_number n)
    (made_nowhere (record { file = c.written_law.ensures.file; program = c.written_law.ensures.program }) n most)

pub returns-clause-room : goal.returns-clause-room
returns-clause-room c = made_room (record { file = c.written_law.ensures.file; program = c.written_law.ensures.program })

pub returns-clause-user : goal.returns-clause-user
returns-clause-user c = made_user (record { file = c.written_law.ensures.file; program = c.written_law.ensures.program })

pub returns-clause-direct : goal.returns-clause-direct
returns-clause-direct c = made_direct (record { file = c.written_law.ensures.file; program = c.written_law.ensures.program })

pub returns-clause-free : goal.returns-clause-free
returns-clause-free c = made_free (record { file = c.written_law.ensures.file; program = c.written_law.ensures.program })
