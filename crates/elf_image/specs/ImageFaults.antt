-- What the program prints of a fault.
use Rattle.std.specs.Prelude.{ℕ, List, codes}
use Rattle.elf_image.specs.declared.fault.FaultKind.{FaultKind}
use Rattle.elf_image.specs.declared.fault.FaultKind.TheVariants.{Short, Magic, Class, FileType, Machine, Table, SegmentRange, Align, OutsideHome, SharedPage, WritableCode, BadEntry, TooLarge}

-- the number of a kind of fault
abbrev pub fault_number : FaultKind → ℕ
fault_number Short = 1
fault_number Magic = 2
fault_number Class = 3
fault_number FileType = 4
fault_number Machine = 5
fault_number Table = 6
fault_number SegmentRange = 7
fault_number Align = 8
fault_number OutsideHome = 9
fault_number SharedPage = 10
fault_number WritableCode = 11
fault_number BadEntry = 12
fault_number TooLarge = 13

-- its name in ASCII
abbrev pub name_of : FaultKind → List ℕ
name_of Short = codes "Short"
name_of Magic = codes "Magic"
name_of Class = codes "Class"
name_of FileType = codes "FileType"
name_of Machine = codes "Machine"
name_of Table = codes "Table"
name_of SegmentRange = codes "SegmentRange"
name_of Align = codes "Align"
name_of OutsideHome = codes "OutsideHome"
name_of SharedPage = codes "SharedPage"
name_of WritableCode = codes "WritableCode"
name_of BadEntry = codes "BadEntry"
name_of TooLarge = codes "TooLarge"
