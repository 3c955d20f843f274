-- Names of faults have at most twelve bytes.
use Rattle.std.proofs.Common.{◌≤◌, length, arith}
use Rattle.elf_image.specs.declared.fault.FaultKind.{FaultKind}
use Rattle.elf_image.specs.declared.fault.FaultKind.TheVariants.{Short, Magic, Class, FileType, Machine, Table, SegmentRange, Align, OutsideHome, SharedPage, WritableCode, BadEntry, TooLarge}
use Rattle.elf_image.specs.ImageFaults.{name_of}

pub short_name : (kind : FaultKind) → length (name_of kind) ≤ 12
short_name Short = omega arith
short_name Magic = omega arith
short_name Class = omega arith
short_name FileType = omega arith
short_name Machine = omega arith
short_name Table = omega arith
short_name SegmentRange = omega arith
short_name Align = omega arith
short_name OutsideHome = omega arith
short_name SharedPage = omega arith
short_name WritableCode = omega arith
short_name BadEntry = omega arith
short_name TooLarge = omega arith
