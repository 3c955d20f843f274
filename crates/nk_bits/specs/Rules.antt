-- The rule that an answer names, and the numbers of the rules, which are the answers to calls that break them.
use Rattle.std.specs.Prelude.{ℕ, Option, None, Some, Result, Ok, Err}
use Rattle.nk_bits.specs.declared.rule.Rule.{Rule}
use Rattle.nk_bits.specs.declared.rule.Rule.TheVariants.{BadCall, BadFrame, BadLevel, NotData, StillLoose, NotTable, BadIndex, KernelSlot, BadBits, BadTarget, TooFree, StillLinked, NotEmpty, NotRoot, BadRange, BadPolicy, TooManyRegions, NoRoom, BadRegion, NotAllocated, OutOfBounds, BadSource, NoWrite, WrittenOnce, NotAtEnd, LogFull, NotCanonical}

-- the number of a rule
abbrev pub rule_number : Rule → ℕ
rule_number BadCall = 1
rule_number BadFrame = 2
rule_number BadLevel = 3
rule_number NotData = 4
rule_number StillLoose = 5
rule_number NotTable = 6
rule_number BadIndex = 7
rule_number KernelSlot = 8
rule_number BadBits = 9
rule_number BadTarget = 10
rule_number TooFree = 11
rule_number StillLinked = 12
rule_number NotEmpty = 13
rule_number NotRoot = 14
rule_number BadRange = 15
rule_number BadPolicy = 16
rule_number TooManyRegions = 17
rule_number NoRoom = 18
rule_number BadRegion = 19
rule_number NotAllocated = 20
rule_number OutOfBounds = 21
rule_number BadSource = 22
rule_number NoWrite = 23
rule_number WrittenOnce = 24
rule_number NotAtEnd = 25
rule_number LogFull = 26
rule_number NotCanonical = 27

-- the rule that an answer names
abbrev pub rule_of : {A : Type 0} → Result A Rule → Option Rule
rule_of (Ok answer) = None
rule_of (Err rule) = Some rule
