use Rattle.byte_scanner.specs.ScannedCode.{HasWalked}
use Rattle.byte_scanner.proofs.image_scan.scan.Given as goal

-- the pages so far were given to the scanner, or may not be executed
abbrev pub invariant-loop-i : goal.invariant-loop-i
invariant-loop-i l = HasWalked l.image l.scanner l.i
