use Rattle.std.proofs.Common.{◌≡◌, drop}
use Rattle.scan_settings.specs.Values.{scanner_in}
use Rattle.scan_settings.proofs.values.scanner_in.Given as goal

-- the scanners passed have other names
abbrev pub invariant-loop-scanner : goal.invariant-loop-scanner
invariant-loop-scanner l = scanner_in l.scanners l.word ≡ scanner_in (drop l.scanner-index l.scanners) l.word
