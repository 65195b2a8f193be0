use Rattle.std.proofs.Common.{◌≡◌, map, take}
use Rattle.regex_hir.specs.Meaning.{meaning}
use Rattle.pattern_kit.specs.Assertions.{stripped}
use Rattle.pattern_kit.proofs.assertions.+strip.Given as goal

abbrev pub invariant-strip_all-loop-i : goal.invariant-strip_all-loop-i
invariant-strip_all-loop-i l = map meaning l.all.items ≡ map stripped (take l.i l.subs)
