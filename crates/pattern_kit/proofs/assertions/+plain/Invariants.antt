use Rattle.std.proofs.Common.{◌≡◌, true, map, drop}
use Rattle.std.specs.List.{list_all}
use Rattle.regex_hir.specs.Meaning.{meaning}
use Rattle.pattern_kit.specs.Assertions.{is_plain}
use Rattle.pattern_kit.proofs.assertions.+plain.Given as goal

abbrev pub invariant-are_plain-loop-i : goal.invariant-are_plain-loop-i
invariant-are_plain-loop-i l = list_all is_plain (map meaning (drop l.i l.subs)) ≡ true
