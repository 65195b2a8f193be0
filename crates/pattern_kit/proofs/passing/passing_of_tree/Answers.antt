use Rattle.std.proofs.Common.{sym, subst}
use Rattle.regex_hir.specs.Meaning.{meaning}
use Rattle.pattern_kit.specs.Passing.{first_start, IsSieve}
use Rattle.pattern_kit.specs.Readings.{match_at_front}
use Rattle.pattern_kit.proofs.PassedPlaces.{passes_for, passes_for_itself, none_passed}
use Rattle.pattern_kit.proofs.PlainPatterns.{plain_without}
use Rattle.pattern_kit.proofs.passing.passing_of_tree.Goals as goal

pub returns-then-is_plain : goal.returns-then-is_plain
returns-then-is_plain c pattern alike =
    passes_for_itself pattern (meaning c.args.tree.now.parsed.hir) alike (plain_without _ (c.is_plain.ensures c.if-is_plain.true))

pub returns-in-Some : goal.returns-in-Some
returns-in-Some c pattern alike =
    subst (λ p. IsSieve (first_start p) (match_at_front pattern)) (sym c.in-Some.ensures)
    (passes_for pattern (meaning c.args.tree.now.parsed.hir) alike)

pub returns-in-None : goal.returns-in-None
returns-in-None c pattern alike = none_passed (match_at_front pattern)
