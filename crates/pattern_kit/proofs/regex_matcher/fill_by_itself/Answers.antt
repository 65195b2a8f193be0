use Rattle.std.proofs.Common.{sym, subst}
use Rattle.pattern_kit.specs.Passing.{first_start, IsSieve}
use Rattle.pattern_kit.specs.Readings.{match_at_front}
use Rattle.pattern_kit.proofs.FrontLengths.{lengths_of}
use Rattle.pattern_kit.proofs.regex_matcher.fill_by_itself.Goals as goal

pub fill_by_search-requires-clause-sieve : goal.fill_by_search-requires-clause-sieve
fill_by_search-requires-clause-sieve c =
    subst (λ p. IsSieve (first_start p) (match_at_front p)) (sym c.in_ok-matcher.ensures.pattern) c.requires.sieve

pub returns : goal.returns
returns c = lengths_of _ _ _ _ _ c.in_ok-matcher.ensures.pattern c.fill_by_search.ensures.lengths
