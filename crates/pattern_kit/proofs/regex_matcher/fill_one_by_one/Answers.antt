use Rattle.pattern_kit.proofs.FrontLengths.{lengths_of}
use Rattle.pattern_kit.proofs.regex_matcher.fill_one_by_one.Goals as goal

pub returns : goal.returns
returns c = lengths_of _ _ _ _ _ c.in_ok-matcher.ensures.pattern c.fill_each.ensures.lengths
