use Rattle.pattern_kit.proofs.OneMeaning.{readings_have_one_meaning}
use Rattle.pattern_kit.proofs.regex_kit.RegexKit.make.Goals as goal

pub returns-clause-meaning : goal.returns-clause-meaning
returns-clause-meaning c = readings_have_one_meaning
