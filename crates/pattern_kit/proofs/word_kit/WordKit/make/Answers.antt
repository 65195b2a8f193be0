use Rattle.pattern_kit.proofs.OneMeaning.{words_have_one_meaning}
use Rattle.pattern_kit.proofs.word_kit.WordKit.make.Goals as goal

pub returns-clause-meaning : goal.returns-clause-meaning
returns-clause-meaning c = words_have_one_meaning
