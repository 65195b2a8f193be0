use Rattle.pattern_kit.specs.Readings.{match_at_front}
use Rattle.pattern_kit.proofs.PassedPlaces.{none_passed}
use Rattle.pattern_kit.proofs.passing.passing_of.Goals as goal

pub returns-in-None : goal.returns-in-None
returns-in-None c pattern reading = none_passed (match_at_front pattern)
