use Rattle.std.proofs.Common.{Some, None}
use Rattle.pattern_kit.proofs.PassedPlaces.{starts_at}
use Rattle.pattern_kit.proofs.regex_matcher.SievedSeeker.first_start.Goals as goal

pub returns-in-Some-clause-found : goal.returns-in-Some-clause-found
returns-in-Some-clause-found c = starts_at _ _ (Some c.in-Some.found) c.in-Some.ensures.found

pub returns-in-None-clause-found : goal.returns-in-None-clause-found
returns-in-None-clause-found c = starts_at _ _ None c.in-None.ensures.found
