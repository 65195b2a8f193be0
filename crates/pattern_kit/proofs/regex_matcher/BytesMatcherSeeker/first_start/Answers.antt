use Rattle.std.proofs.Common.{◌∙◌, ap, Some, None}
use Rattle.regex.specs.Bytes.{match_span}
use Rattle.pattern_kit.proofs.PassedPlaces.{starts_at}
use Rattle.pattern_kit.proofs.regex_matcher.BytesMatcherSeeker.first_start.Goals as goal

pub returns-in-Some-clause-found : goal.returns-in-Some-clause-found
returns-in-Some-clause-found c = ap Some c.start.ensures ∙ starts_at _ _ (Some (match_span c.in-Some.found)) c.in-Some.ensures.found

pub returns-in-None-clause-found : goal.returns-in-None-clause-found
returns-in-None-clause-found c = starts_at _ _ None c.in-None.ensures.found
