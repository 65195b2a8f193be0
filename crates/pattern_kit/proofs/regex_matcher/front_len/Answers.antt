use Rattle.std.proofs.Common.{◌∙◌, sym, Some, None}
use Rattle.regex.specs.Bytes.{match_span}
use Rattle.pattern_kit.proofs.FrontLengths.{front_is, ends_at, begins_later}
use Rattle.pattern_kit.proofs.regex_matcher.front_len.Goals as goal

pub returns-then-start-eq0-clause-length : goal.returns-then-start-eq0-clause-length
returns-then-start-eq0-clause-length c =
    c.end.ensures ∙ sym (ends_at _ _ _ c.start.ensures c.if-start-eq0.true)
    ∙ front_is _ _ _ (Some (match_span c.in-Some.found)) c.seen.ensures.bytes c.in-Some.ensures.found

pub returns-else-start-eq0-clause-length : goal.returns-else-start-eq0-clause-length
returns-else-start-eq0-clause-length c =
    sym (begins_later _ _ _ c.start.ensures c.if-start-eq0.false)
    ∙ front_is _ _ _ (Some (match_span c.in-Some.found)) c.seen.ensures.bytes c.in-Some.ensures.found

pub returns-in-None-clause-length : goal.returns-in-None-clause-length
returns-in-None-clause-length c = front_is _ _ _ None c.seen.ensures.bytes c.in-None.ensures.found
