use Rattle.std.proofs.Common.{rules}
use Rattle.scan_find.specs.Find.{keyword_of}
use Rattle.scan_find.proofs.keywords.keyword_extent.Goals as goal

pub returns-then-not-stands : goal.returns-then-not-stands
unfolding keyword_of
returns-then-not-stands c = search rules

pub returns : goal.returns
unfolding keyword_of
returns c = search rules
