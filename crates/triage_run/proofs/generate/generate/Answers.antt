use Rattle.std.proofs.Common.{arith, map}
use Rattle.std.proofs.lemmas.List.{length-map}
use Rattle.triage_run.proofs.Readings.{read_length}
use Rattle.triage_run.proofs.generate.generate.Goals as goal

pub scan_made-requires-clause-few : goal.scan_made-requires-clause-few
scan_made-requires-clause-few g c =
    let many = read_length g.K.M.Matcher.reads c.args.made.search.plan.patterns (map g.K.M.Matcher.reading c.in_ok-matchers.matchers.items) (rw c.items.ensures at c.in_ok-matchers.ensures.read) in
    let same = length-map c.in_ok-matchers.matchers.items g.K.M.Matcher.reading in
    omega (arith, many, same, c.requires.search.few_patterns)
