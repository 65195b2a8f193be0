use Rattle.std.proofs.Common.{drop, sym, ◌∙◌}
use Rattle.feature_escape.proofs.Strict.{none_ahead}
use Rattle.feature_escape.proofs.read.escape_ahead.Goals as goal

pub returns-else-begins_escape_of-clause-none : goal.returns-else-begins_escape_of-clause-none
returns-else-begins_escape_of-clause-none c =
    let read = c.first_read-byte in
    none_ahead c.args.text.now (drop read.result.1 c.args.text.now) read.result.0 read.ensures.read
    (sym c.begins_escape_of.ensures ∙ c.if-begins_escape_of.false)
