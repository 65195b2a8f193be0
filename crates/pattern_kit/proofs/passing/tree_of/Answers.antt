use Rattle.pattern_kit.proofs.OneMeaning.{alike_reading}
use Rattle.pattern_kit.proofs.passing.tree_of.Goals as goal

pub returns-in-Ok : goal.returns-in-Ok
returns-in-Ok c pattern reading =
    alike_reading c.args.text.now c.in-Ok.parsed.hir _ pattern (rw c.default-config.ensures at c.in-Ok.ensures.ok) reading
