use Rattle.std.specs.Prelude.{option_copied}
use Rattle.stop_lists.specs.Hash.{home_of}
use Rattle.stop_lists.proofs.Search.{HasPassed}
use Rattle.stop_lists.proofs.table.Table.has.Given as goal

abbrev pub invariant-loop-at : goal.invariant-loop-at
invariant-loop-at l =
    HasPassed l.self-inside.entries l.self-inside.slots.items l.feature (option_copied l.context) l.hash (home_of l.hash l.self-inside.count) l.at
