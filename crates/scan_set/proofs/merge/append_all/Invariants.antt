use Rattle.std.proofs.Common.{◌≡◌, ◌++◌, map, take}
use Rattle.scan_set.proofs.merge.append_all.Given as goal

-- the events of the items passed are appended
abbrev pub invariant-loop-item : goal.invariant-loop-item
invariant-loop-item g l = l.into.items ≡ l.fn.into.items ++ map g.L.Listed.event (take l.item-index l.found)
