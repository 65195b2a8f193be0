use Rattle.std.proofs.Common.{◌≡◌, [], length, sym, arith}
use Rattle.std.proofs.lemmas.List.{nil_from_length}
use Rattle.scan_set.specs.Events.{event_place}
use Rattle.scan_set.proofs.Merging.{merged-nil}
use Rattle.scan_set.proofs.merge.Events.merge.Goals as goal

pub returns-then-is_empty : goal.returns-then-is_empty
returns-then-is_empty g c =
    let empty : length c.args.found.now ≡ 0 = grind arith in
    let none : c.args.found.now ≡ [] = nil_from_length _ empty in
    rw none (sym (merged-nil event_place c.args.self.now.items.items))
