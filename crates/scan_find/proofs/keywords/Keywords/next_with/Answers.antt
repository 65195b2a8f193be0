use Rattle.std.proofs.Common.{◌+◌, get_or, subst, sym}
use Rattle.scan_find.specs.Chains.{IsNextWith}
use Rattle.scan_find.proofs.keywords.Keywords.next_with.Goals as goal

pub returns : goal.returns
returns c = λ d.
    let keywords = c.args.self.now in
    subst (IsNextWith keywords.items.now (get_or (get_or keywords.items.now c.args.which d) 0 0) (c.args.which + 1)) (sym c.next.ensures)
    (keywords.chained.next c.args.which d c.requires)
