use Rattle.scan_find.proofs.Standing.{none_stands}
use Rattle.scan_find.proofs.keywords.Keywords.next_place.Goals as goal

pub returns-clause-none : goal.returns-clause-none
returns-clause-none c =
    let keywords = c.args.self.now in
    λ place k d low high within.
    none_stands keywords.front _ (keywords.pass k d within) c.args.bytes.now (λ i. (c.type_inv.bytes i).fits) place (c.next_place.ensures.before place low high)
