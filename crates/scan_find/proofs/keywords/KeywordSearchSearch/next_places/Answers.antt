use Rattle.std.proofs.Common.{List, ℕ, arith}
use Rattle.sbuf_nest.specs.Around.{look_at}
use Rattle.scan_find.specs.Find.{keyword_of}
use Rattle.scan_find.proofs.Standing.{none_marked}
use Rattle.scan_find.proofs.keywords.KeywordSearchSearch.next_places.Goals as goal

pub returns-then-place-own_to-clause-none : goal.returns-then-place-own_to-clause-none
returns-then-place-own_to-clause-none c =
    λ place low high.
    none_marked (λ (keyword : List ℕ). keyword_of keyword (look_at c.args.sb.now.bytes.now place)) place 0 c.args.self.now.keywords.now.items.now
    (λ k d within. c.next_place-place.ensures.none place k d low (omega (arith, high, c.if-place-own_to.true, c.own_to.ensures, c.own_to-2.ensures)) within)

pub returns-clause-ahead : goal.returns-clause-ahead
returns-clause-ahead c =
    λ place low high.
    none_marked (λ (keyword : List ℕ). keyword_of keyword (look_at c.args.sb.now.bytes.now place)) place 0 c.args.self.now.keywords.now.items.now
    (λ k d within. c.next_place-place.ensures.none place k d low high within)
