use Rattle.std.proofs.Common.{◌≡◌, Some, None, arith, ap, sym, ◌∙◌}
use Rattle.pattern_kit.specs.Matching.{length_at}
use Rattle.pattern_kit.proofs.Lengths.{from_front}
use Rattle.pattern_kit.proofs.SearchSteps.{passed}
use Rattle.pattern_kit.proofs.search.next_len.Goals as goal

pub returns-then-at-end-clause-none : goal.returns-then-at-end-clause-none
returns-then-at-end-clause-none g c k lt inside =
    passed (g.S.Seeker.sought c.args.seeker.now) (g.S.Seeker.judged c.args.seeker.now) c.requires.sieve _ _ (λ i. (c.type_inv.bytes i).fits) _ k (Some c.in-Some.at) c.front-near.ensures.bytes
    c.in-Some.ensures.found (omega arith) inside (omega arith)

pub returns-then-at-end-clause-last : goal.returns-then-at-end-clause-last
returns-then-at-end-clause-last g c k last inside =
    passed (g.S.Seeker.sought c.args.seeker.now) (g.S.Seeker.judged c.args.seeker.now) c.requires.sieve _ _ (λ i. (c.type_inv.bytes i).fits) _ k (Some c.in-Some.at) c.front-near.ensures.bytes
    c.in-Some.ensures.found (omega arith) inside (omega arith)

pub returns-else-at-end-clause-none : goal.returns-else-at-end-clause-none
returns-else-at-end-clause-none g c k lt inside =
    passed (g.S.Seeker.sought c.args.seeker.now) (g.S.Seeker.judged c.args.seeker.now) c.requires.sieve _ _ (λ i. (c.type_inv.bytes i).fits) _ k (Some c.in-Some.at) c.front-near.ensures.bytes
    c.in-Some.ensures.found (omega arith) inside (omega arith)

pub returns-else-at-end-clause-last : goal.returns-else-at-end-clause-last
returns-else-at-end-clause-last g c k last inside =
    let here : k ≡ c.in-Some.at = omega arith in
    ap (length_at (g.S.Seeker.judged c.args.seeker.now) c.args.bytes.now) here
    ∙ sym (c.judge-length.ensures.length ∙ ap (λ f. length_at f c.split_at.result.1.now 0) c.first_start.ensures.same
    ∙ from_front _ _ _ _ c.split_at.ensures.back)

pub returns-in-None-clause-none : goal.returns-in-None-clause-none
returns-in-None-clause-none g c k lt inside =
    passed (g.S.Seeker.sought c.args.seeker.now) (g.S.Seeker.judged c.args.seeker.now) c.requires.sieve _ _ (λ i. (c.type_inv.bytes i).fits) _ k None c.front-near.ensures.bytes c.in-None.ensures.found
    (omega arith) inside tt

pub returns-in-None-clause-last : goal.returns-in-None-clause-last
returns-in-None-clause-last g c k last inside =
    passed (g.S.Seeker.sought c.args.seeker.now) (g.S.Seeker.judged c.args.seeker.now) c.requires.sieve _ _ (λ i. (c.type_inv.bytes i).fits) _ k None c.front-near.ensures.bytes c.in-None.ensures.found
    (omega arith) inside tt
