-- The steps read so far are the first of each list of steps that has the text.
use Rattle.std.proofs.Common.{[], ◌≡◌, ◌<◌, ◌++◌, ◌∷◌, length, arith, ◌∙◌, ap}
use Rattle.std.proofs.lemmas.Bool.Decides.{nat_tests}
use Rattle.forensic_path.specs.declared.path.TheConstants.{STEPS_MOST}
use Rattle.forensic_path.proofs.OnePath.{steps_same}
use Rattle.forensic_path.proofs.Reading.{HasRead-length, HasRead-more, HasRead-no_more, HasRead-all}
use Rattle.forensic_path.proofs.read.steps_read.Goals as goal
use Rattle.forensic_path.proofs.read.steps_read.Goals.{then-count-lt-STEPS_MOST+in_ok-add, else-count-lt-STEPS_MOST}

pub returns-in_default-clause-read : goal.returns-in_default-clause-read
returns-in_default-clause-read c =
    let some : 0 < length c.loop-rest.rest.now = grind (arith, nat_tests, c.loop-rest-test.true, c.is_empty.ensures) in
    HasRead-no_more c.loop-rest.invariant.1 some c.in_default.ensures.none

pub overflow_add-count : goal.overflow_add-count
overflow_add-count c =
    let some : 0 < length c.loop-rest.rest.now = grind (arith, nat_tests, c.loop-rest-test.true, c.is_empty.ensures) in
    omega (arith, some, HasRead-length c.loop-rest.invariant.1)

pub loop-rest-preserved : goal.loop-rest-preserved
loop-rest-preserved c =
    let next = c.in-Some.ensures in
    let more : c.loop-rest.count < STEPS_MOST → c.if-count-lt-STEPS_MOST.steps ≡ c.loop-rest.steps ++ c.in-Some.step ∷ [] = λ few.
    elim c.if-count-lt-STEPS_MOST.branch [
      | then-count-lt-STEPS_MOST+in_ok-add w ↦ w.steps-is ∙ w.in_ok-add.ensures.added
      | else-count-lt-STEPS_MOST w ↦ absurd (omega arith)
    ] in
    (c.loop-rest.invariant.0 ++ c.in-Some.step ∷ [], HasRead-more c.loop-rest.invariant.1 next.step next.text next.rest more)

pub returns-then-count-gt-STEPS_MOST-clause-read : goal.returns-then-count-gt-STEPS_MOST-clause-read
returns-then-count-gt-STEPS_MOST-clause-read c = λ steps have.
    let read = c.loop-rest.invariant.1 in
    let none : length c.loop-rest.rest.now ≡ 0 = grind (arith, nat_tests, c.loop-rest-test.false, c.is_empty.ensures) in
    let same = steps_same c.loop-rest.invariant.0 steps c.args.text.now (HasRead-all read none) have in
    omega (arith, read.counted, ap length same)

pub returns-clause-read : goal.returns-clause-read
returns-clause-read c = λ steps have.
    let read = c.loop-rest.invariant.1 in
    let none : length c.loop-rest.rest.now ≡ 0 = grind (arith, nat_tests, c.loop-rest-test.false, c.is_empty.ensures) in
    read.first (omega arith) ∙ steps_same c.loop-rest.invariant.0 steps c.args.text.now (HasRead-all read none) have
