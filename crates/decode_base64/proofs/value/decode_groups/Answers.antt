use Rattle.std.proofs.Common.{arith}
use Rattle.decode_base64.proofs.Groups.{group_step}
use Rattle.decode_base64.proofs.value.decode_groups.Goals as goal

pub loop-group-preserved : goal.loop-group-preserved
loop-group-preserved c =
    let group = c.loop-group in
    group_step c.args.letters.now group.value group.group _ _ _ _ c.requires.letters
    (omega (arith, c.loop-group-test.true, group.auto.group-end, c.requires.room, c.requires.whole))
    (omega (arith, c.loop-group-test.true, group.auto.group-end, group.auto.value))
    c.letter_number-first.ensures.number c.letter_number-second.ensures.number c.letter_number-third.ensures.number c.letter_number-fourth.ensures.number
    group.invariant
