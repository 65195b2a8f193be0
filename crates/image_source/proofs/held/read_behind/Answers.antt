use Rattle.std.proofs.Common.{◌≡◌, ◌∙◌, ◌-◌, length, take, ap, arith}
use Rattle.std.proofs.lemmas.Result.{on_ok_weaker}
use Rattle.image_source.proofs.HeldLemmas.{filled}
use Rattle.image_source.proofs.PartLemmas.{inside_small}
use Rattle.image_source.proofs.held.read_behind.Goals as goal

pub overflow_add-from : goal.overflow_add-from
overflow_add-from g c =
    let small = inside_small _ c.args.parts.now c.requires.parts c.requires.most in
    omega (arith, small, c.requires.within, c.requires.more)

pub returns-clause-filled : goal.returns-clause-filled
returns-clause-filled g c =
    let front : c.split_at_mut-missing.result.0.now ≡ take c.args.held (take c.args.count c.args.room.now) =
    c.split_at_mut-missing.ensures.front ∙ ap (take c.args.held) c.split_at_mut-front.ensures.front in
    let long : length c.read_parts.new.into ≡ c.args.count - c.args.held =
    omega (arith, c.read_parts.auto.into, c.split_at_mut-missing.ensures.back_len, c.split_at_mut-front.ensures.front_len, c.requires.room) in
    on_ok_weaker c.read_parts.result
    (filled _ c.args.room.now c.split_at_mut-missing.result.0.now c.read_parts.new.into c.split_at_mut-front.result.1.now c.args.from c.args.held c.args.count
    c.requires.more c.requires.room front long c.requires.held)
    c.read_parts.ensures.read
