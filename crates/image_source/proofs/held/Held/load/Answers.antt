use Rattle.std.proofs.Common.{◌≤◌, arith}
use Rattle.image_source.specs.Image.{size_of}
use Rattle.image_source.specs.Inside.{slots_of}
use Rattle.image_source.proofs.held.Held.load.Goals as goal

pub returns-in_err-make_room-clause-held : goal.returns-in_err-make_room-clause-held
returns-in_err-make_room-clause-held g c =
    let inside : c.args.from ≤ size_of (slots_of c.args.parts.now) = omega (arith, c.requires.ordered, c.requires.within) in
    c.make_room.ensures.held _ _ (c.slide_to.ensures.held _ _ inside c.requires.held)

pub fill-requires-clause-held : goal.fill-requires-clause-held
fill-requires-clause-held g c =
    let inside : c.args.from ≤ size_of (slots_of c.args.parts.now) = omega (arith, c.requires.ordered, c.requires.within) in
    c.make_room.ensures.held _ _ (c.slide_to.ensures.held _ _ inside c.requires.held)
