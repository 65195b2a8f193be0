use Rattle.decode_views.proofs.PairPlaces.{none_by_masks}
use Rattle.decode_views.proofs.find.is_bare.Goals as goal

pub returns : goal.returns
returns c =
    none_by_masks c.args.bytes.now c.args.at _ _ _ _ c.mask-first.ensures c.mask-second.ensures c.mask-third.ensures c.mask-fourth.ensures
