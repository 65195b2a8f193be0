use Rattle.host_source.proofs.EntryLemmas.{reads}
use Rattle.host_source.proofs.mem_source.MemSourceSource.read_at.Goals as goal

pub returns-clause-ok : goal.returns-clause-ok
returns-clause-ok c =
    let attached = c.unwrap-place.ensures in
    reads _ _ c.args.slot c.unwrap-place.result _ _ c.index.result.now c.args.self.now.apart attached
    (c.args.self.now.inside c.args.slot c.unwrap-place.result attached) c.index.ensures
    c.read_at.ensures
