use Rattle.std.proofs.Common.{◌∙◌, sym}
use Rattle.scan_url.proofs.Prefixes.{ended}
use Rattle.scan_url.proofs.url.begins_with.Goals as goal

pub returns-then-i-bytes : goal.returns-then-i-bytes
returns-then-i-bytes c =
    sym (c.loop-i.invariant.rest ∙ ended c.args.word.now c.args.bytes.now c.loop-i.i c.loop-i-test.true c.if-i-bytes.true)
