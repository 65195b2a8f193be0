use Rattle.std.proofs.Common.{arith}
use Rattle.std.proofs.lemmas.Grind.{common_steps}
use Rattle.host_disk.proofs.ContentsLemmas.{contents-push_empty}
use Rattle.host_disk.proofs.medium.grow_to.Goals as goal

pub loop-preserved : goal.loop-preserved
loop-preserved c = grind (arith, common_steps, contents-push_empty c.loop.files.items)
