use Rattle.std.proofs.Common.{sym}
use Rattle.scan_net.proofs.Texts.{ether_too_short}
use Rattle.scan_net.proofs.ether.begins_ether.Goals as goal

pub returns-then-bytes-lt-ETHER_SIZE-clause-begins : goal.returns-then-bytes-lt-ETHER_SIZE-clause-begins
returns-then-bytes-lt-ETHER_SIZE-clause-begins c = sym (ether_too_short c.args.bytes.now c.if-bytes-lt-ETHER_SIZE.true)
