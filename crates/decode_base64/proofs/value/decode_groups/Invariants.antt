use Rattle.std.proofs.Common.{◌≡◌, ◌*◌, ◌++◌, take, drop}
use Rattle.decode_base64.proofs.Groups.{value_of}
use Rattle.decode_base64.proofs.value.decode_groups.Given as goal

-- the bytes of the groups passed stand in front, and those of the rest are to come
abbrev pub invariant-loop-group : goal.invariant-loop-group
invariant-loop-group l = take (3 * l.group) l.value ++ value_of (drop (4 * l.group) l.letters) ≡ value_of l.letters
