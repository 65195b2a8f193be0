use Rattle.std.proofs.Common.{◌≡◌, ◌≤◌, vec_len}
use Rattle.host_disk.specs.Contents.{contents}
use Rattle.host_disk.proofs.medium.grow_to.Given as goal

abbrev pub invariant-loop : goal.invariant-loop
invariant-loop l = record {
  same : contents l.files.items ≡ contents l.fn.files.items;
  count : l.counter ≤ vec_len l.files;
}
