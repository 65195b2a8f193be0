use Rattle.std.proofs.Common.{◌≡◌, ◌≤◌, length, drop}
use Rattle.scan_url.specs.Url.{starts_caseless}
use Rattle.scan_url.proofs.url.begins_with.Given as goal

-- the bytes passed agree, so the rest decides
abbrev pub invariant-loop-i : goal.invariant-loop-i
invariant-loop-i l = record {
  within : l.i ≤ length l.bytes;
  rest : starts_caseless l.word l.bytes ≡ starts_caseless (drop l.i l.word) (drop l.i l.bytes);
}
