use Rattle.std.proofs.Common.{◌+◌, ◌-◌, ◌%◌, ◌^◌, take, drop, arith, length-drop}
use Rattle.std.proofs.lemmas.List.{length-take}
use Rattle.std.proofs.lemmas.Simd.{zip2_splat}
use Rattle.scan_wordlist.proofs.filter.behind_first.Goals as goal

pub returns : goal.returns
returns c =
    let seen = take 16 (drop c.args.at c.args.bytes.now) in
    zip2_splat (λ x y. (x + (2 ^ 8 - y)) % 2 ^ 8) seen 16 33
    (omega (arith, c.requires, length-take 16 (drop c.args.at c.args.bytes.now), length-drop c.args.at c.args.bytes.now))
