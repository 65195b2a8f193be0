use Rattle.std.proofs.Common.{◌<◌, ◌≡◌, ◌⊎◌, inl, inr, length, arith}
use Rattle.std.proofs.lemmas.Bool.{cases_lt}
use Rattle.scan_wordlist.proofs.Runs.{run_seen}
use Rattle.scan_wordlist.proofs.word.run_of.Goals as goal

pub returns : goal.returns
returns c =
    let bytes = c.args.bytes.now in
    let is = c.min-near.ensures in
    let enough : c.args.max < c.min-near.result ⊎ (c.min-near.result ≡ length bytes) = elim (cases_lt c.args.max c.min-near.result)
    [ inl far ↦ inl far | inr near ↦ inr (omega (arith, is, near)) ] in
    run_seen bytes c.min-near.result c.args.max c.next_near.result (omega (arith, is)) enough c.next_near.ensures
