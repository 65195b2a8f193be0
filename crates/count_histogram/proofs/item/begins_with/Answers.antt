use Rattle.std.proofs.Common.{arith, ap, sym, ◌∙◌, false}
use Rattle.std.specs.Cmp.{both_ways}
use Rattle.std.specs.Str.{str_to_ascii_lowercase}
use Rattle.scan_url.specs.Url.{starts_caseless}
use Rattle.count_histogram.proofs.Services.{starts, started}
use Rattle.count_histogram.proofs.item.begins_with.Goals as goal

pub returns-then-bytes-word-clause-begins : goal.returns-then-bytes-word-clause-begins
returns-then-bytes-word-clause-begins c =
    both_ways false (starts_caseless c.args.word.now c.args.bytes.now) (λ e. absurd (cc)) (λ e. absurd (let long = (started c.args.word.now c.args.bytes.now e).1 in omega arith))

pub returns-clause-begins : goal.returns-clause-begins
returns-clause-begins c = both_ways c.eq_ignore_ascii_case.result (starts_caseless c.args.word.now c.args.bytes.now)
    (λ e. let is = c.eq_ignore_ascii_case.ensures.test.0 e in starts c.args.word.now c.args.bytes.now c.requires (omega arith) (ap str_to_ascii_lowercase (sym c.split_at.ensures.front) ∙ is ∙ c.requires))
    (λ e. let is = (started c.args.word.now c.args.bytes.now e).0 in c.eq_ignore_ascii_case.ensures.test.1 (ap str_to_ascii_lowercase c.split_at.ensures.front ∙ is ∙ sym c.requires))
