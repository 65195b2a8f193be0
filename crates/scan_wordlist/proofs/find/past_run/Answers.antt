use Rattle.std.proofs.Common.{◌≡◌, ◌-◌, true, arith}
use Rattle.std.specs.Prelude.{slice_index}
use Rattle.byte_kit.specs.Classes.{word_class}
use Rattle.scan_wordlist.proofs.Runs.{inside_to}
use Rattle.scan_wordlist.proofs.find.past_run.Goals as goal

pub returns-clause-inside : goal.returns-clause-inside
returns-clause-inside c =
    let first : word_class (slice_index c.args.bytes.now (c.args.next - 1)) ≡ true = cc (c.is_word.ensures, c.if-not-is_word.false, c.if-not-is_word.ensures) in
    inside_to c.args.bytes.now c.args.next c.next_near.result (omega (arith, c.if-next-eq0.false)) first c.next_near.ensures.before
