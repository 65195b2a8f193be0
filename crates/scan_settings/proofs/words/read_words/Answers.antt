use Rattle.std.proofs.Common.{◌≡◌, ◌<◌, length, arith}
use Rattle.std.proofs.lemmas.List.{length-map}
use Rattle.std.proofs.lemmas.Bool.Decides.{nat_tests}
use Rattle.scan_settings.specs.Settings.{texts}
use Rattle.scan_settings.proofs.Whole.{no_command, unknown_command, bad_command, if_err, read}
use Rattle.scan_settings.proofs.words.read_words.Goals as goal

pub returns-then-is_empty-clause-bad : goal.returns-then-is_empty-clause-bad
returns-then-is_empty-clause-bad c =
    let words = texts c.args.words.now in
    let size : length words ≡ length c.args.words.now = length-map c.args.words.now _ in
    no_command words (grind (arith, nat_tests, size, c.is_empty.ensures, c.if-is_empty.true))

pub returns-in_default-clause-bad : goal.returns-in_default-clause-bad
returns-in_default-clause-bad c =
    let words = texts c.args.words.now in
    let size : length words ≡ length c.args.words.now = length-map c.args.words.now _ in
    let some : 0 < length words = grind (arith, nat_tests, size, c.is_empty.ensures, c.if-is_empty.false) in
    unknown_command words _ some c.word_at.ensures c.in_default.ensures

pub returns-clause-command : goal.returns-clause-command
returns-clause-command c =
    let words = texts c.args.words.now in
    let size : length words ≡ length c.args.words.now = length-map c.args.words.now _ in
    let some : 0 < length words = grind (arith, nat_tests, size, c.is_empty.ensures, c.if-is_empty.false) in
    read c.read_command.result words _ c.in-Some.action some c.word_at.ensures c.in-Some.ensures c.read_command.ensures.good c.read_command.ensures.command

pub returns-clause-bad : goal.returns-clause-bad
returns-clause-bad c =
    let words = texts c.args.words.now in
    let size : length words ≡ length c.args.words.now = length-map c.args.words.now _ in
    let some : 0 < length words = grind (arith, nat_tests, size, c.is_empty.ensures, c.if-is_empty.false) in
    if_err c.read_command.result _ _ (λ refusal is. bad_command words _ c.in-Some.action refusal some c.word_at.ensures c.in-Some.ensures is) c.read_command.ensures.bad
