use Rattle.std.proofs.Common.{sym, subst, ◌≡◌, length, arith}
use Rattle.std.proofs.lemmas.List.{length-map}
use Rattle.scan_settings.specs.Settings.{texts}
use Rattle.scan_settings.specs.Words.{words_fault, place_in}
use Rattle.scan_settings.specs.Faults.{IsFault}
use Rattle.scan_settings.specs.Lawful.{IsLawful}
use Rattle.scan_settings.proofs.Ranges.{given_lawful}
use Rattle.scan_settings.proofs.Whole.{options_first, rest_next, two_places, places_good}
use Rattle.scan_settings.proofs.words.read_command.Goals as goal

pub returns-in-Err-clause-bad : goal.returns-in-Err-clause-bad
returns-in-Err-clause-bad c = options_first _ _ c.in-Err.refusal c.in-Err.ensures.bad

pub returns-in-Some-clause-bad : goal.returns-in-Some-clause-bad
returns-in-Some-clause-bad c =
    let words = texts c.args.words.now in
    subst (IsFault (words_fault c.args.action words)) (sym c.from.ensures) (rest_next c.args.action words _ c.in-Ok.ensures.good c.in-Some.ensures)

pub command_given-requires-clause-places : goal.command_given-requires-clause-places
command_given-requires-clause-places c =
    let words = texts c.args.words.now in
    let two = two_places c.args.action words (place_in words) (places_good c.args.action words c.in_default.ensures) in
    let size : length words ≡ length c.args.words.now = length-map c.args.words.now _ in
    omega (arith, two, size, c.in-Ok.ensures.place)

pub returns-in-Ok-command_given-clause-good : goal.returns-in-Ok-command_given-clause-good
returns-in-Ok-command_given-clause-good c =
    rest_next c.args.action (texts c.args.words.now) _ c.in-Ok.ensures.good c.in_default.ensures

pub returns-in-Ok-command_given-clause-lawful : goal.returns-in-Ok-command_given-clause-lawful
returns-in-Ok-command_given-clause-lawful c =
    let words = texts c.args.words.now in
    subst IsLawful (sym c.in-Ok-command_given.ensures)
    (given_lawful c.args.action words (rest_next c.args.action words _ c.in-Ok.ensures.good c.in_default.ensures))
