use Rattle.std.proofs.Common.{◌≡◌, ◌∙◌, [], arith, map, sym, subst, ap, Option, Some, None, refl, inl}
use Rattle.std.specs.Prelude.{option_and_then}
use Rattle.std.proofs.lemmas.List.{length-map}
use Rattle.scan_settings.specs.Settings.{texts}
use Rattle.scan_settings.specs.Words.{command_of}
use Rattle.triage_run.specs.Call.{call_over, and_lists, and_readings, and_kit, Scanned}
use Rattle.triage_run.specs.declared.status.List.{List as ListName}
use Rattle.triage_run.specs.Lists.{lists_of, AreListed, AreEntries, ListFits}
use Rattle.host_source.specs.Source.{told}
use Rattle.triage_run.specs.Case.{joined}
use Rattle.triage_run.specs.Image.{ImageSeen}
use Rattle.triage_run.specs.declared.words.Task.{Task}
use Rattle.triage_run.specs.declared.words.Task.TheVariants.{Scan as ScanTask, Generate as GenerateTask}
use Rattle.triage_run.specs.Patterns.{AreRead, MayBuild}
use Rattle.triage_run.specs.Sources.{image_named}
use Rattle.triage_run.specs.Words.{task_of, scan_in, scan_of, patterns_in, IsTask}
use Rattle.triage_run.proofs.Ends.{words_refused, lists_refused, build_refused, image_scanned, has_report, has_found, command_is, on_ok, image_end_among}
use Rattle.triage_run.proofs.MadeEnds.{made_end, none_long, none_due}
use Rattle.triage_run.proofs.Readings.{read_length}
use Rattle.triage_run.proofs.call.scan_words.Goals as goal

pub returns-in-Err-clause-scanned : goal.returns-in-Err-clause-scanned
returns-in-Err-clause-scanned g c = ([], subst (Scanned _) (sym c.refused.ensures.found) (words_refused _ c.in-Err.refusal c.in-Err.ensures.bad))

pub returns-in-Ok-Generate-clause-scanned : goal.returns-in-Ok-Generate-clause-scanned
returns-in-Ok-Generate-clause-scanned g c =
    let words = command_of (texts c.args.words.now) in
    let made = c.in-Ok-Generate.made in
    let task : task_of words ≡ Some (GenerateTask made) = c.in-Ok-Generate.ensures.task ∙ ap Some c.in-Ok-Generate.field-0-is in
    let command = command_is words (GenerateTask made) task c.in-Ok-Generate.ensures.built in
    let names : lists_of (scan_of words) ≡ lists_of None = ap (λ task. lists_of (option_and_then scan_in task)) task in
    let call = and_kit (g.K.Kit.refusals c.args.kit.now) (g.K.Kit.refusals c.generate-found.new.kit) (and_readings g.K.M.Matcher.reads g.K.M.Matcher.matches []
    (and_lists g.L.Source.nature g.L.Source.slots g.L.Source.faults c.args.lists.now c.args.lists.now
    (call_over g.S.Source.nature g.S.Source.slots g.S.Source.faults g.D.Disk.nature g.D.Disk.files g.D.Disk.faults
    words c.args.source c.args.source c.args.disk.now c.args.disk.now))) in
    made_end call command.0 command.1 command.2 made command.3
    (none_long (g.L.Source.nature c.args.lists.now) (g.L.Source.slots c.args.lists.now) (lists_of (scan_of words)) names)
    (none_due (g.L.Source.slots c.args.lists.now) (lists_of (scan_of words)) names)
    (g.K.Kit.refusals c.args.kit.now) (g.K.Kit.refusals c.generate-found.new.kit) refl refl c.generate-found.result c.generate-found.ensures.found c.generate-found.ensures.cause

pub returns-in-Err-read_lists-clause-scanned : goal.returns-in-Err-read_lists-clause-scanned
returns-in-Err-read_lists-clause-scanned g c =
    let words = command_of (texts c.args.words.now) in
    let task = c.in-Ok-Scan.ensures.task ∙ ap Some c.in-Ok-Scan.field-0-is in
    let command = command_is words (ScanTask c.in-Ok-Scan.scan) task c.in-Ok-Scan.ensures.built in
    let names : lists_of (scan_of words) ≡ c.in-Ok-Scan.scan.lists = ap (λ task. lists_of (option_and_then scan_in task)) task in (
      [],
      subst (Scanned _) (sym c.refused-in-Err-read_lists.ensures.found)
          (lists_refused _ command.0 command.1 command.2 c.in-Err-read_lists.refusal (rw names c.in-Err-read_lists.ensures.cause)),
    )

pub build_matchers-requires-clause-asked : goal.build_matchers-requires-clause-asked
build_matchers-requires-clause-asked g c =
    rw c.items.ensures
    (subst (λ (task : Option Task). MayBuild (g.K.Kit.may_build c.args.kit.now) (patterns_in task)) (c.in-Ok-Scan.ensures.task ∙ ap Some c.in-Ok-Scan.field-0-is) c.requires.patterns)

pub returns-in-Err-build_matchers-clause-scanned : goal.returns-in-Err-build_matchers-clause-scanned
returns-in-Err-build_matchers-clause-scanned g c =
    let words = command_of (texts c.args.words.now) in
    let task = c.in-Ok-Scan.ensures.task ∙ ap Some c.in-Ok-Scan.field-0-is in
    let command = command_is words (ScanTask c.in-Ok-Scan.scan) task c.in-Ok-Scan.ensures.built in
    let names : lists_of (scan_of words) ≡ c.in-Ok-Scan.scan.lists = ap (λ task. lists_of (option_and_then scan_in task)) task in (
      [],
      subst (Scanned _) (sym c.refused-in-Err-build_matchers.ensures.found)
          (build_refused _ command.0 command.1 command.2 (rw names c.in-Ok.ensures.fits) (rw names c.in-Ok.ensures.listed)
          (g.K.Kit.refusals c.args.kit.now) (g.K.Kit.refusals c.build_matchers.new.kit) c.in-Err-build_matchers.refusal c.in-Err-build_matchers.ensures.cause refl refl),
    )

pub scan_image-requires-clause-few : goal.scan_image-requires-clause-few
scan_image-requires-clause-few g c =
    let many = read_length g.K.M.Matcher.reads c.in-Ok-Scan.scan.search.plan.patterns (map g.K.M.Matcher.reading c.in-Ok-build_matchers.matchers.items) (rw c.items.ensures at c.in-Ok-build_matchers.ensures.read) in
    let same = length-map c.in-Ok-build_matchers.matchers.items g.K.M.Matcher.reading in
    let lawful : IsTask (ScanTask c.in-Ok-Scan.scan) = subst IsTask c.in-Ok-Scan.field-0-is c.in-Ok-Scan.ensures.lawful in
    omega (arith, many, same, lawful.search.few_patterns)

pub returns-clause-scanned : goal.returns-clause-scanned
returns-clause-scanned g c =
    let scan = c.in-Ok-Scan.scan in
    let words = command_of (texts c.args.words.now) in
    let task : task_of words ≡ Some (ScanTask scan) = c.in-Ok-Scan.ensures.task ∙ ap Some c.in-Ok-Scan.field-0-is in
    let scanned : scan_of words ≡ Some scan = ap (option_and_then scan_in) task in
    let command = command_is words (ScanTask scan) task c.in-Ok-Scan.ensures.built in
    let names : lists_of (scan_of words) ≡ scan.lists = ap lists_of scanned in
    let readings = map g.K.M.Matcher.reading c.in-Ok-build_matchers.matchers.items in
    let call = and_kit (g.K.Kit.refusals c.args.kit.now) (g.K.Kit.refusals c.build_matchers.new.kit) (and_readings g.K.M.Matcher.reads g.K.M.Matcher.matches readings
    (and_lists g.L.Source.nature g.L.Source.slots g.L.Source.faults c.args.lists.now c.read_lists.new.source
    (call_over g.S.Source.nature g.S.Source.slots g.S.Source.faults g.D.Disk.nature g.D.Disk.files g.D.Disk.faults
    words c.args.source c.scan_image.result.source c.args.disk.now c.scan_image.new.disk))) in
    let bytes = joined (told (g.S.Source.nature c.args.source)) scan.parts in
    let seen : ImageSeen = record { bytes = bytes; parts = scan.parts; slots = call.slots; page = scan.search.page } in
    let image : call.image ≡ bytes = ap (image_named (told (g.S.Source.nature c.args.source))) scanned in
    let read : AreRead g.K.M.Matcher.reads scan.search.plan.patterns readings = rw c.items.ensures at c.in-Ok-build_matchers.ensures.read in
    let fits : (list : ListName) → ListFits call.lists call.list_slots list = rw names c.in-Ok.ensures.fits in
    let listed : AreListed (lists_of (scan_of words)) call.list_slots = rw names c.in-Ok.ensures.listed in
    let entries : AreEntries call.lists c.in-Ok.entries = rw names c.in-Ok.ensures.entries in
    let found = c.scan_image.result.found in
    let kept = c.scan_image.ensures in (
      readings,
      image_scanned call command.0 command.1 command.2 fits listed scan bytes command.3 image read found kept.attached kept.few_pages
          (on_ok found _ _ (has_report call command.0 command.1 command.2 fits listed scan bytes command.3 image read c.in-Ok.entries entries) kept.report)
          (has_found call command.0 command.1 command.2 fits listed scan bytes command.3 image read c.in-Ok.entries entries found kept.found)
          (image_end_among seen _ call.source_rose call.disk_rose (λ rose. inl rose) found kept.cause),
    )
