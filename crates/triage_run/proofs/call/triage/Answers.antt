use Rattle.std.proofs.Common.{◌≡◌, refl, arith, List, ℕ}
use Rattle.byte_kit.specs.Counts.{Rose}
use Rattle.host_source.specs.Sink.{Takes}
use Rattle.scan_settings.specs.Settings.{texts}
use Rattle.scan_settings.specs.Words.{command_of}
use Rattle.triage_run.specs.Call.{call_over, and_lists, and_readings, and_kit}
use Rattle.triage_run.specs.Kept.{KeepsSource}
use Rattle.triage_run.specs.Sources.{IsReady, OnlyParts}
use Rattle.triage_run.specs.Words.{scan_of}
use Rattle.triage_run.proofs.AfterText.{cause_after, exact_after, lists_after, readings_after, parts_after, text_after}
use Rattle.triage_run.proofs.FirstSource.{put_back, first_changed, done_changed, first_holds, answers_of_first}
use Rattle.triage_run.proofs.call.triage.Goals as goal

pub returns-clause-sources : goal.returns-clause-sources
returns-clause-sources g c =
    let back = put_back c.args.sources.items c.remove-first.new.self.items c.insert.new.self.items c.scan_words-source.result.source c.insert.result c.unwrap.result
    c.unwrap.ensures c.remove-first.ensures.items c.insert.ensures.items in
    rw back (first_changed (KeepsSource g.S.Source.nature g.S.Source.faults) (λ x. record { same = refl; later = omega arith })
    c.args.sources.items c.remove-first.result c.scan_words-source.result.source (omega (arith, c.requires.sources.0)) c.remove-first.ensures.value c.scan_words-source.ensures.source)

pub returns-clause-slots : goal.returns-clause-slots
returns-clause-slots g c =
    let scan = scan_of (command_of (texts c.args.words.now)) in
    let back = put_back c.args.sources.items c.remove-first.new.self.items c.insert.new.self.items c.scan_words-source.result.source c.insert.result c.unwrap.result
    c.unwrap.ensures c.remove-first.ensures.items c.insert.ensures.items in
    rw back (first_holds (IsReady g.S.Source.nature g.S.Source.slots scan) (λ s. OnlyParts scan (g.S.Source.slots s)) (λ s ready slot behind. ready.detached slot)
    c.args.sources.items c.scan_words-source.result.source c.requires.ready c.scan_words-source.ensures.slots)

pub returns-clause-answers : goal.returns-clause-answers
returns-clause-answers g c =
    let back = put_back c.args.sources.items c.remove-first.new.self.items c.insert.new.self.items c.scan_words-source.result.source c.insert.result c.unwrap.result
    c.unwrap.ensures c.remove-first.ensures.items c.insert.ensures.items in
    let scan = c.scan_words-source in
    let print = c.print_end-status in
    let rose = Rose (g.O.Sink.faults c.args.out) (g.O.Sink.faults print.new.sink) in
    let readings = scan.ensures.scanned.0 in
    let scanned = scan.ensures.scanned.1 in
    let call = and_kit (g.K.Kit.refusals c.args.kit) (g.K.Kit.refusals scan.new.kit) (and_readings g.K.M.Matcher.reads g.K.M.Matcher.matches readings
    (and_lists g.L.Source.nature g.L.Source.slots g.L.Source.faults c.args.lists scan.new.lists
    (call_over g.S.Source.nature g.S.Source.slots g.S.Source.faults g.D.Disk.nature g.D.Disk.files g.D.Disk.faults (command_of (texts c.args.words.now))
    c.remove-first.result scan.result.source c.args.disk scan.new.disk))) in
    let takes : List ℕ → Type 0 = λ bytes. Takes (g.O.Sink.taken c.args.out) (g.O.Sink.taken print.new.sink) bytes in (
      readings,
      rw back (answers_of_first g.S.Source.nature g.S.Source.slots g.S.Source.faults g.D.Disk.nature g.D.Disk.files g.D.Disk.faults
          g.L.Source.nature g.L.Source.slots g.L.Source.faults c.args.lists scan.new.lists
          g.K.M.Matcher.reads g.K.M.Matcher.matches readings (g.K.Kit.refusals c.args.kit) (g.K.Kit.refusals scan.new.kit) g.O.Sink.taken g.O.Sink.faults _ _ _ _ _ _
          c.args.sources.items c.remove-first.result scan.result.source (omega (arith, c.requires.sources.0)) c.remove-first.ensures.value
          (cause_after call rose takes (λ none. absurd none) _ _ print.ensures.end scanned.cause)
          (exact_after call rose takes _ _ print.ensures.end scanned.exact)
          (lists_after call rose takes _ _ print.ensures.end scanned.lists)
          (readings_after call rose takes _ _ print.ensures.end scanned.readings)
          (parts_after call rose takes _ _ print.ensures.end scanned.parts)
          (text_after call rose takes scan.result.found print.result scan.ensures.refused print.ensures.end scanned.found print.ensures.printed)),
    )

pub returns-clause-sure : goal.returns-clause-sure
returns-clause-sure g c =
    let back = put_back c.args.sources.items c.remove-first.new.self.items c.insert.new.self.items c.scan_words-source.result.source c.insert.result c.unwrap.result
    c.unwrap.ensures c.remove-first.ensures.items c.insert.ensures.items in
    rw back (done_changed _ _ _ _ (λ s t. g.S.Source.faults t ≡ g.S.Source.faults s) (λ x. refl)
    c.args.sources.items c.remove-first.result c.scan_words-source.result.source (omega (arith, c.requires.sources.0)) c.remove-first.ensures.value
    _ c.scan_words-source.result.found c.print_end-status.result c.scan_words-source.ensures.refused c.print_end-status.ensures.end
    c.scan_words-source.ensures.sure c.print_end-status.ensures.sure)
