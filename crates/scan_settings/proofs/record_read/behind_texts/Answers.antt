use Rattle.std.proofs.Common.{◌+◌, ◌-◌, sym, ◌∙◌, ap}
use Rattle.scan_settings.specs.Fields.{behind_texts}
use Rattle.scan_settings.proofs.Texts.{behind_turn, behind_end}
use Rattle.scan_settings.proofs.record_read.behind_texts.Goals as goal

pub loop-turn-preserved : goal.loop-turn-preserved
loop-turn-preserved c =
    let now = c.loop-turn in
    now.invariant ∙ behind_turn c.args.count now.turn now.rest.now c.loop-turn-test.true
    ∙ ap (behind_texts (c.args.count - (now.turn + 1))) (sym c.behind_text-rest.ensures)

pub returns : goal.returns
returns c = sym (c.loop-turn.invariant ∙ behind_end c.args.count c.loop-turn.turn c.loop-turn.rest.now c.loop-turn-test.false)
