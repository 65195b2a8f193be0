use Rattle.std.proofs.Common.{◌++◌, List, ℕ, append-nil, sym, ◌∙◌, ap}
use Rattle.scan_settings.proofs.Texts.{texts_more, texts_end}
use Rattle.scan_settings.proofs.record_read.texts_at.Goals as goal

pub loop-turn-preserved : goal.loop-turn-preserved
loop-turn-preserved c =
    let now = c.loop-turn in
    now.invariant ∙ texts_more c.args.count now.turn now.rest.now c.behind_text-rest.result.now now.texts c.add.new.self c.in_ok-copy.field-0
    c.loop-turn-test.true c.behind_text-rest.ensures (c.in_ok-copy.ensures ∙ c.text_at.ensures) c.in_ok-add.ensures.added

pub returns : goal.returns
returns c =
    let now = c.loop-turn in
    sym (now.invariant ∙ ap (λ (more : List (List ℕ)). now.texts ++ more) (texts_end c.args.count now.turn now.rest.now c.loop-turn-test.false)
    ∙ append-nil now.texts)
