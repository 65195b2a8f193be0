use Rattle.std.proofs.Common.{◌≡◌, ◌<◌, ◌≤◌, ◌++◌, true, length, append-nil, sym, ap, ◌∙◌, arith}
use Rattle.std.proofs.lemmas.List.{length-map}
use Rattle.scan_settings.specs.Settings.{texts, word_at}
use Rattle.scan_settings.specs.Words.{begins_with_dash}
use Rattle.scan_settings.proofs.Refused.{fault_from}
use Rattle.scan_settings.proofs.Steps.{IsEnd, past_end, at_place, judged_more, options_more, place_more, judged_bad, judged_end}
use Rattle.scan_settings.proofs.judge.read_options.Goals as goal
use Rattle.scan_settings.proofs.judge.read_options.Goals.{then-loop-at-test+else-begins_with_dash, else-loop-at-test}

pub loop-at-preserved : goal.loop-at-preserved
loop-at-preserved c =
    let now = c.loop-at in
    let words = texts c.args.words.now in
    let read = c.in_ok-behind.ensures in
    let size : length words ≡ length c.args.words.now = length-map c.args.words.now _ in
    let here : now.at < length words = omega (arith, size, c.loop-at-test.true) in
    let dash : begins_with_dash (word_at words now.at) ≡ true =
    ap begins_with_dash (sym c.word_at.ensures) ∙ sym c.begins_with_dash.ensures ∙ c.if-begins_with_dash.true in
    let good = rw c.as_slice.ensures.value at read.good in
    let fits : c.in_ok-behind.behind ≤ length words = omega (arith, size, read.within) in
    record {
      judged = now.invariant.judged ∙ judged_more c.args.action words now.numbers.items c.push_number.new.numbers.items now.at c.in_ok-behind.behind here dash read.next fits c.in_ok-push_number.ensures good;
      options = now.invariant.options ∙ options_more words now.numbers.items c.push_number.new.numbers.items now.at c.in_ok-behind.behind here dash read.next fits c.in_ok-push_number.ensures;
      place = now.invariant.place ∙ place_more words now.at c.in_ok-behind.behind here dash read.next fits;
      within = read.within;
    }

pub returns-in_err-behind-clause-bad : goal.returns-in_err-behind-clause-bad
returns-in_err-behind-clause-bad c =
    let now = c.loop-at in
    let words = texts c.args.words.now in
    let size : length words ≡ length c.args.words.now = length-map c.args.words.now _ in
    let here : now.at < length words = omega (arith, size, c.loop-at-test.true) in
    let dash : begins_with_dash (word_at words now.at) ≡ true =
    ap begins_with_dash (sym c.word_at.ensures) ∙ sym c.begins_with_dash.ensures ∙ c.if-begins_with_dash.true in
    let bad = rw c.as_slice.ensures.value at c.in_err-behind.ensures.bad in
    fault_from c.from_residual.result _ c.in_err-behind.field-0.0 c.from_residual.ensures.1
    (now.invariant.judged ∙ judged_bad c.args.action words now.numbers.items now.at c.in_err-behind.field-0.0 here dash bad)

end_of : (c : goal.Left-loop-at) → IsEnd (texts c.args.words.now) c.loop-at.at
end_of c =
    let words = texts c.args.words.now in
    let size : length words ≡ length c.args.words.now = length-map c.args.words.now _ in
    elim c.loop-at-test.branch [
      | then-loop-at-test+else-begins_with_dash w ↦ at_place words c.loop-at.at (omega (arith, size, w.loop-at-test.true))
          (ap begins_with_dash (sym w.word_at.ensures) ∙ sym w.begins_with_dash.ensures ∙ w.if-begins_with_dash.false)
      | else-loop-at-test w ↦ past_end words c.loop-at.at (omega (arith, size, w.loop-at-test.false))
    ]

pub returns-clause-good : goal.returns-clause-good
returns-clause-good c =
    let now = c.loop-at in
    let words = texts c.args.words.now in
    now.invariant.judged ∙ judged_end c.args.action words now.numbers.items now.at (end_of c)

pub returns-clause-numbers : goal.returns-clause-numbers
returns-clause-numbers c =
    let now = c.loop-at in
    sym (now.invariant.options ∙ ap (λ more. now.numbers.items ++ more) (end_of c).options ∙ append-nil now.numbers.items)

pub returns-clause-place : goal.returns-clause-place
returns-clause-place c = sym (c.loop-at.invariant.place ∙ (end_of c).place)
