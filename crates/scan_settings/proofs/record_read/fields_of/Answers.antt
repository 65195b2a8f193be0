use Rattle.std.proofs.Common.{◌≡◌, subst}
use Rattle.std.specs.List.{All}
use Rattle.std.specs.Str.{IsUtf8}
use Rattle.scan_settings.specs.Fields.{patterns_at}
use Rattle.scan_settings.proofs.Back.{patterns_read}
use Rattle.scan_settings.proofs.record_read.fields_of.Goals as goal

pub returns-in_default-clause-none : goal.returns-in_default-clause-none
returns-in_default-clause-none c = λ all.
    let read : patterns_at c.args.bytes.now ≡ c.items.result.now =
    patterns_read c.args.bytes.now _ _ _ _ _ _ _ c.split_at.ensures.back c.two_at-count.ensures c.behind_texts-rest.ensures c.two_at.ensures c.behind_two.ensures
    c.in_ok-texts.ensures c.items.ensures in
    (rw c.in_default.is at c.in_ok-patterns.ensures.none) (subst (All IsUtf8) read all)
