use Rattle.std.proofs.Common.{refl, ◌∙◌}
use Rattle.scan_settings.proofs.Whole.{scan_by}
use Rattle.scan_settings.proofs.words.scan_given.Goals as goal

pub returns : goal.returns
returns c =
    scan_by c.args.words.now c.args.first _ c.args.settings c.in_ok-parts.parts c.in_ok-place.place c.requires.settings c.requires.first refl
    c.in_ok-parts.ensures (c.in_ok-place.ensures ∙ c.word_at.ensures)
