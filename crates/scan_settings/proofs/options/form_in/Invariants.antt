use Rattle.std.proofs.Common.{◌≡◌, map, drop}
use Rattle.scan_settings.specs.Options.{row_of, form_in}
use Rattle.scan_settings.proofs.options.form_in.Given as goal

-- the rows passed have other names
abbrev pub invariant-loop-name : goal.invariant-loop-name
invariant-loop-name l = form_in (map row_of l.rows) l.word ≡ form_in (map row_of (drop l.name-index l.rows)) l.word
