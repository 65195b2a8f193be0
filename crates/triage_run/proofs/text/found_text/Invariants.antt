use Rattle.std.proofs.Common.{◌≡◌, ◌++◌, take}
use Rattle.std.specs.List.{flat_map}
use Rattle.std.specs.String.{string_bytes}
use Rattle.triage_run.specs.Text.{file_line}
use Rattle.triage_run.proofs.text.found_text.Given as goal

-- the lines of the files ahead of the index stand behind the first line
abbrev pub invariant-loop-file : goal.invariant-loop-file
invariant-loop-file l = string_bytes l.text ≡ string_bytes l.initial.text ++ flat_map file_line (take l.file-index l.found.files)
