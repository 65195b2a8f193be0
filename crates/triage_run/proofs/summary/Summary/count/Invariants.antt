use Rattle.std.proofs.Common.{◌≡◌, map, take}
use Rattle.report_publish.specs.declared.publish.TheConstants.{FEATURE_FILES}
use Rattle.triage_run.specs.Text.{file_lines}
use Rattle.triage_run.proofs.summary.Summary.count.Given as goal

-- the files ahead of the index were counted
abbrev pub invariant-loop-file : goal.invariant-loop-file
invariant-loop-file l = l.files.items ≡ map (file_lines l.items) (take l.file-index FEATURE_FILES)
