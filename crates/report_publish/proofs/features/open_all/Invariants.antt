use Rattle.std.proofs.Common.{◌≡◌, ℕ, take, filter}
use Rattle.std.specs.List.{All}
use Rattle.feature_file.specs.Files.{is_written}
use Rattle.report_publish.specs.declared.publish.TheConstants.{FEATURE_FILES}
use Rattle.report_publish.specs.OpenFile.{numbers, IsFresh}
use Rattle.report_publish.proofs.features.open_all.Given as goal

-- those of the files ahead of the index that are written are open
abbrev pub invariant-loop-number : goal.invariant-loop-number
invariant-loop-number l = record {
  named : numbers l.open_files.items ≡ filter (λ (file : ℕ). is_written file l.fn.scanners) (take l.number-index FEATURE_FILES);
  fresh : All IsFresh l.open_files.items;
}
