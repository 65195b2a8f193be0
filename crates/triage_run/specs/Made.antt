-- What the scan of an image that is made has found.
use Rattle.std.specs.Prelude.{◌≡◌, ℕ, List, Option}
use Rattle.report_publish.specs.declared.publish.TheConstants.{FEATURE_FILES}
use Rattle.triage_run.specs.declared.words.Generate.{Generate}
use Rattle.triage_run.specs.Case.{case_made}
use Rattle.triage_run.specs.Patterns.{AreRead}
use Rattle.triage_run.specs.Text.{Counts, counts_of}

-- what is found is that of the image, by some readings that the patterns have
abbrev pub FindsMade : {R : Type 0} → (List ℕ → R → Type 0) → (R → List ℕ → Option ℕ) → Generate → Counts → Type 0
FindsMade {R = R} reads matches made found = (readings : List R) × AreRead reads made.search.plan.patterns readings
    × (found ≡ counts_of matches FEATURE_FILES (case_made readings made))
