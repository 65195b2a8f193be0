-- Which plans are lawful.
use Rattle.std.specs.Prelude.{◌≤◌, length}
use Rattle.std.specs.List.{All}
use Rattle.scan_find.specs.Marks.{IsText}
use Rattle.scan_find.specs.declared.TheConstants.{KEYWORDS_MOST}
use Rattle.scan_wordlist.specs.declared.TheConstants.{WORD_MOST}
use Rattle.scan_set.specs.declared.plan.ScanPlan.{ScanPlan}
use Rattle.scan_set.specs.declared.plan.TheConstants.{DEPTH_MOST}

-- decoded bytes are searched up to 7 buffers deep, there are at most 64 keywords, each of 1 to 256 bytes,
-- and a word has 1 to 256 bytes
pub record IsLawful (plan : ScanPlan) : Type 0 where
  pub depth : plan.depth ≤ DEPTH_MOST
  pub keywords : length plan.keywords ≤ KEYWORDS_MOST
  pub texts : All IsText plan.keywords
  pub least : 1 ≤ plan.word_min
  pub ordered : plan.word_min ≤ plan.word_max
  pub most : plan.word_max ≤ WORD_MOST
