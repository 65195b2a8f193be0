-- In which ranges settings lie.
use Rattle.std.specs.Prelude.{ℕ, ◌<◌, ◌≤◌, ◌^◌, List, length}
use Rattle.std.specs.List.{All}
use Rattle.scan_settings.specs.declared.values.NumberRange.{NumberRange}
use Rattle.scan_settings.specs.declared.settings.Plan.{Plan}
use Rattle.scan_settings.specs.declared.settings.Settings.{Settings}
use Rattle.scan_settings.specs.declared.words.Command.{Command}
use Rattle.scan_settings.specs.declared.words.Command.TheVariants.{Scan, Generate}
use Rattle.scan_settings.specs.Options.{page, margin, workers, depth, word_min, word_max, context, spool_limit}

-- from the least number of a range to its greatest
abbrev pub IsWithin : NumberRange → ℕ → Type 0
IsWithin range number = (range.least ≤ number) × (number ≤ range.greatest)

-- 1 to 256 bytes
abbrev pub IsText : List ℕ → Type 0
IsText text = (1 ≤ length text) × (length text ≤ 256)

-- a plan as options may set it: no bit stands for no scanner, and the bounds of words are not crossed
pub record IsPlan (plan : Plan) : Type 0 where
  pub scanners : plan.scanners < 2 ^ 10
  pub depth : IsWithin depth plan.depth
  pub mask : plan.mask < 2 ^ 8
  pub least : IsWithin word_min plan.word_min
  pub most : IsWithin word_max plan.word_max
  pub ordered : plan.word_min ≤ plan.word_max
  pub context : IsWithin context plan.context
  pub keywords : All IsText plan.keywords
  pub few_keywords : length plan.keywords ≤ 64
  pub patterns : All IsText plan.patterns
  pub few_patterns : length plan.patterns ≤ 4

-- settings as options may set them
pub record AreSettings (settings : Settings) : Type 0 where
  pub page : IsWithin page settings.page
  pub margin : IsWithin margin settings.margin
  pub workers : IsWithin workers settings.workers
  pub plan : IsPlan settings.plan
  pub limit : IsWithin spool_limit settings.limit

-- a command as words may give it: 1 to 64 parts, or an image of at most 64 MiB
abbrev pub IsLawful : Command → Type 0
IsLawful (Scan settings parts place) = AreSettings settings × (1 ≤ length parts) × (length parts ≤ 64)
IsLawful (Generate settings seed size) = AreSettings settings × (size ≤ 67108864)
