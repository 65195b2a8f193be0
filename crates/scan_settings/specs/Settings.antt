-- What options set: each setting by the options that give it.
use Rattle.std.specs.Prelude.{ℕ, ◌+◌, ◌-◌, ◌^◌, Bool, List, [], map, filter, fold, codes, slice_index_or, String, Option, Some, None, option_map, option_and_then, unwrap_or, is_some, if◌then◌else◌, bytes_eq}
use Rattle.std.specs.List.{find}
use Rattle.std.specs.String.{string_bytes}
use Rattle.forensic_path.specs.declared.scanner.Scanner.{Scanner}
use Rattle.forensic_path.specs.Scanners.{bit_of, is_on}
use Rattle.scan_settings.specs.declared.values.NumberRange.{NumberRange}
use Rattle.scan_settings.specs.declared.settings.Plan.{Plan}
use Rattle.scan_settings.specs.declared.settings.Settings.{Settings}
use Rattle.scan_settings.specs.Values.{number_in, scanner_of}
use Rattle.scan_settings.specs.Options.{page, margin, workers, depth, mask, word_min, word_max, context, spool_limit}

-- the words as bytes
abbrev pub texts : {A : Type 0} → List (String A) → List (List ℕ)
texts words = map string_bytes words

-- the word of this number; past the end it is empty
abbrev pub word_at : List (List ℕ) → ℕ → List ℕ
word_at words at = slice_index_or words at []

-- ---- the options among the words, by their numbers

-- the word of this number is this option
abbrev pub is_named : List (List ℕ) → List ℕ → ℕ → Bool
is_named words name at = bytes_eq (word_at words at) name

-- the value of an option is the word behind it
abbrev pub value_at : List (List ℕ) → ℕ → List ℕ
value_at words at = word_at words (at + 1)

-- the first option of this name
unfoldable pub given_at : List (List ℕ) → List ℕ → List ℕ → Option ℕ
given_at words options name = find (is_named words name) options

-- the number that the option of this name gives, or else the one that holds without it
unfoldable pub number_given : List (List ℕ) → List ℕ → List ℕ → NumberRange → ℕ
number_given words options name range =
    unwrap_or (option_and_then (λ at. number_in range (value_at words at)) (given_at words options name)) range.default

-- the values of all options of this name, in order
unfoldable pub values_given : List (List ℕ) → List ℕ → List ℕ → List (List ℕ)
values_given words options name = map (value_at words) (filter (is_named words name) options)

-- the value of the option of this name
unfoldable pub value_given : List (List ℕ) → List ℕ → List ℕ → Option (List ℕ)
value_given words options name = option_map (value_at words) (given_at words options name)

-- ---- scanners

-- a plan's number with this scanner on, and with it off
abbrev pub with_scanner : ℕ → Scanner → ℕ
with_scanner scanners scanner = if is_on scanners scanner then scanners else scanners + 2 ^ bit_of scanner

abbrev pub without_scanner : ℕ → Scanner → ℕ
without_scanner scanners scanner = if is_on scanners scanner then scanners - 2 ^ bit_of scanner else scanners

-- a switch turns the scanner on or off, where there is one
abbrev pub switch : (ℕ → Scanner → ℕ) → ℕ → Option Scanner → ℕ
switch turn scanners None = scanners
switch turn scanners (Some scanner) = turn scanners scanner

-- behind the option of this number
abbrev pub switched : List (List ℕ) → ℕ → ℕ → ℕ
switched words scanners at =
    if is_named words (codes "-e") at then switch with_scanner scanners (scanner_of (value_at words at))
    else (if is_named words (codes "-x") at then switch without_scanner scanners (scanner_of (value_at words at))
    else scanners)

-- all scanners but that of words
abbrev pub scanners_default : ℕ
scanners_default = 959

-- `-e` and `-x` are applied from left to right
unfoldable pub scanners_given : List (List ℕ) → List ℕ → ℕ
scanners_given words options = fold (switched words) scanners_default options

-- ---- settings

unfoldable pub plan_given : List (List ℕ) → List ℕ → Plan
plan_given words options = record {
  scanners = scanners_given words options;
  depth = number_given words options (codes "--depth") depth;
  mask = number_given words options (codes "--xor") mask;
  word_min = number_given words options (codes "--word-min") word_min;
  word_max = number_given words options (codes "--word-max") word_max;
  context = number_given words options (codes "--context") context;
  keywords = values_given words options (codes "--find");
  patterns = values_given words options (codes "--pattern");
}

unfoldable pub settings_given : List (List ℕ) → List ℕ → Settings
settings_given words options = record {
  page = number_given words options (codes "--page") page;
  margin = number_given words options (codes "--margin") margin;
  workers = number_given words options (codes "--workers") workers;
  plan = plan_given words options;
  stop = value_given words options (codes "--stop");
  alert = value_given words options (codes "--alert");
  limit = number_given words options (codes "--spool-limit") spool_limit;
  with_log = is_some (given_at words options (codes "--log"));
}
