-- The options of the command line, a row each: the name, how often it may be given, and what its value is.
use Rattle.std.proofs.Common.{Bor}
use Rattle.std.specs.Prelude.{ℕ, List, [], ◌∷◌, codes, Option, Some, None, if◌then◌else◌, bytes_eq}
use Rattle.scan_settings.specs.declared.values.NumberRange.{NumberRange}
use Rattle.scan_settings.specs.declared.options.Often.{Often}
use Rattle.scan_settings.specs.declared.options.Often.TheVariants.{Always, Once, AtMost}
use Rattle.scan_settings.specs.declared.options.ValueKind.{ValueKind}
use Rattle.scan_settings.specs.declared.options.ValueKind.TheVariants.{Nothing, Scanner, Number, Text, List as ListName}
use Rattle.scan_settings.specs.declared.options.OptionForm.{OptionForm}

-- a number from least to greatest, and what holds where none is given
abbrev pub from_to : ℕ → ℕ → ℕ → NumberRange
from_to least greatest default = record { least = least; greatest = greatest; default = default }

abbrev pub page : NumberRange
page = from_to 512 16777216 16777216

abbrev pub margin : NumberRange
margin = from_to 131072 4194304 4194304

abbrev pub workers : NumberRange
workers = from_to 1 8 4

abbrev pub depth : NumberRange
depth = from_to 0 7 5

-- 0, which may not be given, is no mask
abbrev pub mask : NumberRange
mask = from_to 1 255 0

abbrev pub word_min : NumberRange
word_min = from_to 1 256 6

abbrev pub word_max : NumberRange
word_max = from_to 1 256 14

abbrev pub context : NumberRange
context = from_to 0 128 16

abbrev pub spool_limit : NumberRange
spool_limit = from_to 1 281474976710656 1099511627776

-- the name of an option, how often it may be given, and what its value is
abbrev pub Row : Type 0
Row = List ℕ × Often × ValueKind

-- a row as the code has it
abbrev pub row_of : Bor (List ℕ) × Often × ValueKind → Row
row_of row = (row.0.now, row.1, row.2)

abbrev pub options : List Row
options =
    (codes "-e", Always, Scanner)
    ∷ (codes "-x", Always, Scanner)
    ∷ (codes "--page", Once, Number page)
    ∷ (codes "--margin", Once, Number margin)
    ∷ (codes "--workers", Once, Number workers)
    ∷ (codes "--depth", Once, Number depth)
    ∷ (codes "--xor", Once, Number mask)
    ∷ (codes "--word-min", Once, Number word_min)
    ∷ (codes "--word-max", Once, Number word_max)
    ∷ (codes "--context", Once, Number context)
    ∷ (codes "--find", AtMost 64, Text)
    ∷ (codes "--pattern", AtMost 4, Text)
    ∷ (codes "--stop", Once, ListName)
    ∷ (codes "--alert", Once, ListName)
    ∷ (codes "--spool-limit", Once, Number spool_limit)
    ∷ (codes "--log", Once, Nothing)
    ∷ []

-- what the first of these rows of this name says
abbrev pub form_in : List Row → List ℕ → Option OptionForm
form_in [] word = None
form_in (row ∷ rows) word = if bytes_eq row.0 word then Some (record { often = row.1; value = row.2 }) else form_in rows word

-- what the option of this name takes, where there is one
unfoldable pub form_of : List ℕ → Option OptionForm
form_of word = form_in options word
