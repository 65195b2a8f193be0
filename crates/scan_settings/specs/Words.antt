-- Which words are options and which are places, the first bad word, and the command of lawful words.
use Rattle.std.specs.Prelude.{ℕ, ◌+◌, ◌-◌, ◌==◌, ◌++◌, nat_lt, Bool, true, false, List, [], ◌∷◌, length, take, drop, codes, slice_index, Option, Some, None, option_map, unwrap_or, is_some, Result, Ok, Err, count_by, if◌then◌else◌, bytes_eq}
use Rattle.std.specs.Option.{option_or}
use Rattle.scan_settings.specs.declared.action.Action.{Action}
use Rattle.scan_settings.specs.declared.action.Action.TheVariants.{Scan, Generate}
use Rattle.scan_settings.specs.declared.values.NumberRange.{NumberRange}
use Rattle.scan_settings.specs.declared.options.Often.{Often}
use Rattle.scan_settings.specs.declared.options.Often.TheVariants.{Always, Once, AtMost}
use Rattle.scan_settings.specs.declared.options.ValueKind.{ValueKind}
use Rattle.scan_settings.specs.declared.options.ValueKind.TheVariants.{Nothing, Scanner, Number, Text, List as ListName}
use Rattle.scan_settings.specs.declared.options.OptionForm.{OptionForm}
use Rattle.scan_settings.specs.declared.fault.Why.{Why}
use Rattle.scan_settings.specs.declared.fault.Why.TheVariants.{NoCommand, UnknownCommand, UnknownOption, Twice, TooMany, ValueMissing, BadNumber, UnknownScanner, BadText, ExtraWord, PlaceMissing, WordBounds}
use Rattle.scan_settings.specs.declared.fault.BadWord.{BadWord}
use Rattle.scan_settings.specs.declared.settings.Settings.{Settings}
use Rattle.scan_settings.specs.declared.words.Command.{Command}
use Rattle.scan_settings.specs.declared.words.Command.TheVariants.{Scan as ScanCommand, Generate as GenerateCommand}
use Rattle.scan_settings.specs.Faults.{bad}
use Rattle.scan_settings.specs.Values.{number_in, scanner_of, is_text}
use Rattle.scan_settings.specs.Options.{form_of, from_to}
use Rattle.scan_settings.specs.Settings.{word_at, is_named, settings_given}

-- ---- the command

abbrev pub action_of : List ℕ → Option Action
action_of word =
    if bytes_eq word (codes "scan") then Some Scan
    else (if bytes_eq word (codes "generate") then Some Generate
    else None)

-- ---- options and places

-- a `-` stands first
abbrev pub begins_with_dash : List ℕ → Bool
begins_with_dash word = slice_index word 0 == 45

-- the next word is the value of an option
abbrev pub takes_value : ValueKind → Bool
takes_value Nothing = false
takes_value _ = true

abbrev pub is_followed : Option OptionForm → Bool
is_followed None = false
is_followed (Some form) = takes_value form.value

-- The numbers of the options among these words, the first of which has this number, and is the value of the
-- option ahead of it or not. A value may be any word; options end ahead of the first other word that does not
-- begin with `-`.
unfoldable pub options_from : ℕ → Bool → List (List ℕ) → List ℕ
options_from at value [] = []
options_from at true (word ∷ words) = options_from (at + 1) false words
options_from at false (word ∷ words) =
    if begins_with_dash word then at ∷ options_from (at + 1) (is_followed (form_of word)) words else []

-- the number of the first place word, or of words where there is none
unfoldable pub place_from : ℕ → Bool → List (List ℕ) → ℕ
place_from at value [] = at
place_from at true (word ∷ words) = place_from (at + 1) false words
place_from at false (word ∷ words) = if begins_with_dash word then place_from (at + 1) (is_followed (form_of word)) words else at

-- the number of the word behind an option and its value
abbrev pub behind : List (List ℕ) → ℕ → ℕ
behind words at = if is_followed (form_of (word_at words at)) then at + 2 else at + 1

-- options stand behind the command, and all words from the first place on are places
abbrev pub options_in : List (List ℕ) → List ℕ
options_in words = options_from 1 false (drop 1 words)

abbrev pub place_in : List (List ℕ) → ℕ
place_in words = place_from 1 false (drop 1 words)

-- ---- bad options

-- a list is for a scan alone
abbrev pub is_for : Action → ValueKind → Bool
is_for Generate ListName = false
is_for action value = true

-- an option that was given so many times before is given too often
abbrev pub often_why : Often → ℕ → Option Why
often_why Always given = None
often_why Once given = if given == 0 then None else Some Twice
often_why (AtMost most) given = if nat_lt given most then None else Some TooMany

-- why an option is bad that was given so many times before
abbrev pub option_why : Action → Option OptionForm → ℕ → Option Why
option_why action None given = Some UnknownOption
option_why action (Some form) given = if is_for action form.value then often_why form.often given else Some UnknownOption

-- why a word is bad as a value
abbrev pub value_why : ValueKind → List ℕ → Option Why
value_why Scanner word = if is_some (scanner_of word) then None else Some UnknownScanner
value_why (Number range) word = if is_some (number_in range word) then None else Some BadNumber
value_why Text word = if is_text word then None else Some BadText
value_why _ word = None

-- how often the option of this name is among these
abbrev pub count_named : List (List ℕ) → List ℕ → List ℕ → ℕ
count_named words options name = count_by (is_named words name) options

-- what is bad of the option of this number by itself, behind those options
abbrev pub name_fault : Action → List (List ℕ) → List ℕ → ℕ → Option BadWord
name_fault action words earlier at =
    option_map (bad at) (option_why action (form_of (word_at words at)) (count_named words earlier (word_at words at)))

-- what is bad of the value that is the word of this number
abbrev pub value_fault : Option OptionForm → List (List ℕ) → ℕ → Option BadWord
value_fault None words at = None
value_fault (Some form) words at =
    if takes_value form.value
    then (if nat_lt at (length words) then option_map (bad at) (value_why form.value (word_at words at)) else Some (bad at ValueMissing))
    else None

-- an option is judged ahead of its value
unfoldable pub option_fault : Action → List (List ℕ) → List ℕ → ℕ → Option BadWord
option_fault action words earlier at =
    option_or (name_fault action words earlier at) (value_fault (form_of (word_at words at)) words (at + 1))

-- the first that is bad of these options, which stand behind those
unfoldable pub options_fault : Action → List (List ℕ) → List ℕ → List ℕ → Option BadWord
options_fault action words earlier [] = None
options_fault action words earlier (at ∷ options) =
    option_or (option_fault action words earlier at) (options_fault action words (earlier ++ at ∷ []) options)

-- ---- bad places

-- the numbers that make an image
abbrev pub seed : NumberRange
seed = from_to 0 18446744073709551615 0

abbrev pub size : NumberRange
size = from_to 0 67108864 0

-- the word of this number is missing
abbrev pub missing : List (List ℕ) → ℕ → Option BadWord
missing words at = if nat_lt at (length words) then None else Some (bad (length words) PlaceMissing)

-- the word of this number is to be a number
abbrev pub number_fault : NumberRange → List (List ℕ) → ℕ → Option BadWord
number_fault range words at =
    option_or (missing words at) (if is_some (number_in range (word_at words at)) then None else Some (bad at BadNumber))

-- A scan has 1 to 64 parts and a folder. The places of `generate` are a seed and a size.
unfoldable pub places_fault : Action → List (List ℕ) → ℕ → Option BadWord
places_fault Scan words first =
    if nat_lt 65 (length words - first) then Some (bad (first + 65) TooMany) else missing words (first + 1)
places_fault Generate words first =
    option_or (number_fault seed words first) (option_or (number_fault size words (first + 1))
    (if nat_lt (first + 2) (length words) then Some (bad (first + 2) ExtraWord) else None))

-- ---- all words

-- the fewest bytes of a word are more than the most
abbrev pub bounds_fault : List (List ℕ) → Settings → Option BadWord
bounds_fault words settings =
    if nat_lt settings.plan.word_max settings.plan.word_min then Some (bad (length words) WordBounds) else None

-- what is bad behind the options: places, what is missing, and the bounds of words, which are bad only where
-- nothing else is
unfoldable pub rest_fault : Action → List (List ℕ) → Option BadWord
rest_fault action words =
    option_or (places_fault action words (place_in words)) (bounds_fault words (settings_given words (options_in words)))

-- the first bad word behind the command
unfoldable pub words_fault : Action → List (List ℕ) → Option BadWord
words_fault action words = option_or (options_fault action words [] (options_in words)) (rest_fault action words)

-- the command of lawful words
unfoldable pub command_given : Action → List (List ℕ) → Command
command_given Scan words =
    ScanCommand (settings_given words (options_in words)) (take (length words - 1 - place_in words) (drop (place_in words) words))
    (word_at words (length words - 1))
command_given Generate words =
    GenerateCommand (settings_given words (options_in words)) (unwrap_or (number_in seed (word_at words (place_in words))) 0)
    (unwrap_or (number_in size (word_at words (place_in words + 1))) 0)

abbrev pub unless_bad : {T : Type 0} → Option BadWord → T → Result T BadWord
unless_bad None value = Ok value
unless_bad (Some word) value = Err word

-- the command of words that begin with this one
abbrev pub command_by : Option Action → List (List ℕ) → Result Command BadWord
command_by None words = Err (bad 0 UnknownCommand)
command_by (Some action) words = unless_bad (words_fault action words) (command_given action words)

-- the command that words give, or the first bad one of them
unfoldable pub command_of : List (List ℕ) → Result Command BadWord
command_of [] = Err (bad 0 NoCommand)
command_of (word ∷ words) = command_by (action_of word) (word ∷ words)
