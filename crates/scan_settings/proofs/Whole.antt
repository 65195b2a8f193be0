-- The judgement of all words by its parts.
use Rattle.std.proofs.Common.{ℕ, ◌≡◌, ◌+◌, ◌-◌, take, drop, ◌<◌, List, [], ◌∷◌, length, Option, Some, None, Result, Ok, Err, IfOk, IfErr, refl, sym, subst, ap, ◌∙◌, arith}
use Rattle.std.specs.Prelude.{String}
use Rattle.std.specs.String.{string_bytes}
use Rattle.std.specs.Option.{option_or}
use Rattle.std.proofs.lemmas.List.{take-map, drop-map, length-map}
use Rattle.std.proofs.lemmas.Bool.Decides.{nat_tests}
use Rattle.scan_settings.specs.declared.action.Action.{Action}
use Rattle.scan_settings.specs.declared.action.Action.TheVariants.{Scan, Generate}
use Rattle.scan_settings.specs.declared.fault.Why.TheVariants.{NoCommand, UnknownCommand}
use Rattle.scan_settings.specs.declared.fault.BadWord.{BadWord}
use Rattle.scan_settings.specs.declared.fault.WordsFault.{WordsFault}
use Rattle.scan_settings.specs.declared.fault.WordsFault.TheVariants.{Usage, NoMemory}
use Rattle.scan_settings.specs.declared.settings.Settings.{Settings}
use Rattle.scan_settings.specs.declared.words.Command.{Command}
use Rattle.scan_settings.specs.declared.words.Command.TheVariants.{Scan as ScanCommand}
use Rattle.scan_settings.specs.Faults.{bad, IsFault, IsRefused}
use Rattle.scan_settings.specs.Settings.{texts, word_at, settings_given}
use Rattle.scan_settings.specs.Words.{action_of, options_in, place_in, options_fault, places_fault, rest_fault, words_fault, command_given, command_of}

-- what is bad of the options comes first
pub options_first : (action : Action) (words : List (List ℕ)) (refusal : WordsFault) → IsFault (options_fault action words [] (options_in words)) refusal →
    IsFault (words_fault action words) refusal
unfolding words_fault
options_first action words (Usage word why) is = rw is refl
options_first action words NoMemory is = tt

-- and then what is bad behind them
pub rest_next : (action : Action) (words : List (List ℕ)) (rest : Option BadWord) → options_fault action words [] (options_in words) ≡ None →
    rest ≡ rest_fault action words → words_fault action words ≡ rest
unfolding words_fault
rest_next action words rest good is = rw good (sym is)

-- lawful places are at least two
pub two_places : (action : Action) (words : List (List ℕ)) (first : ℕ) → places_fault action words first ≡ None → first + 1 < length words
unfolding places_fault
two_places Scan words first good = grind (arith, nat_tests, good)
two_places Generate words first good = grind (arith, nat_tests, good)

or_none : {T : Type 0} (first second : Option T) → None ≡ option_or first second → first ≡ None
or_none None second none = refl
or_none (Some x) second none = cc

pub places_good : (action : Action) (words : List (List ℕ)) → None ≡ rest_fault action words → places_fault action words (place_in words) ≡ None
unfolding rest_fault
places_good action words good = or_none (places_fault action words (place_in words)) _ good

-- ---- the command

-- the parts of a scan are the words of these numbers
parts_are : {A : Type 0} (words : List (String A)) (first count : ℕ) → texts (take count (drop first words)) ≡ take count (drop first (texts words))
parts_are words first count = rw (drop-map, take-map) refl

pub scan_by : {A : Type 0} (words : List (String A)) (first last : ℕ) (settings : Settings) (parts : List (List ℕ)) (place : List ℕ) →
    settings ≡ settings_given (texts words) (options_in (texts words)) → first ≡ place_in (texts words) → last ≡ length words - 1 →
    parts ≡ texts (take (last - first) (drop first words)) → place ≡ word_at (texts words) last →
    ScanCommand settings parts place ≡ command_given Scan (texts words)
unfolding command_given
scan_by words first last settings parts place settings_is first_is last_is parts_is place_is =
    let end : last ≡ length (texts words) - 1 = last_is ∙ ap (λ (n : ℕ). n - 1) (sym (length-map words string_bytes)) in
    let all : parts ≡ take (length (texts words) - 1 - place_in (texts words)) (drop (place_in (texts words)) (texts words)) =
    parts_is ∙ parts_are words first (last - first)
    ∙ ap (λ (n : ℕ). take (n - first) (drop first (texts words))) end
    ∙ ap (λ (n : ℕ). take (length (texts words) - 1 - n) (drop n (texts words))) first_is in
    let where_is : place ≡ word_at (texts words) (length (texts words) - 1) = place_is ∙ ap (word_at (texts words)) end in
    rw (settings_is, all, where_is) refl

pub no_command : (words : List (List ℕ)) → length words ≡ 0 → command_of words ≡ Err (bad 0 NoCommand)
unfolding command_of
no_command [] none = refl
no_command (word ∷ words) none = absurd (omega (arith, none))

pub unknown_command : (words : List (List ℕ)) (word : List ℕ) → 0 < length words → word ≡ word_at words 0 → None ≡ action_of word → command_of words ≡ Err (bad 0 UnknownCommand)
unfolding command_of
unknown_command [] word some is none = absurd (omega (arith, some))
unknown_command (first ∷ words) word some is none =
    let unknown : action_of first ≡ None = subst (λ (w : List ℕ). action_of w ≡ None) is (sym none) in
    rw unknown refl

pub good_command : (words : List (List ℕ)) (word : List ℕ) (action : Action) → 0 < length words → word ≡ word_at words 0 → Some action ≡ action_of word →
    words_fault action words ≡ None → command_of words ≡ Ok (command_given action words)
unfolding command_of
good_command [] word action some is named good = absurd (omega (arith, some))
good_command (first ∷ words) word action some is named good =
    let known : action_of first ≡ Some action = subst (λ (w : List ℕ). action_of w ≡ Some action) is (sym named) in
    rw (known, good) refl

pub bad_command : (words : List (List ℕ)) (word : List ℕ) (action : Action) (refusal : WordsFault) → 0 < length words → word ≡ word_at words 0 → Some action ≡ action_of word →
    IsFault (words_fault action words) refusal → IsRefused (command_of words) refusal
unfolding command_of
bad_command [] word action refusal some is named fault = absurd (omega (arith, some))
bad_command (first ∷ words) word action (Usage at why) some is named fault =
    let known : action_of first ≡ Some action = subst (λ (w : List ℕ). action_of w ≡ Some action) is (sym named) in
    rw (known, fault) refl
bad_command (first ∷ words) word action NoMemory some is named fault = tt

pub read : {E : Type 0} (result : Result Command E) (words : List (List ℕ)) (word : List ℕ) (action : Action) → 0 < length words → word ≡ word_at words 0 →
    Some action ≡ action_of word → IfOk result (λ command. words_fault action words ≡ None) → IfOk result (λ command. command ≡ command_given action words) →
    IfOk result (λ command. command_of words ≡ Ok command)
read (Ok command) words word action some is named good given = good_command words word action some is named good ∙ ap Ok (sym given)
read (Err refusal) words word action some is named good given = tt

pub if_err : {T E : Type 0} (result : Result T E) (P Q : E → Type 0) → ((e : E) → P e → Q e) → IfErr result P → IfErr result Q
if_err (Ok x) P Q gives p = p
if_err (Err e) P Q gives p = gives e p
