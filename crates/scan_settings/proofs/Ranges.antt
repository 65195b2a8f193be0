-- Lawful words give settings that lie in their ranges.
use Rattle.std.proofs.Common.{ℕ, zero, suc, ◌≡◌, ◌+◌, ◌-◌, ◌<◌, ◌≤◌, ◌&&◌, Bool, true, false, cond, nat_lt, nat_le, List, [], ◌∷◌, ◌++◌, map, filter, fold, length, drop, length-take, length-drop, Option, Some, None, option_map, unwrap_or, codes, refl, sym, subst, arith}
use Rattle.std.specs.Option.{option_or, option_and_then}
use Rattle.std.specs.List.{All}
use Rattle.std.proofs.lemmas.List.Sums.{sum_by_push}
use Rattle.std.proofs.lemmas.Bool.Decides.{nat_tests}
use Rattle.std.proofs.lemmas.Slice.Eq.{bytes_eq-Decides}
use Rattle.forensic_path.specs.declared.scanner.Scanner.{Scanner}
use Rattle.forensic_path.specs.declared.scanner.Scanner.TheVariants.{Url, Domain, Net, Exec, Unread, Find, Word, Base64, Hex, Utf16}
use Rattle.scan_settings.specs.declared.action.Action.{Action}
use Rattle.scan_settings.specs.declared.action.Action.TheVariants.{Scan, Generate}
use Rattle.scan_settings.specs.declared.settings.Settings.{Settings}
use Rattle.scan_settings.specs.declared.fault.Why.TheVariants.{BadText, ValueMissing, TooMany, UnknownOption, WordBounds}
use Rattle.scan_settings.specs.declared.values.NumberRange.{NumberRange}
use Rattle.scan_settings.specs.declared.options.Often.TheVariants.{AtMost}
use Rattle.scan_settings.specs.declared.options.ValueKind.TheVariants.{Text}
use Rattle.scan_settings.specs.declared.options.OptionForm.{OptionForm}
use Rattle.scan_settings.specs.Faults.{bad}
use Rattle.scan_settings.specs.Values.{number_of, number_in, within, scanner_of, is_text}
use Rattle.scan_settings.specs.Options.{form_of, page, margin, workers, depth, mask, word_min, word_max, context, spool_limit}
use Rattle.scan_settings.specs.Settings.{is_named, value_at, word_at, given_at, number_given, values_given, with_scanner, without_scanner, switch, switched, scanners_default, scanners_given, plan_given, settings_given}
use Rattle.scan_settings.proofs.Whole.{two_places}
use Rattle.scan_settings.specs.Lawful.{IsWithin, IsText, IsPlan, AreSettings, IsLawful}
use Rattle.scan_settings.specs.Words.{size, options_in, place_in, is_for, option_why, name_fault, value_fault, option_fault, options_fault, count_named, places_fault, bounds_fault, rest_fault, words_fault, command_given}

-- ---- numbers

-- a number that passes both tests, or else the default
least_of : (low high : Bool) (least default n : ℕ) → (low ≡ true → least ≤ n) → least ≤ default → least ≤ unwrap_or (cond (low && high) (Some n) None) default
least_of true true least default n test usual = test refl
least_of true false least default n test usual = usual
least_of false high least default n test usual = usual

most_of : (low high : Bool) (most default n : ℕ) → (high ≡ true → n ≤ most) → default ≤ most → unwrap_or (cond (low && high) (Some n) None) default ≤ most
most_of true true most default n test usual = test refl
most_of true false most default n test usual = usual
most_of false high most default n test usual = usual

within_least : (range : NumberRange) (number : Option ℕ) → range.least ≤ range.default → range.least ≤ unwrap_or (option_and_then (within range) number) range.default
within_least range None usual = usual
within_least range (Some n) usual =
    least_of (nat_le range.least n) (nat_le n range.greatest) range.least range.default n (λ e. grind (arith, nat_tests, e)) usual

within_most : (range : NumberRange) (number : Option ℕ) → range.default ≤ range.greatest → unwrap_or (option_and_then (within range) number) range.default ≤ range.greatest
within_most range None usual = usual
within_most range (Some n) usual =
    most_of (nat_le range.least n) (nat_le n range.greatest) range.greatest range.default n (λ e. grind (arith, nat_tests, e)) usual

size_most : (number : Option ℕ) → unwrap_or (option_and_then (within size) number) 0 ≤ 67108864
size_most number = within_most size number (omega arith)

least_at : (range : NumberRange) (words : List (List ℕ)) (at : Option ℕ) → range.least ≤ range.default →
    range.least ≤ unwrap_or (option_and_then (λ at. number_in range (value_at words at)) at) range.default
unfolding number_in
least_at range words None usual = usual
least_at range words (Some at) usual = within_least range (number_of (value_at words at)) usual

most_at : (range : NumberRange) (words : List (List ℕ)) (at : Option ℕ) → range.default ≤ range.greatest →
    unwrap_or (option_and_then (λ at. number_in range (value_at words at)) at) range.default ≤ range.greatest
unfolding number_in
most_at range words None usual = usual
most_at range words (Some at) usual = within_most range (number_of (value_at words at)) usual

pub number_most : (words : List (List ℕ)) (options : List ℕ) (name : List ℕ) (range : NumberRange) → range.default ≤ range.greatest →
    number_given words options name range ≤ range.greatest
unfolding number_given
number_most words options name range usual = most_at range words (given_at words options name) usual

pub number_within : (words : List (List ℕ)) (options : List ℕ) (name : List ℕ) (range : NumberRange) → IsWithin range range.default →
    IsWithin range (number_given words options name range)
unfolding number_given
number_within words options name range usual =
    (least_at range words (given_at words options name) usual.0, most_at range words (given_at words options name) usual.1)

-- ---- scanners

with_below : (n : ℕ) (scanner : Scanner) → n < 1024 → with_scanner n scanner < 1024
with_below n Url below = grind (arith, nat_tests)
with_below n Domain below = grind (arith, nat_tests)
with_below n Net below = grind (arith, nat_tests)
with_below n Exec below = grind (arith, nat_tests)
with_below n Unread below = grind (arith, nat_tests)
with_below n Find below = grind (arith, nat_tests)
with_below n Word below = grind (arith, nat_tests)
with_below n Base64 below = grind (arith, nat_tests)
with_below n Hex below = grind (arith, nat_tests)
with_below n Utf16 below = grind (arith, nat_tests)

less_of : (b : Bool) (n m : ℕ) → n < 1024 → cond b (n - m) n < 1024
less_of true n m below = omega arith
less_of false n m below = below

without_below : (n : ℕ) (scanner : Scanner) → n < 1024 → without_scanner n scanner < 1024
without_below n scanner below = less_of _ n _ below

switch_below : (on off : Bool) (n : ℕ) (scanner : Option Scanner) → n < 1024 →
    cond on (switch with_scanner n scanner) (cond off (switch without_scanner n scanner) n) < 1024
switch_below true off n None below = below
switch_below true off n (Some scanner) below = with_below n scanner below
switch_below false true n None below = below
switch_below false true n (Some scanner) below = without_below n scanner below
switch_below false false n scanner below = below

fold_below : (words : List (List ℕ)) (options : List ℕ) (n : ℕ) → n < 1024 → fold (switched words) n options < 1024
fold_below words [] n below = below
fold_below words (at ∷ options) n below =
    fold_below words options (switched words n at)
    (switch_below (is_named words (codes "-e") at) (is_named words (codes "-x") at) n (scanner_of (value_at words at)) below)

pub scanners_below : (words : List (List ℕ)) (options : List ℕ) → scanners_given words options < 1024
unfolding scanners_given
scanners_below words options = fold_below words options scanners_default (omega arith)

-- ---- texts

first_none : {T : Type 0} (first second : Option T) → option_or first second ≡ None → first ≡ None
first_none None second none = refl
first_none (Some x) second none = cc

second_none : {T : Type 0} (first second : Option T) → option_or first second ≡ None → second ≡ None
second_none None second none = none
second_none (Some x) second none = cc

-- the test that a good text has passed
text_test : {T U : Type 0} (here is : Bool) (f : T → U) (x : T) (y : U) → cond here (option_map f (cond is None (Some x))) (Some y) ≡ None → is ≡ true
text_test true true f x y good = refl
text_test true false f x y good = cc
text_test false is f x y good = cc

all_cons : (x : List ℕ) (xs : List (List ℕ)) → IsText x → All IsText xs → All IsText (x ∷ xs)
all_cons x xs this others zero d within = this
all_cons x xs this others (suc k) d within = others k d (omega (arith, within))

all_step : (named : Bool) (at : ℕ) (rest : List ℕ) (value : ℕ → List ℕ) → (named ≡ true → IsText (value at)) → All IsText (map value rest) →
    All IsText (map value (cond named (at ∷ rest) rest))
all_step false at rest value this others = others
all_step true at rest value this others = all_cons (value at) (map value rest) (this refl) others

-- an option with a text, at most so many of which may be given
abbrev texts_form : ℕ → OptionForm
texts_form most = record { often = AtMost most; value = Text }

-- an option of this name has this form
form_at : (words : List (List ℕ)) (name : List ℕ) (at : ℕ) (form : OptionForm) → is_named words name at ≡ true → form_of name ≡ Some form → form_of (word_at words at) ≡ Some form
form_at words name at form named is = subst (λ (w : List ℕ). form_of w ≡ Some form) (sym ((bytes_eq-Decides (word_at words at) name).0 named)) is

text_of : (text : List ℕ) → is_text text ≡ true → IsText text
text_of text is = (grind (arith, nat_tests, is), grind (arith, nat_tests, is))

good_text : (action : Action) (words : List (List ℕ)) (earlier : List ℕ) (name : List ℕ) (at most : ℕ) → form_of name ≡ Some (texts_form most) →
    option_fault action words earlier at ≡ None → is_named words name at ≡ true → IsText (value_at words at)
unfolding option_fault
good_text action words earlier name at most form good named =
    let value = second_none (name_fault action words earlier at) (value_fault (form_of (word_at words at)) words (at + 1)) good in
    let tested = subst (λ (f : Option OptionForm). value_fault f words (at + 1) ≡ None) (form_at words name at (texts_form most) named form) value in
    text_of (value_at words at) (text_test (nat_lt (at + 1) (length words)) (is_text (value_at words at)) (bad (at + 1)) BadText (bad (at + 1) ValueMissing) tested)

texts_good : (action : Action) (words : List (List ℕ)) (earlier options : List ℕ) (name : List ℕ) (most : ℕ) → form_of name ≡ Some (texts_form most) →
    options_fault action words earlier options ≡ None → All IsText (values_given words options name)
unfolding options_fault values_given
texts_good action words earlier [] name most form good = λ k d within. absurd (omega (arith, within))
texts_good action words earlier (at ∷ options) name most form good =
    all_step (is_named words name at) at (filter (is_named words name) options) (value_at words)
    (good_text action words earlier name at most form (first_none (option_fault action words earlier at) (options_fault action words (earlier ++ at ∷ []) options) good))
    (texts_good action words (earlier ++ at ∷ []) options name most form (second_none (option_fault action words earlier at) (options_fault action words (earlier ++ at ∷ []) options) good))

-- ---- how many

-- the test that one more text has passed
few_test : {T U : Type 0} (allowed few : Bool) (f : T → U) (x y : T) → option_map f (cond allowed (cond few None (Some x)) (Some y)) ≡ None → few ≡ true
few_test true true f x y good = refl
few_test true false f x y good = cc
few_test false few f x y good = cc

good_count : (action : Action) (words : List (List ℕ)) (earlier : List ℕ) (name : List ℕ) (at most : ℕ) → form_of name ≡ Some (texts_form most) →
    option_fault action words earlier at ≡ None → is_named words name at ≡ true → count_named words earlier name < most
unfolding option_fault
good_count action words earlier name at most form good named =
    let fault = first_none (name_fault action words earlier at) (value_fault (form_of (word_at words at)) words (at + 1)) good in
    let here = subst (λ (w : List ℕ). option_map (bad at) (option_why action (form_of w) (count_named words earlier w)) ≡ None)
    ((bytes_eq-Decides (word_at words at) name).0 named) fault in
    let known = subst (λ (f : Option OptionForm). option_map (bad at) (option_why action f (count_named words earlier name)) ≡ None) form here in
    let few = few_test (is_for action Text) (nat_lt (count_named words earlier name) most) (bad at) TooMany UnknownOption known in
    grind (arith, nat_tests, few)

-- the options behind those, and one more
count_step : (named : Bool) (at : ℕ) (rest : List ℕ) (value : ℕ → List ℕ) (n m most : ℕ) → m ≡ n + cond named 1 0 → length (map value rest) + m ≤ most →
    length (map value (cond named (at ∷ rest) rest)) + n ≤ most
count_step true at rest value n m most is few = omega arith
count_step false at rest value n m most is few = omega arith

one_more : (named : Bool) (n most : ℕ) → n ≤ most → (named ≡ true → n < most) → n + cond named 1 0 ≤ most
one_more true n most few more = let less = more refl in omega arith
one_more false n most few more = omega arith

few_good : (action : Action) (words : List (List ℕ)) (earlier options : List ℕ) (name : List ℕ) (most : ℕ) → form_of name ≡ Some (texts_form most) →
    count_named words earlier name ≤ most → options_fault action words earlier options ≡ None →
    length (values_given words options name) + count_named words earlier name ≤ most
unfolding options_fault values_given
few_good action words earlier [] name most form few good = omega arith
few_good action words earlier (at ∷ options) name most form few good =
    let own = first_none (option_fault action words earlier at) (options_fault action words (earlier ++ at ∷ []) options) good in
    let others = second_none (option_fault action words earlier at) (options_fault action words (earlier ++ at ∷ []) options) good in
    let named = is_named words name at in
    let count = count_named words earlier name in
    let counted : count_named words (earlier ++ at ∷ []) name ≡ count + cond named 1 0 = sum_by_push (λ (x : ℕ). cond (is_named words name x) 1 0) earlier at in
    let more : count_named words (earlier ++ at ∷ []) name ≤ most =
    subst (λ (n : ℕ). n ≤ most) (sym counted) (one_more named count most few (good_count action words earlier name at most form own)) in
    count_step named at (filter (is_named words name) options) (value_at words) count (count_named words (earlier ++ at ∷ []) name) most counted
    (few_good action words (earlier ++ at ∷ []) options name most form more others)

-- ---- all settings

find_form : form_of (codes "--find") ≡ Some (texts_form 64)
unfolding form_of
find_form = refl

pattern_form : form_of (codes "--pattern") ≡ Some (texts_form 4)
unfolding form_of
pattern_form = refl

bounds_test : {T : Type 0} (crossed : Bool) (x : T) → cond crossed (Some x) None ≡ None → crossed ≡ false
bounds_test true x good = cc
bounds_test false x good = refl

ordered : (words : List (List ℕ)) (settings : Settings) → bounds_fault words settings ≡ None → settings.plan.word_min ≤ settings.plan.word_max
ordered words settings good =
    let test = bounds_test (nat_lt settings.plan.word_max settings.plan.word_min) (bad (length words) WordBounds) good in
    grind (arith, nat_tests, test)

plan_lawful : (action : Action) (words : List (List ℕ)) (options : List ℕ) → options_fault action words [] options ≡ None →
    (plan_given words options).word_min ≤ (plan_given words options).word_max → IsPlan (plan_given words options)
unfolding plan_given
plan_lawful action words options good bounds = record {
  scanners = scanners_below words options;
  depth = number_within words options (codes "--depth") depth (omega arith, omega arith);
  mask = let most = number_most words options (codes "--xor") mask (omega arith) in omega (arith, most);
  least = number_within words options (codes "--word-min") word_min (omega arith, omega arith);
  most = number_within words options (codes "--word-max") word_max (omega arith, omega arith);
  ordered = bounds;
  context = number_within words options (codes "--context") context (omega arith, omega arith);
  keywords = texts_good action words [] options (codes "--find") 64 find_form good;
  few_keywords = omega (arith, few_good action words [] options (codes "--find") 64 find_form (omega arith) good);
  patterns = texts_good action words [] options (codes "--pattern") 4 pattern_form good;
  few_patterns = omega (arith, few_good action words [] options (codes "--pattern") 4 pattern_form (omega arith) good);
}

settings_lawful : (action : Action) (words : List (List ℕ)) (options : List ℕ) → options_fault action words [] options ≡ None →
    bounds_fault words (settings_given words options) ≡ None → AreSettings (settings_given words options)
unfolding settings_given
settings_lawful action words options good bounds = record {
  page = number_within words options (codes "--page") page (omega arith, omega arith);
  margin = number_within words options (codes "--margin") margin (omega arith, omega arith);
  workers = number_within words options (codes "--workers") workers (omega arith, omega arith);
  plan = plan_lawful action words options good (ordered words (settings_given words options) bounds);
  limit = number_within words options (codes "--spool-limit") spool_limit (omega arith, omega arith);
}

-- what is behind good words is good
rest_good : (action : Action) (words : List (List ℕ)) → words_fault action words ≡ None → rest_fault action words ≡ None
unfolding words_fault
rest_good action words good = second_none (options_fault action words [] (options_in words)) (rest_fault action words) good

places_good : (action : Action) (words : List (List ℕ)) → words_fault action words ≡ None → places_fault action words (place_in words) ≡ None
unfolding rest_fault
places_good action words good =
    first_none (places_fault action words (place_in words)) (bounds_fault words (settings_given words (options_in words))) (rest_good action words good)

set_lawful : (action : Action) (words : List (List ℕ)) → words_fault action words ≡ None → AreSettings (settings_given words (options_in words))
unfolding words_fault rest_fault
set_lawful action words good =
    settings_lawful action words (options_in words) (first_none (options_fault action words [] (options_in words)) (rest_fault action words) good)
    (second_none (places_fault action words (place_in words)) (bounds_fault words (settings_given words (options_in words))) (rest_good action words good))

few_places : (words : List (List ℕ)) (first : ℕ) → places_fault Scan words first ≡ None → length words - first ≤ 65
unfolding places_fault
few_places words first good = grind (arith, nat_tests, good)

-- words of which none is bad give a lawful command
pub given_lawful : (action : Action) (words : List (List ℕ)) → words_fault action words ≡ None → IsLawful (command_given action words)
unfolding command_given number_in
given_lawful Scan words good =
    let places = places_good Scan words good in
    let first = place_in words in
    let two = two_places Scan words first places in
    let few = few_places words first places in
    let taken = length-take (length words - 1 - first) (drop first words) in
    let left = length-drop first words in
    (set_lawful Scan words good, omega (arith, two, taken, left), omega (arith, few, taken, left))
given_lawful Generate words good =
    (set_lawful Generate words good, size_most (number_of (word_at words (place_in words + 1))))
