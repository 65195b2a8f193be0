-- The options of words, one by one.
use Rattle.std.proofs.Common.{ℕ, ◌≡◌, ◌+◌, ◌<◌, ◌≤◌, Bool, true, false, cond, List, [], ◌∷◌, ◌++◌, length, drop, Option, Some, None, refl, sym, subst, ◌∙◌, ap, append_assoc, arith}
use Rattle.std.proofs.lemmas.List.{drop_more, drop_all}
use Rattle.scan_settings.specs.declared.action.Action.{Action}
use Rattle.scan_settings.specs.declared.options.OptionForm.{OptionForm}
use Rattle.scan_settings.specs.declared.fault.Why.{Why}
use Rattle.scan_settings.specs.declared.fault.BadWord.{BadWord}
use Rattle.scan_settings.specs.Faults.{bad}
use Rattle.scan_settings.specs.Options.{form_of}
use Rattle.scan_settings.specs.Settings.{word_at}
use Rattle.scan_settings.specs.Words.{begins_with_dash, is_followed, behind, options_from, place_from, count_named, option_why, value_fault, option_fault, options_fault}

-- the number behind a word that is followed by its value, or not
abbrev past : Bool → ℕ → ℕ
past followed at = cond followed (at + 2) (at + 1)

-- a value is passed
options_past : (followed : Bool) (words : List (List ℕ)) (at : ℕ) → past followed at ≤ length words →
    options_from (at + 1) followed (drop (at + 1) words) ≡ options_from (past followed at) false (drop (past followed at) words)
unfolding options_from
options_past false words at fits = refl
options_past true words at fits =
    let two : at + 1 + 1 ≡ at + 2 = omega arith in
    rw (drop_more words (at + 1) [] (omega arith)) (ap (λ (n : ℕ). options_from n false (drop n words)) two)

place_past : (followed : Bool) (words : List (List ℕ)) (at : ℕ) → past followed at ≤ length words →
    place_from (at + 1) followed (drop (at + 1) words) ≡ place_from (past followed at) false (drop (past followed at) words)
unfolding place_from
place_past false words at fits = refl
place_past true words at fits =
    let two : at + 1 + 1 ≡ at + 2 = omega arith in
    rw (drop_more words (at + 1) [] (omega arith)) (ap (λ (n : ℕ). place_from n false (drop n words)) two)

-- an option and its value are passed
pub options_step : (words : List (List ℕ)) (at : ℕ) → at < length words → begins_with_dash (word_at words at) ≡ true → behind words at ≤ length words →
    options_from at false (drop at words) ≡ at ∷ options_from (behind words at) false (drop (behind words at) words)
unfolding options_from
options_step words at here dash fits =
    rw (drop_more words at [] here, dash) (ap (λ (more : List ℕ). at ∷ more) (options_past (is_followed (form_of (word_at words at))) words at fits))

pub place_step : (words : List (List ℕ)) (at : ℕ) → at < length words → begins_with_dash (word_at words at) ≡ true → behind words at ≤ length words →
    place_from at false (drop at words) ≡ place_from (behind words at) false (drop (behind words at) words)
unfolding place_from
place_step words at here dash fits =
    rw (drop_more words at [] here, dash) (place_past (is_followed (form_of (word_at words at))) words at fits)

-- options end behind the last word, and ahead of a place
pub options_end : (words : List (List ℕ)) (at : ℕ) → length words ≤ at → options_from at false (drop at words) ≡ []
unfolding options_from
options_end words at over = rw (drop_all at words over) refl

pub place_end : (words : List (List ℕ)) (at : ℕ) → length words ≤ at → place_from at false (drop at words) ≡ at
unfolding place_from
place_end words at over = rw (drop_all at words over) refl

pub options_stop : (words : List (List ℕ)) (at : ℕ) → at < length words → begins_with_dash (word_at words at) ≡ false → options_from at false (drop at words) ≡ []
unfolding options_from
options_stop words at here dash = rw (drop_more words at [] here, dash) refl

pub place_stop : (words : List (List ℕ)) (at : ℕ) → at < length words → begins_with_dash (word_at words at) ≡ false → place_from at false (drop at words) ≡ at
unfolding place_from
place_stop words at here dash = rw (drop_more words at [] here, dash) refl

-- a good option leaves the judgement to those behind it, and a bad one is the first
pub good_option : (action : Action) (words : List (List ℕ)) (earlier : List ℕ) (at : ℕ) (options : List ℕ) → option_fault action words earlier at ≡ None →
    options_fault action words earlier (at ∷ options) ≡ options_fault action words (earlier ++ at ∷ []) options
unfolding options_fault
good_option action words earlier at options good = rw good refl

pub bad_option : (action : Action) (words : List (List ℕ)) (earlier : List ℕ) (at : ℕ) (options : List ℕ) (bad : BadWord) →
    option_fault action words earlier at ≡ Some bad → options_fault action words earlier (at ∷ options) ≡ Some bad
unfolding options_fault
bad_option action words earlier at options bad is = rw is refl

-- the same where the next option is known
pub judged_more : (action : Action) (words : List (List ℕ)) (earlier more : List ℕ) (at next : ℕ) → at < length words → begins_with_dash (word_at words at) ≡ true →
    next ≡ behind words at → next ≤ length words → more ≡ earlier ++ at ∷ [] → option_fault action words earlier at ≡ None →
    options_fault action words earlier (options_from at false (drop at words)) ≡ options_fault action words more (options_from next false (drop next words))
judged_more action words earlier more at next here dash next_is fits more_is good =
    let step = options_step words at here dash (subst (λ (n : ℕ). n ≤ length words) next_is fits) in
    ap (options_fault action words earlier) step
    ∙ good_option action words earlier at (options_from (behind words at) false (drop (behind words at) words)) good
    ∙ subst (λ (n : ℕ). options_fault action words (earlier ++ at ∷ []) (options_from n false (drop n words)) ≡ options_fault action words more (options_from next false (drop next words)))
    next_is (ap (λ (e : List ℕ). options_fault action words e (options_from next false (drop next words))) (sym more_is))

pub options_more : (words : List (List ℕ)) (earlier more : List ℕ) (at next : ℕ) → at < length words → begins_with_dash (word_at words at) ≡ true →
    next ≡ behind words at → next ≤ length words → more ≡ earlier ++ at ∷ [] →
    earlier ++ options_from at false (drop at words) ≡ more ++ options_from next false (drop next words)
options_more words earlier more at next here dash next_is fits more_is =
    let step = options_step words at here dash (subst (λ (n : ℕ). n ≤ length words) next_is fits) in
    ap (λ (options : List ℕ). earlier ++ options) step
    ∙ sym (append_assoc earlier (at ∷ []) (options_from (behind words at) false (drop (behind words at) words)))
    ∙ subst (λ (n : ℕ). (earlier ++ at ∷ []) ++ options_from n false (drop n words) ≡ more ++ options_from next false (drop next words))
    next_is (ap (λ (e : List ℕ). e ++ options_from next false (drop next words)) (sym more_is))

pub place_more : (words : List (List ℕ)) (at next : ℕ) → at < length words → begins_with_dash (word_at words at) ≡ true →
    next ≡ behind words at → next ≤ length words → place_from at false (drop at words) ≡ place_from next false (drop next words)
place_more words at next here dash next_is fits =
    place_step words at here dash (subst (λ (n : ℕ). n ≤ length words) next_is fits)
    ∙ subst (λ (n : ℕ). place_from n false (drop n words) ≡ place_from next false (drop next words)) next_is refl

-- no option stands from here on
pub record IsEnd (words : List (List ℕ)) (at : ℕ) : Type 0 where
  pub options : options_from at false (drop at words) ≡ []
  pub place : place_from at false (drop at words) ≡ at

pub past_end : (words : List (List ℕ)) (at : ℕ) → length words ≤ at → IsEnd words at
past_end words at over = record { options = options_end words at over; place = place_end words at over }

pub at_place : (words : List (List ℕ)) (at : ℕ) → at < length words → begins_with_dash (word_at words at) ≡ false → IsEnd words at
at_place words at here dash = record { options = options_stop words at here dash; place = place_stop words at here dash }

-- ---- one option

-- an option that is bad by itself
pub bad_name : (action : Action) (words : List (List ℕ)) (earlier : List ℕ) (at : ℕ) (name : List ℕ) (form : Option OptionForm) (given : ℕ) (why : Why) →
    name ≡ word_at words at → form ≡ form_of name → given ≡ count_named words earlier name → Some why ≡ option_why action form given →
    option_fault action words earlier at ≡ Some (bad at why)
unfolding option_fault
bad_name action words earlier at name form given why name_is form_is given_is is =
    let named : option_why action (form_of (word_at words at)) (count_named words earlier (word_at words at)) ≡ Some why = cc in
    rw named refl

-- an option whose value is bad
pub bad_value : (action : Action) (words : List (List ℕ)) (earlier : List ℕ) (at : ℕ) (name : List ℕ) (form : Option OptionForm) (given : ℕ) (b : BadWord) →
    name ≡ word_at words at → form ≡ form_of name → given ≡ count_named words earlier name → None ≡ option_why action form given →
    Some b ≡ value_fault form words (at + 1) → option_fault action words earlier at ≡ Some b
unfolding option_fault
bad_value action words earlier at name form given b name_is form_is given_is good is =
    let named : option_why action (form_of (word_at words at)) (count_named words earlier (word_at words at)) ≡ None = cc in
    let value : value_fault (form_of (word_at words at)) words (at + 1) ≡ Some b = cc in
    rw (named, value) refl

-- a bad option is the first that is bad
pub judged_bad : (action : Action) (words : List (List ℕ)) (earlier : List ℕ) (at : ℕ) (b : BadWord) → at < length words → begins_with_dash (word_at words at) ≡ true →
    option_fault action words earlier at ≡ Some b → options_fault action words earlier (options_from at false (drop at words)) ≡ Some b
unfolding options_from
judged_bad action words earlier at b here dash is =
    rw (drop_more words at [] here, dash) (bad_option action words earlier at (options_from (at + 1) (is_followed (form_of (word_at words at))) (drop (at + 1) words)) b is)

-- where no option is left none is bad
pub judged_end : (action : Action) (words : List (List ℕ)) (earlier : List ℕ) (at : ℕ) → IsEnd words at →
    options_fault action words earlier (options_from at false (drop at words)) ≡ None
unfolding options_fault
judged_end action words earlier at end = rw end.options refl
