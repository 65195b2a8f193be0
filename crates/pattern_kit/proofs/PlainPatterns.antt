-- Patterns without assertions, and what is left of the others: of repetitions and of lists of parts.
use Rattle.std.proofs.Common.{◌≡◌, ℕ, zero, suc, Bool, true, false, List, [], ◌∷◌, map, Option, None, Some, refl, ap, ap₂, ◌∙◌}
use Rattle.std.proofs.lemmas.Bool.{and_parts, and_from}
use Rattle.std.specs.List.{list_all}
use Rattle.regex.specs.Patterns.{Re, empty, literal, byte_in, char_in, look, cat, alt, group, plus, cat_all, alt_all, optional, repeat}
use Rattle.regex_hir.specs.Meaning.{copies, up_to, meaning}
use Rattle.regex_hir.specs.declared.hir.Hir.{Hir}
use Rattle.pattern_kit.specs.Assertions.{is_plain, without_looks, stripped}

-- a pattern without assertions is what is left of it
pub plain_without : (a : Re) → is_plain a ≡ true → without_looks a ≡ a
plain_without empty plain = refl
plain_without (literal bytes) plain = refl
plain_without (byte_in ranges) plain = refl
plain_without (char_in ranges) plain = refl
plain_without (look assertion) plain = absurd cc
plain_without (cat a b) plain = let both = and_parts _ _ plain in ap₂ cat (plain_without a both.0) (plain_without b both.1)
plain_without (alt a b) plain = let both = and_parts _ _ plain in ap₂ alt (plain_without a both.0) (plain_without b both.1)
plain_without (group index a) plain = ap (group index) (plain_without a plain)
plain_without (plus greedy a) plain = ap (plus greedy) (plain_without a plain)

pub cat_plain : (parts : List Re) → list_all is_plain parts ≡ true → is_plain (cat_all parts) ≡ true
cat_plain [] plain = refl
cat_plain (a ∷ rest) plain = let both = and_parts _ _ plain in and_from _ _ both.0 (cat_plain rest both.1)

pub alt_plain : (parts : List Re) → list_all is_plain parts ≡ true → is_plain (alt_all parts) ≡ true
alt_plain [] plain = refl
alt_plain (a ∷ rest) plain = let both = and_parts _ _ plain in and_from _ _ both.0 (alt_plain rest both.1)

optional_plain : (greedy : Bool) (a : Re) → is_plain a ≡ true → is_plain (optional greedy a) ≡ true
optional_plain true a plain = and_from _ _ plain refl
optional_plain false a plain = plain

copies_plain : (n : ℕ) (a b : Re) → is_plain a ≡ true → is_plain b ≡ true → is_plain (copies n a b) ≡ true
copies_plain zero a b plain last = last
copies_plain (suc n) a b plain last = and_from _ _ plain (copies_plain n a b plain last)

up_to_plain : (greedy : Bool) (n : ℕ) (a : Re) → is_plain a ≡ true → is_plain (up_to greedy n a) ≡ true
up_to_plain greedy zero a plain = refl
up_to_plain greedy (suc n) a plain = optional_plain greedy _ (and_from _ _ plain (up_to_plain greedy n a plain))

pub repeat_plain : (least : ℕ) (most : Option ℕ) (greedy : Bool) (a : Re) → is_plain a ≡ true → is_plain (repeat least most greedy a) ≡ true
unfolding repeat
repeat_plain zero None greedy a plain = optional_plain greedy (plus greedy a) plain
repeat_plain (suc n) None greedy a plain = copies_plain n a (plus greedy a) plain plain
repeat_plain least (Some most) greedy a plain = copies_plain least a _ plain (up_to_plain greedy _ a plain)

pub cat_without : (parts : List Hir) → without_looks (cat_all (map meaning parts)) ≡ cat_all (map stripped parts)
cat_without [] = refl
cat_without (a ∷ rest) = ap (cat (stripped a)) (cat_without rest)

pub alt_without : (parts : List Hir) → without_looks (alt_all (map meaning parts)) ≡ alt_all (map stripped parts)
alt_without [] = refl
alt_without (a ∷ rest) = ap (alt (stripped a)) (alt_without rest)

optional_without : (greedy : Bool) (a : Re) → without_looks (optional greedy a) ≡ optional greedy (without_looks a)
optional_without true a = refl
optional_without false a = refl

copies_without : (n : ℕ) (a b : Re) → without_looks (copies n a b) ≡ copies n (without_looks a) (without_looks b)
copies_without zero a b = refl
copies_without (suc n) a b = ap (cat (without_looks a)) (copies_without n a b)

up_to_without : (greedy : Bool) (n : ℕ) (a : Re) → without_looks (up_to greedy n a) ≡ up_to greedy n (without_looks a)
up_to_without greedy zero a = refl
up_to_without greedy (suc n) a =
    optional_without greedy _ ∙ ap (λ x. optional greedy (cat (without_looks a) x)) (up_to_without greedy n a)

pub repeat_without : (least : ℕ) (most : Option ℕ) (greedy : Bool) (a : Re) →
    without_looks (repeat least most greedy a) ≡ repeat least most greedy (without_looks a)
unfolding repeat
repeat_without zero None greedy a = optional_without greedy (plus greedy a)
repeat_without (suc n) None greedy a = copies_without n a (plus greedy a)
repeat_without least (Some most) greedy a = copies_without least a _ ∙ ap (copies least (without_looks a)) (up_to_without greedy _ a)
