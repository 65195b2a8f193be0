-- What holds of the numbers of a list.
use Rattle.std.proofs.Common.{◌≡◌, ◌≢◌, ℕ, Bool, true, false, cond, nat_eq, List, [], ◌∷◌, ◌++◌, filter, not, ◌&&◌, ap, refl, sym, ◌∙◌, ◌||◌, arith}
use Rattle.std.specs.List.{AllByRecursion, list_all}
use Rattle.std.proofs.lemmas.Bool.Decides.{nat_tests}
use Rattle.byte_kit.specs.Classes.{is_one_of}

pub false_is_not_true : false ≡ true → ⊥
false_is_not_true e = cc

not_true : (b : Bool) → not b ≡ true → b ≡ false
not_true true e = cc
not_true false e = refl

pub and_left : (a b : Bool) → (a && b) ≡ true → a ≡ true
and_left true b e = refl
and_left false b e = e

pub and_right : (a b : Bool) → (a && b) ≡ true → b ≡ true
and_right true b e = e
and_right false b e = cc

-- what holds of all holds of those that a filter keeps
pub all_filter : (P : ℕ → Type 0) (p : ℕ → Bool) (xs : List ℕ) → AllByRecursion P xs → AllByRecursion P (filter p xs)
all_filter P p [] all = all
all_filter P p (x ∷ xs) all =
    elim (p x) as (λ b. AllByRecursion P (cond b (x ∷ filter p xs) (filter p xs)))
    [ true ↦ (all.0, all_filter P p xs all.1) | false ↦ all_filter P p xs all.1 ]

-- a test that fails on each number, found by computing
pub none_pass : (test : ℕ → Bool) (xs : List ℕ) → list_all (λ (y : ℕ). not (test y)) xs ≡ true → AllByRecursion (λ y. test y ≡ false) xs
none_pass test [] all = tt
none_pass test (y ∷ xs) all = (not_true (test y) (and_left _ _ all), none_pass test xs (and_right _ _ all))

fails_too : (x y : ℕ) (rest : Bool) → x ≢ y → rest ≡ false → (nat_eq x y || rest) ≡ false
fails_too x y rest apart fails = grind (arith, nat_tests)

-- a number that fails where all of the list pass is none of them
pub none_of : (test : ℕ → Bool) (xs : List ℕ) (x : ℕ) → AllByRecursion (λ y. test y ≡ true) xs → test x ≡ false → is_one_of xs x ≡ false
none_of test [] x all fails = refl
none_of test (y ∷ ys) x all fails =
    fails_too x y (is_one_of ys x) (λ same. false_is_not_true (sym fails ∙ ap test same ∙ all.0)) (none_of test ys x all.1 fails)

-- what follows from two facts holds of all where both hold
pub all_both : (P Q R : ℕ → Type 0) → ((x : ℕ) → P x → Q x → R x) → (xs : List ℕ) → AllByRecursion P xs → AllByRecursion Q xs → AllByRecursion R xs
all_both P Q R step [] p q = tt
all_both P Q R step (x ∷ xs) p q = (step x p.0 q.0, all_both P Q R step xs p.1 q.1)

pub all_joined : (P : ℕ → Type 0) (xs ys : List ℕ) → AllByRecursion P xs → AllByRecursion P ys → AllByRecursion P (xs ++ ys)
all_joined P [] ys p q = q
all_joined P (x ∷ xs) ys p q = (p.0, all_joined P xs ys p.1 q)
