-- The marks of the things of a list, one by one.
use Rattle.std.proofs.Common.{◌≡◌, ◌∙◌, ℕ, suc, ◌+◌, ◌<◌, ◌≤◌, List, [], ◌∷◌, ◌++◌, map, length, take, drop, get_or, Option, sym, ap, subst, refl, arith}
use Rattle.std.specs.List.{flat_map}
use Rattle.std.proofs.lemmas.List.{append-nil, append_assoc, take_more, take-append-drop, length-take-le, take_all, map-append}
use Rattle.forensic_path.specs.declared.feature.Kind.TheVariants.{Find}
use Rattle.sbuf_nest.specs.Marks.{marked, AppendsFirst}
use Rattle.sbuf_nest.specs.declared.mark.Mark.{Mark}
use Rattle.sbuf_nest.proofs.MarkLists.{AppendsFirst-none, AppendsFirst-behind}
use Rattle.scan_find.specs.Marks.{numbered_marks}

module _ {A : Type 0} (extent : A → Option ℕ) (place : ℕ) where
  -- the marks of two lists, one behind the other
  pub numbered-append : (which : ℕ) (things others : List A) →
      numbered_marks extent which (things ++ others) place
      ≡ numbered_marks extent which things place ++ numbered_marks extent (which + length things) others place
  unfolding numbered_marks
  numbered-append which [] others =
      let e : which + 0 ≡ which = omega arith in
      rw e refl
  numbered-append which (thing ∷ things) others =
      let e : which + suc (length things) ≡ which + 1 + length things = omega arith in
      rw e
      (ap (λ rest. marked Find which place (extent thing) ++ rest) (numbered-append (which + 1) things others)
      ∙ sym (append_assoc (marked Find which place (extent thing)) (numbered_marks extent (which + 1) things place)
      (numbered_marks extent (which + 1 + length things) others place)))

  pub numbered-one : (which : ℕ) (thing : A) → numbered_marks extent which (thing ∷ []) place ≡ marked Find which place (extent thing)
  unfolding numbered_marks
  numbered-one which thing = append-nil (marked Find which place (extent thing))

  pub numbered-none : (which : ℕ) → numbered_marks extent which [] place ≡ []
  unfolding numbered_marks
  numbered-none which = refl

  module _ (which : ℕ) (things : List A) (old : List Mark) where
    -- one more thing's marks
    pub one_more : (k number : ℕ) (d : A) (now new : List Mark) → k < length things → number ≡ which + k →
        now ≡ old ++ numbered_marks extent which (take k things) place →
        new ≡ now ++ marked Find number place (extent (get_or things k d)) →
        new ≡ old ++ numbered_marks extent which (take (k + 1) things) place
    one_more k number d now new within at is more =
        let long = length-take-le k things (omega arith) in
        let thing = get_or things k d in
        let front = numbered_marks extent which (take k things) place in
        more ∙ ap (λ some. some ++ marked Find number place (extent thing)) is
        ∙ append_assoc old front (marked Find number place (extent thing))
        ∙ ap (λ some. old ++ some)
        (ap (λ last. front ++ last)
        (sym (numbered-one number thing) ∙ ap (λ n. numbered_marks extent n (thing ∷ []) place) (at ∙ ap (λ n. which + n) (sym long)))
        ∙ sym (numbered-append which (take k things) (thing ∷ []))
        ∙ ap (λ some. numbered_marks extent which some place) (sym (take_more things k d within)))

    -- all of them
    pub all_of_them : (k : ℕ) (new : List Mark) → length things ≤ k → new ≡ old ++ numbered_marks extent which (take k things) place →
        new ≡ old ++ numbered_marks extent which things place
    all_of_them k new past is = is ∙ ap (λ some. old ++ numbered_marks extent which some place) (take_all k things past)

    -- the first few of them
    pub few_of_them : (k : ℕ) (new : List Mark) → new ≡ old ++ numbered_marks extent which (take k things) place →
        AppendsFirst old new (numbered_marks extent which things place)
    few_of_them k new is =
        let front = numbered_marks extent which (take k things) place in
        let back = numbered_marks extent (which + length (take k things)) (drop k things) place in
        subst (λ all. AppendsFirst old new all)
        (sym (numbered-append which (take k things) (drop k things)) ∙ ap (λ some. numbered_marks extent which some place) (take-append-drop k things))
        (subst (λ some. AppendsFirst old some (front ++ back)) (sym is) (AppendsFirst-behind old (old ++ front) front back (AppendsFirst-none (old ++ front) back)))

-- things with the same extents have the same marks
pub numbered_same : {A B : Type 0} (f : A → Option ℕ) (g : B → Option ℕ) (place which : ℕ) (xs : List A) (ys : List B) →
    length xs ≡ length ys → ((k : ℕ) (a : A) (b : B) → k < length xs → f (get_or xs k a) ≡ g (get_or ys k b)) →
    numbered_marks f which xs place ≡ numbered_marks g which ys place
unfolding numbered_marks
numbered_same f g place which [] [] long same = refl
numbered_same f g place which [] (y ∷ ys) long same = absurd (omega (arith, long))
numbered_same f g place which (x ∷ xs) [] long same = absurd (omega (arith, long))
numbered_same f g place which (x ∷ xs) (y ∷ ys) long same =
    let first : f x ≡ g y = same 0 x y (omega arith) in
    rw first
    (ap (λ rest. marked Find which place (g y) ++ rest)
    (numbered_same f g place (which + 1) xs ys (omega (arith, long)) (λ k a b within. same (suc k) a b (omega arith))))

-- what is said of each thing's mark, whatever its number, is said of the things in their order
pub numbered_say : {A B : Type 0} (extent : A → Option ℕ) (place : ℕ) (say : Mark → B) (of : A → List B) →
    ((which : ℕ) (thing : A) → map say (marked Find which place (extent thing)) ≡ of thing) →
    (which : ℕ) (things : List A) → map say (numbered_marks extent which things place) ≡ flat_map of things
unfolding numbered_marks
numbered_say extent place say of says which [] = refl
numbered_say extent place say of says which (thing ∷ things) =
    map-append say (marked Find which place (extent thing)) (numbered_marks extent (which + 1) things place)
    ∙ rw (says which thing, numbered_say extent place say of says (which + 1) things) refl
