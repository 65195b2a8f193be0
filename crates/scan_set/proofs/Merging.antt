-- Two lists that have, place by place, what stands there merge to the list that has both.
use Rattle.std.proofs.Common.{◌≡◌, ◌∙◌, ℕ, zero, suc, ◌+◌, ◌<◌, ◌≤◌, List, [], ◌∷◌, ◌++◌, sym, ap, refl, arith, append_assoc}
use Rattle.std.specs.List.{All, range_with_len, flat_map}
use Rattle.std.proofs.lemmas.Bool.{le-ltb, lt-ltb}
use Rattle.std.proofs.lemmas.List.Elements.{All-nil, All-cons, All-head, All-tail, All-append}
use Rattle.scan_set.specs.Merged.{ahead, behind, merged}

module _ {A : Type 0} (place_of : A → ℕ) where
  -- each of the things stands at the place
  abbrev pub StandAt : ℕ → List A → Type 0
  StandAt place things = All (λ thing. place_of thing ≡ place) things

  -- none of them stands ahead of it
  abbrev pub StandFrom : ℕ → List A → Type 0
  StandFrom place things = All (λ thing. place ≤ place_of thing) things

  -- what stands at a place stands ahead of none up to it
  pub stand_from : (low place : ℕ) (things : List A) → low ≤ place → StandAt place things → StandFrom low things
  stand_from low place [] le at = All-nil (λ thing. low ≤ place_of thing)
  stand_from low place (thing ∷ things) le at =
      let here = All-head (λ thing. place_of thing ≡ place) thing things at in
      let rest = All-tail (λ thing. place_of thing ≡ place) thing things at in
      All-cons (λ thing. low ≤ place_of thing) thing things (omega (arith, here, le)) (stand_from low place things le rest)

  -- ---- one list with nothing, or with what stands behind

  pub merged-nil : (things : List A) → merged place_of things [] ≡ things
  merged-nil [] = refl
  merged-nil (thing ∷ things) = ap (λ rest. thing ∷ rest) (merged-nil things)

  ahead-none : (place : ℕ) (things : List A) → StandFrom place things → ahead place_of place things ≡ []
  ahead-none place [] from = refl
  ahead-none place (thing ∷ things) from =
      rw (le-ltb (place_of thing) place (All-head (λ thing. place ≤ place_of thing) thing things from)) refl

  behind-all : (place : ℕ) (things : List A) → StandFrom place things → behind place_of place things ≡ things
  behind-all place [] from = refl
  behind-all place (thing ∷ things) from =
      rw (le-ltb (place_of thing) place (All-head (λ thing. place ≤ place_of thing) thing things from)) refl

  -- the first list's things at a place are the first of all, where nothing stands ahead of it
  merged-front : (place : ℕ) (things rest others : List A) → StandAt place things → StandFrom place others →
      merged place_of (things ++ rest) others ≡ things ++ merged place_of rest others
  merged-front place [] rest others at from = refl
  merged-front place (thing ∷ things) rest others at from =
      let here = All-head (λ thing. place_of thing ≡ place) thing things at in
      let behind_it = All-tail (λ thing. place_of thing ≡ place) thing things at in
      rw (here, ahead-none place others from, behind-all place others from)
      (ap (λ some. thing ∷ some) (merged-front place things rest others behind_it from))

  ahead-over : (place end : ℕ) (things rest : List A) → place < end → StandAt place things →
      ahead place_of end (things ++ rest) ≡ things ++ ahead place_of end rest
  ahead-over place end [] rest lt at = refl
  ahead-over place end (thing ∷ things) rest lt at =
      let here = All-head (λ thing. place_of thing ≡ place) thing things at in
      let behind_it = All-tail (λ thing. place_of thing ≡ place) thing things at in
      rw (lt-ltb (place_of thing) end (omega (arith, here, lt))) (ap (λ some. thing ∷ some) (ahead-over place end things rest lt behind_it))

  behind-over : (place end : ℕ) (things rest : List A) → place < end → StandAt place things →
      behind place_of end (things ++ rest) ≡ behind place_of end rest
  behind-over place end [] rest lt at = refl
  behind-over place end (thing ∷ things) rest lt at =
      let here = All-head (λ thing. place_of thing ≡ place) thing things at in
      let behind_it = All-tail (λ thing. place_of thing ≡ place) thing things at in
      rw (lt-ltb (place_of thing) end (omega (arith, here, lt))) (behind-over place end things rest lt behind_it)

  -- those of the second list at a place are the first, where all of the first list stands behind it
  merged-over : (place : ℕ) (things others rest : List A) → StandFrom (place + 1) things → StandAt place others →
      merged place_of things (others ++ rest) ≡ others ++ merged place_of things rest
  merged-over place [] others rest from at = refl
  merged-over place (thing ∷ things) others rest from at =
      let low = All-head (λ thing. place + 1 ≤ place_of thing) thing things from in
      let lt : place < place_of thing = omega (arith, low) in
      rw (ahead-over place (place_of thing) others rest lt at, behind-over place (place_of thing) others rest lt at)
      (append_assoc others _ _)

  -- ---- what stands at each place of a run of places

  module _ (these : ℕ → List A) (at_place : (place : ℕ) → StandAt place (these place)) where
    pub run_from : (low first count : ℕ) → low ≤ first → StandFrom low (flat_map these (range_with_len first count))
    run_from low first zero le = All-nil (λ thing. low ≤ place_of thing)
    run_from low first (suc count) le =
        All-append (λ thing. low ≤ place_of thing) (these first) _ (stand_from low first (these first) le (at_place first))
        (run_from low (first + 1) count (omega (arith, le)))

  -- the merge of two runs is the run of both
  pub merged-runs : (these those : ℕ → List A) → ((place : ℕ) → StandAt place (these place)) → ((place : ℕ) → StandAt place (those place)) →
      (first count : ℕ) →
      merged place_of (flat_map these (range_with_len first count)) (flat_map those (range_with_len first count))
      ≡ flat_map (λ place. these place ++ those place) (range_with_len first count)
  merged-runs these those at_these at_those first zero = refl
  merged-runs these those at_these at_those first (suc count) =
      let others = flat_map those (range_with_len (first + 1) count) in
      let things = flat_map these (range_with_len (first + 1) count) in
      merged-front first (these first) things (those first ++ others) (at_these first)
      (All-append (λ thing. first ≤ place_of thing) (those first) others (stand_from first first (those first) (omega arith) (at_those first))
      (run_from those at_those first (first + 1) count (omega arith)))
      ∙ ap (λ some. these first ++ some)
      (merged-over first things (those first) others (run_from these at_these (first + 1) (first + 1) count (omega arith)) (at_those first)
      ∙ ap (λ some. those first ++ some) (merged-runs these those at_these at_those (first + 1) count))
      ∙ sym (append_assoc (these first) (those first) _)
