-- How the marks of ranges of places join, and what was appended where memory ran out.
use Rattle.std.proofs.Common.{◌≡◌, ℕ, zero, suc, ◌+◌, ◌-◌, ◌<◌, ◌≤◌, min, List, [], ◌∷◌, ◌++◌, take, length, sym, refl, ap, ◌∙◌, arith}
use Rattle.std.specs.List.{range_with_len, flat_map}
use Rattle.std.proofs.lemmas.List.{append-nil, append_assoc, take-append-le, take_min}
use Rattle.std.proofs.lemmas.List.Concat.{flat_map-append}
use Rattle.std.proofs.Math.Seq.{take-append-add}
use Rattle.sbuf_nest.specs.Around.{Around, look_at}
use Rattle.sbuf_nest.specs.Marks.{marks_of, AppendsFirst}

range_with_len-split : (first a b : ℕ) → range_with_len first (a + b) ≡ range_with_len first a ++ range_with_len (first + a) b
range_with_len-split first zero b =
    let e : 0 + b ≡ b = omega arith in
    let f : first + 0 ≡ first = omega arith in
    rw (e, f) refl
range_with_len-split first (suc a) b =
    let e : suc a + b ≡ suc (a + b) = omega arith in
    let f : first + suc a ≡ first + 1 + a = omega arith in
    rw (e, f) (ap (λ rest. first ∷ rest) (range_with_len-split (first + 1) a b))

module _ {A : Type 0} (judge : Around → ℕ → List A) (bytes : List ℕ) where
  -- the marks of two ranges, one behind the other
  pub marks_of-split : (first a b : ℕ) → marks_of judge bytes first (a + b) ≡ marks_of judge bytes first a ++ marks_of judge bytes (first + a) b
  unfolding marks_of
  marks_of-split first a b =
      ap (flat_map (λ place. judge (look_at bytes place) place)) (range_with_len-split first a b)
      ∙ flat_map-append (λ place. judge (look_at bytes place) place) (range_with_len first a) (range_with_len (first + a) b)

  -- the same with the places where the ranges meet and end
  pub marks_of-join : (first middle end : ℕ) → first ≤ middle → middle ≤ end →
      marks_of judge bytes first (middle - first) ++ marks_of judge bytes middle (end - middle) ≡ marks_of judge bytes first (end - first)
  marks_of-join first middle end low high =
      let e : end - first ≡ middle - first + (end - middle) = omega arith in
      let f : first + (middle - first) ≡ middle = omega arith in
      let split = marks_of-split first (middle - first) (end - middle) in
      rw e (sym (rw f at split))

  pub marks_of-zero : (first : ℕ) → marks_of judge bytes first 0 ≡ []
  unfolding marks_of
  marks_of-zero first = refl

  -- the marks of one place
  pub marks_of-one : (first : ℕ) → marks_of judge bytes first 1 ≡ judge (look_at bytes first) first
  unfolding marks_of
  marks_of-one first = append-nil (judge (look_at bytes first) first)

  -- one more place
  pub marks_of-more : (first place : ℕ) → first ≤ place →
      marks_of judge bytes first (place + 1 - first) ≡ marks_of judge bytes first (place - first) ++ judge (look_at bytes place) place
  marks_of-more first place low =
      let e : place + 1 - first ≡ place - first + 1 = omega arith in
      let f : first + (place - first) ≡ place = omega arith in
      let split = marks_of-split first (place - first) 1 in
      rw e (rw f at split ∙ ap (λ last. marks_of judge bytes first (place - first) ++ last) (marks_of-one place))

  -- places that have no mark
  pub marks_of-none : (first count : ℕ) → ((place : ℕ) → first ≤ place → place < first + count → judge (look_at bytes place) place ≡ []) →
      marks_of judge bytes first count ≡ []
  unfolding marks_of
  marks_of-none first zero none = refl
  marks_of-none first (suc count) none =
      rw (none first (omega arith) (omega arith))
      (marks_of-none (first + 1) count (λ place low high. none place (omega arith) (omega arith)))

-- nothing was appended
pub AppendsFirst-none : {A : Type 0} → (old marks : List A) → AppendsFirst old old marks
AppendsFirst-none {A} old marks = (0, sym (append-nil old))

-- the first few of the first marks
pub AppendsFirst-front : {A : Type 0} → (old new a b : List A) → AppendsFirst old new a → AppendsFirst old new (a ++ b)
AppendsFirst-front {A} old new a b h =
    let few = min h.0 (length a) in
    (few, h.1 ∙ ap (λ some. old ++ some) (sym (take_min h.0 a) ∙ sym (take-append-le few a b (omega arith))))

-- all of the first marks, and the first few of those behind them
pub AppendsFirst-behind : {A : Type 0} → (old new a b : List A) → AppendsFirst (old ++ a) new b → AppendsFirst old new (a ++ b)
AppendsFirst-behind {A} old new a b h =
    (length a + h.0, h.1 ∙ append_assoc old a (take h.0 b) ∙ ap (λ some. old ++ some) (sym (take-append-add a b h.0)))
