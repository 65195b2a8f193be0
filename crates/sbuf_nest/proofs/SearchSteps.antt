-- One step of a search: places without a mark, then places whose marks were appended.
use Rattle.std.proofs.Common.{◌≡◌, ◌∙◌, ℕ, ◌+◌, ◌-◌, ◌≤◌, List, [], ◌++◌, sym, ap, subst, arith, Result, Ok, Err}
use Rattle.std.specs.Result.{OnErr}
use Rattle.std.proofs.lemmas.List.{append-nil, append_assoc}
use Rattle.sbuf_nest.specs.Around.{Around, look_at}
use Rattle.sbuf_nest.specs.Marks.{marks_of, NoneFrom, AppendsFirst}
use Rattle.sbuf_nest.proofs.MarkLists.{marks_of-one, marks_of-join, marks_of-none, AppendsFirst-front, AppendsFirst-behind}

-- what holds in any case holds after a refusal
pub on_err : {T E P : Type 0} (r : Result T E) → P → OnErr r P
on_err (Ok x) p = tt
on_err (Err e) p = p

module _ {A : Type 0} (judge : Around → ℕ → List A) (bytes : List ℕ) where
  -- one place's marks, as the search judges its Look at the time
  pub one_place : (place : ℕ) (now : Around → ℕ → List A) (look : Around) → now ≡ judge → look ≡ look_at bytes place →
      now look place ≡ marks_of judge bytes place (place + 1 - place)
  one_place place now look same is =
      let e : place + 1 - place ≡ 1 = omega arith in
      ap (λ (j : Around → ℕ → List A). j look place) same ∙ ap (λ around. judge around place) is ∙ rw e (sym (marks_of-one judge bytes place))

  -- no place stands between a place and itself
  pub none_here : (place : ℕ) → NoneFrom judge bytes place place
  none_here place = λ k low high. absurd (omega arith)

  -- what holds of the search as it is now holds of it as it was, since it means the same
  module _ (now : Around → ℕ → List A) (same : now ≡ judge) (first end : ℕ) where
    pub none_as : NoneFrom now bytes first end → NoneFrom judge bytes first end
    none_as none = subst (λ (j : Around → ℕ → List A). NoneFrom j bytes first end) same none

    pub all_as : (old new : List A) → new ≡ old ++ marks_of now bytes first (end - first) → new ≡ old ++ marks_of judge bytes first (end - first)
    all_as old new all = subst (λ (j : Around → ℕ → List A). new ≡ old ++ marks_of j bytes first (end - first)) same all

    pub few_as : (old new : List A) → AppendsFirst old new (marks_of now bytes first (end - first)) → AppendsFirst old new (marks_of judge bytes first (end - first))
    few_as old new few = subst (λ (j : Around → ℕ → List A). AppendsFirst old new (marks_of j bytes first (end - first))) same few

  marks : ℕ → ℕ → List A
  marks first end = marks_of judge bytes first (end - first)

  none_between : (first end : ℕ) → NoneFrom judge bytes first end → marks first end ≡ []
  unfolding marks
  none_between first end none = marks_of-none judge bytes first (end - first) (λ place low high. none place low (omega arith))

  module _ (first next from : ℕ) (low : first ≤ next) (ahead : next ≤ from) (none : NoneFrom judge bytes next from) where
    -- the places passed over have no marks
    pub passed : (old found : List A) → found ≡ old ++ marks_of judge bytes first (next - first) →
        found ≡ old ++ marks_of judge bytes first (from - first)
    unfolding marks
    passed old found is =
        is ∙ ap (λ some. old ++ some)
        (sym (append-nil (marks first next)) ∙ ap (λ some. marks first next ++ some) (sym (none_between next from none))
        ∙ marks_of-join judge bytes first next from low ahead)

    -- then those of the places judged follow
    pub appended : (to : ℕ) → from ≤ to → (old found new : List A) → found ≡ old ++ marks_of judge bytes first (next - first) →
        new ≡ found ++ marks_of judge bytes from (to - from) →
        new ≡ old ++ marks_of judge bytes first (to - first)
    unfolding marks
    appended to behind old found new is more =
        more ∙ ap (λ some. some ++ marks from to) (passed old found is) ∙ append_assoc old (marks first from) (marks from to)
        ∙ ap (λ some. old ++ some) (marks_of-join judge bytes first from to (omega arith) behind)

    -- or the first few of them
    pub cut_short : (to end : ℕ) → from ≤ to → to ≤ end → (old found new : List A) → found ≡ old ++ marks_of judge bytes first (next - first) →
        AppendsFirst found new (marks_of judge bytes from (to - from)) →
        AppendsFirst old new (marks_of judge bytes first (end - first))
    unfolding marks
    cut_short to end behind within old found new is few =
        let here = AppendsFirst-behind old new (marks first from) (marks from to) (subst (λ front. AppendsFirst front new (marks from to)) (passed old found is) few) in
        subst (λ all. AppendsFirst old new all)
        (ap (λ some. some ++ marks to end) (marks_of-join judge bytes first from to (omega arith) behind)
        ∙ marks_of-join judge bytes first to end (omega arith) within)
        (AppendsFirst-front old new (marks first from ++ marks from to) (marks to end) here)
