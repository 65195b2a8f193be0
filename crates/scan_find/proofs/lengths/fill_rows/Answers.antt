use Rattle.std.proofs.Common.{◌≡◌, ◌≢◌, ◌∙◌, ◌-◌, ◌+◌, ◌<◌, ℕ, List, Option, length, map, get_or, set, sym, ap, subst, arith, inl, inr}
use Rattle.std.proofs.lemmas.Bool.{cases_lt}
use Rattle.std.proofs.lemmas.List.{get_or-set_same, get_or-set_other, get_or-map, get_or-take, length-map, length-take-le}
use Rattle.std.proofs.Math.Seq.{map-set_same}
use Rattle.scan_find.specs.Lengths.{IsRow}
use Rattle.scan_find.specs.declared.lengths.Row.{Row}
use Rattle.scan_find.proofs.lengths.fill_rows.Goals as goal

-- one more row
module _ (patterns : List (List ℕ → Option ℕ)) (bytes : List ℕ) (first count : ℕ) where
  filled : ℕ → List Row → Type 0
  filled n rows = (k : ℕ) (pattern : List ℕ → Option ℕ) (row : Row) → k < n → IsRow (get_or patterns k pattern) bytes first count (get_or rows k row)

  one_more : (n : ℕ) (rows : List Row) (new : Row) → n < length rows → filled n rows →
      ((pattern : List ℕ → Option ℕ) → IsRow (get_or patterns n pattern) bytes first count new) → filled (n + 1) (set rows n new)
  unfolding filled
  one_more n rows new within before is k pattern row below =
      elim (cases_lt k n) [
        | inl low ↦
            let other : k ≢ n = λ e. absurd (omega (arith, e)) in
            subst (IsRow (get_or patterns k pattern) bytes first count) (sym (get_or-set_other rows n k new row other)) (before k pattern row low)
        | inr high ↦
            let at : n ≡ k = omega arith in
            subst (λ j. IsRow (get_or patterns j pattern) bytes first count (get_or (set rows n new) j row)) at
            (subst (IsRow (get_or patterns n pattern) bytes first count) (sym (get_or-set_same rows n new row within)) (is pattern))
      ]

pub loop-k-preserved : goal.loop-k-preserved
unfolding filled
loop-k-preserved g c =
    let matchers = c.loop-k.matchers in
    let k = c.loop-k.k in
    let one = c.index-matchers-k.result in
    let patterns : List (List ℕ → Option ℕ) = map g.M.Matcher.matches (map g.M.Matcher.reading c.args.matchers.now) in
    let first = c.args.places.from in
    let within : k < length matchers = omega (arith, c.loop-k.auto.matchers, c.loop-k-test.true) in
    let in_rows : k < length c.loop-k.rows = omega (arith, c.loop-k.auto.rows, c.loop-k-test.true, c.requires.patterns) in
    let reading : (d : g.M.Matcher.Reading) → g.M.Matcher.reading (get_or matchers k one) ≡ get_or (map g.M.Matcher.reading c.args.matchers.now) k d =
    λ d. sym (get_or-map g.M.Matcher.reading matchers k one d within) ∙ ap (λ readings. get_or readings k d) c.loop-k.invariant.same in
    let d = g.M.Matcher.reading one in
    let pattern_is : (pattern : List ℕ → Option ℕ) → g.M.Matcher.matches (g.M.Matcher.reading (get_or matchers k one)) ≡ get_or patterns k pattern =
    λ pattern. ap g.M.Matcher.matches (reading d)
    ∙ sym (get_or-map g.M.Matcher.matches (map g.M.Matcher.reading c.args.matchers.now) k d pattern (omega (arith, length-map c.args.matchers.now g.M.Matcher.reading, c.loop-k-test.true))) in
    record {
      same = map-set_same g.M.Matcher.reading matchers k c.fill.new.matcher one c.in_ok-fill.ensures.same ∙ c.loop-k.invariant.same;
      rows = one_more patterns c.args.bytes.now first (c.args.places.to - first) k c.loop-k.rows c.fill.new.self in_rows c.loop-k.invariant.rows
          (λ pattern. subst (λ some. IsRow some c.args.bytes.now first (c.args.places.to - first) c.fill.new.self) (pattern_is pattern) c.in_ok-fill.ensures.ok);
    }

pub returns-in_err-fill-clause-same : goal.returns-in_err-fill-clause-same
returns-in_err-fill-clause-same g c =
    map-set_same g.M.Matcher.reading c.loop-k.matchers c.loop-k.k c.fill.new.matcher c.index-matchers-k.result c.in_err-fill.ensures.same ∙ c.loop-k.invariant.same

pub returns-clause-ok : goal.returns-clause-ok
returns-clause-ok g c =
    let matchers = c.args.matchers.now in
    let patterns : List (List ℕ → Option ℕ) = map g.M.Matcher.matches (map g.M.Matcher.reading matchers) in
    let long : length patterns ≡ length matchers = length-map (map g.M.Matcher.reading matchers) g.M.Matcher.matches ∙ length-map matchers g.M.Matcher.reading in
    record {
      many = length-take-le (length matchers) c.loop-k.rows (omega (arith, c.loop-k.auto.rows, c.requires.patterns)) ∙ sym long;
      each = λ k pattern row below.
          let low : k < length matchers = omega (arith, long) in
          subst (IsRow (get_or patterns k pattern) c.args.bytes.now c.args.places.from (c.args.places.to - c.args.places.from))
          (sym (get_or-take (length matchers) c.loop-k.rows k row low))
          (c.loop-k.invariant.rows k pattern row (omega (arith, c.loop-k-test.false)));
    }
