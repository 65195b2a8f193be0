-- The marks of the places of a piece, by the rows of lengths.
use Rattle.std.proofs.Common.{[], ◌≡◌, ◌∙◌, ℕ, suc, zero, ◌+◌, ◌-◌, ◌<◌, ◌≤◌, List, ◌++◌, take, drop, get_or, Option, None, Some, sym, ap, subst, refl, arith, Bool, true, false, ◌==◌, eqb-true}
use Rattle.std.specs.Prelude.{option_and_then, if◌then◌else◌}
use Rattle.std.proofs.lemmas.List.{append-nil, take-take}
use Rattle.pattern_kit.specs.Matching.{length_at, length_or_none}
use Rattle.pattern_kit.specs.declared.TheConstants.{PATTERN_REACH}
use Rattle.sbuf_nest.specs.Around.{Around, look_at}
use Rattle.sbuf_nest.specs.Marks.{marks_of, owned_marks}
use Rattle.sbuf_nest.proofs.MarkLists.{marks_of-none}
use Rattle.sbuf_nest.specs.declared.look.TheConstants.{LOOK_AFTER}
use Rattle.sbuf_nest.specs.declared.mark.Mark.{Mark}
use Rattle.sbuf_nest.specs.declared.sbuf.Sbuf.{Sbuf}
use Rattle.scan_find.specs.Find.{keyword_of, pattern_of, of_some_length}
use Rattle.scan_find.specs.Hits.{AreHits}
use Rattle.scan_find.specs.Lengths.{length_of, AreRows}
use Rattle.scan_find.specs.Marks.{numbered_marks, given_marks}
use Rattle.scan_find.specs.declared.TheConstants.{KEYWORDS_MOST}
use Rattle.scan_find.specs.declared.lengths.Row.{Row}
use Rattle.scan_find.proofs.Numbered.{numbered-none, numbered_same}
use Rattle.scan_find.proofs.Standing.{none_marked}

-- the same marks at each place
pub marks_of-same : (judge other : Around → ℕ → List Mark) (bytes : List ℕ) (first count : ℕ) →
    ((place : ℕ) → first ≤ place → place < first + count → judge (look_at bytes place) place ≡ other (look_at bytes place) place) →
    marks_of judge bytes first count ≡ marks_of other bytes first count
unfolding marks_of
marks_of-same judge other bytes first zero same = refl
marks_of-same judge other bytes first (suc count) same =
    rw (same first (omega arith) (omega arith))
    (ap (λ rest. other (look_at bytes first) first ++ rest)
    (marks_of-same judge other bytes (first + 1) count (λ place low high. same place (omega arith) (omega arith))))

-- a match of no bytes is none
some_or_none : (found : Option ℕ) → option_and_then of_some_length found ≡ of_some_length (length_or_none found)
some_or_none None = refl
some_or_none (Some count) = refl

-- a pattern sees no more than a place does
seen_by_pattern : (reach most place : ℕ) (bytes : List ℕ) → reach ≤ most → take reach (take most (drop place bytes)) ≡ take reach (drop place bytes)
seen_by_pattern reach most place bytes le = take-take reach most (drop place bytes) le

-- what a pattern matches at a place, by its length there
pub by_length : (pattern : List ℕ → Option ℕ) (bytes : List ℕ) (place : ℕ) →
    pattern_of pattern (look_at bytes place) ≡ of_some_length (length_at pattern bytes place)
unfolding pattern_of look_at length_at
by_length pattern bytes place =
    ap (λ some. option_and_then of_some_length (pattern some)) (seen_by_pattern PATTERN_REACH LOOK_AFTER place bytes (omega arith))
    ∙ some_or_none (pattern (take PATTERN_REACH (drop place bytes)))

module _ (patterns : List (List ℕ → Option ℕ)) (bytes : List ℕ) (first count : ℕ) (rows : List Row) (are : AreRows patterns bytes first count rows) where
  -- the patterns' marks at a place of the piece are those of the rows
  pub by_rows : (which place : ℕ) → first ≤ place → place < first + count →
      numbered_marks (λ (row : Row). of_some_length (length_of row (place - first))) which rows place
      ≡ numbered_marks (λ pattern. pattern_of pattern (look_at bytes place)) which patterns place
  by_rows which place low high =
      sym (numbered_same (λ pattern. pattern_of pattern (look_at bytes place)) (λ (row : Row). of_some_length (length_of row (place - first))) place which patterns rows
      (sym are.many) (λ k pattern row within.
      let is = are.each k pattern row within in
      let at : first + (place - first) ≡ place = omega arith in
      by_length (get_or patterns k pattern) bytes place
      ∙ ap of_some_length (ap (length_at (get_or patterns k pattern) bytes) (sym at) ∙ sym (is.lengths (place - first) (omega (arith, is.long))))))

  -- the marks of the piece, of which only places that are hit have any
  module _ (keywords : List (List ℕ)) (hits : List ℕ) (hit : AreHits keywords bytes first count rows hits) where
    all_of : Around → ℕ → List Mark
    all_of look place =
        numbered_marks (λ keyword. keyword_of keyword look) 0 keywords place
        ++ numbered_marks (λ row. of_some_length (length_of row (place - first))) KEYWORDS_MOST rows place

    -- a place that isn't hit has none
    missed : (place : ℕ) → first ≤ place → place < first + count → get_or hits (place - first) 0 ≡ 0 → all_of (look_at bytes place) place ≡ []
    unfolding all_of
    missed place low high is =
        let at : first + (place - first) ≡ place = omega arith in
        let words = none_marked (λ keyword. keyword_of keyword (look_at bytes place)) place 0 keywords (λ k d below.
        subst (λ p. keyword_of (get_or keywords k d) (look_at bytes p) ≡ None) at (hit.words (place - first) k d (omega arith) below is)) in
        let lengths = none_marked (λ (row : Row). of_some_length (length_of row (place - first))) place KEYWORDS_MOST rows (λ k d below.
        ap of_some_length (hit.rows k d below (place - first) (omega (arith, hit.long)) is)) in
        rw (words, lengths) refl

    judged : (missed : Bool) (marks : List Mark) → (missed ≡ true → marks ≡ []) → (if missed then [] else marks) ≡ marks
    judged true marks none = sym (none refl)
    judged false marks none = refl

    pub by_piece : marks_of (λ look place. if get_or hits (place - first) 0 == 0 then [] else
        numbered_marks (λ keyword. keyword_of keyword look) 0 keywords place
        ++ numbered_marks (λ (row : Row). of_some_length (length_of row (place - first))) KEYWORDS_MOST rows place) bytes first count
        ≡ marks_of (given_marks keywords patterns) bytes first count
    unfolding all_of
    by_piece =
        marks_of-same _ (given_marks keywords patterns) bytes first count (λ place low high.
        judged (get_or hits (place - first) 0 == 0) (all_of (look_at bytes place) place) (λ is. missed place low high (eqb-true _ _ is))
        ∙ ap (λ more. numbered_marks (λ keyword. keyword_of keyword (look_at bytes place)) 0 keywords place ++ more) (by_rows KEYWORDS_MOST place low high))

-- the marks of keywords alone
pub keywords_alone : (keywords : List (List ℕ)) (patterns : List (List ℕ → Option ℕ)) (bytes : List ℕ) (first count : ℕ) → patterns ≡ [] →
    marks_of (λ look place. numbered_marks (λ keyword. keyword_of keyword look) 0 keywords place) bytes first count
    ≡ marks_of (given_marks keywords patterns) bytes first count
keywords_alone keywords patterns bytes first count none =
    marks_of-same _ (given_marks keywords patterns) bytes first count (λ place low high.
    let front = numbered_marks (λ keyword. keyword_of keyword (look_at bytes place)) 0 keywords place in
    sym (append-nil front) ∙ ap (λ more. front ++ more)
    (sym (ap (λ some. numbered_marks (λ pattern. pattern_of pattern (look_at bytes place)) KEYWORDS_MOST some place) none
    ∙ numbered-none (λ (pattern : List ℕ → Option ℕ). pattern_of pattern (look_at bytes place)) place KEYWORDS_MOST)))

-- without keywords there are none
pub no_keywords : (keywords : List (List ℕ)) (bytes : List ℕ) (first count : ℕ) → keywords ≡ [] →
    marks_of (λ look place. numbered_marks (λ keyword. keyword_of keyword look) 0 keywords place) bytes first count ≡ []
no_keywords keywords bytes first count none =
    marks_of-none _ bytes first count (λ place low high.
    ap (λ some. numbered_marks (λ keyword. keyword_of keyword (look_at bytes place)) 0 some place) none
    ∙ numbered-none (λ (keyword : List ℕ). keyword_of keyword (look_at bytes place)) place 0)

-- the marks of the places that a piece of a buffer owns
pub owned-piece : (judge : Around → ℕ → List Mark) (piece : Sbuf) (bytes : List ℕ) (from to : ℕ) →
    piece.bytes.now ≡ bytes → piece.own_from ≡ from → piece.own_to ≡ to →
    owned_marks judge piece ≡ marks_of judge bytes from (to - from)
owned-piece judge piece bytes from to bytes_are from_is to_is =
    ap (λ some. marks_of judge some piece.own_from (piece.own_to - piece.own_from)) bytes_are
    ∙ ap (λ first. marks_of judge bytes first (piece.own_to - first)) from_is
    ∙ ap (λ end. marks_of judge bytes from (end - from)) to_is
