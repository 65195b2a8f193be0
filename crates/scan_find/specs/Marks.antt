-- What a search for keywords and patterns appends.
use Rattle.std.specs.Prelude.{ℕ, ◌+◌, ◌≤◌, List, [], ◌∷◌, ◌++◌, length, Option}
use Rattle.forensic_path.specs.declared.feature.Kind.TheVariants.{Find}
use Rattle.sbuf_nest.specs.Around.{Around}
use Rattle.sbuf_nest.specs.Marks.{marked}
use Rattle.sbuf_nest.specs.declared.mark.Mark.{Mark}
use Rattle.scan_find.specs.Find.{keyword_of, pattern_of}
use Rattle.scan_find.specs.declared.TheConstants.{KEYWORDS_MOST, TEXT_MOST}

-- what may be given as a keyword: 1 to 256 bytes
abbrev pub IsText : List ℕ → Type 0
IsText text = (1 ≤ length text) × (length text ≤ TEXT_MOST)

-- the marks of the things of a list that have an extent at the place, each by its number, the first by this one
unfoldable pub numbered_marks : {A : Type 0} → (A → Option ℕ) → ℕ → List A → ℕ → List Mark
numbered_marks extent which [] place = []
numbered_marks extent which (thing ∷ things) place =
    marked Find which place (extent thing) ++ numbered_marks extent (which + 1) things place

-- the marks of a place: those of its keywords, by their numbers in the order in which they were given,
-- then those of its patterns, whose numbers follow those that keywords may have
abbrev pub given_marks : List (List ℕ) → List (List ℕ → Option ℕ) → Around → ℕ → List Mark
given_marks keywords patterns look place =
    numbered_marks (λ keyword. keyword_of keyword look) 0 keywords place
    ++ numbered_marks (λ pattern. pattern_of pattern look) KEYWORDS_MOST patterns place
