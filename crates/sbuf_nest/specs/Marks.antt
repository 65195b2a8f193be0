-- What a search of a buffer appends to its list.
use Rattle.std.specs.Prelude.{◌≡◌, ℕ, ◌-◌, ◌<◌, ◌≤◌, List, [], ◌∷◌, ◌++◌, take, flat_map, Option, Some, None}
use Rattle.std.specs.List.{range_with_len}
use Rattle.forensic_path.specs.declared.feature.Kind.{Kind}
use Rattle.forensic_path.specs.declared.path.Decoder.{Decoder}
use Rattle.sbuf_nest.specs.Around.{Around, look_at}
use Rattle.sbuf_nest.specs.declared.mark.Extent.{Extent}
use Rattle.sbuf_nest.specs.declared.mark.Mark.{Mark}
use Rattle.sbuf_nest.specs.declared.mark.Start.{Start}
use Rattle.sbuf_nest.specs.declared.sbuf.Sbuf.{Sbuf}

-- the mark of what has this extent at the place, if anything has: which one it is of those of its kind
abbrev pub marked : Kind → ℕ → ℕ → Option ℕ → List Mark
marked what which place None = []
marked what which place (Some extent) = record { at = place; kind = what; which = which; extent = extent } ∷ []

-- the start of a text of this extent at the place, if one begins there
abbrev pub started : Decoder → ℕ → Option Extent → List Start
started decoder place None = []
started decoder place (Some extent) = record { at = place; by = decoder; extent = extent } ∷ []

-- the marks of so many places from the first on, in order of place; each place is judged by its Look alone
unfoldable pub marks_of : {A : Type 0} → (Around → ℕ → List A) → List ℕ → ℕ → ℕ → List A
marks_of judge bytes first count = flat_map (λ place. judge (look_at bytes place) place) (range_with_len first count)

-- no place from the first up to the end has a mark
abbrev pub NoneFrom : {A : Type 0} → (Around → ℕ → List A) → List ℕ → ℕ → ℕ → Type 0
NoneFrom judge bytes first end = (place : ℕ) → first ≤ place → place < end → judge (look_at bytes place) place ≡ []

-- the marks of the places that the buffer owns
abbrev pub owned_marks : {A : Type 0} → (Around → ℕ → List A) → Sbuf → List A
owned_marks judge sb = marks_of judge sb.bytes.now sb.own_from (sb.own_to - sb.own_from)

-- the new list is the old one, and behind it the first few of the marks
abbrev pub AppendsFirst : {A : Type 0} → List A → List A → List A → Type 0
AppendsFirst old new marks = (few : ℕ) × (new ≡ old ++ take few marks)
