-- Where a scheme may end.
use Rattle.std.specs.Prelude.{◌≡◌, ℕ, ◌+◌, ◌<◌, ◌≤◌, ◌==◌, ◌&&◌, Bool, true, List, slice_index}
use Rattle.scan_url.specs.declared.find.TheConstants.{END_BYTES}

-- a colon stands at the place, and a slash behind it; behind the end a byte is read as 0
unfoldable pub may_end_scheme : List ℕ → ℕ → Bool
may_end_scheme bytes at = (slice_index bytes at == 58) && (slice_index bytes (at + 1) == 47)

-- a second slash stands behind them
unfoldable pub ends_scheme : List ℕ → ℕ → Bool
ends_scheme bytes at = may_end_scheme bytes at && (slice_index bytes (at + 2) == 47)

-- the end of a scheme, `://`, stands at the place
abbrev pub EndsScheme : List ℕ → ℕ → Type 0
EndsScheme bytes at = ends_scheme bytes at ≡ true

-- none of those that end at a place, or behind it, begins ahead of the other place
abbrev pub NoSchemeEnd : List ℕ → ℕ → ℕ → Type 0
NoSchemeEnd bytes place other = (at : ℕ) → place ≤ at + END_BYTES → at < other → EndsScheme bytes at → ⊥
