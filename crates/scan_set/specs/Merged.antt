-- Two lists of things at places, as one list in order of place.
use Rattle.std.specs.Prelude.{ℕ, List, [], ◌∷◌, ◌++◌, nat_lt, if◌then◌else◌}

-- how the places of things are told
module _ {A : Type 0} (place_of : A → ℕ) where
  -- those in front that stand ahead of the place
  abbrev pub ahead : ℕ → List A → List A
  ahead place [] = []
  ahead place (thing ∷ things) = if nat_lt (place_of thing) place then thing ∷ ahead place things else []

  -- those behind them
  abbrev pub behind : ℕ → List A → List A
  behind place [] = []
  behind place (thing ∷ things) = if nat_lt (place_of thing) place then behind place things else thing ∷ things

  -- Both lists by place. Where things of both stand at one place, those of the first list come first.
  abbrev pub merged : List A → List A → List A
  merged [] others = others
  merged (thing ∷ things) others =
      ahead (place_of thing) others ++ thing ∷ merged things (behind (place_of thing) others)
