-- The parts of a path's text, which dashes keep apart.
use Rattle.std.specs.Prelude.{◌≡◌, ◌≢◌, ℕ, List, [], ◌∷◌, ◌++◌, All}
use Rattle.forensic_path.specs.declared.read.TheConstants.{DASH}

-- a part: no byte is a dash
abbrev pub IsPart : List ℕ → Type 0
IsPart bytes = All (λ byte. byte ≢ DASH) bytes

-- what may follow a part: nothing, or what begins with a dash
abbrev pub FollowsPart : List ℕ → Type 0
FollowsPart [] = Unit {0}
FollowsPart (byte ∷ bytes) = byte ≡ DASH

-- the bytes ahead of a text's first dash, and the rest
pub record IsCut (text front rest : List ℕ) : Type 0 where
  pub whole : text ≡ front ++ rest
  pub part : IsPart front
  pub follows : FollowsPart rest
