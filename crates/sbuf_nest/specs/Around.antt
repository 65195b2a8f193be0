-- What a place of a buffer is judged by.
use Rattle.std.specs.Prelude.{ℕ, ◌-◌, List, take, drop}
use Rattle.sbuf_nest.specs.declared.look.Look.{Look}
use Rattle.sbuf_nest.specs.declared.look.TheConstants.{LOOK_BEFORE, LOOK_AFTER}

-- the bytes ahead of a place, and those from it on
pub record Around : Type 0 where
  pub before : List ℕ
  pub after : List ℕ

-- the last at most 128 bytes ahead of the place, and the at most 131,072 bytes from it on
unfoldable pub look_at : List ℕ → ℕ → Around
look_at bytes place = record {
  before = drop (place - LOOK_BEFORE) (take place bytes);
  after = take LOOK_AFTER (drop place bytes);
}

-- a `Look` of the program as data
abbrev pub seen : Look → Around
seen look = record { before = look.before.now; after = look.after.now }
