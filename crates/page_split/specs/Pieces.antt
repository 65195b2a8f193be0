-- Pieces of a page, and the bytes of its window that they are judged by.
use Rattle.std.specs.Prelude.{ℕ, ◌+◌, ◌-◌, ◌≤◌, min}
use Rattle.sbuf_nest.specs.declared.look.TheConstants.{LOOK_BEFORE, LOOK_AFTER}
use Rattle.page_split.specs.declared.pages.Window.{Window}

-- The piece lies in the page, and the window has all that the Looks of its places see: 128 bytes ahead of the page,
-- or the front of the image, and 131,072 bytes from each place on, or the image's end.
pub record IsPiece (size : ℕ) (window : Window) (next to : ℕ) : Type 0 where
  pub first : window.own_from ≤ next
  pub ordered : next ≤ to
  pub last : to ≤ window.own_to
  pub ahead : window.from ≤ window.own_from - LOOK_BEFORE
  pub behind : min (window.own_to + LOOK_AFTER) size ≤ window.to
  pub inside : window.own_to ≤ window.to
  pub within : window.to ≤ size
