-- Pages of an image, and the bytes that each is judged by. All are places in the image.
use Rattle.std.specs.Prelude.{◌≡◌, ℕ, ◌+◌, ◌-◌, ◌*◌, ◌<◌, ◌≤◌, min, List, length, take, drop}
use Rattle.sbuf_nest.specs.Around.{look_at}
use Rattle.sbuf_nest.specs.declared.look.TheConstants.{LOOK_BEFORE, LOOK_AFTER}
use Rattle.page_split.specs.declared.pages.Window.{Window}

-- the page begins within the image
abbrev pub IsPage : ℕ → ℕ → ℕ → Type 0
IsPage size page number = number * page < size

-- the place behind the last one of a page
abbrev pub page_end : ℕ → ℕ → ℕ → ℕ
page_end size page number = min (number * page + page) size

-- the page's own places, up to 128 bytes ahead of them and up to a margin behind them, as far as the image goes
abbrev pub window_of : ℕ → ℕ → ℕ → ℕ → Window
window_of size page margin number = record {
  from = number * page - LOOK_BEFORE;
  own_from = number * page;
  own_to = page_end size page number;
  to = min (page_end size page number + margin) size;
}

-- the bytes of a window
abbrev pub bytes_in : List ℕ → Window → List ℕ
bytes_in image window = take (window.to - window.from) (drop window.from image)

-- the Look of each place of a page is the same in the page's window as in the image
abbrev pub WindowsSuffice : Type 0
WindowsSuffice =
    (image : List ℕ) (page margin number place : ℕ) → LOOK_AFTER ≤ margin → number * page ≤ place → place < page_end (length image) page number →
    let window = window_of (length image) page margin number in
    look_at (bytes_in image window) (place - window.from) ≡ look_at image place
