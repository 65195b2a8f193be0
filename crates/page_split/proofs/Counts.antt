-- How many pages an image has.
use Rattle.std.proofs.Common.{◌≡◌, ℕ, ◌+◌, ◌*◌, ◌<◌, ◌≤◌, arith, ⊎_elim}
use Rattle.std.specs.Int.{div_ceil}
use Rattle.std.proofs.lemmas.Bool.{cases_lt}
use Rattle.std.proofs.lemmas.Grind.{div_ceil_times}
use Rattle.std.proofs.lemmas.Nat.{mul-le}
use Rattle.page_split.specs.Pages.{IsPage}

pub next_page : (number page : ℕ) → (number + 1) * page ≡ number * page + page
next_page number page = grind arith

-- so many pages begin within the image as just reach its end
module _ (size page count : ℕ) (reach : size ≤ count * page) (just : count * page < size + page) where
  inside : (number : ℕ) → number < count → IsPage size page number
  inside number lt =
      let fewer : (number + 1) * page ≤ count * page = mul-le (number + 1) page count page (omega (arith, lt)) (omega arith) in
      omega (arith, fewer, just, next_page number page)

  below : (number : ℕ) → IsPage size page number → number < count
  below number begins = ⊎_elim (λ lt. lt) (λ past. absurd (not_past past)) (cases_lt number count)
    where
      not_past : count ≤ number → ⊥
      not_past past = let fewer : count * page ≤ number * page = mul-le count page number page past (omega arith) in omega (arith, fewer, reach, begins)

-- these are as many as the size by the page is, rounded up
pub begin_within : (size page number : ℕ) → 0 < page →
    (number < div_ceil size page → IsPage size page number) × (IsPage size page number → number < div_ceil size page)
begin_within size page number some =
    let bounds = div_ceil_times size page some in
    (inside size page (div_ceil size page) bounds.0 bounds.1 number, below size page (div_ceil size page) bounds.0 bounds.1 number)
