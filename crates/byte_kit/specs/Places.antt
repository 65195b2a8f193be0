-- Functions of a number, such as the contents of the files of a disk, changed at one number.
use Rattle.std.specs.Prelude.{ℕ, ◌==◌, if◌then◌else◌}

-- the function that has this value at the number, and is as before elsewhere
abbrev pub put : {A : Type 0} → (ℕ → A) → ℕ → A → ℕ → A
put at n value k = if k == n then value else at k
