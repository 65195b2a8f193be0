-- Files after one of them has other bytes.
use Rattle.std.proofs.Common.{◌≡◌, ◌≢◌, ℕ, List, [], take, arith, ap, refl, ◌∙◌, if◌then◌else◌, ◌==◌}
use Rattle.std.proofs.lemmas.Bool.Decides.{nat_tests}
use Rattle.byte_kit.specs.Places.{put}
use Rattle.host_disk.specs.Files.{Files}

put_elsewhere : (files : Files) (n k : ℕ) (content : List ℕ) → k ≢ n → (if k == n then content else files k) ≡ files k
put_elsewhere files n k content other = grind (arith, nat_tests)

-- another file is as it was
pub put_other : (files now : Files) (n k : ℕ) (content : List ℕ) → now ≡ put files n content → k ≢ n → now k ≡ files k
put_other files now n k content is other = ap (λ (f : Files). f k) is ∙ put_elsewhere files n k content other

put_empty_at : (files : Files) (n k : ℕ) (content : List ℕ) → content ≡ [] → (k ≢ n → files k ≡ []) → (if k == n then content else files k) ≡ []
put_empty_at files n k content none before = grind (arith, nat_tests)

-- a file that was cut to nothing is empty, and so is one that was empty
pub cut_empty : (files now : Files) (n k : ℕ) → now ≡ put files n (take 0 (files n)) → (k ≢ n → files k ≡ []) → now k ≡ []
cut_empty files now n k is before =
    ap (λ (f : Files). f k) is ∙ put_empty_at files n k (take 0 (files n)) refl before
