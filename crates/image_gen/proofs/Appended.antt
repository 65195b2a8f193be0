-- A text that is appended part by part.
use Rattle.std.proofs.Common.{◌≡◌, ℕ, List, ◌++◌, append_assoc}

-- three parts that are appended are appended as one
pub three_appended : (old one two three a b c : List ℕ) → one ≡ old ++ a → two ≡ one ++ b → three ≡ two ++ c
    → three ≡ old ++ (a ++ (b ++ c))
three_appended old one two three a b c p q r = rw (r, q, p) (simp append_assoc)
