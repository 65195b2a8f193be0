-- What changes in the list of the files' bytes do to the files. The list may first grow by files that have none.
use Rattle.std.proofs.Common.{◌≡◌, ◌<◌, ℕ, zero, suc, List, [], ◌∷◌, ◌++◌, length, get_or, set, if◌then◌else◌, ◌==◌, refl, arith, ap, ◌∙◌}
use Rattle.std.proofs.lemmas.Bool.Decides.{nat_tests}
use Rattle.std.proofs.lemmas.Grind.{common_steps}
use Rattle.std.proofs.lemmas.List.{get_or_default}
use Rattle.std.proofs.Math.Path.{fun_ext}
use Rattle.byte_kit.specs.Places.{put}
use Rattle.host_disk.specs.Contents.{contents}

push_empty_at : (held : List (List ℕ)) (file : ℕ) → get_or (held ++ [] ∷ []) file [] ≡ get_or held file []
push_empty_at [] zero = refl
push_empty_at [] (suc file) = refl
push_empty_at (bytes ∷ held) zero = refl
push_empty_at (bytes ∷ held) (suc file) = push_empty_at held file

-- one more empty file changes no file's bytes
pub contents-push_empty : (held : List (List ℕ)) → contents (held ++ [] ∷ []) ≡ contents held
contents-push_empty held = fun_ext (push_empty_at held)

set_at :
    (held : List (List ℕ)) (file : ℕ) (bytes : List ℕ) → file < length held → (k : ℕ)
    → get_or (set held file bytes) k [] ≡ (if k == file then bytes else get_or held k [])
set_at held file bytes lt k = grind (arith, nat_tests, common_steps)

-- new bytes at a file's place in the list are its new bytes
pub contents-set :
    (held grown : List (List ℕ)) (file : ℕ) (bytes : List ℕ)
    → contents grown ≡ contents held → file < length grown → contents (set grown file bytes) ≡ put (contents held) file bytes
contents-set held grown file bytes same there =
    fun_ext (set_at grown file bytes there) ∙ ap (λ files. put files file bytes) same

-- what stands at a file's place in the list are its bytes
pub is_content :
    (held grown : List (List ℕ)) (file : ℕ) (bytes : List ℕ)
    → contents grown ≡ contents held → file < length grown → bytes ≡ get_or grown file bytes → bytes ≡ contents held file
is_content held grown file bytes same there at =
    at ∙ get_or_default grown file bytes [] there ∙ ap (λ files. files file) same
