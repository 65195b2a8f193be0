use Rattle.std.proofs.Common.{◌≡◌, ℕ, Bool, true, false, cond, Some, None, List, ltb, length, get_or, position, sym, ap, ◌∙◌, arith}
use Rattle.std.specs.List.{position_or_len}
use Rattle.std.proofs.lemmas.Bool.{lt-ltb, le-ltb}
use Rattle.std.proofs.lemmas.List.Sums.{position_or_len_is}
use Rattle.vector_search.specs.Places.{IsNext}
use Rattle.feature_escape.proofs.Runs.{is_escaped}
use Rattle.feature_escape.proofs.search.first_escaped.Goals as goal

-- the next place of all bytes is the position, where it is one of theirs
position_is : (bytes : List ℕ) (next : ℕ) (within : Bool) → IsNext (λ place. is_escaped (get_or bytes place 0)) 0 (length bytes) next
    → ltb next (length bytes) ≡ within → cond within (Some next) None ≡ position is_escaped bytes
position_is bytes next within is same =
    let at : position_or_len is_escaped bytes ≡ next =
    position_or_len_is is_escaped bytes next 0 is.high (λ k below. is.before k (omega arith) below) is.passes in
    sym (ap (λ place. cond (ltb place (length bytes)) (Some place) None) at ∙ ap (λ b. cond b (Some next) None) same)

pub returns-then-next-bytes : goal.returns-then-next-bytes
returns-then-next-bytes c =
    position_is c.args.bytes.now c.next_escaped-next.result true c.next_escaped-next.ensures (lt-ltb _ _ c.if-next-bytes.true)

pub returns-else-next-bytes : goal.returns-else-next-bytes
returns-else-next-bytes c =
    position_is c.args.bytes.now c.next_escaped-next.result false c.next_escaped-next.ensures (le-ltb _ _ c.if-next-bytes.false)
