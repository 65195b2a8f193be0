-- Two numbers with one decimal are one number.
use Rattle.std.proofs.Common.{◌≡◌, ◌∙◌, sym, arith}
use Rattle.std.proofs.lemmas.Fmt.{decimal_injective}
use Rattle.forensic_path.proofs.read.mask_read.Goals as goal

pub returns-in_default-clause-none : goal.returns-in_default-clause-none
returns-in_default-clause-none c = λ mask above below is.
    let same : mask ≡ c.in_ok-mask.mask =
    decimal_injective mask c.in_ok-mask.mask (omega arith) (omega arith) (is ∙ sym c.in_ok-mask.ensures.value) in
    absurd (omega arith)

pub returns-in_default-2-clause-none : goal.returns-in_default-2-clause-none
returns-in_default-2-clause-none c = λ mask above below is.
    let same : mask ≡ c.in_ok-mask.mask =
    decimal_injective mask c.in_ok-mask.mask (omega arith) (omega arith) (is ∙ sym c.in_ok-mask.ensures.value) in
    absurd (omega arith)
