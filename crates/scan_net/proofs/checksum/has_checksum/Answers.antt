use Rattle.std.proofs.Common.{◌≡◌, ◌∙◌, ℕ, ◌%◌, ◌==◌, ◌≢◌, not, sym, ap, arith}
use Rattle.std.proofs.lemmas.Bool.Decides.{nat_tests}
use Rattle.scan_net.proofs.PlainSum.{has_checksum_by_sum, bytes_small, is_whole}
use Rattle.scan_net.proofs.checksum.has_checksum.Goals as goal

some_sum : (n : ℕ) → n ≢ 0 → (n % 65535 == 0) ≡ is_whole n
some_sum n positive = grind (arith, nat_tests)

no_sum : (n : ℕ) → n ≡ 0 → not (n == 0) ≡ is_whole n
no_sum n none = grind (arith, nat_tests)

pub returns-then-sum-ne0 : goal.returns-then-sum-ne0
returns-then-sum-ne0 c =
    some_sum c.word_sum-sum.result c.if-sum-ne0.true
    ∙ ap is_whole c.word_sum-sum.ensures
    ∙ sym (has_checksum_by_sum c.args.header.now (bytes_small c.args.header.now (λ i. (c.type_inv.header i).fits)))

pub returns-else-sum-ne0 : goal.returns-else-sum-ne0
returns-else-sum-ne0 c =
    no_sum c.word_sum-sum.result c.if-sum-ne0.false
    ∙ ap is_whole c.word_sum-sum.ensures
    ∙ sym (has_checksum_by_sum c.args.header.now (bytes_small c.args.header.now (λ i. (c.type_inv.header i).fits)))
