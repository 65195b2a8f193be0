use Rattle.std.proofs.Common.{◌∙◌, sym}
use Rattle.scan_net.proofs.Texts.{same_ether, ether_by_fields, no_ether}
use Rattle.scan_net.proofs.ether.header_at.Goals as goal

pub returns-then-not-begins_ether-clause-shown : goal.returns-then-not-begins_ether-clause-shown
returns-then-not-begins_ether-clause-shown c =
    no_ether _ (sym c.begins_ether.ensures.begins ∙ c.if-not-begins_ether.true)

pub returns-clause-shown : goal.returns-clause-shown
returns-clause-shown c =
    ether_by_fields _ _ (λ i. (c.type_inv.bytes i).fits) (c.begins_ether.ensures.within c.if-not-begins_ether.false)
    (sym c.begins_ether.ensures.begins ∙ c.if-not-begins_ether.false)
    (same_ether c.in_ok-be48_at.ensures.value.1 c.in_ok-be48_at-2.ensures.value.1)
