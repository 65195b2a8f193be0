use Rattle.std.proofs.Common.{◌∙◌, sym, arith}
use Rattle.scan_net.proofs.Texts.{same_ip, ip_by_fields, no_ip}
use Rattle.scan_net.proofs.ipv4.header_at.Goals as goal

pub returns-then-not-begins_ipv4-clause-shown : goal.returns-then-not-begins_ipv4-clause-shown
returns-then-not-begins_ipv4-clause-shown c =
    no_ip _ (sym c.begins_ipv4.ensures.begins ∙ c.if-not-begins_ipv4.true)

pub returns-clause-shown : goal.returns-clause-shown
returns-clause-shown c =
    ip_by_fields _ _ (λ i. (c.type_inv.bytes i).fits) (omega (arith, c.begins_ipv4.ensures.least c.if-not-begins_ipv4.false, c.begins_ipv4.ensures.within c.if-not-begins_ipv4.false))
    (sym c.begins_ipv4.ensures.begins ∙ c.if-not-begins_ipv4.false)
    (same_ip c.header_size.ensures.size c.in_ok-be16_at.ensures.1 c.in_ok-be32_at.ensures.1 c.in_ok-be32_at-2.ensures.1)
