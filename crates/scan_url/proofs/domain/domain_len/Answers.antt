use Rattle.std.proofs.Common.{◌∙◌, sym, ap, ℕ, take}
use Rattle.byte_kit.specs.Classes.{host_class, is_one_of}
use Rattle.sbuf_nest.specs.Around.{seen}
use Rattle.scan_url.specs.declared.url.TheConstants.{URL_MOST, HOST_MOST}
use Rattle.scan_url.specs.Domain.{authority_class, without_dots}
use Rattle.scan_url.proofs.Hosts.{near_run, no_domain, with_userinfo, is_the_domain}
use Rattle.scan_url.proofs.domain.domain_len.Goals as goal

pub returns-then-not-is_domain-clause-shape : goal.returns-then-not-is_domain-clause-shape
returns-then-not-is_domain-clause-shape c =
    let after = c.args.look.now.after.now in
    let near = c.split_at.ensures.front ∙ ap (λ (k : ℕ). take k after) c.min.ensures in
    let host = c.host_of-host.ensures.host ∙ ap without_dots (near_run host_class HOST_MOST after c.split_at.result.0.now near) in
    no_domain (seen c.args.look.now) c.host_of-host.result.now host (sym c.is_domain.ensures ∙ c.if-not-is_domain.true)

pub returns-then-has_userinfo-clause-shape : goal.returns-then-has_userinfo-clause-shape
returns-then-has_userinfo-clause-shape c =
    let after = c.args.look.now.after.now in
    let near = c.split_at.ensures.front ∙ ap (λ (k : ℕ). take k after) c.min.ensures in
    let host = c.host_of-host.ensures.host ∙ ap without_dots (near_run host_class HOST_MOST after c.split_at.result.0.now near) in
    let wide = c.split_at-2.ensures.front ∙ ap (λ (k : ℕ). take k after) c.min-2.ensures in
    let userinfo = c.has_userinfo.ensures ∙ ap (λ run. is_one_of run 64) (near_run authority_class URL_MOST after c.split_at-2.result.0.now wide) in
    with_userinfo (seen c.args.look.now) c.host_of-host.result.now host c.has_userinfo.result userinfo c.if-has_userinfo.true

pub returns-clause-shape : goal.returns-clause-shape
returns-clause-shape c =
    let after = c.args.look.now.after.now in
    let near = c.split_at.ensures.front ∙ ap (λ (k : ℕ). take k after) c.min.ensures in
    let host = c.host_of-host.ensures.host ∙ ap without_dots (near_run host_class HOST_MOST after c.split_at.result.0.now near) in
    let wide = c.split_at-2.ensures.front ∙ ap (λ (k : ℕ). take k after) c.min-2.ensures in
    let userinfo = c.has_userinfo.ensures ∙ ap (λ run. is_one_of run 64) (near_run authority_class URL_MOST after c.split_at-2.result.0.now wide) in
    is_the_domain (seen c.args.look.now) c.host_of-host.result.now host c.has_userinfo.result userinfo
    (sym c.follows_scheme.ensures ∙ c.if-not-follows_scheme.false) c.if-has_userinfo.false (sym c.is_domain.ensures ∙ c.if-not-is_domain.false)
