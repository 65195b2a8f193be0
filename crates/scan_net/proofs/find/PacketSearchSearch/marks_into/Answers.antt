use Rattle.std.proofs.Common.{◌∙◌, ◌++◌, ap}
use Rattle.std.proofs.lemmas.Result.{on_err_weaker}
use Rattle.forensic_path.specs.declared.feature.Kind.TheVariants.{Ip, Ether}
use Rattle.sbuf_nest.specs.Around.{seen}
use Rattle.sbuf_nest.specs.Marks.{marked}
use Rattle.sbuf_nest.proofs.SearchSteps.{on_err}
use Rattle.scan_net.proofs.MarkLists.{by_extents, two_appended, three_appended}
use Rattle.scan_net.proofs.find.PacketSearchSearch.marks_into.Goals as goal

pub returns-in_err-add_extent-3-clause-err : goal.returns-in_err-add_extent-3-clause-err
returns-in_err-add_extent-3-clause-err c =
    let place = c.args.place in
    let ip = c.ip_extent-ip.result in
    let ether = c.ether_extent-ether.result in
    on_err c.from_residual-in_err-add_extent-3.result
    (two_appended c.args.found.now c.add_extent-3.new.self (marked Ip 0 place ip) (marked Ip 1 place ip) (marked Ether 0 place ether) (marked Ether 1 place ether) _
    (c.in_err-add_extent-3.ensures.same ∙ c.in_ok-add_extent-2.ensures.added ∙ ap (λ found. found ++ marked Ip 1 place ip) c.in_ok-add_extent.ensures.added)
    (by_extents (seen c.args.look.now) place ip ether c.ip_extent-ip.ensures c.ether_extent-ether.ensures))

pub returns-clause-err : goal.returns-clause-err
returns-clause-err c =
    let place = c.args.place in
    let ip = c.ip_extent-ip.result in
    let ether = c.ether_extent-ether.result in
    on_err_weaker c.add_extent-4.result
    (λ same. three_appended c.args.found.now c.add_extent-4.new.self (marked Ip 0 place ip) (marked Ip 1 place ip) (marked Ether 0 place ether) (marked Ether 1 place ether) _
    (same ∙ c.in_ok-add_extent-3.ensures.added
    ∙ ap (λ found. found ++ marked Ether 0 place ether) (c.in_ok-add_extent-2.ensures.added ∙ ap (λ found. found ++ marked Ip 1 place ip) c.in_ok-add_extent.ensures.added))
    (by_extents (seen c.args.look.now) place ip ether c.ip_extent-ip.ensures c.ether_extent-ether.ensures))
    c.add_extent-4.ensures.same
