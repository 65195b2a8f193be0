use Rattle.std.proofs.Common.{◌≡◌, ◌∙◌, codes, Some, ap, map}
use Rattle.host_source.specs.Source.{told}
use Rattle.host_source.specs.SureSource.{sure_nature}
use Rattle.image_gen.specs.Image.{image_of}
use Rattle.triage_run.specs.Case.{joined}
use Rattle.triage_run.proofs.ImageSizes.{joined_one}
use Rattle.triage_run.proofs.WholeReport.{counts_made}
use Rattle.triage_run.proofs.generate.scan_made.Goals as goal

pub returns-in-Ok : goal.returns-in-Ok
returns-in-Ok g c =
    let held = told (sure_nature c.of-source.result) in
    let image : joined held c.in_ok-scan.scan.parts ≡ Some (image_of c.args.made.seed c.args.made.size) =
    ap (joined held) c.in_ok-scan.ensures.parts ∙ joined_one held (codes "generated") ∙ c.of-source.ensures.nature.holds
    ∙ ap Some (c.as_slice.ensures.value ∙ c.in_ok-image.ensures.image) in
    let counts = rw c.in-Ok.is at c.scan_image-found.ensures.found in
    counts_made g.M.Matcher.matches (map g.M.Matcher.reading c.args.matchers.items) c.args.made c.in_ok-no_lists.no_lists (joined held c.in_ok-scan.scan.parts)
    c.in-Ok.found c.in_ok-no_lists.ensures.stop c.in_ok-no_lists.ensures.alert image (rw c.in_ok-scan.ensures.search at counts)
