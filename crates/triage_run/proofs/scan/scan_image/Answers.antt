use Rattle.std.proofs.Common.{◌≡◌, length, map, IfErr, IfSome, IfOk, OnOk, ℕ, List, Option, subst, sym}
use Rattle.byte_kit.specs.Counts.{Rose}
use Rattle.host_source.specs.Source.{told}
use Rattle.image_source.specs.Image.{joined, size_of}
use Rattle.triage_run.specs.Case.{joined as bytes_of}
use Rattle.triage_run.specs.Image.{ImageSeen, AreParts, WritesImage, CountsImage, items_under, IsImageEnd}
use Rattle.triage_run.proofs.ImageSizes.{joined_are, few_seen, end_seen}
use Rattle.triage_run.proofs.scan.scan_image.Given.{Over}
use Rattle.triage_run.proofs.scan.scan_image.Goals as goal

-- what the attached parts are to the image of the scan
module _ (g : Over) (c : goal.After-into_source-source g) where
  abbrev told_bytes : Option (List ℕ)
  told_bytes = bytes_of (told (g.S.Source.nature c.args.source)) c.args.scan.now.parts

  abbrev seen : ImageSeen
  seen = record { bytes = told_bytes; parts = c.args.scan.now.parts; slots = g.S.Source.slots c.into_source-source.result; page = c.args.scan.now.search.page }

  named : map (λ part. part.name) c.in-Ok.image.parts ≡ c.args.scan.now.parts
  named = rw c.items.ensures at c.in-Ok.ensures.named

  bytes_are : joined (g.S.Source.nature c.in-Ok.image.source) c.in-Ok.image.parts ≡ told_bytes
  bytes_are =
      joined_are (g.S.Source.nature c.args.source) (g.S.Source.nature c.in-Ok.image.source) c.in-Ok.image.parts c.args.scan.now.parts c.in-Ok.ensures.nature named

  are : AreParts seen.slots seen.parts c.in-Ok.image.parts
  are = record { attached = rw c.scan_pages-found.ensures.parts at c.into_source-source.ensures.attached; named = named }

  long : IfSome told_bytes (λ bytes. size_of c.in-Ok.image.parts ≡ length bytes)
  long = rw bytes_are at c.scan_pages-found.ensures.size

pub returns-in-Ok-clause-few_pages : goal.returns-in-Ok-clause-few_pages
returns-in-Ok-clause-few_pages g c =
    λ behind. few_seen (seen g c) c.in-Ok.image.parts (are g c) (long g c) (c.scan_pages-found.ensures.few_pages behind)

pub returns-in-Ok-clause-report : goal.returns-in-Ok-clause-report
returns-in-Ok-clause-report g c =
    subst (λ (told : Option (List ℕ)). OnOk c.scan_pages-found.result (WritesImage c.args.scan.now.search.plan.scanners
    (items_under c.args.lists.now (map g.M.Matcher.matches (map g.M.Matcher.reading c.args.matchers.items)) c.args.scan.now.search.plan)
    told (g.D.Disk.nature c.args.disk.now).tells (g.D.Disk.files c.scan_pages-found.new.disk))) (bytes_are g c) c.scan_pages-found.ensures.report

pub returns-in-Ok-clause-found : goal.returns-in-Ok-clause-found
returns-in-Ok-clause-found g c =
    subst (λ (told : Option (List ℕ)). IfOk c.scan_pages-found.result (CountsImage c.args.scan.now.search.page
    (items_under c.args.lists.now (map g.M.Matcher.matches (map g.M.Matcher.reading c.args.matchers.items)) c.args.scan.now.search.plan) told))
    (bytes_are g c) c.scan_pages-found.ensures.found

pub returns-in-Ok-clause-cause : goal.returns-in-Ok-clause-cause
returns-in-Ok-clause-cause g c =
    let disk = Rose (g.D.Disk.faults c.args.disk.now) (g.D.Disk.faults c.scan_pages-found.new.disk) in
    let end : IfErr c.scan_pages-found.result (IsImageEnd (seen g c) (Rose (g.S.Source.faults c.args.source) (g.S.Source.faults c.scan_pages-found.new.image.source)) disk) =
    end_seen (seen g c) c.in-Ok.image.parts (are g c) (long g c) _ disk c.scan_pages-found.result (rw c.in-Ok.ensures.faults at c.scan_pages-found.ensures.cause) in
    rw (sym c.into_source-source.ensures.source) at end
