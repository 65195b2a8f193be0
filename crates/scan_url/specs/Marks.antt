-- What a search for URLs and domains appends.
use Rattle.std.specs.Prelude.{ℕ, Bool, List, [], ◌++◌, if◌then◌else◌}
use Rattle.forensic_path.specs.declared.feature.Kind.TheVariants.{Url, Domain}
use Rattle.sbuf_nest.specs.Around.{Around}
use Rattle.sbuf_nest.specs.Marks.{marked}
use Rattle.sbuf_nest.specs.declared.mark.Mark.{Mark}
use Rattle.scan_url.specs.Url.{url_of}
use Rattle.scan_url.specs.Domain.{domain_of}

-- the marks of a place: its URL, then its domain, each where it is wanted
abbrev pub url_marks : Bool → Bool → Around → ℕ → List Mark
url_marks want_url want_domain look place =
    (if want_url then marked Url 0 place (url_of look) else [])
    ++ (if want_domain then marked Domain 0 place (domain_of look) else [])
