-- What histograms count: each goes by a rule, and a feature has an item by it.
use Rattle.std.specs.Prelude.{ℕ, List, [], ◌∷◌, ◌++◌, Option, find, take, drop, codes, unwrap_or, ◌==◌}
use Rattle.std.specs.List.{before_first}
use Rattle.std.specs.Str.{str_to_ascii_lowercase}
use Rattle.byte_kit.specs.Classes.{is_one_of}
use Rattle.forensic_path.specs.Kinds.{number_of}
use Rattle.forensic_path.specs.declared.feature.Kind.{Kind}
use Rattle.forensic_path.specs.declared.feature.Kind.TheVariants as kind
use Rattle.scan_url.specs.Url.{scheme_of}
use Rattle.count_histogram.specs.declared.rule.Rule.{Rule}
use Rattle.count_histogram.specs.declared.rule.Rule.TheVariants.{Url, Service, Domain, Ip, Ether, Find}

-- the number of a rule's file
abbrev pub file_of : Rule → ℕ
file_of Url = 21
file_of Service = 22
file_of Domain = 23
file_of Ip = 24
file_of Ether = 25
file_of Find = 26

-- the rule of a file, if it is a histogram
abbrev pub rule_of : ℕ → Option Rule
rule_of number = find (λ rule. file_of rule == number) (Url ∷ Service ∷ Domain ∷ Ip ∷ Ether ∷ Find ∷ [])

-- the kind whose features are counted
abbrev pub kind_of : Rule → Kind
kind_of Url = kind.Url
kind_of Service = kind.Url
kind_of Domain = kind.Domain
kind_of Ip = kind.Ip
kind_of Ether = kind.Ether
kind_of Find = kind.Find

-- the feature file whose features are counted: that of the kind, which has those that aren't stopped
abbrev pub source_of : Rule → ℕ
source_of rule = number_of (kind_of rule)

-- a URL's service: its scheme and what follows it up to the first `/`, `?` or `#`, in lower case
abbrev pub service_of : List ℕ → List ℕ
service_of url =
    let scheme = unwrap_or (scheme_of url) 0 in
    str_to_ascii_lowercase (take scheme url ++ before_first (is_one_of (codes "/?#")) (drop scheme url))

-- the item of a feature: the service of a URL, a domain in lower case, and else the feature as it is
abbrev pub item_of : Rule → List ℕ → List ℕ
item_of Service feature = service_of feature
item_of Domain feature = str_to_ascii_lowercase feature
item_of rule feature = feature
