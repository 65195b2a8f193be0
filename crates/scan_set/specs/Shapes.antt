-- What stands at one place of a buffer, by the bytes around it alone.
use Rattle.std.specs.Prelude.{ℕ, Bool, List, [], ◌∷◌, ◌++◌, take, Option, Some, None, flat_map, if◌then◌else◌}
use Rattle.forensic_path.specs.declared.feature.Kind.{Kind}
use Rattle.forensic_path.specs.declared.feature.Kind.TheVariants.{Url, Domain, Ip, Ether, Exec, Unread, Find, Word}
use Rattle.forensic_path.specs.declared.scanner.Scanner.TheVariants as scanner
use Rattle.forensic_path.specs.Scanners.{is_on}
use Rattle.sbuf_nest.specs.Around.{Around}
use Rattle.scan_url.specs.Url.{url_of}
use Rattle.scan_url.specs.Domain.{domain_of}
use Rattle.scan_net.specs.Packet.{Addresses, ip_of, ether_of}
use Rattle.scan_exec.specs.Exec.{Header, exec_of, unread_of}
use Rattle.scan_find.specs.Find.{keyword_of, pattern_of}
use Rattle.scan_wordlist.specs.Word.{word_of}
use Rattle.scan_set.specs.declared.plan.ScanPlan.{ScanPlan}

-- a feature's kind and text, and how many bytes of the place it covers
pub record Shape : Type 0 where
  pub kind : Kind
  pub text : List ℕ
  pub extent : ℕ

-- the items, where the test says so
abbrev pub when : {A : Type 0} → Bool → List A → List A
when test items = if test then items else []

-- so many bytes of the place are themselves the feature
abbrev pub bytes_shape : Kind → Around → Option ℕ → List Shape
bytes_shape which look None = []
bytes_shape which look (Some n) = record { kind = which; text = take n look.after; extent = n } ∷ []

-- a packet's header gives two features
abbrev pub address_shapes : Kind → Option Addresses → List Shape
address_shapes which None = []
address_shapes which (Some found) =
    record { kind = which; text = found.first; extent = found.extent }
    ∷ record { kind = which; text = found.second; extent = found.extent } ∷ []

-- a header that is shown as text
abbrev pub header_shape : Kind → Option Header → List Shape
header_shape which None = []
header_shape which (Some found) = record { kind = which; text = found.text; extent = found.extent } ∷ []

-- The shapes of the scanners that are on, in the order of their kinds; keywords come before patterns,
-- both in the order in which they were given. A pattern gives the length of its match at the front of bytes.
unfoldable pub shapes : List (List ℕ → Option ℕ) → ScanPlan → Around → List Shape
shapes patterns plan look =
    when (is_on plan.scanners scanner.Url) (bytes_shape Url look (url_of look))
    ++ when (is_on plan.scanners scanner.Domain) (bytes_shape Domain look (domain_of look))
    ++ when (is_on plan.scanners scanner.Net) (address_shapes Ip (ip_of look) ++ address_shapes Ether (ether_of look))
    ++ when (is_on plan.scanners scanner.Exec) (header_shape Exec (exec_of look))
    ++ when (is_on plan.scanners scanner.Unread) (header_shape Unread (unread_of look))
    ++ when (is_on plan.scanners scanner.Find) (flat_map (λ keyword. bytes_shape Find look (keyword_of keyword look)) plan.keywords)
    ++ when (is_on plan.scanners scanner.Find) (flat_map (λ pattern. bytes_shape Find look (pattern_of pattern look)) patterns)
    ++ when (is_on plan.scanners scanner.Word) (bytes_shape Word look (word_of plan.word_min plan.word_max look))
