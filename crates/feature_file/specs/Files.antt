-- The files of a report: what each is called, and when it is written.
use Rattle.std.specs.Prelude.{ℕ, Bool, true, List, [], ◌∷◌, Option, Some, None, option_map, unwrap_or, find, codes, ◌&&◌, ◌==◌, nat_le}
use Rattle.std.specs.List.{list_any}
use Rattle.forensic_path.specs.declared.scanner.Scanner.{Scanner}
use Rattle.forensic_path.specs.declared.scanner.Scanner.TheVariants.{Url, Domain, Net, Exec, Unread, Find, Word}
use Rattle.forensic_path.specs.Scanners.{is_on}

-- a file's number and name, and the scanner that it is written for: None where it is always written
pub record ReportFile : Type 0 where
  pub number : ℕ
  pub name : List ℕ
  pub scanner : Option Scanner

abbrev pub file : ℕ → List ℕ → Option Scanner → ReportFile
file number name scanner = record { number = number; name = name; scanner = scanner }

-- The spool, the features of each kind, the alerts, the features of each kind that are stopped, and the histograms.
unfoldable pub report_files : List ReportFile
report_files =
    file 0 (codes "spool.bin") None
    ∷ file 1 (codes "url.txt") (Some Url)
    ∷ file 2 (codes "domain.txt") (Some Domain)
    ∷ file 3 (codes "ip.txt") (Some Net)
    ∷ file 4 (codes "ether.txt") (Some Net)
    ∷ file 5 (codes "exec.txt") (Some Exec)
    ∷ file 6 (codes "unread.txt") (Some Unread)
    ∷ file 7 (codes "find.txt") (Some Find)
    ∷ file 8 (codes "wordlist.txt") (Some Word)
    ∷ file 9 (codes "alerts.txt") None
    ∷ file 11 (codes "url_stopped.txt") (Some Url)
    ∷ file 12 (codes "domain_stopped.txt") (Some Domain)
    ∷ file 13 (codes "ip_stopped.txt") (Some Net)
    ∷ file 14 (codes "ether_stopped.txt") (Some Net)
    ∷ file 15 (codes "exec_stopped.txt") (Some Exec)
    ∷ file 16 (codes "unread_stopped.txt") (Some Unread)
    ∷ file 17 (codes "find_stopped.txt") (Some Find)
    ∷ file 18 (codes "wordlist_stopped.txt") (Some Word)
    ∷ file 21 (codes "url_histogram.txt") (Some Url)
    ∷ file 22 (codes "url_services_histogram.txt") (Some Url)
    ∷ file 23 (codes "domain_histogram.txt") (Some Domain)
    ∷ file 24 (codes "ip_histogram.txt") (Some Net)
    ∷ file 25 (codes "ether_histogram.txt") (Some Net)
    ∷ file 26 (codes "find_histogram.txt") (Some Find)
    ∷ []

-- the name of the file with this number, if there is one
abbrev pub file_name_of : ℕ → Option (List ℕ)
file_name_of number = option_map (λ (f : ReportFile). f.name) (find (λ f. f.number == number) report_files)

-- the name of a file that has one
abbrev pub name_of : ℕ → List ℕ
name_of number = unwrap_or (file_name_of number) []

-- a file without a scanner is always written, another one where its scanner is on
abbrev pub is_wanted : ℕ → Option Scanner → Bool
is_wanted scanners None = true
is_wanted scanners (Some scanner) = is_on scanners scanner

-- the file is written where these scanners are on
abbrev pub is_written : ℕ → ℕ → Bool
is_written number scanners = list_any (λ f. (f.number == number) && is_wanted scanners f.scanner) report_files

-- files 21 to 26 are histograms
abbrev pub is_histogram : ℕ → Bool
is_histogram number = nat_le 21 number && nat_le number 26
