-- What the searches of a buffer list, and the feature that each mark of it makes.
use Rattle.std.specs.Prelude.{ℕ, ◌==◌, List, [], ◌++◌, take, Option, Some, None, if◌then◌else◌}
use Rattle.forensic_path.specs.declared.scanner.Scanner.TheVariants as scanner
use Rattle.forensic_path.specs.declared.feature.Kind.{Kind}
use Rattle.forensic_path.specs.declared.feature.Kind.TheVariants.{Ip, Ether, Exec, Unread}
use Rattle.forensic_path.specs.Scanners.{is_on}
use Rattle.sbuf_nest.specs.Around.{Around}
use Rattle.sbuf_nest.specs.declared.mark.Mark.{Mark}
use Rattle.scan_url.specs.Marks.{url_marks}
use Rattle.scan_net.specs.Marks.{packet_marks}
use Rattle.scan_net.specs.Packet.{Addresses, ip_of, ether_of}
use Rattle.scan_exec.specs.Marks.{exec_marks}
use Rattle.scan_exec.specs.Exec.{Header, exec_of, unread_of}
use Rattle.scan_find.specs.Marks.{given_marks}
use Rattle.scan_wordlist.specs.Marks.{word_marks}
use Rattle.scan_set.specs.Shapes.{Shape, when}
use Rattle.scan_set.specs.declared.plan.ScanPlan.{ScanPlan}

-- the marks of a place by each search, of its scanners that are on
abbrev pub urls_at : ScanPlan → Around → ℕ → List Mark
urls_at plan look place = url_marks (is_on plan.scanners scanner.Url) (is_on plan.scanners scanner.Domain) look place

abbrev pub packets_at : ScanPlan → Around → ℕ → List Mark
packets_at plan look place = when (is_on plan.scanners scanner.Net) (packet_marks look place)

abbrev pub execs_at : ScanPlan → Around → ℕ → List Mark
execs_at plan look place = exec_marks (is_on plan.scanners scanner.Exec) (is_on plan.scanners scanner.Unread) look place

abbrev pub given_at : List (List ℕ → Option ℕ) → ScanPlan → Around → ℕ → List Mark
given_at patterns plan look place = when (is_on plan.scanners scanner.Find) (given_marks plan.keywords patterns look place)

abbrev pub words_at : ScanPlan → Around → ℕ → List Mark
words_at plan look place = when (is_on plan.scanners scanner.Word) (word_marks plan.word_min plan.word_max look place)

-- the marks of a place by all of them, in the order of their kinds
abbrev pub marks_at : List (List ℕ → Option ℕ) → ScanPlan → Around → ℕ → List Mark
marks_at patterns plan look place =
    urls_at plan look place ++ packets_at plan look place ++ execs_at plan look place ++ given_at patterns plan look place
    ++ words_at plan look place

-- the first of a header's addresses, or the second one
abbrev pub address_text : ℕ → Option Addresses → List ℕ
address_text which None = []
address_text which (Some found) = if which == 0 then found.first else found.second

-- what a header shows
abbrev pub header_text : Option Header → List ℕ
header_text None = []
header_text (Some found) = found.text

-- the text of what was found, by its kind: what its header shows, or the bytes that it covers
abbrev pub kind_text : Kind → ℕ → ℕ → Around → List ℕ
kind_text Ip which extent look = address_text which (ip_of look)
kind_text Ether which extent look = address_text which (ether_of look)
kind_text Exec which extent look = header_text (exec_of look)
kind_text Unread which extent look = header_text (unread_of look)
kind_text _ which extent look = take extent look.after

abbrev pub text_of : Around → Mark → List ℕ
text_of look mark = kind_text mark.kind mark.which mark.extent look

-- what a mark says of its place
abbrev pub shape_of : Around → Mark → Shape
shape_of look mark = record { kind = mark.kind; text = text_of look mark; extent = mark.extent }
