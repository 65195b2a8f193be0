-- The features of an image as lines of text, for examples that compute.
use Rattle.std.specs.Prelude.{ℕ, List, ◌++◌, map, codes, Option}
use Rattle.std.specs.Fmt.{decimal, digits}
use Rattle.byte_kit.specs.Classes.{url_class, host_class, base64_class, hex_class, word_class, printable_class}
use Rattle.forensic_path.specs.Kinds.{number_of}
use Rattle.forensic_path.specs.PathText.{path_text_of}
use Rattle.forensic_path.specs.declared.feature.Feature.{Feature}
use Rattle.sbuf_nest.specs.Around.{look_at}
use Rattle.scan_url.specs.Url.{scheme_of, url_of}
use Rattle.scan_url.specs.Domain.{ends_with_scheme, domain_of}
use Rattle.scan_net.specs.Packet.{begins_ipv4, ip_of, ether_of}
use Rattle.scan_exec.specs.Exec.{elf_of, pe_of, exec_of, unread_of}
use Rattle.scan_find.specs.Find.{keyword_of, pattern_of}
use Rattle.scan_wordlist.specs.Word.{word_of}
use Rattle.decode_base64.specs.Base64.{base64_extent, base64_value}
use Rattle.decode_hex.specs.Hex.{hex_extent, hex_value}
use Rattle.decode_views.specs.Utf16.{utf16_extent, utf16_value}
use Rattle.decode_views.specs.Xor.{xored}
use Rattle.scan_set.specs.Shapes.{shapes}
use Rattle.scan_set.specs.Decoders.{texts, decoded}
use Rattle.scan_set.specs.Here.{here, features_of}
use Rattle.scan_set.specs.declared.plan.ScanPlan.{ScanPlan}

-- the number of a feature's kind, its path and its text
abbrev pub listed : Feature → List ℕ
listed f = decimal (number_of f.kind) ++ codes " " ++ path_text_of f.path ++ codes " " ++ f.feature

-- and its context
abbrev pub in_context : Feature → List ℕ
in_context f = listed f ++ codes " in " ++ f.context

-- A line for each feature of an image. Whoever unfolds this unfolds all that a scan finds.
unfoldable pub shown : (Feature → List ℕ) → List (List ℕ → Option ℕ) → ScanPlan → List ℕ → List (List ℕ)
unfolding digits url_class host_class base64_class hex_class word_class printable_class path_text_of look_at scheme_of url_of ends_with_scheme domain_of begins_ipv4 ip_of ether_of elf_of pe_of exec_of unread_of keyword_of pattern_of word_of base64_extent base64_value hex_extent hex_value utf16_extent utf16_value xored shapes texts decoded here
shown line patterns plan image = map line (features_of patterns plan image)
