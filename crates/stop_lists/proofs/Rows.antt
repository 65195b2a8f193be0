-- Lists by example: which entries they have, and the class of a feature under them.
use Rattle.std.specs.Prelude.{◌≡◌, ℕ, List, [], ◌∷◌, codes, Some, None, refl}
use Rattle.byte_kit.specs.Classes.{hex_class}
use Rattle.forensic_path.specs.declared.feature.Class.TheVariants.{Plain, Stopped, Alert}
use Rattle.forensic_path.specs.declared.feature.Kind.TheVariants.{Url, Domain}
use Rattle.forensic_path.specs.declared.feature.Feature.{Feature}
use Rattle.feature_escape.specs.Escape.{unescape_lenient_of}
use Rattle.stop_lists.specs.Lists.{Entry, entries_of, class_under, class_of}

-- an entry without a context, and one with
abbrev alone : List ℕ → Entry
alone feature = record { feature = feature; context = None }

abbrev within : List ℕ → List ℕ → Entry
within feature context = record { feature = feature; context = Some context }

-- ---- the entries of a list

-- there is no entry in an empty line, and none in a line that begins with `#`
passed_lines : entries_of (codes "\n# a\n#\n\n") ≡ []
unfolding entries_of
passed_lines = refl

-- a `#` that a blank or an escape stands for begins a line like any other byte
begun_otherwise : entries_of (codes " #a\n\\x23a") ≡ alone (codes " #a") ∷ alone (codes "#a") ∷ []
unfolding entries_of unescape_lenient_of hex_class
begun_otherwise = refl

-- lines that end in CR LF, and a last line that ends in CR alone
carriage_returns : entries_of (codes "a\r\nb\tc\r\n\r\nd\r") ≡ alone (codes "a") ∷ within (codes "b") (codes "c") ∷ alone (codes "d") ∷ []
unfolding entries_of unescape_lenient_of
carriage_returns = refl

-- of two CRs the first stays
two_carriage_returns : entries_of (codes "a\r\r\nb") ≡ alone (codes "a\r") ∷ alone (codes "b") ∷ []
unfolding entries_of unescape_lenient_of
two_carriage_returns = refl

-- a TAB alone has both fields, and a context may be empty
empty_fields : entries_of (codes "\t\na\t") ≡ within [] [] ∷ within (codes "a") [] ∷ []
unfolding entries_of unescape_lenient_of
empty_fields = refl

-- a feature file is a list: its header is passed, and its lines have a path first
feature_file : entries_of (codes "# triage feature file, format 1\n# file: url.txt\n4\thttp://a.b\tsee http://a.b\n")
    ≡ within (codes "http://a.b") (codes "see http://a.b") ∷ []
unfolding entries_of unescape_lenient_of
feature_file = refl

-- fields behind the third are passed
more_fields : entries_of (codes "4\ta\tb\tc\td") ≡ within (codes "a") (codes "b") ∷ []
unfolding entries_of unescape_lenient_of
more_fields = refl

-- fields are read leniently, and only once they are cut: an escaped TAB or LF cuts nothing
escapes : entries_of (codes "a\\x09b\\x0A\tc\\x5cd\\xZZ") ≡ within (codes "a\tb\n") (codes "c\\d\\xZZ") ∷ []
unfolding entries_of unescape_lenient_of hex_class
escapes = refl

-- ---- the class of a feature

-- the domain of `see http://example.com/a b`
abbrev found : Feature
found = record {
  kind = Domain;
  path = record { top = 11; steps = [] };
  feature = codes "example.com";
  context = codes "see http://example.com/a b";
}

abbrev with_context : List ℕ
with_context = codes "example.com\tsee http://example.com/a b"

-- an entry with the feature's context stops it, and one with another context doesn't
stopped : class_of with_context [] found ≡ Stopped
unfolding entries_of class_under unescape_lenient_of
stopped = refl

other_context : class_of (codes "example.com\tother") [] found ≡ Plain
unfolding entries_of class_under unescape_lenient_of
other_context = refl

-- an entry without a context is for every context, and the whole feature is compared
any_context : class_of (codes "b\nexample.com\n") [] found ≡ Stopped
unfolding entries_of class_under unescape_lenient_of
any_context = refl

other_feature : class_of (codes "example.co\nexample.com.\nExample.com") (codes "xample.com") found ≡ Plain
unfolding entries_of class_under unescape_lenient_of
other_feature = refl

-- alert beats stop
alert_first : class_of with_context (codes "example.com") found ≡ Alert
unfolding entries_of class_under unescape_lenient_of
alert_first = refl

-- the kind doesn't matter
every_kind : class_of (codes "example.com") [] (record found { kind = Url }) ≡ Stopped
unfolding entries_of class_under unescape_lenient_of
every_kind = refl
