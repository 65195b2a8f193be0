-- Where the fields of a record stand.
use Rattle.std.specs.Prelude.{ℕ, zero, suc, ◌<◌, ◌^◌, ◌&&◌, Bool, nat_lt, nat_le, length, List, [], ◌∷◌, take, drop, slice_index}
use Rattle.byte_kit.specs.Numbers.{le16, le64}
use Rattle.std.specs.List.{list_all}
use Rattle.scan_settings.specs.declared.values.NumberRange.{NumberRange}
use Rattle.scan_settings.specs.declared.settings.Plan.{Plan}
use Rattle.scan_settings.specs.declared.record.Kept.{Kept}
use Rattle.scan_settings.specs.Values.{is_text}
use Rattle.scan_settings.specs.Options.{page, depth, word_min, word_max, context}

-- so many texts from the front on, each behind its length, as far as they are there
unfoldable pub texts_at : ℕ → List ℕ → List (List ℕ)
texts_at zero bytes = []
texts_at (suc count) bytes = take (le16 bytes 0) (drop 2 bytes) ∷ texts_at count (drop (le16 bytes 0) (drop 2 bytes))

-- what stands behind them
unfoldable pub behind_texts : ℕ → List ℕ → List ℕ
behind_texts zero bytes = bytes
behind_texts (suc count) bytes = behind_texts count (drop (le16 bytes 0) (drop 2 bytes))

-- the keywords begin at 49, behind their number, and the patterns' number stands behind the keywords
abbrev pub keywords_at : List ℕ → List (List ℕ)
keywords_at bytes = texts_at (le16 bytes 47) (drop 49 bytes)

abbrev pub patterns_from : List ℕ → List ℕ
patterns_from bytes = behind_texts (le16 bytes 47) (drop 49 bytes)

abbrev pub patterns_at : List ℕ → List (List ℕ)
patterns_at bytes = texts_at (le16 (patterns_from bytes) 0) (drop 2 (patterns_from bytes))

-- the fields of bytes as far as they are a record
unfoldable pub fields_of : List ℕ → Kept
fields_of bytes = record {
  image = le64 bytes 5;
  page = le64 bytes 13;
  stop = le64 bytes 31;
  alert = le64 bytes 39;
  plan = record {
    scanners = le16 bytes 21;
    depth = slice_index bytes 23;
    mask = slice_index bytes 24;
    word_min = le16 bytes 25;
    word_max = le16 bytes 27;
    context = le16 bytes 29;
    keywords = keywords_at bytes;
    patterns = patterns_at bytes;
  };
}

-- ---- ranges

-- numbers of so many bytes
pub record AreFields (kept : Kept) : Type 0 where
  pub image : kept.image < 2 ^ 64
  pub stop : kept.stop < 2 ^ 64
  pub alert : kept.alert < 2 ^ 64
  pub mask : kept.plan.mask < 2 ^ 8

abbrev pub is_in : NumberRange → ℕ → Bool
is_in range number = nat_le range.least number && nat_le number range.greatest

unfoldable pub has_numbers : Plan → Bool
has_numbers plan =
    nat_lt plan.scanners 1024 && is_in depth plan.depth && is_in word_min plan.word_min && is_in word_max plan.word_max
    && nat_le plan.word_min plan.word_max && is_in context plan.context

-- what is kept lies in its ranges
unfoldable pub is_ranged : Kept → Bool
is_ranged kept =
    is_in page kept.page && has_numbers kept.plan && nat_le (length kept.plan.keywords) 64 && nat_le (length kept.plan.patterns) 4
    && list_all is_text kept.plan.keywords && list_all is_text kept.plan.patterns
