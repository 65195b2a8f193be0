-- The settings record: what is kept of the settings of a scan, so that a later one can tell whether it is the same.
use Rattle.std.specs.Prelude.{ℕ, ◌<◌, ◌^◌, List, [], ◌∷◌, ◌++◌, length}
use Rattle.std.specs.List.{All, flat_map}
use Rattle.std.specs.Str.{IsUtf8}
use Rattle.byte_kit.specs.Numbers.{le16_bytes, le32_bytes, le64_bytes}
use Rattle.scan_settings.specs.declared.settings.Plan.{Plan}
use Rattle.scan_settings.specs.declared.settings.Settings.{Settings}
use Rattle.scan_settings.specs.declared.record.Kept.{Kept}
use Rattle.scan_settings.specs.Options.{page}
use Rattle.scan_settings.specs.Lawful.{IsWithin, IsPlan}

-- a text: its length, and its bytes
abbrev pub text_bytes : List ℕ → List ℕ
text_bytes text = le16_bytes (length text) ++ text

-- texts: how many, and each of them
abbrev pub texts_bytes : List (List ℕ) → List ℕ
texts_bytes texts = le16_bytes (length texts) ++ flat_map text_bytes texts

-- the version, and the numbers
unfoldable pub numbers_of : Kept → List ℕ
numbers_of kept =
    (1 ∷ []) ++ le64_bytes kept.image ++ le64_bytes kept.page ++ le16_bytes kept.plan.scanners ++ (kept.plan.depth ∷ kept.plan.mask ∷ [])
    ++ le16_bytes kept.plan.word_min ++ le16_bytes kept.plan.word_max ++ le16_bytes kept.plan.context
    ++ le64_bytes kept.stop ++ le64_bytes kept.alert

-- the numbers, and the texts
abbrev pub body_of : Kept → List ℕ
body_of kept = numbers_of kept ++ texts_bytes kept.plan.keywords ++ texts_bytes kept.plan.patterns

-- the record: the length of what follows, and that
unfoldable pub record_of : Kept → List ℕ
record_of kept = le32_bytes (length (body_of kept)) ++ body_of kept

-- what is kept of a plan and of the sizes of an image, a page, a stop list and an alert list
abbrev pub kept_by : ℕ → ℕ → ℕ → ℕ → Plan → Kept
kept_by image page stop alert plan = record { image = image; page = page; stop = stop; alert = alert; plan = plan }

-- what is kept of settings and of the sizes of an image and of both lists
abbrev pub kept_of : Settings → ℕ → ℕ → ℕ → Kept
kept_of settings image stop alert = kept_by image settings.page stop alert settings.plan

-- what a record may keep: settings in their ranges, patterns that are UTF-8, and sizes below 2^64
pub record IsKept (kept : Kept) : Type 0 where
  pub image : kept.image < 2 ^ 64
  pub page : IsWithin page kept.page
  pub stop : kept.stop < 2 ^ 64
  pub alert : kept.alert < 2 ^ 64
  pub plan : IsPlan kept.plan
  pub utf8 : All IsUtf8 kept.plan.patterns
