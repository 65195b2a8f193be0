-- What stands encoded at one place of a buffer.
use Rattle.std.specs.Prelude.{ℕ, List, [], ◌∷◌, ◌++◌, map, take, Option, Some, None}
use Rattle.forensic_path.specs.declared.path.Decoder.{Decoder}
use Rattle.forensic_path.specs.declared.path.Decoder.TheVariants.{Base64, Hex, Utf16, Xor}
use Rattle.forensic_path.specs.declared.scanner.Scanner.TheVariants as scanner
use Rattle.forensic_path.specs.Scanners.{is_on}
use Rattle.sbuf_nest.specs.Around.{Around}
use Rattle.sbuf_nest.specs.declared.mark.Extent.{Extent}
use Rattle.sbuf_nest.specs.declared.mark.Start.{Start}
use Rattle.decode_base64.specs.Base64.{base64_extent, base64_value}
use Rattle.decode_base64.specs.Text.{base64_text}
use Rattle.decode_base64.specs.Starts.{base64_starts}
use Rattle.decode_hex.specs.Hex.{hex_extent, hex_run, hex_value}
use Rattle.decode_hex.specs.Starts.{hex_starts}
use Rattle.decode_views.specs.Utf16.{utf16_extent, utf16_run, utf16_value}
use Rattle.decode_views.specs.Starts.{utf16_starts}
use Rattle.decode_views.specs.Xor.{xored_bytes}
use Rattle.scan_set.specs.Shapes.{when}
use Rattle.scan_set.specs.declared.plan.ScanPlan.{ScanPlan}

-- what reads a text, and how many bytes of the place it covers
pub record Encoded : Type 0 where
  pub by : Decoder
  pub extent : ℕ

abbrev pub encoded : Decoder → Option ℕ → List Encoded
encoded decoder None = []
encoded decoder (Some n) = record { by = decoder; extent = n } ∷ []

-- the texts that begin at the place, of the decoders that are on
unfoldable pub texts : ScanPlan → Around → List Encoded
texts plan look =
    when (is_on plan.scanners scanner.Base64) (encoded Base64 (base64_extent look))
    ++ when (is_on plan.scanners scanner.Hex) (encoded Hex (hex_extent look))
    ++ when (is_on plan.scanners scanner.Utf16) (encoded Utf16 (utf16_extent look))

-- the starts of a place, of each decoder, where it is on
abbrev pub base64_at : ScanPlan → Around → ℕ → List Start
base64_at plan look place = when (is_on plan.scanners scanner.Base64) (base64_starts look place)

abbrev pub hex_at : ScanPlan → Around → ℕ → List Start
hex_at plan look place = when (is_on plan.scanners scanner.Hex) (hex_starts look place)

abbrev pub utf16_at : ScanPlan → Around → ℕ → List Start
utf16_at plan look place = when (is_on plan.scanners scanner.Utf16) (utf16_starts look place)

-- the starts of a place
abbrev pub starts_at : ScanPlan → Around → ℕ → List Start
starts_at plan look place = base64_at plan look place ++ hex_at plan look place ++ utf16_at plan look place

-- the text of a decoder that begins at a place
abbrev pub text_of : Decoder → Around → Option Extent
text_of Base64 look = base64_text look
text_of Hex look = hex_run look
text_of Utf16 look = utf16_run look
text_of (Xor mask) look = None

-- the bytes that a decoder makes of a text
abbrev pub value_of : Decoder → List ℕ → List ℕ
value_of Base64 text = base64_value text
value_of Hex text = hex_value text
value_of Utf16 text = utf16_value text
value_of (Xor mask) text = xored_bytes mask text

-- a decoder and the bytes that it made
pub record Decoded : Type 0 where
  pub by : Decoder
  pub value : List ℕ

-- the values of the texts that begin at the place
unfoldable pub decoded : ScanPlan → Around → List Decoded
decoded plan look =
    map (λ text. record { by = text.by; value = value_of text.by (take text.extent look.after) }) (texts plan look)
