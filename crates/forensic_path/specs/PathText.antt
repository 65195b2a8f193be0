-- The text of a path, as `100-BASE64-0`.
use Rattle.std.specs.Prelude.{ℕ, List, ◌++◌, codes, flat_map}
use Rattle.std.specs.Fmt.{decimal}
use Rattle.forensic_path.specs.declared.path.Decoder.{Decoder}
use Rattle.forensic_path.specs.declared.path.Decoder.TheVariants.{Base64, Hex, Utf16, Xor}
use Rattle.forensic_path.specs.declared.path.Step.{Step}
use Rattle.forensic_path.specs.declared.path.Path.{Path}

-- the name of a decoder
abbrev pub decoder_text : Decoder → List ℕ
decoder_text Base64 = codes "BASE64"
decoder_text Hex = codes "HEX"
decoder_text Utf16 = codes "UTF16"
decoder_text (Xor mask) = codes "XOR" ++ decimal mask

-- a dash, the decoder, a dash, and the place in decimal
abbrev pub step_text : Step → List ℕ
step_text s = codes "-" ++ decoder_text s.by ++ codes "-" ++ decimal s.at

-- the offset in the image in decimal, and then each step
unfoldable pub path_text_of : Path → List ℕ
path_text_of path = decimal path.top ++ flat_map step_text path.steps
