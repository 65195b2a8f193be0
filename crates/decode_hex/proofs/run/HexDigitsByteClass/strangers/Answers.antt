use Rattle.std.proofs.Common.{◌∙◌, not}
use Rattle.byte_kit.specs.Classes.{hex_class}
use Rattle.vector_search.proofs.Lanes.{bits_alike}
use Rattle.vector_search.specs.Classes.{is_outside}
use Rattle.decode_hex.specs.declared.run.TheConstants.{COLUMNS, ROWS}
use Rattle.decode_hex.proofs.Digits.{no_digit}
use Rattle.decode_hex.proofs.run.HexDigitsByteClass.strangers.Goals as goal

pub returns : goal.returns
returns c =
    c.outside.ensures ∙ bits_alike (is_outside COLUMNS ROWS) (λ byte. not (hex_class byte)) c.args.bytes c.fits-bytes.1 no_digit
