use Rattle.std.proofs.Common.{◌∙◌, not}
use Rattle.byte_kit.specs.Classes.{base64_class}
use Rattle.vector_search.proofs.Lanes.{bits_alike}
use Rattle.vector_search.specs.Classes.{is_outside}
use Rattle.decode_base64.specs.declared.letters.TheConstants.{COLUMNS, ROWS}
use Rattle.decode_base64.proofs.Strangers.{no_letter}
use Rattle.decode_base64.proofs.letters.LettersByteClass.strangers.Goals as goal

pub returns : goal.returns
returns c =
    c.outside.ensures ∙ bits_alike (is_outside COLUMNS ROWS) (λ byte. not (base64_class byte)) c.args.bytes c.fits-bytes.1 no_letter
