-- Bad words, and what is said of them.
use Rattle.std.specs.Prelude.{◌≡◌, ℕ, List, codes, Option, Some, Result, Err}
use Rattle.scan_settings.specs.declared.fault.Why.{Why}
use Rattle.scan_settings.specs.declared.fault.Why.TheVariants.{NoCommand, UnknownCommand, UnknownOption, Twice, TooMany, ValueMissing, BadNumber, UnknownScanner, BadText, ExtraWord, PlaceMissing, WordBounds}
use Rattle.scan_settings.specs.declared.fault.BadWord.{BadWord}
use Rattle.scan_settings.specs.declared.fault.WordsFault.{WordsFault}
use Rattle.scan_settings.specs.declared.fault.WordsFault.TheVariants.{Usage, NoMemory}

-- why a word is bad, as a usage line says it
abbrev pub why_text : Why → List ℕ
why_text NoCommand = codes "no command"
why_text UnknownCommand = codes "unknown command"
why_text UnknownOption = codes "unknown option"
why_text Twice = codes "option given twice"
why_text TooMany = codes "too many"
why_text ValueMissing = codes "value missing"
why_text BadNumber = codes "bad number"
why_text UnknownScanner = codes "unknown scanner"
why_text BadText = codes "bad text"
why_text ExtraWord = codes "extra word"
why_text PlaceMissing = codes "place missing"
why_text WordBounds = codes "word bounds crossed"

-- the word of this number is bad
abbrev pub bad : ℕ → Why → BadWord
bad at why = record { word = at; why = why }

-- the refusal of a bad word
abbrev pub refusal_of : BadWord → WordsFault
refusal_of b = Usage b.word b.why

-- words are refused for their first bad word; want of memory is free
abbrev pub IsRefused : {T : Type 0} → Result T BadWord → WordsFault → Type 0
IsRefused judged (Usage word why) = judged ≡ Err (bad word why)
IsRefused judged NoMemory = Unit {0}

-- these words are refused for what is bad of them
abbrev pub IsFault : Option BadWord → WordsFault → Type 0
IsFault fault (Usage word why) = fault ≡ Some (bad word why)
IsFault fault NoMemory = Unit {0}
