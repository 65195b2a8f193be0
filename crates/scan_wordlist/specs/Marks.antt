-- What a search for words appends.
use Rattle.std.specs.Prelude.{ℕ, List}
use Rattle.forensic_path.specs.declared.feature.Kind.TheVariants.{Word}
use Rattle.sbuf_nest.specs.Around.{Around}
use Rattle.sbuf_nest.specs.Marks.{marked}
use Rattle.sbuf_nest.specs.declared.mark.Mark.{Mark}
use Rattle.scan_wordlist.specs.Word.{word_of}

-- the mark of a place: its word, of at least so many bytes and at most so many
abbrev pub word_marks : ℕ → ℕ → Around → ℕ → List Mark
word_marks least most look place = marked Word 0 place (word_of least most look)
