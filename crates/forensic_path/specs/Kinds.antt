-- The kinds of features by number.
use Rattle.std.specs.Prelude.{ℕ}
use Rattle.forensic_path.specs.declared.feature.Kind.{Kind}
use Rattle.forensic_path.specs.declared.feature.Kind.TheVariants.{Url, Domain, Ip, Ether, Exec, Unread, Find, Word}

-- a kind's number, which is also that of its file
abbrev pub number_of : Kind → ℕ
number_of Url = 1
number_of Domain = 2
number_of Ip = 3
number_of Ether = 4
number_of Exec = 5
number_of Unread = 6
number_of Find = 7
number_of Word = 8
