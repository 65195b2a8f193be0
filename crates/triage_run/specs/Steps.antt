-- The steps of a scan by number, in their order: a refusal at one hides those of later ones.
use Rattle.std.specs.Prelude.{ℕ}

-- want of memory may come at any step
abbrev pub any : ℕ
any = 0

-- the words are judged
abbrev pub words : ℕ
words = 1

-- the form of the command is tested
abbrev pub form : ℕ
form = 2

-- the stop list is attached
abbrev pub stop_list : ℕ
stop_list = 3

-- its size is tested, and it is read
abbrev pub stop_size : ℕ
stop_size = 4

-- the alert list is attached
abbrev pub alert_list : ℕ
alert_list = 5

-- its size is tested, and it is read
abbrev pub alert_size : ℕ
alert_size = 6

-- the patterns are built
abbrev pub build : ℕ
build = 7

-- the parts of the image are attached
abbrev pub attach : ℕ
attach = 8

-- the pages of the image are counted
abbrev pub pages : ℕ
pages = 9

-- the folder is mounted
abbrev pub mount : ℕ
mount = 10

-- the pages are read
abbrev pub read : ℕ
read = 11

-- the report stands, and its text is put
abbrev pub print : ℕ
print = 12

-- the text was put
abbrev pub end : ℕ
end = 13
