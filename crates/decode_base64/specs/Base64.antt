-- A Base64 text at a place, and its value (RFC 4648 section 4).
use Rattle.std.specs.Prelude.{ℕ, ◌+◌, ◌-◌, ◌*◌, ◌/◌, ◌%◌, ◌==◌, ◌&&◌, ◌||◌, not, nat_eq, nat_le, Bool, zero, suc, min, List, [], ◌∷◌, length, take, drop, codes, Option, Some, None, option_map, filter, flat_map, find, if◌then◌else◌}
use Rattle.std.specs.List.{prefix_len, suffix_len, position_or_len, list_any, starts_with, ends_with}
use Rattle.std.specs.Option.{option_map_or}
use Rattle.byte_kit.specs.Classes.{base64_class}
use Rattle.sbuf_nest.specs.Around.{Around}
use Rattle.sbuf_nest.specs.Edges.{begins_run}
use Rattle.decode_base64.specs.declared.TheConstants.{LINE_LEAST, LETTERS_MOST}

-- the two line breaks: LF, and CR LF
abbrev pub line_breaks : List (List ℕ)
line_breaks = codes "\n" ∷ codes "\r\n" ∷ []

-- ---- where a text begins

-- the bytes end with this line break, and 32 letters stand right ahead of it
abbrev pub ends_line : List ℕ → List ℕ → Bool
ends_line bytes line_break =
    ends_with nat_eq bytes line_break
    && nat_le LINE_LEAST (suffix_len base64_class (take (length bytes - length line_break) bytes))

-- a text begins: a run of at least 32 letters, which goes on neither a run nor a line of 32 letters
abbrev pub begins_text : Around → Bool
begins_text look =
    nat_le LINE_LEAST (prefix_len base64_class look.after)
    && begins_run base64_class look
    && not (list_any (ends_line look.before) line_breaks)

-- ---- how far it goes

-- a line that follows another: the bytes of the line break ahead of it, and its letters
pub record Line : Type 0 where
  pub ahead : ℕ
  pub letters : ℕ

-- the line at the front of the bytes: a line break, and a run of at least one letter behind it
abbrev pub next_line : List ℕ → Option Line
next_line bytes =
    let ahead = option_map_or length (find (starts_with nat_eq bytes) line_breaks) 0 in
    let letters = prefix_len base64_class (drop ahead bytes) in
    if (ahead == 0) || (letters == 0) then None else Some (record { ahead = ahead; letters = letters })

-- how many bytes a line covers, its line break included, while `room` letters may be taken; what the
-- lines behind it cover comes on top where it has `width` letters, as it is the last one where not
abbrev pub line_extent : ℕ → ℕ → Line → ℕ → ℕ
line_extent width room line behind =
    if room == 0 then 0
    else line.ahead + min line.letters room + (if line.letters == width then behind else 0)

-- how many bytes the lines behind a line of `width` letters cover, while `room` letters may be taken;
-- there are at most `most` of them
abbrev pub lines_extent : ℕ → ℕ → ℕ → List ℕ → ℕ
lines_extent zero width room bytes = 0
lines_extent (suc most) width room bytes =
    let behind = λ (line : Line). lines_extent most width (room - width) (drop (line.ahead + width) bytes) in
    option_map_or (λ (line : Line). line_extent width room line (behind line)) (next_line bytes) 0

-- how many bytes a text at the front covers, from its first letter to the last one that is taken (it
-- has no more lines than bytes)
abbrev pub text_extent : List ℕ → ℕ
text_extent bytes =
    let width = prefix_len base64_class bytes in
    min width LETTERS_MOST + lines_extent (length bytes) width (LETTERS_MOST - width) (drop width bytes)

-- how many bytes the Base64 text at the place covers
unfoldable pub base64_extent : Around → Option ℕ
base64_extent look = if begins_text look then Some (text_extent look.after) else None

-- ---- what it says

-- the 64 letters, each at the place that is its number
abbrev pub alphabet : List ℕ
alphabet = codes "ABCDEFGHIJKLMNOPQRSTUVWXYZabcdefghijklmnopqrstuvwxyz0123456789+/"

abbrev pub letter_number : ℕ → ℕ
letter_number letter = position_or_len (nat_eq letter) alphabet

-- the six bits of a letter, the high one first
abbrev pub six_bits : ℕ → List ℕ
six_bits letter =
    let n = letter_number letter in
    (n / 32 % 2) ∷ (n / 16 % 2) ∷ (n / 8 % 2) ∷ (n / 4 % 2) ∷ (n / 2 % 2) ∷ (n % 2) ∷ []

-- the bytes of bits, eight for each, the high bit first; fewer than eight at the end are left off
abbrev pub bytes_of : List ℕ → List ℕ
bytes_of (a ∷ b ∷ c ∷ d ∷ e ∷ f ∷ g ∷ h ∷ bits) =
    (128 * a + 64 * b + 32 * c + 16 * d + 8 * e + 4 * f + 2 * g + h) ∷ bytes_of bits
bytes_of bits = []

-- the value of a text: the bytes of the bits of its letters, wherever its lines break
unfoldable pub base64_value : List ℕ → List ℕ
base64_value text = bytes_of (flat_map six_bits (filter base64_class text))

-- the value of the Base64 text at the place
unfoldable pub base64_of : Around → Option (List ℕ)
base64_of look = option_map (λ extent. base64_value (take extent look.after)) (base64_extent look)
