-- What scans of small images find, by example: the number of the kind, the path and the feature.
use Rattle.std.specs.Prelude.{◌≡◌, ℕ, List, [], ◌∷◌, ◌++◌, map, flat_map, replicate, codes, bit_xor, ◌==◌, Option, Some, refl}
use Rattle.std.specs.List.{prefix_len}
use Rattle.scan_set.specs.declared.plan.ScanPlan.{ScanPlan}
use Rattle.scan_set.proofs.Shown.{listed, in_context, shown}

-- all but the words, as a scan has it by default
abbrev by_default : ScanPlan
by_default = record { scanners = 0x03BF; depth = 5; mask = 0; word_min = 6; word_max = 14; context = 16; keywords = []; patterns = [] }

-- and the words
abbrev with_words : ScanPlan
with_words = record by_default { scanners = 0x03FF }

-- ---- URLs and domains

url_and_domain : shown in_context [] by_default (codes "see http://example.com/a b")
    ≡ codes "1 4 http://example.com/a in see http://example.com/a b"
    ∷ codes "2 11 example.com in see http://example.com/a b" ∷ []
unfolding shown
url_and_domain = refl

-- each place is judged by itself, so a URL in a URL is a feature too
url_in_a_url : shown in_context [] by_default (codes "http://a.b/?u=http://c.d/")
    ≡ codes "1 0 http://a.b/?u=http://c.d/ in http://a.b/?u=http://c.d/"
    ∷ codes "2 7 a.b in http://a.b/?u=http://c.d/"
    ∷ codes "1 14 http://c.d/ in http://a.b/?u=http://c.d/"
    ∷ codes "2 21 c.d in //a.b/?u=http://c.d/" ∷ []
unfolding shown
url_in_a_url = refl

-- no byte of a URL follows the scheme
scheme_alone : shown listed [] by_default (codes "x ftp://") ≡ []
unfolding shown
scheme_alone = refl

-- an authority with `@` has no domain
user_in_the_authority : shown listed [] by_default (codes "http://jo.doe@h.org/") ≡ codes "1 0 http://jo.doe@h.org/" ∷ []
unfolding shown
user_in_the_authority = refl

-- ---- packets, executables and compressed files

packet : shown listed [] by_default (0x45 ∷ 0x00 ∷ 0x00 ∷ 0x73 ∷ 0x00 ∷ 0x00 ∷ 0x40 ∷ 0x00 ∷ 0x40 ∷ 0x11 ∷ 0xb8 ∷ 0x61 ∷ 0xc0 ∷ 0xa8 ∷ 0x00 ∷ 0x01 ∷ 0xc0 ∷ 0xa8 ∷ 0x00 ∷ 0xc7 ∷ [])
    ≡ codes "3 0 192.168.0.1" ∷ codes "3 0 192.168.0.199" ∷ []
unfolding shown
packet = refl

packet_with_another_checksum : shown listed [] by_default
    (0x45 ∷ 0x00 ∷ 0x00 ∷ 0x73 ∷ 0x00 ∷ 0x00 ∷ 0x40 ∷ 0x00 ∷ 0x40 ∷ 0x11 ∷ 0xb8 ∷ 0x62 ∷ 0xc0 ∷ 0xa8 ∷ 0x00 ∷ 0x01 ∷ 0xc0 ∷ 0xa8 ∷ 0x00 ∷ 0xc7 ∷ []) ≡ []
unfolding shown
packet_with_another_checksum = refl

-- a frame has its addresses at its front, and the packet in it behind
frame : shown listed [] by_default (0x02 ∷ 0x00 ∷ 0x00 ∷ 0x00 ∷ 0x00 ∷ 0x01 ∷ 0x02 ∷ 0x00 ∷ 0x00 ∷ 0x00 ∷ 0x00 ∷ 0x02 ∷ 0x08 ∷ 0x00
    ∷ 0x45 ∷ 0x00 ∷ 0x00 ∷ 0x1c ∷ 0x00 ∷ 0x00 ∷ 0x40 ∷ 0x00 ∷ 0x40 ∷ 0x11 ∷ 0x4e ∷ 0x8d ∷ 0xc0 ∷ 0x00 ∷ 0x02 ∷ 0x07 ∷ 0xc6 ∷ 0x33 ∷ 0x64 ∷ 0x09 ∷ [])
    ≡ codes "4 0 02:00:00:00:00:01" ∷ codes "4 0 02:00:00:00:00:02" ∷ codes "3 14 192.0.2.7" ∷ codes "3 14 198.51.100.9" ∷ []
unfolding shown
frame = refl

elf : shown listed [] by_default (0x7f ∷ 0x45 ∷ 0x4c ∷ 0x46 ∷ 0x02 ∷ 0x01 ∷ 0x01 ∷ 0x00 ∷ 0x00 ∷ 0x00 ∷ 0x00 ∷ 0x00 ∷ 0x00 ∷ 0x00 ∷ 0x00 ∷ 0x00 ∷ 0x02 ∷ 0x00 ∷ 0x3e ∷ 0x00 ∷ [])
    ≡ codes "5 0 ELF class=64 order=little type=2 machine=62" ∷ []
unfolding shown
elf = refl

signatures : shown listed [] by_default (0x1f ∷ 0x8b ∷ 0x08 ∷ 0x50 ∷ 0x4b ∷ 0x03 ∷ 0x04 ∷ []) ≡ codes "6 0 gzip" ∷ codes "6 3 zip" ∷ []
unfolding shown
signatures = refl

-- ---- words, keywords and patterns

-- a word begins behind a byte of none, and nowhere within
word : shown in_context [] with_words (codes "     strawberry   ") ≡ codes "8 5 strawberry in      strawberry   " ∷ []
unfolding shown
word = refl

-- one or more of `a`, at the front of bytes
abbrev some_a : List ℕ → Option ℕ
some_a bytes = Some (prefix_len (λ byte. byte == 97) bytes)

-- keywords come ahead of patterns, and a match of no bytes is none
keyword_and_pattern : shown in_context (some_a ∷ []) (record by_default { keywords = codes "aab" ∷ [] }) (codes "xaab")
    ≡ codes "7 1 aab in xaab" ∷ codes "7 1 aa in xaab" ∷ codes "7 2 a in xaab" ∷ []
unfolding shown
keyword_and_pattern = refl

-- a keyword that is given twice gives two features
keyword_twice : shown listed [] (record by_default { keywords = codes "ab" ∷ codes "ab" ∷ [] }) (codes "cab")
    ≡ codes "7 1 ab" ∷ codes "7 1 ab" ∷ []
unfolding shown
keyword_twice = refl

-- the kinds of one place stand in their order
kinds_in_order : shown listed [] (record with_words { keywords = codes "http" ∷ [] }) (codes "http://a.b")
    ≡ codes "1 0 http://a.b" ∷ codes "7 0 http" ∷ codes "8 0 http://a.b" ∷ codes "2 7 a.b" ∷ []
unfolding shown
kinds_in_order = refl

-- ---- nested buffers

-- `http://example.com/hello-world-1`
abbrev text : List ℕ
text = codes "aHR0cDovL2V4YW1wbGUuY29tL2hlbGxvLXdvcmxkLTE="

-- a context ends with the buffer that the feature stands in
base64 : shown in_context [] by_default (replicate 100 32 ++ text)
    ≡ codes "1 100-BASE64-0 http://example.com/hello-world-1 in http://example.com/hello-world-1"
    ∷ codes "2 100-BASE64-7 example.com in http://example.com/hello-world-1" ∷ []
unfolding shown
base64 = refl

two_lines : shown listed [] by_default (codes "aHR0cDovL2V4YW1wbGUuY29tL2hlbGxv\r\nLXdvcmxkLTE=")
    ≡ codes "1 0-BASE64-0 http://example.com/hello-world-1" ∷ codes "2 0-BASE64-7 example.com" ∷ []
unfolding shown
two_lines = refl

too_few_letters : shown listed [] by_default (codes "aHR0cDovL2V4YW1wbGUuY29tL2hlbGx") ≡ []
unfolding shown
too_few_letters = refl

decoder_off : shown listed [] (record by_default { scanners = 0x033F }) text ≡ []
unfolding shown
decoder_off = refl

no_depth : shown listed [] (record by_default { depth = 0 }) text ≡ []
unfolding shown
no_depth = refl

utf16 : shown in_context [] by_default (codes "x" ++ flat_map (λ byte. byte ∷ 0 ∷ []) (codes "Link http://a.b"))
    ≡ codes "1 1-UTF16-5 http://a.b in Link http://a.b" ∷ codes "2 1-UTF16-12 a.b in Link http://a.b" ∷ []
unfolding shown
utf16 = refl

-- ---- the XOR view

-- the hexadecimal digits of the Base64 text, each byte XORed with 255
abbrev hidden : List ℕ
hidden = map (bit_xor 255) (codes "6148523063446f764c3256345957317762475575593239744c32686c624778764c586476636d786b4c54453d")

three_deep : shown listed [] (record by_default { mask = 255; depth = 3 }) hidden
    ≡ codes "1 0-XOR255-0-HEX-0-BASE64-0 http://example.com/hello-world-1" ∷ codes "2 0-XOR255-0-HEX-0-BASE64-7 example.com" ∷ []
unfolding shown
three_deep = refl

two_deep : shown listed [] (record by_default { mask = 255; depth = 2 }) hidden ≡ []
unfolding shown
two_deep = refl

-- in a XOR view no other is taken, so nothing stands at `4-XOR255-0-XOR255-0`
no_view_in_a_view : shown listed [] (record by_default { mask = 255 }) (codes "see http://example.com/a b")
    ≡ codes "1 4 http://example.com/a" ∷ codes "2 11 example.com" ∷ []
unfolding shown
no_view_in_a_view = refl
