-- The shape of a URL: one of three schemes, and the run of URL bytes behind it (RFC 3986 section 3).
use Rattle.std.specs.Prelude.{ℕ, ◌+◌, ◌==◌, ◌&&◌, Bool, true, false, List, [], ◌∷◌, drop, min, codes, Option, Some, None, option_and_then, if◌then◌else◌}
use Rattle.std.specs.List.{prefix_len}
use Rattle.byte_kit.specs.Classes.{url_class}
use Rattle.sbuf_nest.specs.Around.{Around}
use Rattle.scan_url.specs.declared.url.TheConstants.{URL_MOST}
use Rattle.std.specs.Char.{to_ascii_lowercase}

-- the bytes begin with a word in lower case, whatever the case of their letters
abbrev pub starts_caseless : List ℕ → List ℕ → Bool
starts_caseless [] bytes = true
starts_caseless (letter ∷ word) [] = false
starts_caseless (letter ∷ word) (byte ∷ bytes) = (to_ascii_lowercase byte == letter) && starts_caseless word bytes

-- the length of the scheme that the bytes begin with: `http://`, `https://` or `ftp://` in any case
unfoldable pub scheme_of : List ℕ → Option ℕ
scheme_of bytes =
    if starts_caseless (codes "http://") bytes then Some 7
    else (if starts_caseless (codes "https://") bytes then Some 8
    else (if starts_caseless (codes "ftp://") bytes then Some 6 else None))

-- a scheme and a run of at least one byte, at most 2,048 bytes in all
abbrev pub url_of_run : ℕ → ℕ → Option ℕ
url_of_run scheme run = if run == 0 then None else Some (min URL_MOST (scheme + run))

-- the length of the URL at the place
unfoldable pub url_of : Around → Option ℕ
url_of look =
    option_and_then (λ scheme. url_of_run scheme (prefix_len url_class (drop scheme look.after))) (scheme_of look.after)
