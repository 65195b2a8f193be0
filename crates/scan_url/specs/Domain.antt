-- The shape of a domain: the host of a URL whose scheme ends at the place (RFC 3986 section 3.2.2).
use Rattle.std.specs.Prelude.{ℕ, ◌-◌, ◌==◌, ◌&&◌, ◌||◌, not, nat_lt, nat_le, Bool, List, length, take, drop, codes, slice_index, Option, Some, None, take_while, if◌then◌else◌}
use Rattle.std.specs.List.{suffix_len}
use Rattle.byte_kit.specs.Classes.{is_one_of, url_class, host_class}
use Rattle.sbuf_nest.specs.Around.{Around}
use Rattle.scan_url.specs.Url.{starts_caseless}
use Rattle.scan_url.specs.declared.url.TheConstants.{URL_MOST, HOST_MOST}

-- the bytes end with a word in lower case, whatever the case of their letters
abbrev pub ends_caseless : List ℕ → List ℕ → Bool
ends_caseless word bytes =
    nat_le (length word) (length bytes) && starts_caseless word (drop (length bytes - length word) bytes)

-- the bytes end with `http://`, `https://` or `ftp://` in any case
unfoldable pub ends_with_scheme : List ℕ → Bool
ends_with_scheme bytes =
    ends_caseless (codes "http://") bytes || ends_caseless (codes "https://") bytes || ends_caseless (codes "ftp://") bytes

-- a byte of a URL's authority: any but `/`, `?` and `#`
abbrev pub authority_class : ℕ → Bool
authority_class byte = url_class byte && not (is_one_of (codes "/?#") byte)

-- the host without the dots at its end
abbrev pub without_dots : List ℕ → List ℕ
without_dots host = take (length host - suffix_len (λ byte. byte == 46) host) host

-- a host with a dot in it, but none in front
abbrev pub is_domain : List ℕ → Bool
is_domain host = nat_lt 0 (length host) && not (slice_index host 0 == 46) && is_one_of host 46

-- the length of the domain at the place: the host, of at most 253 bytes, in an authority without `@`
unfoldable pub domain_of : Around → Option ℕ
domain_of look =
    let authority = take URL_MOST (take_while authority_class look.after) in
    let host = without_dots (take HOST_MOST (take_while host_class look.after)) in
    if ends_with_scheme look.before && not (is_one_of authority 64) && is_domain host then Some (length host) else None
