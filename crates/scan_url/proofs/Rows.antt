-- Worked rows of the shapes, as laws that compute.
use Rattle.std.proofs.Common.{◌≡◌, ℕ, true, false, List, [], ◌∷◌, ◌++◌, refl, Option, Some, None, codes, replicate}
use Rattle.byte_kit.specs.Classes.{url_class, host_class}
use Rattle.forensic_path.specs.declared.feature.Kind.{Kind}
use Rattle.forensic_path.specs.declared.feature.Kind.TheVariants.{Url, Domain}
use Rattle.sbuf_nest.specs.Around.{look_at}
use Rattle.sbuf_nest.specs.Marks.{marks_of}
use Rattle.sbuf_nest.specs.declared.mark.Mark.{Mark}
use Rattle.scan_url.specs.Url.{scheme_of, url_of}
use Rattle.scan_url.specs.Domain.{ends_with_scheme, domain_of}
use Rattle.scan_url.specs.Marks.{url_marks}

-- the URL that the text has at the place, and the domain
url_in : List ℕ → ℕ → Option ℕ
url_in text place = url_of (look_at text place)

domain_in : List ℕ → ℕ → Option ℕ
domain_in text place = domain_of (look_at text place)

a_url_ends_at_a_blank : url_in (codes "see http://example.com/a b") 4 ≡ Some 20
unfolding url_in url_of scheme_of url_class look_at
a_url_ends_at_a_blank = refl

no_url_begins_inside_a_scheme : url_in (codes "see http://example.com/a b") 5 ≡ None
unfolding url_in url_of scheme_of url_class look_at
no_url_begins_inside_a_scheme = refl

a_url_inside_a_url : url_in (codes "http://a.b/?u=http://c.d/") 14 ≡ Some 11
unfolding url_in url_of scheme_of url_class look_at
a_url_inside_a_url = refl

a_scheme_alone_is_no_url : url_in (codes "x ftp://") 2 ≡ None
unfolding url_in url_of scheme_of url_class look_at
a_scheme_alone_is_no_url = refl

a_scheme_and_one_byte : url_in (codes "HTTPS://X") 0 ≡ Some 9
unfolding url_in url_of scheme_of url_class look_at
a_scheme_and_one_byte = refl

a_url_ends_at_a_zero_byte : url_in (codes "ftp://a" ++ 0 ∷ codes "b") 0 ≡ Some 7
unfolding url_in url_of scheme_of url_class look_at
a_url_ends_at_a_zero_byte = refl

one_byte_below_the_limit : url_in (codes "http://" ++ replicate 2040 97) 0 ≡ Some 2047
unfolding url_in url_of scheme_of url_class look_at
one_byte_below_the_limit = refl

at_the_limit : url_in (codes "http://" ++ replicate 2041 97) 0 ≡ Some 2048
unfolding url_in url_of scheme_of url_class look_at
at_the_limit = refl

one_byte_past_the_limit : url_in (codes "http://" ++ replicate 2042 97) 0 ≡ Some 2048
unfolding url_in url_of scheme_of url_class look_at
one_byte_past_the_limit = refl

a_domain_ends_at_the_host : domain_in (codes "see http://example.com/a b") 11 ≡ Some 11
unfolding domain_in domain_of ends_with_scheme url_class host_class look_at
a_domain_ends_at_the_host = refl

no_domain_one_place_further : domain_in (codes "see http://example.com/a b") 12 ≡ None
unfolding domain_in domain_of ends_with_scheme url_class host_class look_at
no_domain_one_place_further = refl

no_domain_behind_userinfo : domain_in (codes "http://jo.doe@h.org/") 7 ≡ None
unfolding domain_in domain_of ends_with_scheme url_class host_class look_at
no_domain_behind_userinfo = refl

an_at_sign_in_the_path_is_no_userinfo : domain_in (codes "http://h.org/@") 7 ≡ Some 5
unfolding domain_in domain_of ends_with_scheme url_class host_class look_at
an_at_sign_in_the_path_is_no_userinfo = refl

dots_at_the_end_are_cut : domain_in (codes "FTP://a.b..") 6 ≡ Some 3
unfolding domain_in domain_of ends_with_scheme url_class host_class look_at
dots_at_the_end_are_cut = refl

a_host_needs_a_dot : domain_in (codes "ftp://localhost.") 6 ≡ None
unfolding domain_in domain_of ends_with_scheme url_class host_class look_at
a_host_needs_a_dot = refl

no_dot_in_front : domain_in (codes "ftp://.a.b") 6 ≡ None
unfolding domain_in domain_of ends_with_scheme url_class host_class look_at
no_dot_in_front = refl

-- the host is cut at its limit first, and then loses its dots
a_host_at_its_limit : domain_in (codes "ftp://a." ++ replicate 251 97) 6 ≡ Some 253
unfolding domain_in domain_of ends_with_scheme url_class host_class look_at
a_host_at_its_limit = refl

a_host_past_its_limit : domain_in (codes "ftp://a." ++ replicate 250 97 ++ codes ".b") 6 ≡ Some 252
unfolding domain_in domain_of ends_with_scheme url_class host_class look_at
a_host_past_its_limit = refl

mark : Kind → ℕ → ℕ → Mark
mark kind at extent = record { at = at; kind = kind; which = 0; extent = extent }

the_marks_of_a_url_inside_a_url : marks_of (url_marks true true) (codes "http://a.b/?u=http://c.d/") 0 25
    ≡ mark Url 0 25 ∷ mark Domain 7 3 ∷ mark Url 14 11 ∷ mark Domain 21 3 ∷ []
unfolding mark marks_of url_of scheme_of url_class domain_of ends_with_scheme host_class look_at
the_marks_of_a_url_inside_a_url = refl

the_marks_of_places_behind_a_scheme : marks_of (url_marks true true) (codes "http://a.b/") 7 4 ≡ mark Domain 7 3 ∷ []
unfolding mark marks_of url_of scheme_of url_class domain_of ends_with_scheme host_class look_at
the_marks_of_places_behind_a_scheme = refl

the_marks_of_the_kind_that_is_wanted : marks_of (url_marks true false) (codes "ftp://a.b") 0 9 ≡ mark Url 0 9 ∷ []
unfolding mark marks_of url_of scheme_of url_class domain_of ends_with_scheme host_class look_at
the_marks_of_the_kind_that_is_wanted = refl
