-- The marks of a place say its shapes.
use Rattle.std.proofs.Common.{◌≡◌, ◌∙◌, ℕ, Bool, true, false, ◌+◌, List, [], ◌∷◌, ◌++◌, map, sym, ap, refl, subst, Option, Some, None, append_assoc}
use Rattle.std.specs.Prelude.{option_map, flat_map, if◌then◌else◌}
use Rattle.std.proofs.lemmas.List.{map-append}
use Rattle.forensic_path.specs.declared.feature.Kind.TheVariants.{Url, Domain, Ip, Ether, Exec, Unread, Find, Word}
use Rattle.forensic_path.specs.declared.scanner.Scanner.TheVariants as scanner
use Rattle.forensic_path.specs.Scanners.{is_on}
use Rattle.sbuf_nest.specs.Around.{Around}
use Rattle.sbuf_nest.specs.Marks.{marked}
use Rattle.sbuf_nest.specs.declared.mark.Mark.{Mark}
use Rattle.scan_url.specs.Url.{url_of}
use Rattle.scan_url.specs.Domain.{domain_of}
use Rattle.scan_net.specs.Marks.{address_marks}
use Rattle.scan_net.specs.Packet.{Addresses, ip_of, ether_of}
use Rattle.scan_exec.specs.Exec.{Header, exec_of, unread_of}
use Rattle.scan_find.specs.Find.{keyword_of, pattern_of}
use Rattle.scan_find.specs.Marks.{numbered_marks, given_marks}
use Rattle.scan_find.specs.declared.TheConstants.{KEYWORDS_MOST}
use Rattle.scan_wordlist.specs.Word.{word_of}
use Rattle.scan_set.specs.Marks.{urls_at, packets_at, execs_at, given_at, words_at, marks_at, shape_of}
use Rattle.scan_set.specs.Shapes.{Shape, when, bytes_shape, address_shapes, header_shape, shapes}
use Rattle.scan_set.specs.declared.plan.ScanPlan.{ScanPlan}

-- a shape and its place
pub record Sited : Type 0 where
  pub at : ℕ
  pub shape : Shape

abbrev pub said : Around → Mark → Sited
said look mark = record { at = mark.at; shape = shape_of look mark }

abbrev pub sited : ℕ → Shape → Sited
sited place shape = record { at = place; shape = shape }

-- the marks say these shapes in order, each at the place
abbrev pub Says : Around → ℕ → List Mark → List Shape → Type 0
Says look place marks found = map (said look) marks ≡ map (sited place) found

module _ (look : Around) (place : ℕ) where
  -- those of one search, then those of the next ones
  pub says_more : (marks more : List Mark) (a b : List Shape) → Says look place marks a → Says look place more b →
      Says look place (marks ++ more) (a ++ b)
  says_more marks more a b p q =
      map-append (said look) marks more ∙ ap (λ front. front ++ map (said look) more) p ∙ ap (λ back. map (sited place) a ++ back) q
      ∙ sym (map-append (sited place) a b)

  -- those of a scanner, where it is on
  says_when : (on : Bool) (marks : List Mark) (found : List Shape) → Says look place marks found →
      Says look place (if on then marks else []) (when on found)
  says_when true marks found says = says
  says_when false marks found says = refl

  -- ---- each kind

  url_says : (url : Option ℕ) → Says look place (marked Url 0 place url) (bytes_shape Url look url)
  url_says None = refl
  url_says (Some n) = refl

  domain_says : (domain : Option ℕ) → Says look place (marked Domain 0 place domain) (bytes_shape Domain look domain)
  domain_says None = refl
  domain_says (Some n) = refl

  ip_says : (ip : Option Addresses) → ip_of look ≡ ip → Says look place (address_marks Ip place ip) (address_shapes Ip ip)
  ip_says None is = refl
  ip_says (Some found) is = rw is refl

  ether_says : (ether : Option Addresses) → ether_of look ≡ ether → Says look place (address_marks Ether place ether) (address_shapes Ether ether)
  ether_says None is = refl
  ether_says (Some found) is = rw is refl

  numbered_says : (which : ℕ) (found : Option ℕ) → Says look place (marked Find which place found) (bytes_shape Find look found)
  numbered_says which None = refl
  numbered_says which (Some n) = refl

  word_says : (word : Option ℕ) → Says look place (marked Word 0 place word) (bytes_shape Word look word)
  word_says None = refl
  word_says (Some n) = refl

  exec_says : (exec : Option Header) → exec_of look ≡ exec →
      Says look place (marked Exec 0 place (option_map (λ header. header.extent) exec)) (header_shape Exec exec)
  exec_says None is = refl
  exec_says (Some found) is = rw is refl

  unread_says : (unread : Option Header) → unread_of look ≡ unread →
      Says look place (marked Unread 0 place (option_map (λ header. header.extent) unread)) (header_shape Unread unread)
  unread_says None is = refl
  unread_says (Some found) is = rw is refl

  -- things of a list, each by its number
  numbered_say : {A : Type 0} (extent : A → Option ℕ) (which : ℕ) (things : List A) →
      Says look place (numbered_marks extent which things place) (flat_map (λ thing. bytes_shape Find look (extent thing)) things)
  unfolding numbered_marks
  numbered_say extent which [] = refl
  numbered_say extent which (thing ∷ things) =
      says_more _ _ _ _ (numbered_says which (extent thing)) (numbered_say extent (which + 1) things)

  -- keywords and patterns, where they are looked for
  given_says : (on : Bool) (keywords : List (List ℕ)) (patterns : List (List ℕ → Option ℕ)) →
      Says look place (if on then given_marks keywords patterns look place else [])
      (when on (flat_map (λ keyword. bytes_shape Find look (keyword_of keyword look)) keywords)
      ++ when on (flat_map (λ pattern. bytes_shape Find look (pattern_of pattern look)) patterns))
  given_says true keywords patterns =
      says_more _ _ _ _ (numbered_say (λ keyword. keyword_of keyword look) 0 keywords)
      (numbered_say (λ pattern. pattern_of pattern look) KEYWORDS_MOST patterns)
  given_says false keywords patterns = refl

-- ---- each search

module _ (plan : ScanPlan) (look : Around) (place : ℕ) where
  abbrev pub url_shapes : List Shape
  url_shapes =
      when (is_on plan.scanners scanner.Url) (bytes_shape Url look (url_of look))
      ++ when (is_on plan.scanners scanner.Domain) (bytes_shape Domain look (domain_of look))

  abbrev pub packet_shapes : List Shape
  packet_shapes = when (is_on plan.scanners scanner.Net) (address_shapes Ip (ip_of look) ++ address_shapes Ether (ether_of look))

  abbrev pub exec_shapes : List Shape
  exec_shapes =
      when (is_on plan.scanners scanner.Exec) (header_shape Exec (exec_of look))
      ++ when (is_on plan.scanners scanner.Unread) (header_shape Unread (unread_of look))

  pub urls_say : Says look place (urls_at plan look place) url_shapes
  urls_say =
      says_more look place _ _ _ _ (says_when look place (is_on plan.scanners scanner.Url) _ _ (url_says look place (url_of look)))
      (says_when look place (is_on plan.scanners scanner.Domain) _ _ (domain_says look place (domain_of look)))

  pub packets_say : Says look place (packets_at plan look place) packet_shapes
  packets_say =
      says_when look place (is_on plan.scanners scanner.Net) _ _
      (says_more look place _ _ _ _ (ip_says look place (ip_of look) refl) (ether_says look place (ether_of look) refl))

  pub execs_say : Says look place (execs_at plan look place) exec_shapes
  execs_say =
      says_more look place _ _ _ _ (says_when look place (is_on plan.scanners scanner.Exec) _ _ (exec_says look place (exec_of look) refl))
      (says_when look place (is_on plan.scanners scanner.Unread) _ _ (unread_says look place (unread_of look) refl))

  abbrev pub word_shapes : List Shape
  word_shapes = when (is_on plan.scanners scanner.Word) (bytes_shape Word look (word_of plan.word_min plan.word_max look))

  pub words_say : Says look place (words_at plan look place) word_shapes
  words_say = says_when look place (is_on plan.scanners scanner.Word) _ _ (word_says look place (word_of plan.word_min plan.word_max look))

  module _ (patterns : List (List ℕ → Option ℕ)) where
    abbrev keyword_shapes : List Shape
    keyword_shapes =
        when (is_on plan.scanners scanner.Find) (flat_map (λ keyword. bytes_shape Find look (keyword_of keyword look)) plan.keywords)

    abbrev pattern_shapes : List Shape
    pattern_shapes = when (is_on plan.scanners scanner.Find) (flat_map (λ pattern. bytes_shape Find look (pattern_of pattern look)) patterns)

    abbrev pub given_shapes : List Shape
    given_shapes = keyword_shapes ++ pattern_shapes

    pub given_say : Says look place (given_at patterns plan look place) given_shapes
    given_say = given_says look place (is_on plan.scanners scanner.Find) plan.keywords patterns

    -- the marks of a place are all of its shapes
    pub marks_say : Says look place (marks_at patterns plan look place) (shapes patterns plan look)
    unfolding shapes
    marks_say =
        let ahead = url_shapes ++ packet_shapes in
        let exec = when (is_on plan.scanners scanner.Exec) (header_shape Exec (exec_of look)) in
        let unread = when (is_on plan.scanners scanner.Unread) (header_shape Unread (unread_of look)) in
        let same : ((((ahead ++ exec) ++ unread) ++ keyword_shapes) ++ pattern_shapes) ++ word_shapes
        ≡ ((ahead ++ exec_shapes) ++ given_shapes) ++ word_shapes =
        ap (λ front. ((front ++ keyword_shapes) ++ pattern_shapes) ++ word_shapes) (append_assoc ahead exec unread)
        ∙ ap (λ front. front ++ word_shapes) (append_assoc (ahead ++ exec_shapes) keyword_shapes pattern_shapes) in
        subst (Says look place (marks_at patterns plan look place)) (sym same)
        (says_more look place _ _ _ _
        (says_more look place _ _ _ _ (says_more look place _ _ _ _ (says_more look place _ _ _ _ urls_say packets_say) execs_say) given_say) words_say)
