-- Where a line has TABs: none stands in a path or in an escape, so the first two keep its parts apart.
use Rattle.std.specs.Prelude.{ℕ, ◌≡◌, ◌≢◌, ◌/◌, ◌%◌, ◌<◌, ◌^◌, Bool, true, false, cond, List, [], ◌∷◌, ◌++◌, flat_map, codes, All, nat_lt, refl}
use Rattle.std.specs.List.{list_all}
use Rattle.std.specs.Fmt.{decimal}
use Rattle.std.proofs.Common.{sym, ◌∙◌, ap, subst, arith, get_or, append_assoc}
use Rattle.std.proofs.lemmas.Fmt.{decimal_is_IsNumeral}
use Rattle.std.proofs.lemmas.Str.Parse.{digit_at}
use Rattle.std.proofs.lemmas.List.{get_or_default}
use Rattle.std.proofs.lemmas.List.Sums.{AllPass-from_list_all}
use Rattle.std.proofs.lemmas.List.Elements.{All-nil, All-cons, All-append, All-tail}
use Rattle.std.proofs.lemmas.Bool.Decides.{nat_tests}
use Rattle.forensic_path.specs.PathText.{decoder_text, step_text, path_text_of}
use Rattle.forensic_path.specs.Grammar.{IsLawful, IsLawfulDecoder, IsLawfulStep}
use Rattle.forensic_path.specs.declared.path.Decoder.{Decoder}
use Rattle.forensic_path.specs.declared.path.Decoder.TheVariants.{Base64, Hex, Utf16, Xor}
use Rattle.forensic_path.specs.declared.path.Step.{Step}
use Rattle.forensic_path.specs.declared.path.Path.{Path}
use Rattle.byte_kit.specs.Classes.{printable_class}
use Rattle.forensic_path.proofs.OnePath.{path_same}
use Rattle.feature_escape.specs.Escape.{AreBytes, escape_of, escaped, hex_capital, stands, unescape_lenient_of}
use Rattle.feature_escape.proofs.LenientLaw.{lenient_undoes}
use Rattle.feature_file.specs.FeatureFile.{line_of}
use Rattle.feature_file.specs.Lines.{HasNoTab, IsCutAtTab, IsLine, IsNoLine}

abbrev IsNoTab : ℕ → Type 0
IsNoTab byte = byte ≢ 9

-- ---- paths

decimal_has_none : (n : ℕ) → n < 2 ^ 64 → HasNoTab (decimal n)
decimal_has_none n small k d below is =
    let digit = digit_at (decimal n) k (decimal_is_IsNumeral n small).0.1 below in
    absurd (omega (arith, digit, get_or_default (decimal n) k d 0 below, is))

letters_have_none : (bytes : List ℕ) → list_all (λ byte. nat_lt 9 byte) bytes ≡ true → HasNoTab bytes
letters_have_none bytes above k d below is =
    let test : nat_lt 9 (get_or bytes k d) ≡ true = AllPass-from_list_all (λ byte. nat_lt 9 byte) bytes above k d below in
    absurd (grind (arith, nat_tests, test, is))

decoder_has_none : (decoder : Decoder) → IsLawfulDecoder decoder → HasNoTab (decoder_text decoder)
decoder_has_none Base64 lawful = letters_have_none (codes "BASE64") refl
decoder_has_none Hex lawful = letters_have_none (codes "HEX") refl
decoder_has_none Utf16 lawful = letters_have_none (codes "UTF16") refl
decoder_has_none (Xor mask) lawful =
    All-append IsNoTab (codes "XOR") (decimal mask) (letters_have_none (codes "XOR") refl) (decimal_has_none mask (omega (arith, lawful.1)))

dash_has_none : HasNoTab (codes "-")
dash_has_none = letters_have_none (codes "-") refl

step_has_none : (s : Step) → IsLawfulStep s → HasNoTab (step_text s)
step_has_none s lawful =
    All-append IsNoTab (codes "-" ++ decoder_text s.by ++ codes "-") (decimal s.at)
    (All-append IsNoTab (codes "-" ++ decoder_text s.by) (codes "-")
    (All-append IsNoTab (codes "-") (decoder_text s.by) dash_has_none (decoder_has_none s.by lawful.decoder)) dash_has_none)
    (decimal_has_none s.at lawful.place)

steps_have_none : (steps : List Step) → All IsLawfulStep steps → HasNoTab (flat_map step_text steps)
steps_have_none [] lawful = All-nil IsNoTab
steps_have_none (s ∷ steps) lawful =
    All-append IsNoTab (step_text s) (flat_map step_text steps) (step_has_none s (lawful 0 s (omega arith)))
    (steps_have_none steps (All-tail IsLawfulStep s steps lawful))

path_has_none : (path : Path) → IsLawful path → HasNoTab (path_text_of path)
unfolding path_text_of
path_has_none path lawful =
    All-append IsNoTab (decimal path.top) (flat_map step_text path.steps) (decimal_has_none path.top lawful.top)
    (steps_have_none path.steps lawful.steps)

-- ---- escapes

digit_is_none : (digit : ℕ) → IsNoTab (hex_capital digit)
digit_is_none digit is = grind (arith, nat_tests, is)

tab_is_escaped : (byte : ℕ) → stands byte ≡ true → IsNoTab byte
unfolding printable_class
tab_is_escaped byte stand is =
    let none : stands 9 ≡ true = ap stands (sym is) ∙ stand in cc

byte_has_none : (byte : ℕ) (b : Bool) → stands byte ≡ b
    → HasNoTab (cond b (byte ∷ []) (92 ∷ 120 ∷ hex_capital (byte / 16) ∷ hex_capital (byte % 16) ∷ []))
byte_has_none byte true stand = All-cons IsNoTab byte [] (tab_is_escaped byte stand) (All-nil IsNoTab)
byte_has_none byte false stand =
    let high = hex_capital (byte / 16) in
    let low = hex_capital (byte % 16) in
    All-append IsNoTab (codes "\\x") (high ∷ low ∷ []) (letters_have_none (codes "\\x") refl)
    (All-cons IsNoTab high (low ∷ []) (digit_is_none (byte / 16)) (All-cons IsNoTab low [] (digit_is_none (byte % 16)) (All-nil IsNoTab)))

escape_has_none : (bytes : List ℕ) → HasNoTab (escape_of bytes)
unfolding escape_of
escape_has_none [] = All-nil IsNoTab
escape_has_none (byte ∷ bytes) =
    All-append IsNoTab (escaped byte) (escape_of bytes) (byte_has_none byte (stands byte) refl) (escape_has_none bytes)

-- ---- cuts

head_same : {x y : ℕ} {xs ys : List ℕ} → x ∷ xs ≡ y ∷ ys → x ≡ y
head_same {x} {y} {xs} {ys} e = cc

tail_same : {x y : ℕ} {xs ys : List ℕ} → x ∷ xs ≡ y ∷ ys → xs ≡ ys
tail_same {x} {y} {xs} {ys} e = cc

-- a text has one first TAB
cut_same : (a b x y : List ℕ) → HasNoTab a → HasNoTab b → a ++ 9 ∷ x ≡ b ++ 9 ∷ y → (a ≡ b) × (x ≡ y)
cut_same [] [] x y na nb e = (refl, tail_same e)
cut_same [] (c ∷ b) x y na nb e = absurd (nb 0 0 (omega arith) (sym (head_same e)))
cut_same (c ∷ a) [] x y na nb e = absurd (na 0 0 (omega arith) (head_same e))
cut_same (c ∷ a) (d ∷ b) x y na nb e =
    let rest = cut_same a b x y (All-tail IsNoTab c a na) (All-tail IsNoTab d b nb) (tail_same e) in
    let first : c ≡ d = head_same e in
    let last = rest.0 in
    (cc, rest.1)

has_one : (a x : List ℕ) → HasNoTab (a ++ 9 ∷ x) → ⊥
has_one [] x none = none 0 0 (omega arith) refl
has_one (c ∷ a) x none = has_one a x (All-tail IsNoTab c (a ++ 9 ∷ x) none)

-- ---- lines

line_parts : (path : Path) (feature context : List ℕ)
    → line_of path feature context ≡ path_text_of path ++ 9 ∷ (escape_of feature ++ 9 ∷ escape_of context)
unfolding line_of
line_parts path feature context = simp append_assoc

-- a text without a TAB is no line
pub no_first : (text : List ℕ) → HasNoTab text → IsNoLine text
no_first text none path feature context line =
    has_one (path_text_of path) (escape_of feature ++ 9 ∷ escape_of context)
    (subst HasNoTab (sym line.is ∙ line_parts path feature context) none)

-- a line's first TAB stands behind its path
front_of : {text place rest : List ℕ} (path : Path) (feature context : List ℕ) → IsCutAtTab text place rest → IsLine path feature context text
    → (path_text_of path ≡ place) × (escape_of feature ++ 9 ∷ escape_of context ≡ rest)
front_of {text} {place} {rest} path feature context cut line =
    cut_same (path_text_of path) place (escape_of feature ++ 9 ∷ escape_of context) rest
    (path_has_none path line.lawful) cut.first (sym (line_parts path feature context) ∙ (line.is ∙ cut.whole))

-- nor is one without a second
pub no_second : {text place rest : List ℕ} → IsCutAtTab text place rest → HasNoTab rest → IsNoLine text
no_second {text} {place} {rest} cut none path feature context line =
    has_one (escape_of feature) (escape_of context) (subst HasNoTab (sym (front_of path feature context cut line).1) none)

-- and the second stands behind the feature
pub record HasParts (path : Path) (feature context place text around : List ℕ) : Type 0 where
  pub place_is : path_text_of path ≡ place
  pub text_is : escape_of feature ≡ text
  pub around_is : escape_of context ≡ around

pub parts_of : {line place rest text around : List ℕ} (path : Path) (feature context : List ℕ) → IsCutAtTab line place rest
    → IsCutAtTab rest text around → IsLine path feature context line → HasParts path feature context place text around
parts_of {line} {place} {rest} {text} {around} path feature context first second is =
    let front = front_of path feature context first is in
    let back = cut_same (escape_of feature) text (escape_of context) around (escape_has_none feature) second.first (front.1 ∙ second.whole) in
    record { place_is = front.0; text_is = back.0; around_is = back.1 }

-- such parts make up a line
pub whole_of : {line place rest text around : List ℕ} (path : Path) (feature context : List ℕ) → IsCutAtTab line place rest
    → IsCutAtTab rest text around → HasParts path feature context place text around → line_of path feature context ≡ line
whole_of {line} {place} {rest} {text} {around} path feature context first second parts =
    let behind : escape_of feature ++ 9 ∷ escape_of context ≡ rest = rw (parts.text_is, parts.around_is) (sym second.whole) in
    line_parts path feature context ∙ (rw (parts.place_is, behind) (sym first.whole))

-- ---- what is read back

escape_same : (a b : List ℕ) → AreBytes a → AreBytes b → escape_of a ≡ escape_of b → a ≡ b
escape_same a b small_a small_b same = sym (lenient_undoes a small_a) ∙ (ap unescape_lenient_of same ∙ lenient_undoes b small_b)

-- the parts of a line are those of one path, feature and context
pub parts_same : {place text around : List ℕ} (p q : Path) (f g c d : List ℕ) → IsLawful p → IsLawful q → AreBytes f → AreBytes g
    → AreBytes c → AreBytes d → HasParts p f c place text around → HasParts q g d place text around
    → (p ≡ q) × (f ≡ g) × (c ≡ d)
parts_same {place} p q f g c d lp lq small_f small_g small_c small_d one other = (
  path_same p q place (record { lawful = lp; is = one.place_is }) (record { lawful = lq; is = other.place_is }),
  escape_same f g small_f small_g (one.text_is ∙ sym other.text_is),
  escape_same c d small_c small_d (one.around_is ∙ sym other.around_is),
)
