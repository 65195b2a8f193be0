-- A text is that of one path at most: its parts have no dash, so they end where the next dash stands.
use Rattle.std.specs.Prelude.{ℕ, ◌≡◌, ◌≢◌, ◌<◌, ◌^◌, List, [], ◌∷◌, ◌++◌, length, flat_map, codes, All, true, nat_lt, refl}
use Rattle.std.specs.List.{list_all}
use Rattle.std.proofs.Common.{sym, ◌∙◌, ap, arith, append_assoc, append-nil, get_or}
use Rattle.std.specs.Fmt.{decimal}
use Rattle.std.proofs.lemmas.Fmt.{decimal_is_IsNumeral, decimal_injective}
use Rattle.std.proofs.lemmas.Str.Parse.{digit_at}
use Rattle.std.proofs.lemmas.List.{get_or_default}
use Rattle.std.proofs.lemmas.List.Sums.{AllPass-from_list_all}
use Rattle.std.proofs.lemmas.Bool.Decides.{nat_tests}
use Rattle.std.proofs.lemmas.List.Elements.{All-append, All-tail}
use Rattle.forensic_path.specs.PathText.{decoder_text, step_text, path_text_of}
use Rattle.forensic_path.specs.Parts.{IsPart, FollowsPart, IsCut}
use Rattle.forensic_path.specs.Grammar.{IsLawfulDecoder, IsLawfulStep, HaveText, HasText}
use Rattle.forensic_path.specs.declared.path.Decoder.{Decoder}
use Rattle.forensic_path.specs.declared.path.Decoder.TheVariants.{Base64, Hex, Utf16, Xor}
use Rattle.forensic_path.specs.declared.path.Step.{Step}
use Rattle.forensic_path.specs.declared.path.Path.{Path}

-- ---- parts

abbrev IsNoDash : ℕ → Type 0
IsNoDash byte = byte ≢ 45

-- a decimal has no dash
pub IsPart-decimal : (n : ℕ) → n < 2 ^ 64 → IsPart (decimal n)
IsPart-decimal n small k d below is =
    let digit = digit_at (decimal n) k (decimal_is_IsNumeral n small).0.1 below in
    absurd (omega (arith, digit, get_or_default (decimal n) k d 0 below, is))

-- letters have none
IsPart-letters : (bytes : List ℕ) → list_all (λ byte. nat_lt 45 byte) bytes ≡ true → IsPart bytes
IsPart-letters bytes above k d below is =
    let test : nat_lt 45 (get_or bytes k d) ≡ true = AllPass-from_list_all (λ byte. nat_lt 45 byte) bytes above k d below in
    absurd (grind (arith, nat_tests, test, is))

-- and a decoder has none
pub IsPart-decoder : (decoder : Decoder) → IsLawfulDecoder decoder → IsPart (decoder_text decoder)
IsPart-decoder Base64 lawful = IsPart-letters (codes "BASE64") refl
IsPart-decoder Hex lawful = IsPart-letters (codes "HEX") refl
IsPart-decoder Utf16 lawful = IsPart-letters (codes "UTF16") refl
IsPart-decoder (Xor mask) lawful =
    All-append IsNoDash (codes "XOR") (decimal mask) (IsPart-letters (codes "XOR") refl) (IsPart-decimal mask (omega (arith, lawful.1)))

head_same : {x y : ℕ} {xs ys : List ℕ} → x ∷ xs ≡ y ∷ ys → x ≡ y
head_same {x} {y} {xs} {ys} e = cc

tail_same : {x y : ℕ} {xs ys : List ℕ} → x ∷ xs ≡ y ∷ ys → xs ≡ ys
tail_same {x} {y} {xs} {ys} e = cc

-- two texts that begin with a part each have one part and one rest
pub part_same : (a b x y : List ℕ) → IsPart a → IsPart b → FollowsPart x → FollowsPart y → a ++ x ≡ b ++ y
    → (a ≡ b) × (x ≡ y)
part_same [] [] x y pa pb fx fy e = (refl, e)
part_same [] (c ∷ b) [] y pa pb fx fy e = cc
part_same [] (c ∷ b) (h ∷ x) y pa pb fx fy e = absurd (pb 0 0 (omega arith) (sym (head_same e) ∙ fx))
part_same (c ∷ a) [] x [] pa pb fx fy e = cc
part_same (c ∷ a) [] x (h ∷ y) pa pb fx fy e = absurd (pa 0 0 (omega arith) (head_same e ∙ fy))
part_same (c ∷ a) (h ∷ b) x y pa pb fx fy e =
    let rest = part_same a b x y (All-tail IsNoDash c a pa) (All-tail IsNoDash h b pb) fx fy (tail_same e) in
    let first : c ≡ h = head_same e in
    let last = rest.0 in
    (cc, rest.1)

-- ---- steps

pub decoder_same : (a b : Decoder) → IsLawfulDecoder a → IsLawfulDecoder b → decoder_text a ≡ decoder_text b → a ≡ b
decoder_same Base64 Base64 la lb e = refl
decoder_same Hex Hex la lb e = refl
decoder_same Utf16 Utf16 la lb e = refl
decoder_same (Xor m) (Xor n) la lb e =
    let digits : decimal m ≡ decimal n = tail_same (tail_same (tail_same e)) in
    ap Xor (decimal_injective m n (omega (arith, la.1)) (omega (arith, lb.1)) digits)
decoder_same Base64 Hex la lb e = absurd (omega (arith, head_same e))
decoder_same Base64 Utf16 la lb e = absurd (omega (arith, head_same e))
decoder_same Base64 (Xor n) la lb e = absurd (omega (arith, head_same e))
decoder_same Hex Base64 la lb e = absurd (omega (arith, head_same e))
decoder_same Hex Utf16 la lb e = absurd (omega (arith, head_same e))
decoder_same Hex (Xor n) la lb e = absurd (omega (arith, head_same e))
decoder_same Utf16 Base64 la lb e = absurd (omega (arith, head_same e))
decoder_same Utf16 Hex la lb e = absurd (omega (arith, head_same e))
decoder_same Utf16 (Xor n) la lb e = absurd (omega (arith, head_same e))
decoder_same (Xor m) Base64 la lb e = absurd (omega (arith, head_same e))
decoder_same (Xor m) Hex la lb e = absurd (omega (arith, head_same e))
decoder_same (Xor m) Utf16 la lb e = absurd (omega (arith, head_same e))

step_parts : (s : Step) (x : List ℕ) → step_text s ++ x ≡ 45 ∷ (decoder_text s.by ++ (45 ∷ (decimal s.at ++ x)))
step_parts s x = simp append_assoc

-- the name of the step at the front of a text, and what follows the name
pub step_front : {name after behind text : List ℕ} (step : Step) (rest : List ℕ) → IsLawfulStep step
    → text ≡ 45 ∷ behind → IsCut behind name after → text ≡ step_text step ++ rest
    → (decoder_text step.by ≡ name) × (45 ∷ (decimal step.at ++ rest) ≡ after)
step_front {name} {after} step rest lawful dash cut is =
    part_same (decoder_text step.by) name (45 ∷ (decimal step.at ++ rest)) after
    (IsPart-decoder step.by lawful.decoder) cut.part refl cut.follows
    (tail_same (sym (step_parts step rest) ∙ (sym is ∙ dash)) ∙ cut.whole)

-- and its place, where a part stands behind the next dash
pub place_front : {place after behind text : List ℕ} (step : Step) (rest : List ℕ) → IsLawfulStep step → FollowsPart rest
    → 45 ∷ (decimal step.at ++ rest) ≡ text → text ≡ 45 ∷ behind → IsCut behind place after → decimal step.at ≡ place
place_front {place} {after} step rest lawful follows is dash cut =
    (part_same (decimal step.at) place rest after (IsPart-decimal step.at lawful.place) cut.part follows cut.follows
    (tail_same (is ∙ dash) ∙ cut.whole)).0

step_of : (a b : Decoder) (m n : ℕ) → a ≡ b → m ≡ n → ◌≡◌ {A = Step} (record { by = a; at = m }) (record { by = b; at = n })
step_of a b m n by at = cc

pub step_same : (s t : Step) (x y : List ℕ) → IsLawfulStep s → IsLawfulStep t → FollowsPart x → FollowsPart y
    → step_text s ++ x ≡ step_text t ++ y → (s ≡ t) × (x ≡ y)
step_same s t x y ls lt fx fy e =
    let parts : 45 ∷ (decoder_text s.by ++ (45 ∷ (decimal s.at ++ x))) ≡ 45 ∷ (decoder_text t.by ++ (45 ∷ (decimal t.at ++ y))) =
    sym (step_parts s x) ∙ (e ∙ step_parts t y) in
    let names = part_same (decoder_text s.by) (decoder_text t.by) (45 ∷ (decimal s.at ++ x)) (45 ∷ (decimal t.at ++ y))
    (IsPart-decoder s.by ls.decoder) (IsPart-decoder t.by lt.decoder) refl refl (tail_same parts) in
    let places = part_same (decimal s.at) (decimal t.at) x y (IsPart-decimal s.at ls.place) (IsPart-decimal t.at lt.place) fx fy
    (tail_same names.1) in
    let by : s.by ≡ t.by = decoder_same s.by t.by ls.decoder lt.decoder names.0 in
    let at : s.at ≡ t.at = decimal_injective s.at t.at ls.place lt.place places.0 in
    (step_of s.by t.by s.at t.at by at, places.1)

-- what steps have as text follows a part, and so does what stands behind it
pub follows_steps : (steps : List Step) (rest : List ℕ) → FollowsPart rest → FollowsPart (flat_map step_text steps ++ rest)
follows_steps [] rest follows = follows
follows_steps (step ∷ steps) rest follows = refl

pub steps_follow : (steps : List Step) → FollowsPart (flat_map step_text steps)
steps_follow [] = tt
steps_follow (step ∷ steps) = refl

-- steps whose text begins with that of others begin with those
pub record Continues (done all : List Step) (rest : List ℕ) : Type 0 where
  pub more : List Step
  pub lawful : All IsLawfulStep more
  pub joined : all ≡ done ++ more
  pub text : flat_map step_text more ≡ rest

pub steps_continue : (done all : List Step) (rest : List ℕ) → All IsLawfulStep done → All IsLawfulStep all → FollowsPart rest
    → flat_map step_text done ++ rest ≡ flat_map step_text all → Continues done all rest
steps_continue [] all rest ld la follows e = record { more = all; lawful = la; joined = refl; text = sym e }
steps_continue (d ∷ done) [] rest ld la follows e = absurd (omega (arith, ap length e))
steps_continue (d ∷ done) (s ∷ all) rest ld la follows e =
    let first : step_text d ++ (flat_map step_text done ++ rest) ≡ step_text s ++ flat_map step_text all =
    sym (append_assoc (step_text d) (flat_map step_text done) rest) ∙ e in
    let same = step_same d s (flat_map step_text done ++ rest) (flat_map step_text all)
    (ld 0 d (omega arith)) (la 0 s (omega arith)) (follows_steps done rest follows) (steps_follow all) first in
    let after = steps_continue done all rest (All-tail IsLawfulStep d done ld) (All-tail IsLawfulStep s all la) follows same.1 in
    let step : d ≡ s = same.0 in
    let back : all ≡ done ++ after.more = after.joined in
    record { more = after.more; lawful = after.lawful; joined = cc; text = after.text }

-- no more steps where no text is left
pub no_more : (steps : List Step) → flat_map step_text steps ≡ [] → steps ≡ []
no_more [] e = refl
no_more (s ∷ steps) e = absurd (omega (arith, ap length e))

-- so a text is that of one list of steps at most
pub steps_same : (a b : List Step) (text : List ℕ) → HaveText a text → HaveText b text → a ≡ b
steps_same a b text ha hb =
    let whole : flat_map step_text b ++ [] ≡ flat_map step_text a = append-nil (flat_map step_text b) ∙ (hb.is ∙ sym ha.is) in
    let all = steps_continue b a [] hb.lawful ha.lawful tt whole in
    all.joined ∙ (ap (λ (more : List Step). b ++ more) (no_more all.more all.text) ∙ append-nil b)

-- a path's text begins with its top, and the rest is its steps' text
pub path_front : {text front rest : List ℕ} (path : Path) → IsCut text front rest → HasText path text
    → (decimal path.top ≡ front) × HaveText path.steps rest
unfolding path_text_of
path_front {text} {front} {rest} path cut has =
    let same = part_same (decimal path.top) front (flat_map step_text path.steps) rest
    (IsPart-decimal path.top has.lawful.top) cut.part (steps_follow path.steps) cut.follows (has.is ∙ cut.whole) in
    (same.0, record { lawful = has.lawful.steps; is = same.1 })

-- and a top and steps make up a path
pub path_whole : {text front rest : List ℕ} (top : ℕ) (steps : List Step) → top < 2 ^ 64 → decimal top ≡ front
    → HaveText steps rest → IsCut text front rest → HasText (record { top = top; steps = steps }) text
unfolding path_text_of
path_whole top steps small is have cut = record {
  lawful = record { top = small; steps = have.lawful };
  is = rw (is, have.is) (sym cut.whole);
}

pub path_of : (m n : ℕ) (a b : List Step) → m ≡ n → a ≡ b → ◌≡◌ {A = Path} (record { top = m; steps = a }) (record { top = n; steps = b })
path_of m n a b top steps = cc

-- so a text is that of one path at most
pub path_same : (a b : Path) (text : List ℕ) → HasText a text → HasText b text → a ≡ b
unfolding path_text_of
path_same a b text ha hb =
    let cut : IsCut text (decimal b.top) (flat_map step_text b.steps) =
    record { whole = sym hb.is; part = IsPart-decimal b.top hb.lawful.top; follows = steps_follow b.steps } in
    let front = path_front a cut ha in
    let top = decimal_injective a.top b.top ha.lawful.top hb.lawful.top front.0 in
    let steps = steps_same a.steps b.steps (flat_map step_text b.steps) front.1 (record { lawful = hb.lawful.steps; is = refl }) in
    path_of a.top b.top a.steps b.steps top steps
