-- A record is read back from its bytes.
use Rattle.std.proofs.Common.{ℕ, ◌≡◌, ◌<◌, ◌≤◌, ◌^◌, List, [], ◌++◌, append-nil, length, drop, refl, sym, ap, ◌∙◌, slice_index, length-append, arith}
use Rattle.byte_kit.specs.Numbers.{le16, le64}
use Rattle.std.specs.List.{flat_map}
use Rattle.scan_settings.specs.declared.settings.Plan.{Plan}
use Rattle.scan_settings.specs.declared.record.Kept.{Kept}
use Rattle.scan_settings.specs.Record.{text_bytes, texts_bytes, numbers_of, record_of, IsKept}
use Rattle.scan_settings.specs.Fields.{texts_at, behind_texts, keywords_at, patterns_from, patterns_at, fields_of}
use Rattle.scan_settings.proofs.Texts.{le16_cells, le64_cells, texts_back, behind_back}

pub numbers_short : (kept : Kept) → length (numbers_of kept) ≤ 64
unfolding numbers_of
numbers_short kept = omega arith

image_at : (kept : Kept) → kept.image < 2 ^ 64 → le64 (record_of kept) 5 ≡ kept.image
unfolding record_of numbers_of
image_at kept small = le64_cells kept.image small

page_at : (kept : Kept) → kept.page < 2 ^ 64 → le64 (record_of kept) 13 ≡ kept.page
unfolding record_of numbers_of
page_at kept small = le64_cells kept.page small

stop_at : (kept : Kept) → kept.stop < 2 ^ 64 → le64 (record_of kept) 31 ≡ kept.stop
unfolding record_of numbers_of
stop_at kept small = le64_cells kept.stop small

alert_at : (kept : Kept) → kept.alert < 2 ^ 64 → le64 (record_of kept) 39 ≡ kept.alert
unfolding record_of numbers_of
alert_at kept small = le64_cells kept.alert small

scanners_at : (kept : Kept) → kept.plan.scanners < 2 ^ 16 → le16 (record_of kept) 21 ≡ kept.plan.scanners
unfolding record_of numbers_of
scanners_at kept small = le16_cells kept.plan.scanners small

depth_at : (kept : Kept) → slice_index (record_of kept) 23 ≡ kept.plan.depth
unfolding record_of numbers_of
depth_at kept = refl

mask_at : (kept : Kept) → slice_index (record_of kept) 24 ≡ kept.plan.mask
unfolding record_of numbers_of
mask_at kept = refl

word_min_at : (kept : Kept) → kept.plan.word_min < 2 ^ 16 → le16 (record_of kept) 25 ≡ kept.plan.word_min
unfolding record_of numbers_of
word_min_at kept small = le16_cells kept.plan.word_min small

word_max_at : (kept : Kept) → kept.plan.word_max < 2 ^ 16 → le16 (record_of kept) 27 ≡ kept.plan.word_max
unfolding record_of numbers_of
word_max_at kept small = le16_cells kept.plan.word_max small

context_at : (kept : Kept) → kept.plan.context < 2 ^ 16 → le16 (record_of kept) 29 ≡ kept.plan.context
unfolding record_of numbers_of
context_at kept small = le16_cells kept.plan.context small

count_at : (kept : Kept) → length kept.plan.keywords < 2 ^ 16 → le16 (record_of kept) 47 ≡ length kept.plan.keywords
unfolding record_of numbers_of
count_at kept small = le16_cells (length kept.plan.keywords) small

texts_from : (kept : Kept) → drop 49 (record_of kept) ≡ flat_map text_bytes kept.plan.keywords ++ texts_bytes kept.plan.patterns
unfolding record_of numbers_of
texts_from kept = refl

keywords_back : (kept : Kept) → IsKept kept → keywords_at (record_of kept) ≡ kept.plan.keywords
keywords_back kept is =
    let count = count_at kept (omega (arith, is.plan.few_keywords)) in
    ap (λ (n : ℕ). texts_at n (drop 49 (record_of kept))) count ∙ ap (texts_at (length kept.plan.keywords)) (texts_from kept)
    ∙ texts_back kept.plan.keywords (texts_bytes kept.plan.patterns) is.plan.keywords

patterns_stand : (kept : Kept) → IsKept kept → patterns_from (record_of kept) ≡ texts_bytes kept.plan.patterns
patterns_stand kept is =
    let count = count_at kept (omega (arith, is.plan.few_keywords)) in
    ap (λ (n : ℕ). behind_texts n (drop 49 (record_of kept))) count ∙ ap (behind_texts (length kept.plan.keywords)) (texts_from kept)
    ∙ behind_back kept.plan.keywords (texts_bytes kept.plan.patterns) is.plan.keywords

pub patterns_back : (kept : Kept) → IsKept kept → patterns_at (record_of kept) ≡ kept.plan.patterns
patterns_back kept is =
    let count : le16 (texts_bytes kept.plan.patterns) 0 ≡ length kept.plan.patterns =
    le16_cells (length kept.plan.patterns) (omega (arith, is.plan.few_patterns)) in
    let all : texts_at (length kept.plan.patterns) (flat_map text_bytes kept.plan.patterns) ≡ kept.plan.patterns =
    ap (texts_at (length kept.plan.patterns)) (sym (append-nil (flat_map text_bytes kept.plan.patterns)))
    ∙ texts_back kept.plan.patterns [] is.plan.patterns in
    ap (λ (rest : List ℕ). texts_at (le16 rest 0) (drop 2 rest)) (patterns_stand kept is)
    ∙ ap (λ (n : ℕ). texts_at n (flat_map text_bytes kept.plan.patterns)) count ∙ all

plan_is : (kept : Plan) (on deep masked least most around : ℕ) (keywords patterns : List (List ℕ)) → on ≡ kept.scanners → deep ≡ kept.depth → masked ≡ kept.mask →
    least ≡ kept.word_min → most ≡ kept.word_max → around ≡ kept.context → keywords ≡ kept.keywords → patterns ≡ kept.patterns →
    record { scanners = on; depth = deep; mask = masked; word_min = least; word_max = most; context = around; keywords = keywords; patterns = patterns } ≡ kept
plan_is kept on deep masked least most around keywords patterns a b c d e f g h = rw (a, b, c, d, e, f, g, h) refl

kept_is : (kept : Kept) (image page stop alert : ℕ) (plan : Plan) → image ≡ kept.image → page ≡ kept.page → stop ≡ kept.stop → alert ≡ kept.alert → plan ≡ kept.plan →
    record { image = image; page = page; stop = stop; alert = alert; plan = plan } ≡ kept
kept_is kept image page stop alert plan a b c d e = rw (a, b, c, d, e) refl

-- the fields of a record are what is kept
pub fields_back : (kept : Kept) → IsKept kept → fields_of (record_of kept) ≡ kept
unfolding fields_of
fields_back kept is =
    kept_is kept _ _ _ _ _ (image_at kept is.image) (page_at kept (omega (arith, is.page.1))) (stop_at kept is.stop) (alert_at kept is.alert)
    (plan_is kept.plan _ _ _ _ _ _ _ _ (scanners_at kept (omega (arith, is.plan.scanners))) (depth_at kept) (mask_at kept)
    (word_min_at kept (omega (arith, is.plan.least.1))) (word_max_at kept (omega (arith, is.plan.most.1))) (context_at kept (omega (arith, is.plan.context.1)))
    (keywords_back kept is) (patterns_back kept is))

-- a record has at least 51 bytes
pub record_long : (kept : Kept) → 51 ≤ length (record_of kept)
unfolding record_of numbers_of
record_long kept =
    let size = length-append (flat_map text_bytes kept.plan.keywords) (texts_bytes kept.plan.patterns) in
    omega (arith, size)

-- what the fields of a record are is what it keeps
pub same_kept : (fields kept : Kept) (bytes : List ℕ) → fields ≡ fields_of bytes → IsKept kept → record_of kept ≡ bytes → fields ≡ kept
same_kept fields kept bytes fields_is is text = fields_is ∙ ap fields_of (sym text) ∙ fields_back kept is

-- the patterns, step by step
pub patterns_read : (bytes behind rest after : List ℕ) (count number : ℕ) (texts items : List (List ℕ)) → behind ≡ drop 49 bytes → count ≡ le16 bytes 47 →
    rest ≡ behind_texts count behind → number ≡ le16 rest 0 → after ≡ drop 2 rest → texts ≡ texts_at number after → items ≡ texts → patterns_at bytes ≡ items
patterns_read bytes behind rest after count number texts items a b d e f g h = rw (h, g, e, f, d, b, a) refl
