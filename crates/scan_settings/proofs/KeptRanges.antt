-- The tests of what a record keeps, and the ranges that they test.
use Rattle.std.proofs.Common.{ℕ, ◌≡◌, ◌<◌, ◌^◌, true, ◌&&◌, nat_lt, nat_le, length, refl, arith}
use Rattle.std.specs.List.{All, list_all}
use Rattle.std.specs.Str.{IsUtf8}
use Rattle.std.proofs.lemmas.Bool.Decides.{nat_tests}
use Rattle.scan_settings.specs.declared.values.NumberRange.{NumberRange}
use Rattle.scan_settings.specs.declared.settings.Plan.{Plan}
use Rattle.scan_settings.specs.declared.record.Kept.{Kept}
use Rattle.scan_settings.specs.Values.{is_text}
use Rattle.scan_settings.specs.Options.{page, depth, word_min, word_max, context}
use Rattle.scan_settings.specs.Lawful.{IsWithin, IsPlan}
use Rattle.scan_settings.specs.Record.{IsKept}
use Rattle.scan_settings.specs.Fields.{is_in, has_numbers, is_ranged}
use Rattle.scan_settings.proofs.Texts.{both, texts_pass, pass_texts}

within_of : (range : NumberRange) (n : ℕ) → is_in range n ≡ true → IsWithin range n
within_of range n is = (grind (arith, nat_tests, is), grind (arith, nat_tests, is))

in_of : (range : NumberRange) (n : ℕ) → IsWithin range n → is_in range n ≡ true
in_of range n is = grind (arith, nat_tests, is.0, is.1)

-- the tests of a plan's numbers, one by one
record HasNumbers (plan : Plan) : Type 0 where
  scanners : nat_lt plan.scanners 1024 ≡ true
  depth : is_in depth plan.depth ≡ true
  least : is_in word_min plan.word_min ≡ true
  most : is_in word_max plan.word_max ≡ true
  ordered : nat_le plan.word_min plan.word_max ≡ true
  context : is_in context plan.context ≡ true

numbers_split : (plan : Plan) → has_numbers plan ≡ true → HasNumbers plan
unfolding has_numbers
numbers_split plan is =
    let a = both (nat_lt plan.scanners 1024 && is_in depth plan.depth && is_in word_min plan.word_min && is_in word_max plan.word_max && nat_le plan.word_min plan.word_max) (is_in context plan.context) is in
    let b = both (nat_lt plan.scanners 1024 && is_in depth plan.depth && is_in word_min plan.word_min && is_in word_max plan.word_max) (nat_le plan.word_min plan.word_max) a.0 in
    let d = both (nat_lt plan.scanners 1024 && is_in depth plan.depth && is_in word_min plan.word_min) (is_in word_max plan.word_max) b.0 in
    let e = both (nat_lt plan.scanners 1024 && is_in depth plan.depth) (is_in word_min plan.word_min) d.0 in
    let f = both (nat_lt plan.scanners 1024) (is_in depth plan.depth) e.0 in
    record { scanners = f.0; depth = f.1; least = e.1; most = d.1; ordered = b.1; context = a.1 }

-- the tests of what is kept, one by one
record HasRanges (kept : Kept) : Type 0 where
  page : is_in page kept.page ≡ true
  numbers : has_numbers kept.plan ≡ true
  few_keywords : nat_le (length kept.plan.keywords) 64 ≡ true
  few_patterns : nat_le (length kept.plan.patterns) 4 ≡ true
  keywords : list_all is_text kept.plan.keywords ≡ true
  patterns : list_all is_text kept.plan.patterns ≡ true

ranges_split : (kept : Kept) → is_ranged kept ≡ true → HasRanges kept
unfolding is_ranged
ranges_split kept is =
    let p = is_in page kept.page in
    let n = has_numbers kept.plan in
    let k = nat_le (length kept.plan.keywords) 64 in
    let m = nat_le (length kept.plan.patterns) 4 in
    let a = both (p && n && k && m && list_all is_text kept.plan.keywords) (list_all is_text kept.plan.patterns) is in
    let b = both (p && n && k && m) (list_all is_text kept.plan.keywords) a.0 in
    let d = both (p && n && k) m b.0 in
    let e = both (p && n) k d.0 in
    let f = both p n e.0 in
    record { page = f.0; numbers = f.1; few_keywords = e.1; few_patterns = d.1; keywords = b.1; patterns = a.1 }

pub plan_ranged : (kept : Kept) → kept.plan.mask < 2 ^ 8 → is_ranged kept ≡ true → IsPlan kept.plan
plan_ranged kept mask is =
    let ranges = ranges_split kept is in
    let numbers = numbers_split kept.plan ranges.numbers in
    record {
      scanners = grind (arith, nat_tests, numbers.scanners);
      depth = within_of depth kept.plan.depth numbers.depth;
      mask = mask;
      least = within_of word_min kept.plan.word_min numbers.least;
      most = within_of word_max kept.plan.word_max numbers.most;
      ordered = grind (arith, nat_tests, numbers.ordered);
      context = within_of context kept.plan.context numbers.context;
      keywords = texts_pass kept.plan.keywords ranges.keywords;
      few_keywords = grind (arith, nat_tests, ranges.few_keywords);
      patterns = texts_pass kept.plan.patterns ranges.patterns;
      few_patterns = grind (arith, nat_tests, ranges.few_patterns);
    }

pub kept_ranged : (kept : Kept) → kept.image < 2 ^ 64 → kept.stop < 2 ^ 64 → kept.alert < 2 ^ 64 → kept.plan.mask < 2 ^ 8 → is_ranged kept ≡ true →
    All IsUtf8 kept.plan.patterns → IsKept kept
kept_ranged kept image stop alert mask is utf8 = record {
  image = image;
  page = within_of page kept.page (ranges_split kept is).page;
  stop = stop;
  alert = alert;
  plan = plan_ranged kept mask is;
  utf8 = utf8;
}

numbers_of : (plan : Plan) → IsPlan plan → has_numbers plan ≡ true
unfolding has_numbers
numbers_of plan is =
    let a : nat_lt plan.scanners 1024 ≡ true = grind (arith, nat_tests, is.scanners) in
    let b : nat_le plan.word_min plan.word_max ≡ true = grind (arith, nat_tests, is.ordered) in
    rw (a, in_of depth plan.depth is.depth, in_of word_min plan.word_min is.least, in_of word_max plan.word_max is.most, b, in_of context plan.context is.context) refl

pub ranged_of : (kept : Kept) → IsKept kept → is_ranged kept ≡ true
unfolding is_ranged
ranged_of kept is =
    let k : nat_le (length kept.plan.keywords) 64 ≡ true = grind (arith, nat_tests, is.plan.few_keywords) in
    let m : nat_le (length kept.plan.patterns) 4 ≡ true = grind (arith, nat_tests, is.plan.few_patterns) in
    rw (in_of page kept.page is.page, numbers_of kept.plan is.plan, k, m, pass_texts kept.plan.keywords is.plan.keywords, pass_texts kept.plan.patterns is.plan.patterns) refl
