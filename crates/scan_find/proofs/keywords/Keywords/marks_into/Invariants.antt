use Rattle.std.proofs.Common.{◌≡◌, ◌-◌, ◌<◌, ◌≤◌, ◌++◌, ℕ, List, length, take}
use Rattle.std.specs.Prelude.{slice_index, slice_index_or}
use Rattle.sbuf_nest.specs.Around.{seen}
use Rattle.scan_find.specs.Find.{keyword_of}
use Rattle.scan_find.specs.Marks.{numbered_marks}
use Rattle.scan_find.proofs.keywords.Keywords.marks_into.Given as goal

-- the marks of the keywords ahead of this one are appended
abbrev pub invariant-loop-which : goal.invariant-loop-which
invariant-loop-which l = record {
  begins : (d : List ℕ) → l.which < length l.self.items.now → slice_index (slice_index_or l.self.items.now l.which d) 0 ≡ slice_index l.look.after.now 0;
  within : l.which ≤ length l.self.items.now;
  found : l.found ≡ l.fn.found ++ numbered_marks (λ keyword. keyword_of keyword (seen l.look)) 0 (take l.which l.self.items.now) l.place;
}

abbrev pub decreases-loop-which : goal.decreases-loop-which
decreases-loop-which l = length l.self.items.now - l.which
