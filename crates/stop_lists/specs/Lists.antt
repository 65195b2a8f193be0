-- The entries of a list, and what two lists say of a feature.
use Rattle.std.specs.Prelude.{ℕ, Bool, true, List, [], ◌∷◌, map, length, slice_index, Option, Some, None, ◌&&◌, ◌||◌, ◌==◌, if◌then◌else◌, filter_map, bytes_eq}
use Rattle.std.specs.List.{list_any, slice_split}
use Rattle.std.specs.Str.Lines.{strip_carriage_return}
use Rattle.feature_escape.specs.Escape.{unescape_lenient_of}
use Rattle.forensic_path.specs.declared.feature.Class.{Class}
use Rattle.forensic_path.specs.declared.feature.Class.TheVariants.{Plain, Stopped, Alert}
use Rattle.forensic_path.specs.declared.feature.Feature.{Feature}
use Rattle.forensic_path.specs.declared.feature.Classed.{Classed}

-- the bytes of a feature, and of its context where the entry has one
pub record Entry : Type 0 where
  pub feature : List ℕ
  pub context : Option (List ℕ)

abbrev pub is_line_end : ℕ → Bool
is_line_end byte = byte == 10

abbrev pub is_tab : ℕ → Bool
is_tab byte = byte == 9

-- an empty line, or one that begins with `#`
abbrev pub is_passed : List ℕ → Bool
is_passed line = (length line == 0) || (slice_index line 0 == 35)

-- The entry of a line's fields, which are read leniently: one field is a feature, two are a feature
-- and its context, and more are those of a feature file, whose first is a path.
abbrev pub entry_of : List (List ℕ) → Option Entry
entry_of [] = None
entry_of (feature ∷ []) = Some (record { feature = unescape_lenient_of feature; context = None })
entry_of (feature ∷ context ∷ []) =
    Some (record { feature = unescape_lenient_of feature; context = Some (unescape_lenient_of context) })
entry_of (path ∷ feature ∷ context ∷ others) =
    Some (record { feature = unescape_lenient_of feature; context = Some (unescape_lenient_of context) })

-- the entry of a line, whose fields are cut at each TAB
abbrev pub entry_in : List ℕ → Option Entry
entry_in line = if is_passed line then None else entry_of (slice_split is_tab line)

-- a list is cut at each LF, and a line that ends in CR loses that one CR
unfoldable pub entries_of : List ℕ → List Entry
entries_of list = filter_map (λ line. entry_in (strip_carriage_return line)) (slice_split is_line_end list)

-- the entries of a stop list and of an alert list
pub record ListEntries : Type 0 where
  pub stop : List Entry
  pub alert : List Entry

-- an entry without a context meets a feature in every context
abbrev pub meets_context : List ℕ → Option (List ℕ) → Bool
meets_context context None = true
meets_context context (Some wanted) = bytes_eq wanted context

-- an entry meets features of every kind
abbrev pub meets : List ℕ → List ℕ → Entry → Bool
meets feature context entry = bytes_eq entry.feature feature && meets_context context entry.context

-- the class of a feature and its context under the entries of a stop list and an alert list: alert beats stop
unfoldable pub class_under : List Entry → List Entry → List ℕ → List ℕ → Class
class_under stop alert feature context =
    if list_any (meets feature context) alert then Alert
    else (if list_any (meets feature context) stop then Stopped else Plain)

-- the class of a feature under the bytes of a stop list and an alert list
abbrev pub class_of : List ℕ → List ℕ → Feature → Class
class_of stop alert f = class_under (entries_of stop) (entries_of alert) f.feature f.context

-- each feature with its class
abbrev pub classed_by : List ℕ → List ℕ → List Feature → List Classed
classed_by stop alert features = map (λ f. record { class = class_of stop alert f; item = f }) features
