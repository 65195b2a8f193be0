-- Bytes that are appended leave the entries ahead of them as they were, and hold a new one.
use Rattle.std.specs.Prelude.{◌≡◌, ℕ, ◌+◌, ◌≤◌, List, [], ◌∷◌, ◌++◌, Option, Some, None, length, take, drop, map, refl}
use Rattle.std.specs.List.{All}
use Rattle.std.proofs.Common.{◌∙◌, ap, arith, append_assoc}
use Rattle.std.proofs.lemmas.List.{drop-append-le, take-append-le, length-drop, drop_at, take_at, take_all, map_push}
use Rattle.std.proofs.lemmas.List.Elements.{All-tail}
use Rattle.stop_lists.specs.declared.entries.Place.{Place}
use Rattle.stop_lists.specs.Lists.{Entry}
use Rattle.stop_lists.specs.Places.{entry_at, IsWithin}

-- a part of the bytes, with more behind them
part_kept : (bytes more : List ℕ) (start count : ℕ) → start + count ≤ length bytes
    → take count (drop start (bytes ++ more)) ≡ take count (drop start bytes)
part_kept bytes more start count within =
    ap (take count) (drop-append-le start bytes more (omega arith))
    ∙ take-append-le count (drop start bytes) more (omega (arith, length-drop start bytes))

-- a part behind a part
behind_kept : (bytes more : List ℕ) (start first count : ℕ) → start + first + count ≤ length bytes
    → take count (drop first (drop start (bytes ++ more))) ≡ take count (drop first (drop start bytes))
behind_kept bytes more start first count within =
    ap (λ rest. take count (drop first rest)) (drop-append-le start bytes more (omega arith))
    ∙ part_kept (drop start bytes) more first count (omega (arith, length-drop start bytes))

entry_kept : (bytes more : List ℕ) (start feature : ℕ) (context : Option ℕ) → IsWithin bytes (record { start = start; feature = feature; context = context })
    → entry_at (bytes ++ more) (record { start = start; feature = feature; context = context })
    ≡ entry_at bytes (record { start = start; feature = feature; context = context })
entry_kept bytes more start feature None within =
    let first = part_kept bytes more start feature (omega arith) in
    cc
entry_kept bytes more start feature (Some count) within =
    let first = part_kept bytes more start feature (omega arith) in
    let second = behind_kept bytes more start feature count (omega arith) in
    cc

-- all entries, with more bytes behind theirs
pub entries_kept : (bytes more : List ℕ) (places : List Place) → All (IsWithin bytes) places
    → map (entry_at (bytes ++ more)) places ≡ map (entry_at bytes) places
entries_kept bytes more [] within = refl
entries_kept bytes more (p ∷ places) within =
    let first = entry_kept bytes more p.start p.feature p.context (within 0 p (omega arith)) in
    let rest = entries_kept bytes more places (All-tail (IsWithin bytes) p places within) in
    cc

-- a new entry without a context
alone_added : (bytes feature : List ℕ) (places : List Place) → All (IsWithin bytes) places
    → map (entry_at (bytes ++ feature)) (places ++ record { start = length bytes; feature = length feature; context = None } ∷ [])
    ≡ map (entry_at bytes) places ++ record { feature = feature; context = None } ∷ []
alone_added bytes feature places within =
    let new : Place = record { start = length bytes; feature = length feature; context = None } in
    let old = entries_kept bytes feature places within in
    let first = ap (take (length feature)) (drop_at bytes feature (length bytes) refl) ∙ take_all (length feature) feature (omega arith) in
    map_push (entry_at (bytes ++ feature)) places new ∙ cc

-- a new entry with one
within_added : (bytes feature context : List ℕ) (places : List Place) → All (IsWithin bytes) places
    → map (entry_at ((bytes ++ feature) ++ context)) (places ++ record { start = length bytes; feature = length feature; context = Some (length context) } ∷ [])
    ≡ map (entry_at bytes) places ++ record { feature = feature; context = Some context } ∷ []
within_added bytes feature context places within =
    let new : Place = record { start = length bytes; feature = length feature; context = Some (length context) } in
    let same = append_assoc bytes feature context in
    let old = ap (λ all. map (entry_at all) places) same ∙ entries_kept bytes (feature ++ context) places within in
    let rest = ap (drop (length bytes)) same ∙ drop_at bytes (feature ++ context) (length bytes) refl in
    let first = ap (take (length feature)) rest ∙ take_at feature context (length feature) refl in
    let second = ap (λ more. take (length context) (drop (length feature) more)) rest
    ∙ (ap (take (length context)) (drop_at feature context (length feature) refl) ∙ take_all (length context) context (omega arith)) in
    map_push (entry_at ((bytes ++ feature) ++ context)) places new ∙ cc

-- the same, as they are put
pub alone_placed : (bytes feature held : List ℕ) (places : List Place) (entries : List Entry) (start : ℕ) → All (IsWithin bytes) places
    → map (entry_at bytes) places ≡ entries → start ≡ length bytes → held ≡ feature
    → map (entry_at (bytes ++ held)) (places ++ record { start = start; feature = length held; context = None } ∷ [])
    ≡ entries ++ record { feature = feature; context = None } ∷ []
alone_placed bytes feature held places entries start within entries_are start_is held_is =
    rw (held_is, start_is, ← entries_are) (alone_added bytes feature places within)

pub within_placed : (bytes feature held context around : List ℕ) (places : List Place) (entries : List Entry) (start : ℕ) → All (IsWithin bytes) places
    → map (entry_at bytes) places ≡ entries → start ≡ length bytes → held ≡ feature → around ≡ context
    → map (entry_at ((bytes ++ held) ++ around)) (places ++ record { start = start; feature = length held; context = Some (length around) } ∷ [])
    ≡ entries ++ record { feature = feature; context = Some context } ∷ []
within_placed bytes feature held context around places entries start within entries_are start_is held_is around_is =
    rw (held_is, around_is, start_is, ← entries_are) (within_added bytes feature context places within)
