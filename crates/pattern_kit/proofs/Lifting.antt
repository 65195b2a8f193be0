-- A match in a part of some bytes stays one in the whole, but for what its assertions saw.
use Rattle.std.proofs.Common.{◌≡◌, ℕ, ◌+◌, ◌≤◌, List, ◌++◌, length, drop, Some, ap, ◌∙◌, sym, inl, inr, arith, append_assoc, slice_get, get_or, refl, true}
use Rattle.std.proofs.lemmas.List.{drop-drop, drop-append-le, length-append, length-drop, get_or-drop, get_or_append_left}
use Rattle.std.proofs.lemmas.Option.{slice_get_within, slice_get_read, get_or_from_slice_get}
use Rattle.std.specs.Char.{encode_utf8}
use Rattle.regex.specs.Patterns.{Re, empty, literal, byte_in, char_in, look, cat, alt, group, plus, Matches}
use Rattle.regex_hir.specs.Matches.{Rounds, one_round, next_round}
use Rattle.regex_hir.proofs.MatchesLemmas.{Matches-IsSpan}
use Rattle.regex_hir.proofs.TextLemmas.{has_bytes_at_parts, has_bytes_at_from, char_at_parts, char_at_from}
use Rattle.pattern_kit.specs.Assertions.{without_looks}

-- the part stands in the whole from place d on
module _ (hay part rest : List ℕ) (d : ℕ) (stands : drop d hay ≡ part ++ rest) where
  -- what stands at a place of the part stands at its place of the whole
  seen : (i : ℕ) (bytes behind : List ℕ) → i ≤ length part → drop i part ≡ bytes ++ behind → drop (d + i) hay ≡ bytes ++ (behind ++ rest)
  seen i bytes behind le is =
      sym (drop-drop i d hay) ∙ ap (drop i) stands ∙ drop-append-le i part rest le ∙ ap (λ xs. xs ++ rest) is ∙ append_assoc bytes behind rest

  byte_seen : (i b : ℕ) → slice_get part i ≡ Some b → slice_get hay (d + i) ≡ Some b
  byte_seen i b is =
      let within = slice_get_within part i b is in
      let whole : length (drop d hay) ≡ length part + length rest = ap length stands ∙ length-append part rest in
      let read : get_or hay (d + i) b ≡ b =
      sym (get_or-drop d hay i b) ∙ ap (λ xs. get_or xs i b) stands ∙ get_or_append_left part rest b i within
      ∙ get_or_from_slice_get part i b b is in
      slice_get_read hay (length hay) (d + i) b refl (omega (arith, whole, length-drop d hay)) (sym read)

  rounds_lift : (a : Re) → ((i j : ℕ) → i ≤ length part → Matches part a i j → Matches hay (without_looks a) (d + i) (d + j)) →
      (i j : ℕ) → i ≤ length part → Rounds (Matches part a) i j → Rounds (Matches hay (without_looks a)) (d + i) (d + j)
  rounds_lift a each i j le (one_round _ m) = one_round _ (each i j le m)
  rounds_lift a each i j le (next_round l _ ms m) =
      let span = Matches-IsSpan part (plus true a) i l ms in
      let inside : l ≤ length part = omega arith in
      next_round _ _ (rounds_lift a each i l le ms) (each l j inside m)

  pub lift : (re : Re) (i j : ℕ) → i ≤ length part → Matches part re i j → Matches hay (without_looks re) (d + i) (d + j)
  lift empty i j le m = ap (λ x. d + x) m
  lift (literal bs) i j le m = (has_bytes_at_from hay (d + i) bs _ (seen i bs _ le (has_bytes_at_parts part i bs m.0)), omega (arith, m.1))
  lift (byte_in rs) i j le m = (m.0, byte_seen i m.0 m.1, m.2, omega (arith, m.3))
  lift (char_in rs) i j le m =
      let parts = char_at_parts part i m.0 m.1 in
      (m.0, char_at_from hay (d + i) m.0 _ parts.0 (seen i (encode_utf8 m.0) _ le parts.1), m.2, omega (arith, m.3))
  lift (look l) i j le m = ap (λ x. d + x) m.1
  lift (cat a b) i j le m =
      let span = Matches-IsSpan part a i m.0 m.1 in
      let inside : m.0 ≤ length part = omega arith in
      (d + m.0, lift a i m.0 le m.1, lift b m.0 j inside m.2)
  lift (alt a b) i j le (inl m) = inl (lift a i j le m)
  lift (alt a b) i j le (inr m) = inr (lift b i j le m)
  lift (group n a) i j le m = lift a i j le m
  lift (plus greedy a) i j le m = rounds_lift a (lift a) i j le m
