-- A domain may be judged by a host and an authority that were counted in as many bytes as each can have.
use Rattle.std.proofs.Common.{◌≡◌, ◌∙◌, ℕ, zero, suc, min, Bool, true, false, cond, not, ◌&&◌, List, [], ◌∷◌, length, take, sym, ap, refl, Some, None, ◌⊎◌, inl, inr, ⊎_elim}
use Rattle.std.specs.Prelude.{if◌then◌else◌}
use Rattle.std.specs.List.{take_while}
use Rattle.std.proofs.lemmas.List.{take_min}
use Rattle.std.proofs.lemmas.List.Sums.{take_while-cons}
use Rattle.byte_kit.specs.Classes.{is_one_of, host_class}
use Rattle.sbuf_nest.specs.Around.{Around}
use Rattle.scan_url.specs.declared.url.TheConstants.{URL_MOST, HOST_MOST}
use Rattle.scan_url.specs.Domain.{ends_with_scheme, authority_class, without_dots, is_domain, domain_of}

pub take_while-take : (p : ℕ → Bool) (k : ℕ) (xs : List ℕ) → take_while p (take k xs) ≡ take k (take_while p xs)
take_while-take p zero xs = refl
take_while-take p (suc k) [] = refl
take_while-take p (suc k) (x ∷ xs) =
    take_while-cons p x (take k xs)
    ∙ elim (p x) as (λ b. cond b (x ∷ take_while p (take k xs)) [] ≡ take (suc k) (cond b (x ∷ take_while p xs) []))
    [ true ↦ ap (λ rest. x ∷ rest) (take_while-take p k xs) | false ↦ refl ]
    ∙ ap (take (suc k)) (sym (take_while-cons p x xs))

-- the run in the bytes near the place is the run, cut
pub near_run : (p : ℕ → Bool) (most : ℕ) (after near : List ℕ) → near ≡ take (min most (length after)) after →
    take_while p near ≡ take most (take_while p after)
near_run p most after near is = ap (take_while p) (is ∙ take_min most after) ∙ take_while-take p most after

-- a domain by its parts
domain_by : (look : Around) (host : List ℕ) (userinfo : Bool) → host ≡ without_dots (take HOST_MOST (take_while host_class look.after)) →
    userinfo ≡ is_one_of (take URL_MOST (take_while authority_class look.after)) 64 →
    domain_of look ≡ (if ends_with_scheme look.before && not userinfo && is_domain host then Some (length host) else None)
unfolding domain_of
domain_by look host userinfo host_is userinfo_is = rw (host_is, userinfo_is) refl

decided : (scheme userinfo good : Bool) (n : ℕ) → (scheme ≡ false) ⊎ (userinfo ≡ true) ⊎ (good ≡ false) →
    (if scheme && not userinfo && good then Some n else None) ≡ None
decided false userinfo good n h = refl
decided true true good n h = refl
decided true false false n h = refl
decided true false true n h = ⊎_elim (λ s. cc) (λ rest. ⊎_elim (λ u. cc) (λ g. cc) rest) h

module _ (look : Around) (host : List ℕ) (host_is : host ≡ without_dots (take HOST_MOST (take_while host_class look.after))) where
  -- the host is no domain
  pub no_domain : is_domain host ≡ false → None ≡ domain_of look
  no_domain bad = sym (domain_by look host _ host_is refl ∙ decided _ _ _ _ (inr (inr bad)))

  -- an `@` stands in the authority
  pub with_userinfo : (userinfo : Bool) → userinfo ≡ is_one_of (take URL_MOST (take_while authority_class look.after)) 64 →
      userinfo ≡ true → None ≡ domain_of look
  with_userinfo userinfo is there = sym (domain_by look host userinfo host_is is ∙ decided _ _ _ _ (inr (inl there)))

  -- the host is the domain
  pub is_the_domain : (userinfo : Bool) → userinfo ≡ is_one_of (take URL_MOST (take_while authority_class look.after)) 64 →
      ends_with_scheme look.before ≡ true → userinfo ≡ false → is_domain host ≡ true → Some (length host) ≡ domain_of look
  is_the_domain userinfo is scheme absent good = sym (domain_by look host userinfo host_is is ∙ rw (scheme, absent, good) refl)
