-- How many bytes and pages an image has, by what is told of it or by what is attached.
use Rattle.std.proofs.Common.{◌≡◌, ◌∙◌, ℕ, zero, suc, ◌≤◌, List, [], ◌∷◌, ◌++◌, map, length, Option, Some, None, Result, Ok, Err, IfErr, sym, refl, ap, subst, arith}
use Rattle.std.specs.Prelude.{option_and_then, option_map, slice_get, IfSome}
use Rattle.std.specs.Int.{div_ceil}
use Rattle.std.proofs.lemmas.List.{append-nil}
use Rattle.std.proofs.lemmas.Option.{same_Some}
use Rattle.host_source.specs.Source.{SourceNature, Slot, told}
use Rattle.image_source.specs.Image.{joined, size_of}
use Rattle.triage_run.specs.declared.scan.TheConstants.{PAGES_MOST}
use Rattle.triage_run.specs.declared.status.Status.{Status}
use Rattle.triage_run.specs.declared.status.Status.TheVariants.{ReadFault, TooManyPages, DiskFault, NoMemory}
use Rattle.triage_run.specs.declared.status.ReadPlace.TheVariants.{Page}
use Rattle.triage_run.specs.Case.{joined as bytes_of}
use Rattle.triage_run.specs.Image.{ImageSeen, AreParts, IsImageSize, IsPageCount, HasFewPages, IsImageEnd, IsPagesEnd}

-- lists that have the same at each place are the same
same_list : {A : Type 0} (xs ys : List A) → ((k : ℕ) → slice_get xs k ≡ slice_get ys k) → xs ≡ ys
same_list [] [] same = refl
same_list [] (y ∷ ys) same = let none : None ≡ Some y = same 0 in cc
same_list (x ∷ xs) [] same = let some : Some x ≡ None = same 0 in cc
same_list {A = A} (x ∷ xs) (y ∷ ys) same =
    let first : x ≡ y = same_Some x y (same 0) in
    rw first (ap (λ (zs : List A). y ∷ zs) (same_list xs ys (λ k. same (suc k))))

-- an image has one size ..
size_is_one : (image : ImageSeen) (a b : ℕ) → IsImageSize image a → IsImageSize image b → a ≡ b
size_is_one image a b = of_bytes image.bytes
  where
    of_bytes : (bytes : Option (List ℕ)) → IsImageSize (record image { bytes = bytes }) a → IsImageSize (record image { bytes = bytes }) b → a ≡ b
    of_bytes (Some bytes) is_a is_b = is_a ∙ sym is_b
    of_bytes None is_a is_b =
        let same = same_list is_a.0 is_b.0 (λ k. sym (is_a.1.attached k) ∙ is_b.1.attached k) in
        is_a.2 ∙ ap size_of same ∙ sym is_b.2

-- .. and one count of pages
pub count_is_one : (image : ImageSeen) (a b : ℕ) → IsPageCount image a → IsPageCount image b → a ≡ b
count_is_one image a b is_a is_b = is_a.2 ∙ ap (λ (size : ℕ). div_ceil size image.page) (size_is_one image is_a.0 is_b.0 is_a.1 is_b.1) ∙ sym is_b.2

-- ---- an image whose parts are attached

-- the bytes of parts are told by their names
joined_by_name : (nature : SourceNature) (parts : List Slot) → joined nature parts ≡ bytes_of (told nature) (map (λ (part : Slot). part.name) parts)
unfolding joined
joined_by_name nature [] = refl
joined_by_name nature (part ∷ parts) =
    ap (λ (rest : Option (List ℕ)). option_and_then (λ bytes. option_map (λ more. bytes ++ more) rest) (told nature part.name)) (joined_by_name nature parts)

pub joined_are : (nature natured : SourceNature) (parts : List Slot) (names : List (List ℕ)) → natured ≡ nature → map (λ (part : Slot). part.name) parts ≡ names →
    joined natured parts ≡ bytes_of (told nature) names
joined_are nature natured parts names same named =
    joined_by_name natured parts ∙ ap (λ (nature : SourceNature). bytes_of (told nature) (map (λ (part : Slot). part.name) parts)) same ∙ ap (bytes_of (told nature)) named

module _ (image : ImageSeen) (parts : List Slot) (are : AreParts image.slots image.parts parts)
    (long : IfSome image.bytes (λ bytes. size_of parts ≡ length bytes)) where
  size_seen : IsImageSize image (size_of parts)
  size_seen = by_bytes image.bytes long
    where
      by_bytes : (bytes : Option (List ℕ)) → IfSome bytes (λ bytes. size_of parts ≡ length bytes) → IsImageSize (record image { bytes = bytes }) (size_of parts)
      by_bytes None long = (parts, are, refl)
      by_bytes (Some bytes) long = long

  pub few_seen : div_ceil (size_of parts) image.page ≤ PAGES_MOST → HasFewPages image
  few_seen few count counted =
      let same = count_is_one image count (div_ceil (size_of parts) image.page) counted (size_of parts, size_seen, refl) in
      rw same few

  pub end_seen : {T : Type 0} (source_rose disk_rose : Type 0) (scanned : Result T Status) →
      IfErr scanned (IsPagesEnd (size_of parts) image.page source_rose disk_rose) → IfErr scanned (IsImageEnd image source_rose disk_rose)
  end_seen source_rose disk_rose (Ok found) end = tt
  end_seen source_rose disk_rose (Err (TooManyPages count)) end = record { counted = (size_of parts, size_seen, end.0); above = end.1 }
  end_seen source_rose disk_rose (Err (ReadFault (Page number))) end = (end.0, (size_of parts, size_seen, end.1))
  end_seen source_rose disk_rose (Err DiskFault) end = end
  end_seen source_rose disk_rose (Err NoMemory) end = tt
  end_seen source_rose disk_rose (Err _) end = absurd end

-- ---- an image of one part

-- the bytes of an image of one part
pub joined_one : (told : List ℕ → Option (List ℕ)) (part : List ℕ) → bytes_of told (part ∷ []) ≡ told part
joined_one told part = of_told (told part)
  where
    of_told : (bytes : Option (List ℕ)) → option_and_then (λ bytes. option_map (λ rest. bytes ++ rest) (Some [])) bytes ≡ bytes
    of_told None = refl
    of_told (Some bytes) = ap Some (append-nil bytes)
