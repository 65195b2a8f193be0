-- What a scan sees of its image, what it finds there, and what it is refused for.
use Rattle.std.specs.Prelude.{◌≡◌, ℕ, ◌<◌, ◌≤◌, Bool, IsTrue, List, map, length, Option, IfSome, MatchOption}
use Rattle.std.specs.Int.{div_ceil}
use Rattle.forensic_path.specs.declared.feature.Classed.{Classed}
use Rattle.host_disk.specs.Files.{Files}
use Rattle.host_source.specs.Source.{Slot}
use Rattle.image_source.specs.Image.{AreAttached, size_of}
use Rattle.page_split.specs.Pages.{IsPage}
use Rattle.report_publish.specs.declared.publish.TheConstants.{FEATURE_FILES}
use Rattle.report_publish.specs.Publish.{AreWritten}
use Rattle.scan_set.specs.declared.plan.ScanPlan.{ScanPlan}
use Rattle.scan_set.specs.Here.{features_of}
use Rattle.stop_lists.specs.Lists.{ListEntries}
use Rattle.triage_run.specs.declared.scan.TheConstants.{PAGES_MOST}
use Rattle.triage_run.specs.declared.status.Status.{Status}
use Rattle.triage_run.specs.declared.status.Status.TheVariants.{ReadFault, TooManyPages, DiskFault, NoMemory}
use Rattle.triage_run.specs.declared.status.ReadPlace.TheVariants.{Image, Page}
use Rattle.triage_run.specs.Lists.{classed_under}
use Rattle.triage_run.specs.Text.{Counts, file_lines}

-- ---- the parts, the size and the pages of an image

-- an image as a scan sees it: its bytes, where they are told, the names of its parts, what its source has attached at
-- the end, and how many bytes a page has
pub record ImageSeen : Type 0 where
  pub bytes : Option (List ℕ)
  pub parts : List (List ℕ)
  pub slots : ℕ → Option Slot
  pub page : ℕ

-- what is attached are the parts of these names, each to the slot of its number
pub record AreParts (slots : ℕ → Option Slot) (names : List (List ℕ)) (parts : List Slot) : Type 0 where
  pub attached : AreAttached slots parts
  pub named : map (λ (part : Slot). part.name) parts ≡ names

-- each part is attached to the slot of its number
abbrev pub HasAttached : (ℕ → Option Slot) → List (List ℕ) → Type 0
HasAttached slots names = (parts : List Slot) × AreParts slots names parts

-- so many bytes: those that are told, or else those of the parts that are attached
abbrev pub IsImageSize : ImageSeen → ℕ → Type 0
IsImageSize image size = MatchOption image.bytes ((parts : List Slot) × AreParts image.slots image.parts parts × (size ≡ size_of parts)) (λ bytes. size ≡ length bytes)

-- so many pages begin in the image
abbrev pub IsPageCount : ImageSeen → ℕ → Type 0
IsPageCount image count = (size : ℕ) × IsImageSize image size × (count ≡ div_ceil size image.page)

-- so many, and more than are scanned
pub record AreTooMany (image : ImageSeen) (count : ℕ) : Type 0 where
  pub counted : IsPageCount image count
  pub above : PAGES_MOST < count

-- no more than are scanned
abbrev pub HasFewPages : ImageSeen → Type 0
HasFewPages image = (count : ℕ) → IsPageCount image count → count ≤ PAGES_MOST

-- there is a page of this number
abbrev pub HasPageAt : ImageSeen → ℕ → Type 0
HasPageAt image number = (size : ℕ) × IsImageSize image size × IsPage size image.page number

-- ---- what is found

-- the features of an image, each with its class by the entries of both lists
abbrev pub items_under : ListEntries → List (List ℕ → Option ℕ) → ScanPlan → List ℕ → List Classed
items_under lists patterns plan image = map (classed_under lists) (features_of patterns plan image)

-- what is found in so many bytes with these features
abbrev pub counts_in : ℕ → ℕ → List Classed → Counts
counts_in page bytes items = record { pages = div_ceil bytes page; features = length items; files = map (file_lines items) FEATURE_FILES }

-- the files of the scanners have their texts for the features of the image, as far as the image and the disk are told
abbrev pub WritesImage : ℕ → (List ℕ → List Classed) → Option (List ℕ) → Bool → Files → Type 0
WritesImage scanners items told tells files = IfSome told (λ image. IsTrue tells → AreWritten scanners (items image) files)

-- these are the counts of what is found in the image, as far as it is told
abbrev pub CountsImage : ℕ → (List ℕ → List Classed) → Option (List ℕ) → Counts → Type 0
CountsImage page items told found = IfSome told (λ image. found ≡ counts_in page (length image) (items image))

-- ---- refusals

-- what a scan is refused for behind the attach, by when pages are too many, and which pages there are; want of memory
-- is free
abbrev pub IsEndBehindAttach : (ℕ → Type 0) → (ℕ → Type 0) → Type 0 → Type 0 → Status → Type 0
IsEndBehindAttach are_many is_page source_rose disk_rose (TooManyPages pages) = are_many pages
IsEndBehindAttach are_many is_page source_rose disk_rose DiskFault = disk_rose
IsEndBehindAttach are_many is_page source_rose disk_rose (ReadFault (Page number)) = source_rose × is_page number
IsEndBehindAttach are_many is_page source_rose disk_rose NoMemory = Unit {0}
IsEndBehindAttach are_many is_page source_rose disk_rose _ = ⊥

-- what the scan of an image is refused for
abbrev pub IsImageEnd : ImageSeen → Type 0 → Type 0 → Status → Type 0
IsImageEnd image source_rose disk_rose (ReadFault Image) = source_rose
IsImageEnd image source_rose disk_rose status = IsEndBehindAttach (AreTooMany image) (HasPageAt image) source_rose disk_rose status

-- what the scan of so many attached bytes is refused for
abbrev pub IsPagesEnd : ℕ → ℕ → Type 0 → Type 0 → Status → Type 0
IsPagesEnd size page = IsEndBehindAttach (λ pages. (pages ≡ div_ceil size page) × (PAGES_MOST < pages)) (IsPage size page)
