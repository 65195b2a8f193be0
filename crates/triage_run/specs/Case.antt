-- What a scan is of, and the report that it leaves.
use Rattle.std.specs.Prelude.{◌≡◌, ℕ, ◌++◌, ◌==◌, ◌/◌, not, ◌||◌, Bool, IsTrue, List, [], ◌∷◌, map, filter, Option, Some, None, IfSome, option_map, option_and_then, if◌then◌else◌}
use Rattle.forensic_path.specs.declared.feature.Classed.{Classed}
use Rattle.host_disk.specs.Files.{Files}
use Rattle.scan_set.specs.declared.plan.ScanPlan.{ScanPlan}
use Rattle.scan_set.specs.Here.{features_of}
use Rattle.stop_lists.specs.Lists.{classed_by}
use Rattle.feature_file.specs.Files.{is_written}
use Rattle.image_gen.specs.Image.{image_of}
use Rattle.report_publish.specs.Publish.{report_text}
use Rattle.triage_run.specs.declared.words.Scan.{Scan}
use Rattle.triage_run.specs.declared.words.Generate.{Generate}

-- the input of a scan as plain data; a reading is what the text of a pattern was read as
pub record Case (R : Type 0) : Type 0 where
  pub image : List ℕ
  pub stop : List ℕ
  pub alert : List ℕ
  pub page : ℕ
  pub plan : ScanPlan
  pub readings : List R

-- `matches` is how long what a reading matches at the front of bytes is
module _ {R : Type 0} (matches : R → List ℕ → Option ℕ) where
  -- the features of the image, each with its class
  unfoldable pub classed_of : Case R → List Classed
  classed_of c = classed_by c.stop c.alert (features_of (map matches c.readings) c.plan c.image)

  -- the text of a report file, where it is written: of features, or a histogram
  unfoldable pub report : Case R → ℕ → Option (List ℕ)
  report c number =
      if (number == 0) || not (is_written number c.plan.scanners) then None
      else Some (report_text number (classed_of c))

  -- the features of a page, by their offsets in the image
  abbrev pub page_list : Case R → ℕ → List Classed
  page_list c page = filter (λ (f : Classed). f.item.path.top / c.page == page) (classed_of c)

  -- each file that is written has its text, where the disk tells its files
  abbrev pub LeavesReport : Case R → Bool → Files → Type 0
  LeavesReport c tells files = IsTrue tells → (number : ℕ) → IfSome (report c number) (λ text. files number ≡ text)

-- the parts of an image, joined, where all of them are told
abbrev pub joined : (List ℕ → Option (List ℕ)) → List (List ℕ) → Option (List ℕ)
joined told [] = Some []
joined told (name ∷ names) = option_and_then (λ bytes. option_map (λ rest. bytes ++ rest) (joined told names)) (told name)

-- the case of a scan whose patterns were read so, of a stop list, an alert list and an image
abbrev pub case_by : {R : Type 0} → Scan → List R → List ℕ → List ℕ → List ℕ → Case R
case_by scan readings stop alert image =
    record { image = image; stop = stop; alert = alert; page = scan.search.page; plan = scan.search.plan; readings = readings }

-- the case of an image that is made, which is under no list
abbrev pub case_made : {R : Type 0} → List R → Generate → Case R
case_made readings made =
    record { image = image_of made.seed made.size; stop = []; alert = []; page = made.search.page; plan = made.search.plan; readings = readings }
