-- Steps that are read one after another.
use Rattle.std.specs.Prelude.{ℕ, decimal, ◌^◌, ◌+◌, ◌≡◌, ◌≢◌, ◌≤◌, ◌<◌, List, [], ◌∷◌, ◌++◌, length, flat_map, All, Err}
use Rattle.std.proofs.Common.{sym, ◌∙◌, ap, arith, append_assoc, append-nil, length-append}
use Rattle.std.proofs.lemmas.Grind.{flat_map-append}
use Rattle.std.proofs.lemmas.List.Elements.{All-nil, All-cons, All-append}
use Rattle.forensic_path.specs.PathText.{step_text}
use Rattle.forensic_path.specs.Parts.{FollowsPart, IsCut}
use Rattle.forensic_path.specs.Grammar.{IsLawfulStep, HaveText, IsReadAs, TellsDeepSteps, TellsDeepPath}
use Rattle.forensic_path.specs.declared.path.Step.{Step}
use Rattle.forensic_path.specs.declared.path.Path.{Path}
use Rattle.forensic_path.specs.declared.path.TheConstants.{STEPS_MOST}
use Rattle.forensic_path.specs.declared.fault.PathFault.{PathFault}
use Rattle.forensic_path.specs.declared.fault.PathFault.TheVariants.{Form, Deep, NoMemory}
use Rattle.forensic_path.proofs.OnePath.{steps_continue, steps_follow, path_whole}

-- these steps stand ahead of the rest of the text; they are counted, and kept where they are not too many
pub record HasRead (text : List ℕ) (done : List Step) (rest : List ℕ) (kept : List Step) (count : ℕ) : Type 0 where
  pub lawful : All IsLawfulStep done
  pub whole : flat_map step_text done ++ rest ≡ text
  pub follows : FollowsPart rest
  pub counted : count ≡ length done
  pub first : count ≤ STEPS_MOST → kept ≡ done

-- each step has a byte at least
length_steps : (steps : List Step) → length steps ≤ length (flat_map step_text steps)
length_steps [] = omega arith
length_steps (step ∷ steps) =
    let rest : length steps ≤ length (flat_map step_text steps) = length_steps steps in
    omega (arith, length-append (step_text step) (flat_map step_text steps))

-- so there are no more steps than bytes
pub HasRead-length : {text rest : List ℕ} {done kept : List Step} {count : ℕ} → HasRead text done rest kept count
    → count + length rest ≤ length text
HasRead-length {text} {rest} {done} h =
    omega (arith, h.counted, length_steps done, length-append (flat_map step_text done) rest, ap length h.whole)

-- one more step
pub HasRead-more : {text rest behind : List ℕ} {done kept longer : List Step} {count : ℕ} {step : Step}
    → HasRead text done rest kept count → IsLawfulStep step → rest ≡ step_text step ++ behind → FollowsPart behind
    → (count < STEPS_MOST → longer ≡ kept ++ step ∷ []) → HasRead text (done ++ step ∷ []) behind longer (count + 1)
HasRead-more {text} {rest} {behind} {done} {kept} {longer} {count} {step} h lawful cut follows more = record {
  lawful = All-append IsLawfulStep done (step ∷ []) h.lawful (All-cons IsLawfulStep step [] lawful (All-nil IsLawfulStep));
  whole = grown;
  follows = follows;
  counted = omega (arith, h.counted, length-append done (step ∷ []));
  first = λ few.
      let last : longer ≡ kept ++ step ∷ [] = more (omega (arith, few)) in
      let before : kept ≡ done = h.first (omega (arith, few)) in
      cc;
} where
  grown : flat_map step_text (done ++ step ∷ []) ++ behind ≡ text
  grown =
      let before : flat_map step_text done ++ (step_text step ++ behind) ≡ text = rw (← cut) h.whole in
      let longer_text : flat_map step_text (done ++ step ∷ []) ≡ flat_map step_text done ++ (step_text step ++ []) =
      flat_map-append step_text done (step ∷ []) in
      rw (longer_text, append-nil (step_text step), append_assoc (flat_map step_text done) (step_text step) behind) before

-- no step stands at the front of what is left, so no steps have the text
pub HasRead-no_more : {text rest : List ℕ} {done kept : List Step} {count : ℕ} → HasRead text done rest kept count
    → 0 < length rest
    → ((step : Step) (behind : List ℕ) → IsLawfulStep step → FollowsPart behind → rest ≢ step_text step ++ behind)
    → (steps : List Step) → HaveText steps text → ⊥
HasRead-no_more {text} {rest} {done} h some none steps have =
    let on = steps_continue done steps rest h.lawful have.lawful h.follows (h.whole ∙ sym have.is) in
    front on.more on.lawful on.text where
      front : (more : List Step) → All IsLawfulStep more → flat_map step_text more ≡ rest → ⊥
      front [] lawful is = omega (arith, some, ap length is)
      front (step ∷ more) lawful is = none step (flat_map step_text more) (lawful 0 step (omega arith)) (steps_follow more) (sym is)

-- nothing is left, so these are the steps
pub HasRead-all : {text rest : List ℕ} {done kept : List Step} {count : ℕ} → HasRead text done rest kept count
    → length rest ≡ 0 → HaveText done text
HasRead-all {rest = []} {done = done} h none = record { lawful = h.lawful; is = sym (append-nil (flat_map step_text done)) ∙ h.whole }
HasRead-all {rest = byte ∷ rest} h none = absurd (omega (arith, none))

-- a fault that answers the steps' text answers the path's
pub path_fault : (path : Path) (fault : PathFault) → IsReadAs path.steps (length path.steps) (Err fault)
    → IsReadAs path (length path.steps) (Err fault)
path_fault path Form read = read
path_fault path (Deep told) read = read
path_fault path NoMemory read = tt

pub path_deep : {text front rest : List ℕ} (top : ℕ) (fault : PathFault) → top < 2 ^ 64 → decimal top ≡ front
    → IsCut text front rest → TellsDeepSteps rest fault → TellsDeepPath text fault
path_deep top Form small is cut told = tt
path_deep top (Deep steps) small is cut told =
    (record { top = top; steps = told.0 }, path_whole top told.0 small is told.1 cut, told.2, told.3)
path_deep top NoMemory small is cut told = tt
