-- What functions inside answer and leave, as the definitions say it.
use Rattle.std.specs.Prelude.{◌≡◌, ⊤, ℕ, ◌+◌, ◌<◌, ◌^◌, List, [], ◌∷◌, map, drop, length, Result, Ok, Err}
use Rattle.coordinate_model.specs.Value as model
use Rattle.bracket_terms.specs.declared.extensor.Extensor.{Extensor}
use Rattle.bracket_poly.specs.Kept.{TrackedOf}
use Rattle.bracket_poly.specs.Tracked.{Limit, coefficient_limit, keys_limit}
use Rattle.bracket_poly.specs.declared.error.PolyError.{PolyError}
use Rattle.bracket_poly.specs.declared.error.PolyError.TheVariants.{Coefficient, Keys, Memory}
use Rattle.bracket_poly.specs.declared.section.ObjectLog.{ObjectLog}
use Rattle.bracket_poly.specs.declared.section.Section.{Section}
use Rattle.bracket_poly.specs.declared.value.Value.{Value}
use Rattle.cayley_terms.specs.declared.instr.Instr.{Instr}
use Rattle.cayley_terms.specs.declared.instr.Instr.TheVariants.{Free, Join, Meet, On, Conic}
use Rattle.conic_points.specs.Points.{values_of}
use Rattle.shuffle_meet.specs.Seen.{seen}
use Rattle.shuffle_meet.specs.Stops.{Start}
use Rattle.log_checker.specs.declared.progress.Progress.{Progress}
use Rattle.log_checker.specs.declared.refusal.ProofRefusal.{ProofRefusal}
use Rattle.log_checker.specs.declared.refusal.ProofRefusal.TheVariants as refusal
use Rattle.log_checker.specs.Accepted.{AreAccepted, IsAccepted}
use Rattle.log_checker.specs.Checked.{HasSmallEnd}
use Rattle.log_checker.specs.Claims.{Claim, object_claims}
use Rattle.log_checker.specs.ProofRefused.{AreRefused}

-- the steps of values
abbrev pub steps_in : {d : ℕ} → List (Value d) → List ℕ
steps_in vs = map (λ v. v.step) vs

-- the result is the starts that are made, and an error tells the limit that stops the making
abbrev pub AnswersStarts : {d : ℕ} → Result (List (Extensor × TrackedOf d)) PolyError → Result (List Start) Limit
    → Type 0
AnswersStarts (Ok starts) made = made ≡ Ok (seen starts)
AnswersStarts (Err Coefficient) made = made ≡ Err coefficient_limit
AnswersStarts (Err Keys) made = made ≡ Err keys_limit
AnswersStarts (Err Memory) made = ⊤

-- the refusal of the object of this number for the error in making its starts
abbrev pub error_refusal : {d : ℕ} → ℕ → PolyError → ProofRefusal d
error_refusal object Coefficient = refusal.ObjectCoefficient object
error_refusal object Keys = refusal.ObjectKeys object
error_refusal object Memory = refusal.Memory

-- a section of the code can be checked: it has a small end, and fewer than 2^32 uses
pub record IsCheckable {d : ℕ} (s : Section d) : Type 0 where
  pub end : HasSmallEnd s
  pub few : length s.uses < 2 ^ 32

-- the sections begin with the polynomials of the starts, and are accepted
abbrev pub AreSame : ℕ → List Start → List Claim → Type 0
AreSame d [] [] = Unit {0}
AreSame d [] (c ∷ claims) = ⊥
AreSame d (start ∷ starts) [] = ⊥
AreSame d (start ∷ starts) (c ∷ claims) = (start.1.sum ≡ c.start.sum) × IsAccepted d c × AreSame d starts claims

-- how far the check of a proof has come: the values so far, and how many objects and sections were checked
pub record Place : Type 0 where
  pub values : List model.Value
  pub objects : ℕ
  pub sections : ℕ

-- where the code stands
abbrev pub place_of : {d : ℕ} → Progress d → Place
place_of p = record { values = values_of p.values.items; objects = p.objects; sections = p.sections }

module _ {d : ℕ} (place : Place) (left : List (Instr × ℕ)) (objects : List (ObjectLog d)) where
  -- from this place on, the objects of the instructions that are left are accepted
  abbrev pub IsRestAccepted : Type 0
  IsRestAccepted = AreAccepted d place.values left (drop place.objects (object_claims objects))

  -- or the first that is refused is refused so
  abbrev pub IsRestRefused : ProofRefusal d → Type 0
  IsRestRefused r =
      AreRefused place.values left (drop place.objects (object_claims objects)) (place.objects + 1) (place.sections + 1)
      r

-- how many objects were checked behind an instruction: a free point is none
abbrev pub objects_behind : Instr → ℕ → ℕ
objects_behind (Free i) n = n
objects_behind (Join a b) n = n + 1
objects_behind (Meet a b) n = n + 1
objects_behind (On a b s t) n = n + 1
objects_behind (Conic p1 p2 p3 p4 p5 p6) n = n + 1

-- what is accepted or refused from the new place on is so from the old one on, where this instruction is left too
pub record GoesOn {d : ℕ} (old : Place) (instr : Instr) (step : ℕ) (objects : List (ObjectLog d)) (new : Place)
    : Type 0 where
  pub count : new.objects ≡ objects_behind instr old.objects
  pub accepted : (left : List (Instr × ℕ)) → IsRestAccepted new left objects
      → IsRestAccepted old ((instr, step) ∷ left) objects
  pub refused : (left : List (Instr × ℕ)) (r : ProofRefusal d) → IsRestRefused new left objects r
      → IsRestRefused old ((instr, step) ∷ left) objects r

-- the proof is refused so from this place on, whichever instructions are left behind this one
abbrev pub IsRefusedHere : {d : ℕ} → Place → Instr → ℕ → List (ObjectLog d) → ProofRefusal d → Type 0
IsRefusedHere place instr step objects r =
    (left : List (Instr × ℕ)) → IsRestRefused place ((instr, step) ∷ left) objects r
