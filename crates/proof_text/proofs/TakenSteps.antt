-- What lines give whose names and numbers are good.
use Rattle.std.proofs.Common.{◌≡◌, ℕ, Bool, true, false, List}
use Rattle.std.proofs.Common.{Result, Ok, Err, refl, ap}
use Rattle.std.specs.Prelude.{if◌then◌else◌}
use Rattle.step_types.specs.declared.names.Names.{Names}
use Rattle.proof_text.specs.declared.fault.ProofKind.{ProofKind}
use Rattle.proof_text.specs.declared.fault.ProofKind.TheVariants as kind
use Rattle.proof_text.specs.declared.fault.LineError.{LineError}
use Rattle.proof_text.specs.declared.fault.LineError.TheVariants as errors
use Rattle.proof_text.specs.Forms.{Form, PlainForm, Spelt}
use Rattle.proof_text.specs.Meant.{use_meant}
use Rattle.proof_text.specs.State.{State, may_stand}
use Rattle.proof_text.specs.Kinds.{is_other_header, is_other_object, is_unnamed}
use Rattle.proof_text.specs.Kinds.{is_misnumbered, is_disordered}
use Rattle.proof_text.specs.Ordered.{ordered_use, StandsWell, takes_well}
use Rattle.proof_text.specs.Readings.{takes_ready}
use Rattle.proof_text.specs.Taken.{Refuses}

-- a line that stands well is taken by its order alone
pub well_taken : (d : ℕ) (names : Names) (steps : List ℕ) (s : State) (form : PlainForm)
    → StandsWell d names steps s form
    → takes_ready names steps s form ≡ takes_well names s form
unfolding takes_ready
well_taken d names steps s form well = rw (well.stands, well.header, well.object, well.named, well.numbered) refl

module _ (names : Names) (steps : List ℕ) (s : State) (form : PlainForm) where
  pub early_shape : may_stand steps s form ≡ false → takes_ready names steps s form ≡ Err kind.Shape
  unfolding takes_ready
  early_shape e = rw e refl

  pub early_header : may_stand steps s form ≡ true → is_other_header names form ≡ true
      → takes_ready names steps s form ≡ Err kind.Header
  unfolding takes_ready
  early_header e f = rw (e, f) refl

  pub early_object : may_stand steps s form ≡ true → is_other_header names form ≡ false
      → is_other_object steps s form ≡ true
      → takes_ready names steps s form ≡ Err kind.Object
  unfolding takes_ready
  early_object e f g = rw (e, f, g) refl

  pub early_name : may_stand steps s form ≡ true → is_other_header names form ≡ false
      → is_other_object steps s form ≡ false
      → is_unnamed names form ≡ true → takes_ready names steps s form ≡ Err kind.Name
  unfolding takes_ready
  early_name e f g h = rw (e, f, g, h) refl

  pub early_number : may_stand steps s form ≡ true → is_other_header names form ≡ false
      → is_other_object steps s form ≡ false → is_unnamed names form ≡ false → is_misnumbered form ≡ true
      → takes_ready names steps s form ≡ Err kind.Number
  unfolding takes_ready
  early_number e f g h i = rw (e, f, g, h, i) refl

pub given_ok : {A : Type 0} (b : Bool) (x y : A) (k : ProofKind)
    → ◌≡◌ {A = Result A ProofKind} (if b then Ok x else Err k) (Ok y) → (b ≡ true) × (x ≡ y)
given_ok true x y k e = (refl, cc)
given_ok false x y k e = absurd cc

pub given_err : {A : Type 0} (b : Bool) (x : A) (k found : ProofKind)
    → ◌≡◌ {A = Result A ProofKind} (if b then Ok x else Err k) (Err found) → (b ≡ false) × (k ≡ found)
given_err true x k found e = absurd cc
given_err false x k found e = (refl, cc)

pub use_refused : (names : Names) (s : State) (t : Spelt (List (List ℕ))) (alpha beta gamma : List (List ℕ))
    (found : ProofKind)
    → ordered_use names t alpha beta gamma ≡ Err found → takes_well names s (Form.Use t alpha beta gamma) ≡ Err found
use_refused names s t alpha beta gamma found none =
    let here = given_err _ (use_meant names t alpha beta gamma) kind.Order found none in
    let order : is_disordered names s (Form.Use t alpha beta gamma) ≡ true = rw here.0 refl in
    rw order (ap Err here.1)

pub use_lost : (e : LineError) (names : Names) (s : State) (t : Spelt (List (List ℕ)))
    (alpha beta gamma : List (List ℕ))
    → Refuses e (ordered_use names t alpha beta gamma) → Refuses e (takes_well names s (Form.Use t alpha beta gamma))
use_lost errors.Memory names s t alpha beta gamma wrong = tt
use_lost (errors.Fault found) names s t alpha beta gamma wrong = use_refused names s t alpha beta gamma found wrong
