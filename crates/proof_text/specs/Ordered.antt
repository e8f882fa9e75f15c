-- What lines give by their order, where their names and numbers are good: what the reader's own functions answer.
use Rattle.std.specs.Prelude.{◌≡◌, ℕ, ◌==◌, ◌&&◌, true, false, List, map, length, Option, Some, None, Result, Ok, Err}
use Rattle.std.specs.Prelude.{if◌then◌else◌}
use Rattle.coordinate_model.specs.Key.{Key}
use Rattle.coordinate_model.specs.Syzygy.{Use}
use Rattle.step_types.specs.declared.names.Names.{Names}
use Rattle.proof_text.specs.declared.fault.ProofKind.{ProofKind}
use Rattle.proof_text.specs.declared.fault.ProofKind.TheVariants as kind
use Rattle.proof_text.specs.Forms.{Spelt, PlainForm, IsForm, IsRowOf}
use Rattle.proof_text.specs.Meant.{points_meant, term_meant, use_meant, is_rising, is_ordered}
use Rattle.proof_text.specs.State.{State, may_stand, moved}
use Rattle.proof_text.specs.Kinds.{is_other_header, is_other_object, is_unnamed, is_misnumbered, is_disordered}
use Rattle.proof_text.specs.Kinds.{is_misjudged}

-- the rows of the term, where it stands in its order
abbrev pub ordered_rows : Names → Spelt (List (List ℕ)) → Result (List (List ℕ)) ProofKind
ordered_rows names t = if is_ordered names t then Ok (map (points_meant names) t.rows) else Err kind.Order

-- its key
abbrev pub ordered_key : Names → Spelt (List (List ℕ)) → Result Key ProofKind
ordered_key names t = if is_ordered names t then Ok (term_meant names t).0 else Err kind.Order

-- the use of the term and three lists of names
abbrev pub ordered_use : Names → Spelt (List (List ℕ)) → List (List ℕ) → List (List ℕ) → List (List ℕ)
    → Result Use ProofKind
ordered_use names t alpha beta gamma =
    if is_ordered names t then Ok (use_meant names t alpha beta gamma) else Err kind.Order

-- the points of these names, where there are so many and they strictly increase
abbrev pub rising_points : Names → ℕ → List (List ℕ) → Option (List ℕ)
rising_points names size words =
    let points = points_meant names words in
    if (length points == size) && is_rising points then Some points else None

-- a form of rank d that may stand there, of which the header, the object, the names and the numbers have no fault
pub record StandsWell (d : ℕ) (names : Names) (steps : List ℕ) (s : State) (form : PlainForm) : Type 0 where
  pub formed : IsForm (IsRowOf d) d form
  pub stands : may_stand steps s form ≡ true
  pub header : is_other_header names form ≡ false
  pub object : is_other_object steps s form ≡ false
  pub named : is_unnamed names form ≡ false
  pub numbered : is_misnumbered form ≡ false

-- what is read with a line of such a form
abbrev pub takes_well : Names → State → PlainForm → Result State ProofKind
takes_well names s form =
    if is_disordered names s form then Err kind.Order
    else if is_misjudged s form then Err kind.Verdict
    else Ok (moved names s form)
