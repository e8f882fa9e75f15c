-- The meaning of a construction where each variable has an element of a ring, and that it is the value there of what
-- the construction means in variables.
use Rattle.std.specs.Prelude.{◌≡◌, ℤ}
use Rattle.construction_reader.specs.Said.{Account}
use Rattle.coordinate_model.specs.Ring.{Ops, Integers}
use Rattle.coordinate_model.specs.Polynomial.{Variable, coordinate, parameter, Polynomial, Polynomials}
use Rattle.coordinate_model.specs.Evaluation.{value_in}
use Rattle.cayley_terms.specs.Meaning.{Frame, conclusion, conclusion_polynomial}

-- the free points and parameters as the elements of their variables
abbrev pub At : (R : Ops) → (Variable → R.carrier) → Frame
At R at = record { ring = R; free = λ i j. at (coordinate i j); param = λ k. at (parameter k) }

-- the value of the conclusion polynomial at a placement is the conclusion of the points and parameters placed there
abbrev pub ConclusionAtPlacement : Type 0
ConclusionAtPlacement =
    (at : Variable → ℤ) (c : Account)
    → value_in Integers at (conclusion_polynomial c) ≡ conclusion (At Integers at) c

-- and so it is where polynomials are put in, as numbers for some of the variables
abbrev pub ConclusionPutIn : Type 0
ConclusionPutIn =
    (at : Variable → Polynomial) (c : Account)
    → value_in Polynomials at (conclusion_polynomial c) ≡ conclusion (At Polynomials at) c
