-- Coordinates that are computed within the limit: what the code makes of lists of whole numbers.
use Rattle.std.specs.Prelude.{◌≡◌, ℕ, ◌+◌, ◌-◌, Bool, if◌then◌else◌, ℤ, pos, List, [], ◌∷◌, map, fold, length}
use Rattle.std.specs.Prelude.{slice_index_or, nat_lt, ◌&&◌}
use Rattle.std.specs.Prelude.{Option, Some, None, Result, IfOk, MatchOption, Contains, Vec}
use Rattle.std.specs.List.{zip}
use Rattle.std.specs.Option.{option_map}
use Rattle.coordinate_model.specs.Brackets.{Coords}
use Rattle.coordinate_model.specs.Sequences.{subsets}
use Rattle.coordinate_model.specs.Limited.{Limited, limited_sum, limited_product, limited_negative}
use Rattle.coordinate_model.specs.InOrder.{bracket_in_order, join_in_order, meet_in_order}
use Rattle.coordinate_model.specs.PlacedPoints.{placed_within}
use Rattle.placement.specs.declared.terms.Term.{Term}

-- the numbers, none of which passes the limit, or nothing where one does
abbrev pub AreNumbers : List (Option ℤ) → Option (List ℤ) → Type 0
AreNumbers numbers made = MatchOption made (Contains numbers None) (λ made. map (λ z. Some z) made ≡ numbers)

-- an answer that is of memory, or has these numbers
abbrev pub MakesNumbers : {Z E : Type 0} → List (Option ℤ) → Result (Option (Vec ℤ Z)) E → Type 0
MakesNumbers numbers result = IfOk result (λ made. AreNumbers numbers (option_map (λ v. v.items) made))

-- the lists of numbers
abbrev pub lists_of : {Z : Type 0} → List (Vec ℤ Z) → List (List ℤ)
lists_of vecs = map (λ v. v.items) vecs

-- the product of the term's coordinates, with its sign
abbrev pub term_value : List ℤ → List ℤ → Term → Option ℤ
term_value a b t =
    let product = limited_product (Some (slice_index_or a t.first (pos 0)))
    (Some (slice_index_or b t.second (pos 0))) in
    if t.is_odd then limited_negative product else product

-- a sum, with further terms
abbrev pub total_behind : List ℤ → List ℤ → Option ℤ → List Term → Option ℤ
total_behind a b sum terms = fold (λ sum t. limited_sum sum (term_value a b t)) sum terms

-- the sum of the terms, in order
abbrev pub total_of : List ℤ → List ℤ → List Term → Option ℤ
total_of a b terms = total_behind a b (Some (pos 0)) terms

-- whether the two objects have the coordinates of the term
abbrev pub has_term : List ℤ → List ℤ → Term → Bool
has_term a b t = nat_lt t.first (length a) && nat_lt t.second (length b)

-- s * x + t * y
abbrev pub combination_of : ℤ → ℤ → ℤ × ℤ → Option ℤ
combination_of s t xy =
    limited_sum (limited_product (Some s) (Some xy.0)) (limited_product (Some t) (Some xy.1))

-- the coordinates of the point s * a + t * b
abbrev pub combinations_of : ℤ → ℤ → List ℤ → List ℤ → List (Option ℤ)
combinations_of s t a b = map (combination_of s t) (zip a b)

-- the bracket of three points
abbrev pub bracket_of : (p q r : List ℤ) → Option ℤ
bracket_of p q r = bracket_in_order Limited (placed_within p ∷ placed_within q ∷ placed_within r ∷ [])

-- the product [p q r] [p s t] [q s u] [r t u]
abbrev pub brackets_of : (p q r s t u : List ℤ) → Option ℤ
brackets_of p q r s t u =
    limited_product
    (limited_product (limited_product (bracket_of p q r) (bracket_of p s t)) (bracket_of q s u))
    (bracket_of r t u)

-- the six-point polynomial
abbrev pub conic_of : (p1 p2 p3 p4 p5 p6 : List ℤ) → Option ℤ
conic_of p1 p2 p3 p4 p5 p6 =
    limited_sum (brackets_of p1 p2 p3 p4 p5 p6) (limited_negative (brackets_of p1 p2 p4 p3 p5 p6))

-- the numbers are the coordinates of an object of step k in rank d
abbrev pub Holds : ℕ → ℕ → Coords Limited → List ℤ → Type 0
Holds d k A a = map (λ z. Some z) a ≡ map A (subsets d k)

-- the coordinates of the join of objects of steps j and k in rank d
abbrev pub joins_of : (d j k : ℕ) → Coords Limited → Coords Limited → List (Option ℤ)
joins_of d j k A B = map (join_in_order Limited j A B) (subsets d (j + k))

-- the coordinates of their meet
abbrev pub meets_of : (d j k : ℕ) → Coords Limited → Coords Limited → List (Option ℤ)
meets_of d j k A B = map (meet_in_order Limited d j k A B) (subsets d (j + k - d))

-- whatever objects of steps j and k the numbers are of, the answer has the numbers of their join
abbrev pub MakesJoin : {Z E : Type 0} → (d j k : ℕ) → List ℤ → List ℤ → Result (Option (Vec ℤ Z)) E → Type 0
MakesJoin d j k a b result =
    (A B : Coords Limited) → Holds d j A a → Holds d k B b → MakesNumbers (joins_of d j k A B) result

-- the same for their meet
abbrev pub MakesMeet : {Z E : Type 0} → (d j k : ℕ) → List ℤ → List ℤ → Result (Option (Vec ℤ Z)) E → Type 0
MakesMeet d j k a b result =
    (A B : Coords Limited) → Holds d j A a → Holds d k B b → MakesNumbers (meets_of d j k A B) result
