-- The terms of joins and meets, by the sets of columns of the two coordinates and the sign.
use Rattle.std.specs.Prelude.{ℕ, ◌+◌, ◌-◌, Bool, not, ◌&&◌, if◌then◌else◌, List, [], ◌++◌, map, length, nat_lt}
use Rattle.std.specs.Prelude.{slice_index_or}
use Rattle.coordinate_model.specs.Sequences.{is_odd, splits, subsets, without}
use Rattle.coordinate_model.specs.InOrder.{meeting_pairs}
use Rattle.placement.specs.declared.terms.Term.{Term}

-- a product of the coordinates at two sets of columns, and whether it is subtracted
abbrev pub Shown : Type 0
Shown = List ℕ × List ℕ × Bool

-- the term of two objects of steps a and b in rank d
abbrev pub shown : ℕ → ℕ → ℕ → Term → Shown
shown d a b t = (slice_index_or (subsets d a) t.first [], slice_index_or (subsets d b) t.second [], t.is_odd)

-- whether the two objects have these coordinates
abbrev pub is_within : ℕ → ℕ → ℕ → Term → Bool
is_within d a b t = nat_lt t.first (length (subsets d a)) && nat_lt t.second (length (subsets d b))

-- the terms of the join of objects of steps a and b in rank d, for each coordinate in order
abbrev pub join_rows : ℕ → ℕ → ℕ → List (List Shown)
join_rows d a b = map (λ K. map (λ s. (s.0, s.1, is_odd (s.0 ++ s.1))) (splits a K)) (subsets d (a + b))

-- whether the pair of sets that meet in K has the sign -1
abbrev pub meets_oddly : List ℕ → List ℕ × List ℕ → Bool
meets_oddly K s = if is_odd (without s.0 K ++ K) then not (is_odd (without s.0 K ++ s.1)) else is_odd
    (without s.0 K ++ s.1)

-- the terms of their meet, for each coordinate in order
abbrev pub meet_rows : ℕ → ℕ → ℕ → List (List Shown)
meet_rows d a b = map (λ K. map (λ s. (s.0, s.1, meets_oddly K s)) (meeting_pairs d a b K)) (subsets d (a + b - d))
