-- The starts of an object: what it is made of before anything is rewritten, or the limit that is passed.
use Rattle.std.specs.Prelude.{ℕ, List, [], ◌∷◌, Some, None, Result, Ok, Err}
use Rattle.coordinate_model.specs.Starts.{Product}
use Rattle.coordinate_model.specs.Value.{Value}
use Rattle.bracket_poly.specs.Tracked.{Tracked, Limit}
use Rattle.cayley_terms.specs.declared.instr.Instr.{Instr}
use Rattle.cayley_terms.specs.declared.instr.Instr.TheVariants.{Free, Join, Meet, On, Conic}
use Rattle.cayley_terms.specs.Starts.{products_of, value_at}
use Rattle.cayley_terms.specs.Starts as operation
use Rattle.conic_points.specs.Makings.{made_conic}
use Rattle.shuffle_meet.specs.SectionStarts.{section_starts}
use Rattle.shuffle_meet.specs.Stops.{Start, first_stop}

-- those of an object of this step in rank d that adds these products, or the limit that the first of them passes that
-- passes one
abbrev pub starts_by : ℕ → ℕ → List Product → Result (List Start) Limit
starts_by d step ps = elim (first_stop [] ps) [ Some limit ↦ Err limit | None ↦ Ok (section_starts d step ps) ]

-- the one start of a six-point conclusion
abbrev pub start_made : Result Tracked Limit → Result (List Start) Limit
start_made (Err limit) = Err limit
start_made (Ok p) = Ok (([], p) ∷ [])

-- the starts of the object of an instruction of this step in rank d, behind those of these values; a free point has
-- none
abbrev pub starts_of : ℕ → List Value → Instr → ℕ → Result (List Start) Limit
starts_of d values (Free i) step = Ok []
starts_of d values (Join a b) step = starts_by d step (products_of operation.Join d values a b)
starts_of d values (Meet a b) step = starts_by d step (products_of operation.Meet d values a b)
starts_of d values (On a b s t) step = starts_by d step (products_of (operation.On s t) d values a b)
starts_of d values (Conic p1 p2 p3 p4 p5 p6) step =
    start_made
    (made_conic (value_at values p1) (value_at values p2) (value_at values p3) (value_at values p4) (value_at values p5)
    (value_at values p6))
