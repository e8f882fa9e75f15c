-- Starts with the keys that they have met, and the first product that passes a limit. The limits are those of additions
-- to one polynomial; the order of the products is this library's own.
use Rattle.std.specs.Prelude.{ℕ, List, [], ◌∷◌, ◌++◌, map, filter, flat_map, Option, Some, None}
use Rattle.coordinate_model.specs.Starts.{Product, terms_of, products_at, reached, has_term}
use Rattle.bracket_poly.specs.Tracked.{Tracked, Limit, nothing, plus_terms, first_limit}

-- a start: an extensor with its polynomial and the keys that it has met
abbrev pub Start : Type 0
Start = List ℕ × Tracked

-- the polynomial of the extensor behind these products, with the keys that it has met
abbrev pub tracked_at : List ℕ → List Product → Tracked
tracked_at x ps = plus_terms nothing (flat_map terms_of (products_at x ps))

-- the first limit that a product of the list passes, where these products were added before it
abbrev pub first_stop : List Product → List Product → Option Limit
first_stop before [] = None
first_stop before (p ∷ ps) =
    elim (first_limit (tracked_at p.extensor before) (terms_of p)) [
      | Some l ↦ Some l
      | None ↦ first_stop (before ++ p ∷ []) ps
    ]

-- each extensor that is reached, with its polynomial and the keys that it has met
abbrev pub tracked_starts : List Product → List Start
tracked_starts ps = map (λ x. (x, tracked_at x ps)) (reached ps)

-- those of them with a term
abbrev pub tracked_entries : List Product → List Start
tracked_entries ps = filter (λ e. has_term (e.0, e.1.sum)) (tracked_starts ps)
