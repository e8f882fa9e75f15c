-- Starts with the keys that they have met are, by their sums, the starts of the model.
use Rattle.std.proofs.Common.{◌≡◌, ℕ, Bool, true, false, cond, List, [], ◌∷◌, map, filter, refl, ap, ◌∙◌}
use Rattle.std.proofs.Common.{flat_map}
use Rattle.coordinate_model.specs.Starts.{Product, Entry, terms_of, products_at, reached, start_at, starts, has_term}
use Rattle.coordinate_model.specs.Value.{Value}
use Rattle.bracket_poly.proofs.Totals.{adds_all}
use Rattle.bracket_poly.specs.Tracked.{nothing}
use Rattle.shuffle_meet.specs.Stops.{Start, tracked_at, tracked_entries}

-- ---- sums

pub tracked_sum : (x : List ℕ) (ps : List Product) → (tracked_at x ps).sum ≡ start_at x ps
tracked_sum x ps = adds_all nothing (flat_map terms_of (products_at x ps))

-- ---- starts as entries

-- the start without the keys that it has met
abbrev pub entry_at : Start → Entry
entry_at s = (s.0, s.1.sum)

abbrev pub entries_at : List Start → Value
entries_at ss = map entry_at ss

pub entries-tracked : (ps : List Product) → entries_at (tracked_entries ps) ≡ filter has_term (starts ps)
entries-tracked ps = each (reached ps)
  where
    each : (xs : List (List ℕ))
        → entries_at (filter (λ e. has_term (e.0, e.1.sum)) (map (λ x. (x, tracked_at x ps)) xs))
        ≡ filter has_term (map (λ x. (x, start_at x ps)) xs)
    each [] = refl
    each (x ∷ xs) =
        step (has_term (x, (tracked_at x ps).sum)) (each xs)
        ∙ ap (λ f. cond (has_term (x, f)) ((x, f) ∷ filter has_term (map (λ x. (x, start_at x ps)) xs))
        (filter has_term (map (λ x. (x, start_at x ps)) xs))) (tracked_sum x ps)
      where
        step : (b : Bool)
            → entries_at (filter (λ e. has_term (e.0, e.1.sum)) (map (λ x. (x, tracked_at x ps)) xs))
            ≡ filter has_term (map (λ x. (x, start_at x ps)) xs)
            → entries_at (cond b
            ((x, tracked_at x ps) ∷ filter (λ e. has_term (e.0, e.1.sum)) (map (λ x. (x, tracked_at x ps)) xs))
            (filter (λ e. has_term (e.0, e.1.sum)) (map (λ x. (x, tracked_at x ps)) xs)))
            ≡ cond b ((x, (tracked_at x ps).sum) ∷ filter has_term (map (λ x. (x, start_at x ps)) xs))
            (filter has_term (map (λ x. (x, start_at x ps)) xs))
        step true ih = ap (λ es. (x, (tracked_at x ps).sum) ∷ es) ih
        step false ih = ih
