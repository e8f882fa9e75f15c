-- How many turns a run takes. The class of a key is its parameters and its points, each as often; the keys that are turned
-- strictly descend, are not standard, and stay in the classes of the terms that the run begins with.
use Rattle.std.specs.Prelude.{◌≡◌, ◌↔◌, ℕ, zero, suc, ◌≤◌, Bool, true, false, not, ◌&&◌, List, [], ◌∷◌, map, flat_map, filter}
use Rattle.std.specs.Prelude.{length, None, Some, Contains}
use Rattle.std.specs.List.{IsDistinct, list_all}
use Rattle.std.specs.Ordering.{eq_by_cmp}
use Rattle.coordinate_model.specs.Sequences.{IsRank, splits, repeats}
use Rattle.coordinate_model.specs.Words.{is_ascending}
use Rattle.coordinate_model.specs.Key.{Key, key_cmp, row_cmp, IsKey, IsStandardKey, points}
use Rattle.coordinate_model.specs.BracketPolynomial.{BracketPolynomial, IsBracketPolynomial}
use Rattle.coordinate_model.specs.Syzygy.{sorted}
use Rattle.bracket_poly.specs.Tracked.{Tracked}
use Rattle.straightening.specs.RunLaws.{HasLike}
use Rattle.straightening.specs.Runs.{Run, turns_stop, run}
use Rattle.straightening.specs.Turns.{first_violation}

-- a key of rank d and n parameters that is not standard, in the class of a term of the polynomial
pub record IsTurnable (d n : ℕ) (f : BracketPolynomial) (k : Key) : Type 0 where
  pub key : IsKey d n k
  pub not_standard : IsStandardKey d n k → ⊥
  pub like : HasLike f k.exponents (points k.rows)

-- the list holds all of them
abbrev pub HoldsTurnable : ℕ → ℕ → BracketPolynomial → List Key → Type 0
HoldsTurnable d n f ks = (k : Key) → IsTurnable d n f k → Contains ks k

-- the run with this budget takes at most so many turns, and with a budget of so many it never stops for its turns
pub record TakesAtMost (most budget : ℕ) (r : Run) : Type 0 where
  pub turns : length r.uses ≤ most
  pub enough : most ≤ budget → r.stop ≡ Some turns_stop → ⊥

-- a run takes at most as many turns as a list of the keys that it may turn is long
abbrev pub RunIsBounded : Type 0
RunIsBounded =
    (d n budget : ℕ) (p : Tracked) (ks : List Key) → IsRank d → IsBracketPolynomial d n p.sum
    → HoldsTurnable d n p.sum ks → TakesAtMost (length ks) budget (run budget p)

-- ---- the keys that a run may turn, as a list

-- every way to write the points into so many rows of d points
abbrev pub row_lists : ℕ → ℕ → List ℕ → List (List (List ℕ))
row_lists d zero ps = [] ∷ []
row_lists d (suc m) ps = flat_map (λ s. map (λ rows. s.0 ∷ rows) (row_lists d m s.1)) (splits d ps)

-- whether no row has a point twice, the rows ascend, and one is greater than the next in some column
abbrev pub is_turnable : List (List ℕ) → Bool
is_turnable rows =
    list_all (λ r. not (repeats r)) rows
    && (is_ascending row_cmp rows && elim (first_violation rows) [ None ↦ false | Some place ↦ true ])

-- the keys of the class of k that are not standard
abbrev pub turnable_like : ℕ → Key → List Key
turnable_like d k =
    map (λ rows. record { exponents = k.exponents; rows = rows })
    (filter is_turnable (row_lists d (length k.rows) (sorted (points k.rows))))

-- each of the keys once
abbrev pub each_once : List Key → List Key
each_once [] = []
each_once (k ∷ ks) = k ∷ filter (λ l. not (eq_by_cmp key_cmp k l)) (each_once ks)

-- the keys that are not standard in the classes of the terms of the polynomial
abbrev pub turnable_keys : ℕ → BracketPolynomial → List Key
turnable_keys d f = each_once (flat_map (λ t. turnable_like d t.0) f.terms)

-- the list holds exactly the turnable keys, each once
pub record ListsTurnable (d n : ℕ) (f : BracketPolynomial) (ks : List Key) : Type 0 where
  pub exactly : (k : Key) → Contains ks k ↔ IsTurnable d n f k
  pub once : IsDistinct (eq_by_cmp key_cmp) ks

abbrev pub TurnableKeys : Type 0
TurnableKeys =
    (d n : ℕ) (f : BracketPolynomial) → IsRank d → IsBracketPolynomial d n f → ListsTurnable d n f (turnable_keys d f)

-- so a run takes at most as many turns as there are turnable keys
abbrev pub RunTakesAtMost : Type 0
RunTakesAtMost =
    (d n budget : ℕ) (p : Tracked) → IsRank d → IsBracketPolynomial d n p.sum
    → TakesAtMost (length (turnable_keys d p.sum)) budget (run budget p)
