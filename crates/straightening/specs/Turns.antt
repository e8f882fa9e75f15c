-- Turns: the rewriting of the greatest key that is not standard by a van der Waerden syzygy (Sturmfels, Algorithms in
-- Invariant Theory, section 3.1). That the greatest one comes first is this library's own.
use Rattle.std.specs.Prelude.{◌≡◌, ◌≢◌, ℕ, ◌+◌, ℤ, pos, neg_ℤ, nat_lt, if◌then◌else◌, List, [], ◌∷◌, Option, Some, None, option_map}
use Rattle.coordinate_model.specs.Sums.{Terms, coefficient}
use Rattle.coordinate_model.specs.Key.{Key}
use Rattle.coordinate_model.specs.BracketPolynomial.{BracketPolynomial}
use Rattle.coordinate_model.specs.Syzygy.{Use}
use Rattle.tableau_order.specs.Standard.{row_at}
use Rattle.tableau_order.specs.Violations.{alpha_at, beta_at, gamma_at}
use Rattle.syzygies.specs.Places.{rest_at}
use Rattle.straightening.specs.Queues.{without_key}

-- the first column in which the row low is greater than the row high
abbrev pub first_fall : List ℕ → List ℕ → Option ℕ
first_fall [] high = None
first_fall (p ∷ low) [] = None
first_fall (p ∷ low) (q ∷ high) = if nat_lt q p then Some 0 else option_map (λ j. j + 1) (first_fall low high)

-- the first row that is greater than the next in some column, and the first such column
abbrev pub first_violation : List (List ℕ) → Option (ℕ × ℕ)
first_violation [] = None
first_violation (low ∷ []) = None
first_violation (low ∷ high ∷ rows) = elim (first_fall low high) [
  | Some j ↦ Some (0, j)
  | None ↦ option_map (λ place. (place.0 + 1, place.1)) (first_violation (high ∷ rows))
]

-- the use that takes the term away, where its row i falls first to the next at the column j: there the product of the two
-- rows stands in the syzygy once
abbrev pub use_at : Key × ℤ → ℕ × ℕ → Use
use_at t place =
    let i = place.0 in
    let j = place.1 in
    let low = row_at t.0.rows i in
    let high = row_at t.0.rows (i + 1) in
    record {
      alpha = alpha_at j low;
      beta = beta_at j low high;
      gamma = gamma_at j high;
      multiplier = neg_ℤ t.1;
      exponents = t.0.exponents;
      rest = rest_at t.0.rows i;
    }

-- the use that takes the term away, where its key is not standard
abbrev pub use_of_term : Key × ℤ → Option Use
use_of_term t = option_map (use_at t) (first_violation t.0.rows)

-- the use at the last of the terms of which the key is not standard
abbrev pub last_use : Terms Key → Option Use
last_use [] = None
last_use (t ∷ ts) = elim (last_use ts) [ Some u ↦ Some u | None ↦ use_of_term t ]

-- the turn of a polynomial: the use at its greatest key that is not standard
abbrev pub turn : BracketPolynomial → Option Use
turn f = last_use f.terms

-- the key has a term in the polynomial, and the use takes it away
pub record IsUseAt (f : BracketPolynomial) (key : Key) (u : Use) : Type 0 where
  pub there : coefficient f key ≢ pos 0
  pub takes : use_of_term (key, coefficient f key) ≡ Some u

-- what is found at a key of the queue: the use that takes its term away, or that it has none, and then the queue loses it
abbrev pub FindsAt : BracketPolynomial → List Key → List Key → Key → Option Use → Type 0
FindsAt f old new key (Some u) = IsUseAt f key u × (new ≡ old)
FindsAt f old new key None = (coefficient f key ≡ pos 0) × (new ≡ without_key old key)
