-- Bracket polynomials with the keys that they have met, and the limits on what is added to them. The limits are this
-- library's own.
use Rattle.std.specs.Prelude.{◌≡◌, ℕ, ◌^◌, Bool, not, ◌&&◌, ◌||◌, if◌then◌else◌, ℤ, ◌+ℤ◌, List, [], ◌∷◌}
use Rattle.std.specs.Prelude.{◌++◌, length, nat_lt, unsigned_abs, Option, Some, None}
use Rattle.std.specs.List.{list_any}
use Rattle.std.specs.Ordering.{eq_by_cmp}
use Rattle.coordinate_model.specs.Sums.{Terms, sum_of, empty, coefficient}
use Rattle.coordinate_model.specs.Key.{Key, key_cmp}
use Rattle.coordinate_model.specs.BracketPolynomial.{BracketPolynomial}

-- a bracket polynomial, and the keys that it has met, in the order in which they were first met
pub record Tracked : Type 0 where
  pub sum : BracketPolynomial
  pub met : List Key

-- no term, and no key met
abbrev pub nothing : Tracked
nothing = record { sum = empty key_cmp; met = [] }

-- what may be passed: the limit of a coefficient, or of the keys that are met
pub data Limit : Type 0 where
  coefficient_limit : Limit
  keys_limit : Limit

-- whether the integer is at most 2^127 - 1 in absolute value
abbrev pub fits : ℤ → Bool
fits c = nat_lt (unsigned_abs c) (2 ^ 127)

-- how many keys a polynomial may meet
abbrev pub met_limit : ℕ
met_limit = 2097152

-- whether the key is met
abbrev pub has_met : List Key → Key → Bool
has_met met k = list_any (eq_by_cmp key_cmp k) met

-- the limit that is passed when the term is added: its integer or the sum is too large, or it has a new key and there
-- is room for none
abbrev pub limit_at : Tracked → Key × ℤ → Option Limit
limit_at p t =
    if not (fits t.1 && fits (coefficient p.sum t.0 +ℤ t.1)) then Some coefficient_limit
    else if has_met p.met t.0 || nat_lt (length p.met) met_limit then None
    else Some keys_limit

-- the keys with one more that is met
abbrev pub meet_key : List Key → Key → List Key
meet_key met k = if has_met met k then met else met ++ k ∷ []

-- the polynomial with the term added
abbrev pub plus_term : Tracked → Key × ℤ → Tracked
plus_term p t = record { sum = sum_of key_cmp (t ∷ p.sum.terms); met = meet_key p.met t.0 }

-- the polynomial with the terms added, one after another
abbrev pub plus_terms : Tracked → Terms Key → Tracked
plus_terms p [] = p
plus_terms p (t ∷ ts) = plus_terms (plus_term p t) ts

-- the first limit that is passed when the terms are added so
abbrev pub first_limit : Tracked → Terms Key → Option Limit
first_limit p [] = None
first_limit p (t ∷ ts) = elim (limit_at p t) [ Some l ↦ Some l | None ↦ first_limit (plus_term p t) ts ]

-- the terms before the one that passes a limit
abbrev pub before_limit : Tracked → Terms Key → Terms Key
before_limit p [] = []
before_limit p (t ∷ ts) = elim (limit_at p t) [ Some l ↦ [] | None ↦ t ∷ before_limit (plus_term p t) ts ]

-- the new polynomial is the old one with a front of the terms added
abbrev pub AddsFront : Tracked → Terms Key → Tracked → Type 0
AddsFront old ts new =
    (front : Terms Key) × (back : Terms Key) × (ts ≡ front ++ back) × (new ≡ plus_terms old front)
