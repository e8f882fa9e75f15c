-- The least key at which polynomials differ, and the least one that is not standard.
use Rattle.std.specs.Prelude.{◌≡◌, ◌≢◌, ℕ, ℤ, pos, Option, MatchOption}
use Rattle.std.specs.declared.cmp.Ordering.TheVariants.{Less}
use Rattle.coordinate_model.specs.Sums.{coefficient}
use Rattle.coordinate_model.specs.Key.{Key, key_cmp, HasRisingColumns}
use Rattle.coordinate_model.specs.BracketPolynomial.{BracketPolynomial, IsNormal}
use Rattle.log_checker.specs.declared.difference.LeastDifference.{LeastDifference}

-- k is the least key at which the polynomials have different coefficients, and these are both
pub record IsLeastDifference (computed written : BracketPolynomial) (k : Key) (c w : ℤ) : Type 0 where
  pub computed_is : coefficient computed k ≡ c
  pub written_is : coefficient written k ≡ w
  pub differ : c ≢ w
  pub least : (j : Key) → key_cmp j k ≡ Less → coefficient computed j ≡ coefficient written j

-- k is the least key of the polynomial that is not standard
pub record IsLeastNonstandard (d : ℕ) (f : BracketPolynomial) (k : Key) : Type 0 where
  pub is_there : coefficient f k ≢ pos 0
  pub nonstandard : HasRisingColumns d k.rows → ⊥
  pub least : (j : Key) → key_cmp j k ≡ Less → coefficient f j ≢ pos 0 → HasRisingColumns d j.rows

-- the least difference is found, or none where the polynomials are equal
abbrev pub FindsDifference : {d : ℕ} → BracketPolynomial → BracketPolynomial → Option (LeastDifference d) → Type 0
FindsDifference f g found = MatchOption found (f ≡ g) (λ x. IsLeastDifference f g x.key x.computed x.written)

-- the least key that is not standard is found, or none where the polynomial is normal
abbrev pub FindsNonstandard : ℕ → BracketPolynomial → Option Key → Type 0
FindsNonstandard d f found = MatchOption found (IsNormal d 64 f) (IsLeastNonstandard d f)
