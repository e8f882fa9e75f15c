-- What holds of every polynomial of the code, as a part of its value.
use Rattle.std.specs.Prelude.{◌≡◌, ℕ, ◌≤◌, T, List, length}
use Rattle.std.specs.Coded.{Coded, coded×, coded_list, le_prop}
use Rattle.std.specs.List.{AllByRecursion, AllByRecursion-prop, IsDistinct, IsDistinct-prop}
use Rattle.std.specs.Ordering.{eq_by_cmp}
use Rattle.std.proofs.Math.Nat.{ℕ_set}
use Rattle.std.proofs.Math.Bool.{Bool-set}
use mathlib.Core.HLevel.{Σ_prop_path}
use lib.Dec.{T_prop}
use base.Stored.{coded_via}
use Rattle.coordinate_model.specs.Sequences.{IsRank}
use Rattle.coordinate_model.specs.Sums.{Terms, is_canonical}
use Rattle.coordinate_model.specs.Key.{Key, key_cmp, IsRow, IsKey}
use Rattle.coordinate_model.specs.BracketPolynomial.{BracketPolynomial, IsBracketPolynomial}
use Rattle.coordinate_model.specs.Code.{key_code, bracket_polynomial_code}
use Rattle.bracket_poly.specs.Tracked.{Tracked, fits, has_met, met_limit}

-- a bracket polynomial of rank d in 64 parameters, whose integers fit, with the keys that it has met: each once, at most
-- as many as the limit, and each key of a term among them
pub record IsTracked (d : ℕ) (p : Tracked) : Type 0 where
  pub rank : IsRank d
  pub keys : IsBracketPolynomial d 64 p.sum
  pub small : AllByRecursion (λ t. T (fits t.1)) p.sum.terms
  pub met_keys : AllByRecursion (IsKey d 64) p.met
  pub once : IsDistinct (eq_by_cmp key_cmp) p.met
  pub few : length p.met ≤ met_limit
  pub terms_met : AllByRecursion (λ t. T (has_met p.met t.0)) p.sum.terms

-- the value of a polynomial of the code
pub record TrackedOf (d : ℕ) : Type 0 where
  pub tracked : Tracked
  pub formed : IsTracked d tracked

row-prop : (d : ℕ) (r : List ℕ) → IsProp (IsRow d r)
row-prop d r = hlevel (ℕ_set, le_prop)

-- a key is one in one way at most
pub key-prop : (d n : ℕ) (k : Key) → IsProp (IsKey d n k)
key-prop d n k = hlevel (ℕ_set, le_prop, Bool-set, AllByRecursion-prop (IsRow d) (row-prop d) k.rows)

-- and so is what is tracked
pub tracked-prop : (d : ℕ) (p : Tracked) → IsProp (IsTracked d p)
tracked-prop d p =
    hlevel (
      ℕ_set,
      le_prop,
      Bool-set,
      AllByRecursion-prop (λ t. IsKey d 64 t.0) (λ t. key-prop d 64 t.0) p.sum.terms,
      AllByRecursion-prop (λ t. T (fits t.1)) (λ t. T_prop (fits t.1)) p.sum.terms,
      AllByRecursion-prop (IsKey d 64) (key-prop d 64) p.met,
      IsDistinct-prop (eq_by_cmp key_cmp) p.met,
      AllByRecursion-prop (λ t. T (has_met p.met t.0)) (λ t. T_prop (has_met p.met t.0)) p.sum.terms,
    )

-- the code of a polynomial with its met keys
abbrev pub pair_code : Coded (BracketPolynomial × List Key)
pair_code = coded× bracket_polynomial_code (coded_list key_code)

-- values that track the same are equal
pub same_tracked : (d : ℕ) (p q : TrackedOf d) → p.tracked ≡ q.tracked → p ≡ q
same_tracked d p q e =
    let pairs : ◌≡◌ {A = (t : Tracked) × IsTracked d t} (p.tracked, p.formed) (q.tracked, q.formed) =
    Σ_prop_path (tracked-prop d) e in
    λ j. record { tracked = (pairs j).0; formed = (pairs j).1 }

same_pair : (p q : Tracked) → ◌≡◌ {A = BracketPolynomial × List Key} (p.sum, p.met) (q.sum, q.met) → p ≡ q
same_pair p q e = λ j. record { sum = (e j).0; met = (e j).1 }

pub same_value : (d : ℕ) (p q : TrackedOf d)
    → ◌≡◌ {A = BracketPolynomial × List Key} (p.tracked.sum, p.tracked.met) (q.tracked.sum, q.tracked.met) → p ≡ q
same_value d p q e = same_tracked d p q (same_pair p.tracked q.tracked e)

-- the code of the value
abbrev pub tracked_code : (d : ℕ) → Coded (TrackedOf d)
tracked_code d = coded_via pair_code (λ p. (p.tracked.sum, p.tracked.met)) (same_value d)

-- these terms and met keys are those of such a polynomial
pub record IsKept (d : ℕ) (ts : Terms Key) (met : List Key) : Type 0 where
  pub canonical : T (is_canonical key_cmp ts)
  pub formed : IsTracked d (record { sum = record { terms = ts; canonical = canonical }; met = met })

pub kept-prop : (d : ℕ) (ts : Terms Key) (met : List Key) → IsProp (IsKept d ts met)
kept-prop d ts met =
    hlevel (
      T_prop (is_canonical key_cmp ts),
      λ (c : T (is_canonical key_cmp ts)). tracked-prop d (record { sum = record { terms = ts; canonical = c }; met = met }),
    )

-- the value that they are seen as
abbrev pub tracked_of : (d : ℕ) (ts : Terms Key) (met : List Key) → IsKept d ts met → TrackedOf d
tracked_of d ts met kept = record {
  tracked = record { sum = record { terms = ts; canonical = kept.canonical }; met = met };
  formed = kept.formed;
}
