-- What holds of the keys of products holds of the keys of starts.
use Rattle.std.proofs.Common.{◌≡◌, ℕ, Bool, true, false, cond, List, [], ◌∷◌, flat_map, refl, length}
use Rattle.std.specs.Prelude.{Option, Some, None}
use Rattle.std.specs.Ordering.{eq_by_cmp}
use Rattle.std.specs.List.{AllByRecursion}
use Rattle.coordinate_model.specs.Sums.{products}
use Rattle.coordinate_model.specs.Key.{Key, key_times, row_cmp, IsRow, IsKey}
use Rattle.coordinate_model.specs.BracketPolynomial.{AllKeys, IsBracketPolynomial}
use Rattle.coordinate_model.specs.Starts.{Product, row_key, terms_of, products_at, start_at}
use Rattle.coordinate_model.proofs.Splits.{all_map}
use Rattle.coordinate_model.proofs.KeySets.{AllTerms, all_append, all_products, all_sum_of}
use Rattle.coordinate_model.proofs.Closure.{key_times-is, length-add_exponents, length-add_none}

-- what follows for each product of keys of the two polynomials and the row holds of the keys of the product
pub keys-product : (P Q S : Key → Type 0) (p : Product)
    → ((k l : Key) → P k → Q l → S (key_times (key_times k l) (row_key p.row))) → AllKeys P p.left → AllKeys Q p.right
    → AllTerms S (terms_of p)
keys-product P Q S p law left right =
    all_map (λ t. S (key_times t.0 (row_key p.row))) (λ t. S t.0) _ (λ t h. h)
    (products key_times p.left.terms p.right.terms)
    (all_products P Q (λ k. S (key_times k (row_key p.row))) law p.left.terms p.right.terms left right)

keys-products : (S : Key → Type 0) (ps : List Product) → AllByRecursion (λ p. AllTerms S (terms_of p)) ps
    → AllTerms S (flat_map terms_of ps)
keys-products S [] h = tt
keys-products S (p ∷ ps) h = all_append S (terms_of p) (flat_map terms_of ps) h.0 (keys-products S ps h.1)

-- what holds of each product holds of each that is added to the extensor
pub all_products_at : (P : Product → Type 0) (x : List ℕ) (ps : List Product) → AllByRecursion P ps
    → AllByRecursion P (products_at x ps)
all_products_at P x [] h = tt
all_products_at P x (p ∷ ps) h = step (eq_by_cmp row_cmp x p.extensor) (all_products_at P x ps h.1)
  where
    step : (b : Bool) → AllByRecursion P (products_at x ps)
        → AllByRecursion P (cond b (p ∷ products_at x ps) (products_at x ps))
    step true i = (h.0, i)
    step false i = i

-- what holds of the keys of each product holds of the keys of a start
pub keys-start : (S : Key → Type 0) (x : List ℕ) (ps : List Product) → AllByRecursion (λ p. AllTerms S (terms_of p)) ps
    → AllKeys S (start_at x ps)
keys-start S x ps h =
    all_sum_of S (flat_map terms_of (products_at x ps))
    (keys-products S (products_at x ps) (all_products_at (λ p. AllTerms S (terms_of p)) x ps h))

-- a product of two bracket polynomials of rank d and n parameters and of a row, if it has one
pub record IsProduct (d n : ℕ) (p : Product) : Type 0 where
  pub left : IsBracketPolynomial d n p.left
  pub right : IsBracketPolynomial d n p.right
  pub row : (r : List ℕ) → p.row ≡ Some r → IsRow d r

pub product-keys : (d n : ℕ) (p : Product) → IsProduct d n p → AllTerms (IsKey d n) (terms_of p)
product-keys d n p h =
    keys-product (IsKey d n) (IsKey d n) (IsKey d n) p (λ k l i j. step k l i j p.row refl) h.left h.right
  where
    step : (k l : Key) → IsKey d n k → IsKey d n l → (r : Option (List ℕ)) → p.row ≡ r
        → IsKey d n (key_times (key_times k l) (row_key r))
    step k l i j r e =
        let m : IsKey d n (key_times k l) = key_times-is d n k l i.each j.each
        (length-add_exponents n k.exponents l.exponents i.parameters j.parameters) in
        key_times-is d n (key_times k l) (row_key r) m.each (rows r e) (none r m.parameters)
      where
        rows : (r : Option (List ℕ)) → p.row ≡ r → AllByRecursion (IsRow d) (row_key r).rows
        rows None e = tt
        rows (Some r) e = (h.row r e, tt)

        none : (r : Option (List ℕ)) → length (key_times k l).exponents ≡ n
            → length (key_times (key_times k l) (row_key r)).exponents ≡ n
        none None e = length-add_none n (key_times k l).exponents [] e refl
        none (Some r) e = length-add_none n (key_times k l).exponents [] e refl

-- a start is a bracket polynomial
pub start-is : (d n : ℕ) (x : List ℕ) (ps : List Product) → AllByRecursion (IsProduct d n) ps
    → IsBracketPolynomial d n (start_at x ps)
start-is d n x ps h = keys-start (IsKey d n) x ps (each ps h)
  where
    each : (ps : List Product) → AllByRecursion (IsProduct d n) ps
        → AllByRecursion (λ p. AllTerms (IsKey d n) (terms_of p)) ps
    each [] h = tt
    each (p ∷ ps) h = (product-keys d n p h.0, each ps h.1)
