-- What holds of the keys of products, where it goes by their rows and their degree.
use Rattle.std.specs.Prelude.{◌≡◌, ℕ, ◌+◌, ◌≤◌, pos, [], None, Ok}
use Rattle.std.specs.List.{AllByRecursion}
use Rattle.std.proofs.Common.{subst, arith}
use Rattle.coordinate_model.specs.Key.{Key, key_times, rows_key}
use Rattle.coordinate_model.specs.BracketPolynomial.{BracketPolynomial, AllKeys}
use Rattle.coordinate_model.specs.Starts.{Product, row_key, terms_of, product_terms}
use Rattle.coordinate_model.proofs.KeySets.{AllTerms}
use Rattle.coordinate_model.proofs.KeySizes.{added_up_to}
use Rattle.coordinate_model.proofs.StartKeys.{keys-product}
use Rattle.bracket_poly.specs.Laws.{ProductHasDegree}
use Rattle.bracket_poly.specs.Makings.{made_product}
use Rattle.bracket_poly.specs.Tracked.{Tracked, nothing}
use Rattle.bracket_poly.proofs.Makings.{PolyHas, nothing_has, added_has}

-- P says what holds of a key of so many rows and of this degree
module _ (P : ℕ → ℕ → Key → Type 0)
    (times : (r e s f : ℕ) (k l : Key) → P r e k → P s f l → P (r + s) (e + f) (key_times k l)) (none : P 0 0 (rows_key [])) where
  -- the terms of a product with a row or none
  pub product_has : (r e s f more : ℕ) (p : Product) → P more 0 (row_key p.row) → AllKeys (P r e) p.left
      → AllKeys (P s f) p.right → AllTerms (P (r + s + more) (e + f)) (terms_of p)
  product_has r e s f more p h left right =
      keys-product (P r e) (P s f) (P (r + s + more) (e + f)) p
      (λ k l a b. subst (λ (n : ℕ). P (r + s + more) n (key_times (key_times k l) (row_key p.row))) (omega arith)
      (times (r + s) (e + f) more 0 (key_times k l) (row_key p.row) (times r e s f k l a b) h))
      left right

  pub made_product_has : (r e s h : ℕ) (f g : BracketPolynomial) (q : Tracked) → made_product f g ≡ Ok q → AllKeys (P r e) f
      → AllKeys (P s h) g → PolyHas (P (r + s) (e + h)) q
  made_product_has r e s h f g q made left right =
      added_has (P (r + s) (e + h)) nothing (product_terms f g None (pos 1)) q made (nothing_has (P (r + s) (e + h)))
      (subst (λ (n : ℕ). AllTerms (P n (e + h)) (product_terms f g None (pos 1))) (omega arith)
      (product_has r e s h 0 (record { extensor = []; left = f; right = g; row = None; sign = pos 1 }) none left right))

-- exponents alone
abbrev pub UpTo : ℕ → ℕ → Key → Type 0
UpTo rows degree k = AllByRecursion (λ e. e ≤ degree) k.exponents

pub up_to_times : (r e s f : ℕ) (k l : Key) → UpTo r e k → UpTo s f l → UpTo (r + s) (e + f) (key_times k l)
up_to_times r e s f k l h i = added_up_to e f k.exponents l.exponents h i

pub product_degree : ProductHasDegree
product_degree m n f g q e h k = (made_product_has UpTo up_to_times tt 0 m 0 n f g q e h k).keys
