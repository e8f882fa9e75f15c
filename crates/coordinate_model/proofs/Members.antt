-- The terms of a sum: each has its integer as the coefficient of its key.
use Rattle.std.specs.Prelude.{◌≡◌, T, ℤ, pos, ◌+ℤ◌, cond, [], ◌∷◌}
use Rattle.std.specs.FinMap.{is_sorted, IsAntisymmetric}
use Rattle.std.specs.FinMap.Entries.{below_all}
use Rattle.std.specs.List.{AllByRecursion}
use Rattle.std.specs.Cmp.{IsTotalOrder}
use Rattle.std.specs.Ordering.{is_eq, ordering_reverse}
use Rattle.std.specs.declared.cmp.Ordering.{Ordering}
use Rattle.std.specs.declared.cmp.Ordering.TheVariants.{Less}
use Rattle.std.proofs.Common.{ap, ◌∙◌, arith}
use Rattle.std.proofs.lemmas.Int.{ints}
use Rattle.coordinate_model.specs.Sums.{Sum, Terms, has_no_zero, count_at, empty}
use Rattle.coordinate_model.proofs.Bools.{first, second, less}
use Rattle.coordinate_model.proofs.SumLemmas.{count_first, nonzero_head, nonzero_tail, same_coefficients}

-- the term stands in the list
pub data Mem {K : Type 0} (e : K × ℤ) : Terms K → Type 0 where
  here : {ts : Terms K} → Mem e (e ∷ ts)
  there : {t : K × ℤ} {ts : Terms K} → Mem e ts → Mem e (t ∷ ts)

-- what holds of each term holds of all
pub all_of_members : {K : Type 0} (P : K × ℤ → Type 0) (ts : Terms K) → ((e : K × ℤ) → Mem e ts → P e) → AllByRecursion P ts
all_of_members P [] h = tt
all_of_members P (t ∷ ts) h = (h t here, all_of_members P ts (λ e m. h e (there m)))

pub member_of_all : {K : Type 0} (P : K × ℤ → Type 0) (e : K × ℤ) (ts : Terms K) → Mem e ts → AllByRecursion P ts → P e
member_of_all P e [] m p = elim m [ ]
member_of_all P e (t ∷ ts) here p = p.0
member_of_all P e (t ∷ ts) (there m) p = member_of_all P e ts m p.1

zero_left : (z : ℤ) → pos 0 +ℤ z ≡ z
zero_left z = omega (arith, ints)

module _ {K : Type 0} (R : K → K → Ordering) where
  pub below_member : (x : K) (e : K × ℤ) (ts : Terms K) → Mem e ts → T (below_all R x ts) → R x e.0 ≡ Less
  below_member x e [] m h = elim m [ ]
  below_member x e (t ∷ ts) here h = less _ (first _ _ h)
  below_member x e (t ∷ ts) (there m) h = below_member x e ts m (second _ _ h)

  pub nonzero_member : (e : K × ℤ) (ts : Terms K) → Mem e ts → T (has_no_zero ts) → e.1 ≡ pos 0 → ⊥
  nonzero_member e [] m h = elim m [ ]
  nonzero_member e (t ∷ ts) here h = nonzero_head R t.1 _ h
  nonzero_member e (t ∷ ts) (there m) h = nonzero_member e ts m (nonzero_tail R t.1 _ h)

  module _ (o : IsTotalOrder R) (same : IsAntisymmetric R) where
    pub count_member : (e : K × ℤ) (ts : Terms K) → Mem e ts → T (is_sorted R ts) → count_at R e.0 ts ≡ e.1
    count_member e [] m h = elim m [ ]
    count_member e (t ∷ ts) here h = count_first R o same t ts (first _ _ h)
    count_member e (t ∷ ts) (there m) h =
        ap (λ r. cond (is_eq r) t.1 (pos 0) +ℤ count_at R e.0 ts)
        (o.antisymm e.0 t.0 ∙ ap ordering_reverse (below_member t.0 e ts m (first _ _ h)))
        ∙ zero_left (count_at R e.0 ts) ∙ count_member e ts m (second _ _ h)

    -- a sum without terms is zero
    pub no_terms : (f : Sum R) → f.terms ≡ [] → f ≡ empty R
    no_terms f e = same_coefficients R o same f (empty R) (λ k. ap (count_at R k) e)
