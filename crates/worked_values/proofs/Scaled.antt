-- Free points with a weight, and what is joined of them.
use Rattle.std.specs.Prelude.{◌≡◌, ◌≢◌, ℕ, ◌+◌, ◌==◌, cond, ◌<◌, ◌≤◌, true, false, List, [], ◌∷◌, ℤ, pos, negsuc, zero, suc}
use Rattle.std.specs.List.{AllByRecursion}
use Rattle.std.proofs.lemmas.Bool.{false_from_ne_true, eqb-true}
use Rattle.std.proofs.Common.{refl, sym, ap, subst, ◌∙◌, arith, lit≤}
use Rattle.coordinate_model.specs.Sequences.{IsRank}
use Rattle.coordinate_model.specs.Sums.{Terms}
use Rattle.coordinate_model.specs.Key.{Key, key_cmp}
use Rattle.coordinate_model.proofs.SumLemmas.{terms-sum_of}
use Rattle.coordinate_model.proofs.KeyProducts.{key_total}
use Rattle.coordinate_model.proofs.Ranks.{by_rank}
use Rattle.coordinate_model.proofs.Splits.{all_replicate, all_so}
use Rattle.bracket_terms.specs.declared.extensor.Extensor.{Extensor}
use Rattle.bracket_terms.specs.Joins.{points_of}
use Rattle.bracket_terms.proofs.ExtensorLaws.{length-points_of}
use Rattle.bracket_poly.specs.Tracked.{Tracked}
use Rattle.bracket_poly.specs.Kept.{TrackedOf}
use Rattle.bracket_poly.specs.Values.{extensor_size, IsValue}
use Rattle.bracket_poly.specs.Sizes.{KeyWithin, EntryWithin}
use Rattle.conic_points.specs.Points.{IsSmall}
use Rattle.bracket_poly.specs.declared.value.Value.{Value}
use Rattle.shuffle_meet.specs.Sizes.{IsWithin}
use Rattle.shuffle_meet.specs.Objects.{AreJoined, AreMet, ProductsFit, ParameterFits, AddsSizes, rows_of_join}
use Rattle.shuffle_meet.proofs.ObjectSizes.{products_fit, parameter_fits}
use Rattle.worked_values.specs.Objects.{unit_key, number, IsNumber, IsScaled}

number_terms : (c : ℤ) → c ≢ pos 0 → (number c).sum.terms ≡ (unit_key, c) ∷ []
number_terms (pos zero) h = absurd (h refl)
number_terms (pos (suc n)) h = terms-sum_of key_cmp key_total ((unit_key, pos (suc n)) ∷ [])
number_terms (negsuc n) h = terms-sum_of key_cmp key_total ((unit_key, negsuc n) ∷ [])

module _ {d : ℕ} (x : Extensor) (w : TrackedOf d) (es : List (Extensor × TrackedOf d)) (e : es ≡ (x, w) ∷ [])
    (u : IsNumber w) where
  terms : w.tracked.sum.terms ≡ (unit_key, u.value) ∷ []
  terms = ap (λ (f : Tracked). f.sum.terms) u.is ∙ number_terms u.value u.not_zero

  pub point_value : IsRank d → x.size ≡ 1 → IsValue d 1 es
  point_value r size =
      subst (IsValue d 1) (sym e) (record {
        rank = r;
        within = (let low : 2 ≤ d = r.0 in omega arith);
        sizes = (length-points_of x.size x.points x.formed ∙ size ∙ one_point, tt);
        ascending = tt;
        terms = (ap (λ ts. elim ts [ [] ↦ false | t ∷ us ↦ true ]) terms, tt);
      })
    where
      one_point : 1 ≡ extensor_size d 1
      one_point = by_rank (λ d. 1 ≡ extensor_size d 1) refl refl refl d r

  pub point_within : (i : ℕ) → points_of x ≡ i ∷ [] → i < 256 → IsWithin 256 0 0 0 es
  point_within i p small =
      subst (IsWithin 256 0 0 0) (sym e) (
        record {
          points_below = subst (AllByRecursion (λ q. q < 256)) (sym p) (small, tt);
          keys = subst (λ (ts : Terms Key). AllByRecursion (λ t. KeyWithin 256 0 0 0 t.0) ts) (sym terms) (one, tt);
        },
        tt,
      )
    where
      one : KeyWithin 256 0 0 0 unit_key
      one = record {
        points_below = tt;
        no_others = all_replicate (λ x. x ≡ 0) 64 0 refl;
        few_rows = lit≤ tt;
        small = all_replicate (λ x. x ≤ 0) 64 0 (lit≤ tt);
      }

-- what two objects give
module _ {d : ℕ} (a b : Value d) (h : IsScaled a) (k : IsScaled b) where
  pub are_joined : a.step + b.step ≤ d → AreJoined d a.step b.step
  are_joined few =
      record { first = h.least; second = k.least; first_below = h.below; second_below = k.below; few = few }

  pub are_met : d ≤ a.step + b.step → AreMet d a.step b.step
  are_met many =
      record { first = h.least; second = k.least; first_below = h.below; second_below = k.below; many = many }

  pub numbers_fit : ProductsFit a b
  numbers_fit = products_fit d 256 0 0 0 0 0 a b (lit≤ tt) h.numbers k.numbers

  pub scaled_join : (c : Value d) → a.step + b.step < d → c.step ≡ a.step + b.step → AddsSizes (rows_of_join a b) a b c → IsScaled c
  scaled_join c below step sizes = record {
    least = (let x : 1 ≤ a.step = h.least in let e : c.step ≡ a.step + b.step = step in omega arith);
    below = subst (λ n. n < d) (sym step) below;
    numbers =
        subst (λ (x : ℕ). IsWithin 256 0 x 0 c.entries) (ap (λ t. 0 + 0 + cond t 1 0) no_bracket)
        (sizes 256 0 0 0 0 0 h.numbers k.numbers).0;
  }
    where
      no_bracket : (a.step + b.step == d) ≡ false
      no_bracket = false_from_ne_true _ (λ t. let e : a.step + b.step ≡ d = eqb-true (a.step + b.step) d t in absurd (omega arith))

pub parameter_fits_number : {d : ℕ} (s : ℕ) (a : Value d) → IsScaled a → ParameterFits s a
parameter_fits_number {d} s a h = parameter_fits d 256 0 0 0 s a (lit≤ tt) h.numbers

-- weights have no degree
pub numbers_small : {d : ℕ} (es : List (Extensor × TrackedOf d)) → IsWithin 256 0 0 0 es → AllByRecursion IsSmall es
numbers_small es h =
    all_so (EntryWithin 256 0 0 0) IsSmall
    (λ e w. all_so (λ t. KeyWithin 256 0 0 0 t.0) (λ t. AllByRecursion (λ x. x ≤ 1000) t.0.exponents)
    (λ t k. all_so (λ x. x ≤ 0) (λ x. x ≤ 1000) (λ x low. omega arith) t.0.exponents k.small) e.1.tracked.sum.terms w.keys)
    es h
