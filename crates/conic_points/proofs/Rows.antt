-- Entries of points, and rows of points in which theirs are put.
use Rattle.std.specs.Prelude.{◌≡◌, ℕ, ℤ, ◌+◌, ◌<◌, ◌≤◌, List, [], ◌∷◌, ◌++◌, length, take, drop, Ok}
use Rattle.std.specs.List.{AllByRecursion}
use Rattle.std.proofs.Common.{refl, sym, ap, subst, ◌∙◌, arith, get_or}
use Rattle.coordinate_model.specs.Sequences.{IsRank}
use Rattle.coordinate_model.specs.BracketPolynomial.{BracketPolynomial}
use Rattle.coordinate_model.specs.Key.{Key}
use Rattle.coordinate_model.specs.Starts.{Entry}
use Rattle.coordinate_model.specs.Value.{Value as Entries, HasStep}
use Rattle.coordinate_model.proofs.Ranks.{by_rank}
use Rattle.coordinate_model.proofs.Splits.{all_so}
use Rattle.bracket_terms.specs.declared.extensor.Extensor.{Extensor}
use Rattle.bracket_terms.proofs.ExtensorLaws.{length-points_of}
use Rattle.bracket_poly.specs.Kept.{TrackedOf}
use Rattle.bracket_poly.specs.Makings.{◌>>=◌, each_item, made_product}
use Rattle.bracket_poly.specs.Products.{HasDegree}
use Rattle.bracket_poly.specs.Tracked.{Tracked}
use Rattle.bracket_poly.specs.Values.{value_of, extensor_size}
use Rattle.bracket_poly.specs.declared.value.Value.{Value}
use Rattle.bracket_poly.proofs.Makings.{holds_at}
use Rattle.conic_points.specs.Makings.{adding_bracket, adding_entry}
use Rattle.conic_points.specs.Points.{IsSmall, IsPoint, IsPointEntry}

-- ---- entries

size_of_point : (d : ℕ) → IsRank d → extensor_size d 1 ≡ 1
size_of_point d rank = by_rank (λ n. extensor_size n 1 ≡ 1) refl refl refl d rank

-- a point has its step in the model
pub has_step_one : {d : ℕ} (v : Value d) → IsRank d → v.step ≡ 1 → HasStep 1 (value_of v.entries)
has_step_one {d} v rank one =
    subst (λ (n : ℕ). HasStep n (value_of v.entries)) (ap (extensor_size d) one ∙ size_of_point d rank) v.formed.sizes

-- the entries of a point
pub point_entries : {d : ℕ} (v : Value d) → IsRank d → IsPoint v → AllByRecursion IsPointEntry v.entries
point_entries {d} v rank h = each v.entries (has_step_one v rank h.one) h.small
  where
    each : (es : List (Extensor × TrackedOf d)) → HasStep 1 (value_of es) → AllByRecursion IsSmall es
        → AllByRecursion IsPointEntry es
    each [] s h = tt
    each (e ∷ es) s h =
        (record { one = sym (length-points_of e.0.size e.0.points e.0.formed) ∙ s.0; small = h.0 }, each es s.1 h.1)

-- so is the entry at a place
pub entry_at : {d : ℕ} (v : Value d) (es : List (Extensor × TrackedOf d)) (i : ℕ) (x : Extensor × TrackedOf d) → IsRank d
    → IsPoint v → es ≡ v.entries → i < length es → x ≡ get_or es i x → IsPointEntry x
entry_at v es i x rank h same here is =
    holds_at IsPointEntry es i x (subst (AllByRecursion IsPointEntry) (sym same) (point_entries v rank h)) here is

-- exponents of at most 1,000 are at most 2,000
pub higher : (f : BracketPolynomial) → HasDegree 1000 f → HasDegree 2000 f
higher f h =
    all_so (λ (t : Key × ℤ). AllByRecursion (λ e. e ≤ 1000) t.0.exponents) (λ t. AllByRecursion (λ e. e ≤ 2000) t.0.exponents)
    (λ t k. all_so (λ e. e ≤ 1000) (λ e. e ≤ 2000) (λ e l. omega arith) t.0.exponents k) f.terms h

-- ---- rows

-- what an entry of the last value adds, where its point was put in the row
module _ (row new : List ℕ) (place : ℕ) (f : BracketPolynomial) (e : Entry)
    (whole : new ≡ take place row ++ e.0 ++ drop (place + 1) row) where
  pub last_same : (p : Tracked)
      → adding_bracket f e.1 new p ≡ adding_entry (drop (place + 1) row) [] f (take place row) p e
  last_same p = ap (λ (points : List ℕ). adding_bracket f e.1 points p) whole

-- what an entry of a value adds that goes before others
module _ (row new : List ℕ) (place count : ℕ) (e : Entry) (more : ℕ) (after : more ≡ count)
    (front : take (place + 1) new ≡ take place row ++ e.0) (behind : drop more new ≡ drop more row) where
  pub steps_same : (others : List Entries) (V : Entries) (f : BracketPolynomial) (p : Tracked)
      → each_item (adding_entry (drop more new) others f (take (place + 1) new)) p V
      ≡ each_item (adding_entry (drop count row) others f (take place row ++ e.0)) p V
  steps_same others V f p =
      ap (λ (xs : List ℕ). each_item (adding_entry xs others f (take (place + 1) new)) p V)
      (behind ∙ ap (λ n. drop n row) after)
      ∙ ap (λ (xs : List ℕ). each_item (adding_entry (drop count row) others f xs) p V) front

  pub before_same : (others : List Entries) (V : Entries) (f : BracketPolynomial) (p both : Tracked)
      → made_product f e.1 ≡ Ok both
      → each_item (adding_entry (drop more new) others both.sum (take (place + 1) new)) p V
      ≡ adding_entry (drop count row) (V ∷ others) f (take place row) p e
  before_same others V f p both made =
      steps_same others V both.sum p
      ∙ sym (ap (λ r. r >>= λ (q : Tracked). each_item (adding_entry (drop count row) others q.sum (take place row ++ e.0)) p V)
      made)
