-- The bracket of three points that are values, and their six-point polynomial, have the values of those of their coordinates.
use Rattle.std.proofs.Common.{◌≡◌, ℕ, ◌+◌, List, [], ◌∷◌, ◌++◌, map, length, refl, sym, ap, ap₂, ◌∙◌, subst}
use Rattle.std.proofs.Common.{lit≤, lit<}
use Rattle.std.specs.List.{AllByRecursion}
use Rattle.std.proofs.lemmas.List.{length-map}
use lib.ListN.{length-append}
use Rattle.coordinate_model.specs.Sequences.{IsRank, columns}
use Rattle.coordinate_model.specs.Brackets.{join, six_point, join_bracket}
use Rattle.coordinate_model.specs.Polynomial.{Polynomial, Polynomials, free_point, br}
use Rattle.coordinate_model.specs.BracketPolynomial.{KeySums, mul, value}
use Rattle.coordinate_model.specs.Syzygy.{sorted_bracket}
use Rattle.coordinate_model.specs.Value.{Value, HasStep, coordinates, join_values}
use Rattle.coordinate_model.specs.Starts.{Entry}
use Rattle.coordinate_model.specs.Conics.{bracket_of_entries, bracket_of_values, value_bracket, conic_value}
use Rattle.coordinate_model.specs.Conics.{BracketOfValues, ConicOfValues}
use Rattle.coordinate_model.proofs.Agreement.{same-joins}
use Rattle.coordinate_model.proofs.BracketPolynomialLaws.{br-is, value-hom, value_of_sorted}
use Rattle.coordinate_model.proofs.Grouping.{sum_over-flat_map}
use Rattle.coordinate_model.proofs.Hom.{sum_over-hom, six_point-hom}
use Rattle.coordinate_model.proofs.JoinLaws.{full-extensor}
use Rattle.coordinate_model.proofs.PolynomialRing.{polynomial_ring}
use Rattle.coordinate_model.proofs.Splits.{all_map, all_so, all_flat_map}
use Rattle.coordinate_model.proofs.ValueLaws.{free, total, same_total, join_total, join_of_values}

infixl 55 ◌⊗◌
open Polynomials use {◌⊗◌}

three : IsRank 3
three = (lit≤ tt, lit≤ tt)

-- sums over the entries of a join
total_map : (h : Entry → Polynomial) (f : Entry → Entry) (B : Value) → total h (map f B) ≡ total (λ b. h (f b)) B
total_map h f [] = refl
total_map h f (b ∷ B) = ap (Polynomials.◌⊕◌ (h (f b))) (total_map h f B)

abbrev pair : Entry → Entry → Entry
pair a b = (a.0 ++ b.0, mul a.1 b.1)

total_join : (h : Entry → Polynomial) (A B : Value)
    → total h (join_values A B) ≡ total (λ a. total (λ b. h (pair a b)) B) A
unfolding join_values
total_join h A B =
    sum_over-flat_map Polynomials polynomial_ring h (λ a. map (pair a) B) A
    ∙ same_total _ _ A (each A)
  where
    each : (A : Value) → AllByRecursion (λ a. total h (map (pair a) B) ≡ total (λ b. h (pair a b)) B) A
    each [] = tt
    each (a ∷ A) = (total_map h (pair a) B, each A)

-- the join of two points has step 2
step_two : (A B : Value) → HasStep 1 A → HasStep 1 B → HasStep 2 (join_values A B)
unfolding join_values
step_two A B p q =
    all_flat_map (λ a. length a.0 ≡ 1) (λ y. length y.0 ≡ 2) (λ a. map (pair a) B)
    (λ a e. all_map (λ b. length b.0 ≡ 1) (λ y. length y.0 ≡ 2) (pair a)
    (λ b f. length-append a.0 b.0 ∙ ap₂ ◌+◌ e f) B q) A p

-- the extensor of three points at all columns
at_columns : (ps : List ℕ) → length ps ≡ 3 → free ps (columns 3) ≡ br ps
at_columns ps e =
    let l : length (map free_point ps) ≡ 3 = length-map ps free_point ∙ e in
    ap (λ n. free ps (columns n)) (sym l) ∙ full-extensor polynomial_ring (map free_point ps) (subst IsRank (sym l) three)
    ∙ sym (br-is ps)

-- three entries
of_entries : (a b c : Entry) → length a.0 ≡ 1 → length b.0 ≡ 1 → length c.0 ≡ 1
    → value (bracket_of_entries a b c) ≡ value (mul (mul a.1 b.1) c.1) ⊗ free (a.0 ++ b.0 ++ c.0) (columns 3)
of_entries a b c e f g =
    let ps : List ℕ = a.0 ++ b.0 ++ c.0 in
    let l : length ps ≡ 3 =
    length-append (a.0 ++ b.0) c.0 ∙ ap₂ ◌+◌ (length-append a.0 b.0 ∙ ap₂ ◌+◌ e f) g in
    value-hom.to_mul (mul (mul a.1 b.1) c.1) (sorted_bracket ps)
    ∙ ap (λ p. value (mul (mul a.1 b.1) c.1) ⊗ p)
    (value_of_sorted ps (subst IsRank (sym l) three) ∙ sym (at_columns ps l))

as_total : (A B C : Value)
    → value (bracket_of_values A B C) ≡ total (λ a. total (λ b. total (λ c. value (bracket_of_entries a b c)) C) B) A
unfolding bracket_of_values
as_total A B C =
    sum_over-hom KeySums Polynomials value-hom _ _
    (λ a. sum_over-hom KeySums Polynomials value-hom _ _
    (λ b. sum_over-hom KeySums Polynomials value-hom (bracket_of_entries a b) _ (λ c. refl) C) B) A

pub bracket_of_values_law : BracketOfValues
bracket_of_values_law A B C p q r =
    let K : List ℕ = columns 3 in
    as_total A B C
    ∙ same_total _ _ A
    (all_so _ _ (λ a e. same_total _ _ B
    (all_so _ _ (λ b f. same_total _ _ C (all_so _ _ (λ c g. of_entries a b c e f g) C r)) B q)) A p)
    ∙ sym (total_join (λ y. total (λ c. value (mul y.1 c.1) ⊗ free (y.0 ++ c.0) K) C) A B)
    ∙ sym (join_total (join_values A B) C K)
    ∙ join_of_values 3 2 1 (join_values A B) C three (lit≤ tt, lit≤ tt, lit≤ tt) (step_two A B p q) r 0 [] (lit< tt)
    ∙ same-joins Polynomials 3 2 1 (coordinates (join_values A B)) (coordinates C)
    (join Polynomials 1 (coordinates A) (coordinates B)) (coordinates C)
    (join_of_values 3 1 1 A B three (lit≤ tt, lit≤ tt, lit≤ tt) p q) (λ i x h. refl) 0 [] (lit< tt)

-- the values of step 1
abbrev PointValue : Type 0
PointValue = (A : Value) × HasStep 1 A

pub conic_of_values_law : ConicOfValues
unfolding conic_value six_point
conic_of_values_law p1 p2 p3 p4 p5 p6 h =
    six_point-hom KeySums Polynomials value-hom {P = PointValue} (λ p. coordinates p.0) (λ ps. value_bracket (map (λ p. p.0) ps))
    (join_bracket Polynomials) (λ p q r. bracket_of_values_law p.0 q.0 r.0 p.1 q.1 r.1) (p1, h.0) (p2, h.1.0) (p3, h.1.1.0)
    (p4, h.1.1.1.0) (p5, h.1.1.1.1.0) (p6, h.1.1.1.1.1.0)
