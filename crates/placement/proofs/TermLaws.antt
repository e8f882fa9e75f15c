-- What the terms of two objects make is their join or their meet.
use Rattle.std.proofs.Common.{◌≡◌, refl, sym, ap, ap₂, ◌∙◌, ℕ, ◌+◌, ◌-◌, ◌<◌, List, [], ◌∷◌}
use Rattle.std.proofs.Common.{◌++◌, map, length, get_or, arith}
use Rattle.std.proofs.Common.{Bool, true, false, cond, T}
use Rattle.std.specs.Prelude.{ℤ, pos, Option, Some, None, fold, nat_lt, ◌&&◌, not}
use Rattle.std.specs.Borrow.{Bor}
use Rattle.std.specs.List.{list_all}
use Rattle.std.proofs.lemmas.List.{get_or-map, length-map}
use Rattle.std.proofs.lemmas.List.Folds.{fold-map}
use Rattle.std.proofs.lemmas.Simd.{map-map}
use Rattle.std.proofs.lemmas.Int.{ints}
use mathlib.Core.Path.{fun_ext}
use Rattle.coordinate_model.specs.Sequences.{is_odd, splits, subsets, without}
use Rattle.coordinate_model.specs.Brackets.{Coords, Point, signed, on, six_point}
use Rattle.coordinate_model.specs.Limited.{Limited, limited_sum, limited_negative, limited_product}
use Rattle.coordinate_model.specs.InOrder.{meeting_pairs, join_in_order, meet_in_order, sum_in_order}
use Rattle.coordinate_model.specs.InOrder.{bracket_in_order, conic_in_order, point_of}
use Rattle.coordinate_model.specs.PlacedPoints.{placed_within}
use Rattle.placement.specs.declared.terms.Term.{Term}
use Rattle.placement.specs.Terms.{Shown, shown, is_within, join_rows, meet_rows, meets_oddly}
use Rattle.placement.specs.Numbers.{term_value, total_behind, total_of, has_term, combinations_of}
use Rattle.placement.specs.Numbers.{Holds, bracket_of, conic_of}

pub truth : (b : Bool) → T b → b ≡ true
truth true t = refl
truth false t = absurd t

both : (b c : Bool) → T (b && c) → T b × T c
both true c t = (tt, t)
both false c t = absurd t

less : (m n : ℕ) → T (nat_lt m n) → m < n
less m n t = grind arith

-- the value of a term by its sets of columns
abbrev pub value_shown : Coords Limited → Coords Limited → Shown → Option ℤ
value_shown A B v = cond v.2 (limited_negative (limited_product (A v.0) (B v.1))) (limited_product (A v.0) (B v.1))

-- the sum of the terms by their sets of columns
abbrev pub total_shown : Coords Limited → Coords Limited → List Shown → Option ℤ
total_shown A B vs = fold (λ sum v. limited_sum sum (value_shown A B v)) (Some (pos 0)) vs

pair : (b c : Bool) → T b → T c → T (b && c)
pair true c s t = t
pair false c s t = absurd s

-- as many numbers as there are sets of columns
module _ (d j k : ℕ) (a b : List ℤ) (m : length a ≡ length (subsets d j)) (n : length b ≡ length (subsets d k)) where
  has-term : (t : Term) → T (is_within d j k t) → T (has_term a b t)
  has-term t within = rw m (rw n within)

  has-terms : (terms : List Term) → T (list_all (is_within d j k) terms) → T (list_all (has_term a b) terms)
  has-terms [] within = tt
  has-terms (t ∷ terms) within =
      let l = both (is_within d j k t) (list_all (is_within d j k) terms) within in
      pair (has_term a b t) (list_all (has_term a b) terms) (has-term t l.0) (has-terms terms l.1)

  -- the objects have the coordinates of all terms
  pub has-rows : (rows : List (Bor (List Term)))
      → T (list_all (λ row. list_all (is_within d j k) row.now) rows)
      → T (list_all (λ row. list_all (has_term a b) row.now) rows)
  has-rows [] within = tt
  has-rows (row ∷ rows) within =
      let l = both (list_all (is_within d j k) row.now) (list_all (λ row. list_all (is_within d j k) row.now) rows)
      within in
      pair (list_all (has_term a b) row.now) (list_all (λ row. list_all (has_term a b) row.now) rows)
      (has-terms row.now l.0) (has-rows rows l.1)

module _ (d j k : ℕ) (A B : Coords Limited) (a b : List ℤ) (e : Holds d j A a) (f : Holds d k B b) where
  entry : (n : ℕ) (C : Coords Limited) (c : List ℤ) (i : ℕ) → Holds d n C c → i < length (subsets d n)
      → Some (get_or c i (pos 0)) ≡ C (get_or (subsets d n) i [])
  entry n C c i h within =
      let long : length c ≡ length (subsets d n) =
      sym (length-map c (λ z. Some z)) ∙ ap length h ∙ length-map (subsets d n) C in
      sym (get_or-map (λ z. Some z) c i (pos 0) None (omega arith))
      ∙ ap (λ (xs : List (Option ℤ)). get_or xs i None) h
      ∙ get_or-map C (subsets d n) i [] None within

  value-is : (t : Term) → T (is_within d j k t) → term_value a b t ≡ value_shown A B (shown d j k t)
  value-is t within =
      let l = both _ _ within in
      ap (λ x. cond t.is_odd (limited_negative x) x)
      (ap₂ limited_product (entry j A a t.first e (less _ _ l.0)) (entry k B b t.second f (less _ _ l.1)))

  total-behind : (terms : List Term) (sum : Option ℤ) → T (list_all (is_within d j k) terms)
      → total_behind a b sum terms
      ≡ fold (λ sum v. limited_sum sum (value_shown A B v)) sum (map (shown d j k) terms)
  total-behind [] sum within = refl
  total-behind (t ∷ terms) sum within =
      let l = both (is_within d j k t) (list_all (is_within d j k) terms) within in
      total-behind terms (limited_sum sum (term_value a b t)) l.1
      ∙ ap (λ x. fold (λ sum v. limited_sum sum (value_shown A B v)) (limited_sum sum x) (map (shown d j k) terms))
      (value-is t l.0)

  -- the sums of the rows
  pub totals-are : (rows : List (Bor (List Term)))
      → T (list_all (λ row. list_all (is_within d j k) row.now) rows)
      → map (λ row. total_of a b row.now) rows ≡ map (total_shown A B) (map (λ row. map (shown d j k) row.now) rows)
  totals-are [] within = refl
  totals-are (row ∷ rows) within =
      let l = both (list_all (is_within d j k) row.now)
      (list_all (λ row. list_all (is_within d j k) row.now) rows) within in
      ap₂ (λ (x : Option ℤ) (xs : List (Option ℤ)). x ∷ xs) (total-behind row.now (Some (pos 0)) l.0)
      (totals-are rows l.1)

  -- ---- joins

  join-total : (K : List ℕ) → total_shown A B (map (λ s. (s.0, s.1, is_odd (s.0 ++ s.1))) (splits j K))
      ≡ join_in_order Limited j A B K
  unfolding join_in_order
  join-total K =
      fold-map (λ sum v. limited_sum sum (value_shown A B v)) (λ s. (s.0, s.1, is_odd (s.0 ++ s.1))) (Some (pos 0))
      (splits j K)

  -- the rows of the join make the join
  pub join-made : (rows : List (Bor (List Term)))
      → T (list_all (λ row. list_all (is_within d j k) row.now) rows)
      → map (λ row. map (shown d j k) row.now) rows ≡ join_rows d j k
      → map (λ row. total_of a b row.now) rows ≡ map (join_in_order Limited j A B) (subsets d (j + k))
  join-made rows within same =
      totals-are rows within ∙ ap (map (total_shown A B)) same
      ∙ map-map (total_shown A B) (λ K. map (λ s. (s.0, s.1, is_odd (s.0 ++ s.1))) (splits j K)) (subsets d (j + k))
      ∙ ap (λ g. map g (subsets d (j + k))) (fun_ext join-total)

  -- ---- meets

  twice : (x : Option ℤ) → limited_negative (limited_negative x) ≡ x
  twice None = refl
  twice (Some z) = ap (λ y. Some y) (omega (arith, ints))

  two_signs : (p q : Bool) (x : Option ℤ)
      → cond (cond p (not q) q) (limited_negative x) x
      ≡ cond p (limited_negative (cond q (limited_negative x) x)) (cond q (limited_negative x) x)
  two_signs true true x = sym (twice x)
  two_signs true false x = refl
  two_signs false q x = refl

  meet_value : (K : List ℕ) (s : List ℕ × List ℕ) → value_shown A B (s.0, s.1, meets_oddly K s)
      ≡ signed Limited (without s.0 K ++ K) (signed Limited (without s.0 K ++ s.1) (limited_product (A s.0) (B s.1)))
  meet_value K s =
      two_signs (is_odd (without s.0 K ++ K)) (is_odd (without s.0 K ++ s.1)) (limited_product (A s.0) (B s.1))

  meet-total : (K : List ℕ) → total_shown A B (map (λ s. (s.0, s.1, meets_oddly K s)) (meeting_pairs d j k K))
      ≡ meet_in_order Limited d j k A B K
  unfolding meet_in_order
  meet-total K =
      fold-map (λ sum v. limited_sum sum (value_shown A B v)) (λ s. (s.0, s.1, meets_oddly K s)) (Some (pos 0))
      (meeting_pairs d j k K)
      ∙ ap (λ (g : List ℕ × List ℕ → Option ℤ). sum_in_order Limited g (meeting_pairs d j k K)) (fun_ext (meet_value K))

  -- the rows of the meet make the meet
  pub meet-made : (rows : List (Bor (List Term)))
      → T (list_all (λ row. list_all (is_within d j k) row.now) rows)
      → map (λ row. map (shown d j k) row.now) rows ≡ meet_rows d j k
      → map (λ row. total_of a b row.now) rows ≡ map (meet_in_order Limited d j k A B) (subsets d (j + k - d))
  meet-made rows within same =
      totals-are rows within ∙ ap (map (total_shown A B)) same
      ∙ map-map (total_shown A B) (λ K. map (λ s. (s.0, s.1, meets_oddly K s)) (meeting_pairs d j k K))
      (subsets d (j + k - d))
      ∙ ap (λ g. map g (subsets d (j + k - d))) (fun_ext meet-total)

-- ---- points by two parameters

-- the coordinates s * a + t * b
pub mixed-made : (A B : Coords Limited) (s t : ℤ) (Ks : List (List ℕ)) (a b : List ℤ)
    → map (λ z. Some z) a ≡ map A Ks → map (λ z. Some z) b ≡ map B Ks
    → combinations_of s t a b ≡ map (on Limited (Some s) (Some t) A B) Ks
unfolding on
mixed-made A B s t [] [] b e f = refl
mixed-made A B s t [] (x ∷ a) b e f = absurd cc
mixed-made A B s t (K ∷ Ks) [] b e f = absurd cc
mixed-made A B s t (K ∷ Ks) (x ∷ a) [] e f = absurd cc
mixed-made A B s t (K ∷ Ks) (x ∷ a) (y ∷ b) e f =
    let first : Some x ≡ A K = cc in
    let second : Some y ≡ B K = cc in
    let firsts : map (λ z. Some z) a ≡ map A Ks = cc in
    let seconds : map (λ z. Some z) b ≡ map B Ks = cc in
    ap₂ (λ (z : Option ℤ) (zs : List (Option ℤ)). z ∷ zs)
    (ap₂ (λ p q. limited_sum (limited_product (Some s) p) (limited_product (Some t) q)) first second)
    (mixed-made A B s t Ks a b firsts seconds)

-- ---- six points

-- the coordinates of a point of the plane
abbrev listed : Point Limited → List (Option ℤ)
listed p = p 1 ∷ p 2 ∷ p 3 ∷ []

abbrev from_list : List (Option ℤ) → Point Limited
from_list xs j = get_or xs (j - 1) None

bracket_listed : (p q r : Point Limited) → bracket_in_order Limited (p ∷ q ∷ r ∷ [])
    ≡ bracket_in_order Limited (from_list (listed p) ∷ from_list (listed q) ∷ from_list (listed r) ∷ [])
unfolding bracket_in_order
bracket_listed p q r = refl

listed_is : (A : Coords Limited) (p : List ℤ) → length p ≡ 3 → Holds 3 1 A p
    → listed (placed_within p) ≡ listed (point_of Limited A)
listed_is A [] e h = absurd (omega arith)
listed_is A (x ∷ []) e h = absurd (omega arith)
listed_is A (x ∷ y ∷ []) e h = absurd (omega arith)
listed_is A (x ∷ y ∷ z ∷ []) e h = h
listed_is A (x ∷ y ∷ z ∷ w ∷ p) e h = absurd (omega arith)

-- a point of the plane with its coordinates
record Held : Type 0 where
  coords : Coords Limited
  numbers : List ℤ
  three : length numbers ≡ 3
  held : Holds 3 1 coords numbers

bracket_held : (p q r : Held) → bracket_of p.numbers q.numbers r.numbers
    ≡ bracket_in_order Limited (map (point_of Limited) (p.coords ∷ q.coords ∷ r.coords ∷ []))
bracket_held p q r =
    bracket_listed (placed_within p.numbers) (placed_within q.numbers) (placed_within r.numbers)
    ∙ ap (λ x. bracket_in_order Limited
    (from_list x ∷ from_list (listed (placed_within q.numbers)) ∷ from_list (listed (placed_within r.numbers)) ∷ []))
    (listed_is p.coords p.numbers p.three p.held)
    ∙ ap (λ x. bracket_in_order Limited
    (from_list (listed (point_of Limited p.coords)) ∷ from_list x ∷ from_list (listed (placed_within r.numbers)) ∷ []))
    (listed_is q.coords q.numbers q.three q.held)
    ∙ ap (λ x. bracket_in_order Limited
    (from_list (listed (point_of Limited p.coords)) ∷ from_list
    (listed (point_of Limited q.coords)) ∷ from_list x ∷ []))
    (listed_is r.coords r.numbers r.three r.held)
    ∙ sym (bracket_listed (point_of Limited p.coords) (point_of Limited q.coords) (point_of Limited r.coords))

abbrev held_of : (A : Coords Limited) (p : List ℤ) → length p ≡ 3 → Holds 3 1 A p → Held
held_of A p e h = record { coords = A; numbers = p; three = e; held = h }

-- the six-point polynomial of six points of the plane
conic_held : (p1 p2 p3 p4 p5 p6 : Held)
    → conic_of p1.numbers p2.numbers p3.numbers p4.numbers p5.numbers p6.numbers
    ≡ conic_in_order Limited p1.coords p2.coords p3.coords p4.coords p5.coords p6.coords
unfolding six_point
conic_held p1 p2 p3 p4 p5 p6 =
    let at = bracket_held in
    ap₂ (λ x y. limited_sum x (limited_negative y))
    (ap₂ limited_product (ap₂ limited_product (ap₂ limited_product (at p1 p2 p3) (at p1 p4 p5)) (at p2 p4 p6))
    (at p3 p5 p6))
    (ap₂ limited_product (ap₂ limited_product (ap₂ limited_product (at p1 p2 p4) (at p1 p3 p5)) (at p2 p3 p6))
    (at p4 p5 p6))

pub conic-made : (A1 A2 A3 A4 A5 A6 : Coords Limited) (p1 p2 p3 p4 p5 p6 : List ℤ)
    → length p1 ≡ 3 → length p2 ≡ 3 → length p3 ≡ 3 → length p4 ≡ 3 → length p5 ≡ 3 → length p6 ≡ 3
    → Holds 3 1 A1 p1 → Holds 3 1 A2 p2 → Holds 3 1 A3 p3 → Holds 3 1 A4 p4 → Holds 3 1 A5 p5 → Holds 3 1 A6 p6
    → conic_of p1 p2 p3 p4 p5 p6 ≡ conic_in_order Limited A1 A2 A3 A4 A5 A6
conic-made A1 A2 A3 A4 A5 A6 p1 p2 p3 p4 p5 p6 l1 l2 l3 l4 l5 l6 h1 h2 h3 h4 h5 h6 =
    conic_held (held_of A1 p1 l1 h1) (held_of A2 p2 l2 h2) (held_of A3 p3 l3 h3) (held_of A4 p4 l4 h4)
    (held_of A5 p5 l5 h5) (held_of A6 p6 l6 h6)
