-- What is computed within the limit is the integer.
use Rattle.std.proofs.Common.{◌≡◌, refl, ap, ap₂, ℕ, suc, List, [], ◌∷◌, ◌++◌, map, length, Bool, true, false, cond}
use Rattle.std.specs.Prelude.{ℤ, pos, neg_ℤ, ◌+ℤ◌, ◌*ℤ◌, Option, Some, None, IfSome, fold}
use Rattle.coordinate_model.specs.Ring.{Integers}
use Rattle.coordinate_model.specs.Sequences.{columns, splits, is_odd, without}
use Rattle.coordinate_model.specs.Brackets.{Point, Coords, signed, on, six_point}
use Rattle.coordinate_model.specs.Limited.{Limited, limited, is_limited, limited_sum, limited_product, limited_negative}
use Rattle.coordinate_model.specs.InOrder.{orders, meeting_pairs, sum_in_order, product_behind, bracket_in_order}
use Rattle.coordinate_model.specs.InOrder.{join_in_order, meet_in_order, point_of, conic_in_order}

-- the number is the integer, where it is one
abbrev pub Shows : Option ℤ → ℤ → Type 0
Shows x z = IfSome x (λ y. y ≡ z)

limited-shows : (z : ℤ) (y : ℤ) → y ≡ z → Shows (limited y) z
limited-shows z y e = by_test (is_limited y)
  where
    by_test : (b : Bool) → Shows (cond b (Some y) None) z
    by_test true = e
    by_test false = tt

pub sum-shows : (a b : Option ℤ) (y z : ℤ) → Shows a y → Shows b z → Shows (limited_sum a b) (y +ℤ z)
sum-shows None b y z e f = tt
sum-shows (Some a) None y z e f = tt
sum-shows (Some a) (Some b) y z e f = limited-shows (y +ℤ z) (a +ℤ b) (ap₂ ◌+ℤ◌ e f)

pub product-shows : (a b : Option ℤ) (y z : ℤ) → Shows a y → Shows b z → Shows (limited_product a b) (y *ℤ z)
product-shows None b y z e f = tt
product-shows (Some a) None y z e f = tt
product-shows (Some a) (Some b) y z e f = limited-shows (y *ℤ z) (a *ℤ b) (ap₂ ◌*ℤ◌ e f)

pub negative-shows : (a : Option ℤ) (y : ℤ) → Shows a y → Shows (limited_negative a) (neg_ℤ y)
negative-shows None y e = tt
negative-shows (Some a) y e = ap neg_ℤ e

pub signed-shows : (w : List ℕ) (a : Option ℤ) (y : ℤ) → Shows a y → Shows (signed Limited w a) (signed Integers w y)
signed-shows w a y e = by_test (is_odd w)
  where
    by_test : (b : Bool) → Shows (cond b (limited_negative a) a) (cond b (neg_ℤ y) y)
    by_test true = negative-shows a y e
    by_test false = e

sum_behind-shows : {X : Type 0} (f : X → Option ℤ) (g : X → ℤ) → ((x : X) → Shows (f x) (g x)) → (xs : List X)
    → (a : Option ℤ) (y : ℤ) → Shows a y
    → Shows (fold (λ sum x. limited_sum sum (f x)) a xs) (fold (λ sum x. sum +ℤ g x) y xs)
sum_behind-shows f g e [] a y s = s
sum_behind-shows f g e (x ∷ xs) a y s =
    sum_behind-shows f g e xs (limited_sum a (f x)) (y +ℤ g x) (sum-shows a (f x) y (g x) s (e x))

pub sum_in_order-shows : {X : Type 0} (f : X → Option ℤ) (g : X → ℤ) → ((x : X) → Shows (f x) (g x)) → (xs : List X)
    → Shows (sum_in_order Limited f xs) (sum_in_order Integers g xs)
sum_in_order-shows f g e xs = sum_behind-shows f g e xs (Some (pos 0)) (pos 0) refl

-- the points are those of integers, coordinate by coordinate
abbrev pub ShowPoints : List (Point Limited) → List (Point Integers) → Type 0
ShowPoints [] [] = Unit {0}
ShowPoints [] (q ∷ qs) = ⊥
ShowPoints (p ∷ ps) [] = ⊥
ShowPoints (p ∷ ps) (q ∷ qs) = ((j : ℕ) → Shows (p j) (q j)) × ShowPoints ps qs

product_behind-shows : (ps : List (Point Limited)) (qs : List (Point Integers)) (w : List ℕ) (a : Option ℤ) (y : ℤ)
    → ShowPoints ps qs → Shows a y → Shows (product_behind Limited a ps w) (product_behind Integers y qs w)
product_behind-shows [] [] w a y e s = s
product_behind-shows [] (q ∷ qs) w a y e s = absurd e
product_behind-shows (p ∷ ps) [] w a y e s = absurd e
product_behind-shows (p ∷ ps) (q ∷ qs) [] a y e s = s
product_behind-shows (p ∷ ps) (q ∷ qs) (j ∷ w) a y e s =
    product_behind-shows ps qs w (limited_product a (p j)) (y *ℤ q j) e.1 (product-shows a (p j) y (q j) s (e.0 j))

as_many : (ps : List (Point Limited)) (qs : List (Point Integers)) → ShowPoints ps qs → length ps ≡ length qs
as_many [] [] e = refl
as_many [] (q ∷ qs) e = absurd e
as_many (p ∷ ps) [] e = absurd e
as_many (p ∷ ps) (q ∷ qs) e = ap suc (as_many ps qs e.1)

pub bracket-shows : (ps : List (Point Limited)) (qs : List (Point Integers)) → ShowPoints ps qs
    → Shows (bracket_in_order Limited ps) (bracket_in_order Integers qs)
unfolding bracket_in_order
bracket-shows ps qs e =
    rw (as_many ps qs e)
    (sum_in_order-shows (λ w. signed Limited w (product_behind Limited (Some (pos 1)) ps w))
    (λ w. signed Integers w (product_behind Integers (pos 1) qs w))
    (λ w. signed-shows w _ _ (product_behind-shows ps qs w (Some (pos 1)) (pos 1) e refl))
    (orders (columns (length qs))))

-- the coordinates are those of integers
abbrev pub ShowCoords : Coords Limited → Coords Integers → Type 0
ShowCoords A B = (K : List ℕ) → Shows (A K) (B K)

module _ (A B : Coords Limited) (C D : Coords Integers) (e : ShowCoords A C) (f : ShowCoords B D) where
  pub join-shows : (a : ℕ) → ShowCoords (join_in_order Limited a A B) (join_in_order Integers a C D)
  unfolding join_in_order
  join-shows a K =
      sum_in_order-shows (λ s. signed Limited (s.0 ++ s.1) (limited_product (A s.0) (B s.1)))
      (λ s. signed Integers (s.0 ++ s.1) (C s.0 *ℤ D s.1))
      (λ s. signed-shows (s.0 ++ s.1) _ _ (product-shows (A s.0) (B s.1) (C s.0) (D s.1) (e s.0) (f s.1))) (splits a K)

  pub meet-shows : (d a b : ℕ) → ShowCoords (meet_in_order Limited d a b A B) (meet_in_order Integers d a b C D)
  unfolding meet_in_order
  meet-shows d a b K =
      sum_in_order-shows
      (λ s. signed Limited (without s.0 K ++ K)
      (signed Limited (without s.0 K ++ s.1) (limited_product (A s.0) (B s.1))))
      (λ s. signed Integers (without s.0 K ++ K) (signed Integers (without s.0 K ++ s.1) (C s.0 *ℤ D s.1)))
      (λ s. signed-shows (without s.0 K ++ K) _ _
      (signed-shows (without s.0 K ++ s.1) _ _ (product-shows (A s.0) (B s.1) (C s.0) (D s.1) (e s.0) (f s.1))))
      (meeting_pairs d a b K)

  pub on-shows : (s t : Option ℤ) (y z : ℤ) → Shows s y → Shows t z
      → ShowCoords (on Limited s t A B) (on Integers y z C D)
  unfolding on
  on-shows s t y z g h K =
      sum-shows (limited_product s (A K)) (limited_product t (B K)) (y *ℤ C K) (z *ℤ D K)
      (product-shows s (A K) y (C K) g (e K)) (product-shows t (B K) z (D K) h (f K))

-- a point of an object of step 1, beside that of integers
record Beside : Type 0 where
  limited_coords : Coords Limited
  integer_coords : Coords Integers
  shown : ShowCoords limited_coords integer_coords

abbrev bracket_beside : (p q r : Beside) → Option ℤ
bracket_beside p q r =
    bracket_in_order Limited
    (map (point_of Limited) (p.limited_coords ∷ q.limited_coords ∷ r.limited_coords ∷ []))

abbrev integer_beside : (p q r : Beside) → ℤ
integer_beside p q r =
    bracket_in_order Integers
    (map (point_of Integers) (p.integer_coords ∷ q.integer_coords ∷ r.integer_coords ∷ []))

three-shows : (p q r : Beside) → Shows (bracket_beside p q r) (integer_beside p q r)
three-shows p q r =
    bracket-shows _ _ (
      (λ j. p.shown (j ∷ [])),
      ((λ j. q.shown (j ∷ [])), ((λ j. r.shown (j ∷ [])), tt)),
    )

four-shows : (a b c d : Option ℤ) (w x y z : ℤ) → Shows a w → Shows b x → Shows c y → Shows d z
    → Shows (limited_product (limited_product (limited_product a b) c) d) (w *ℤ x *ℤ y *ℤ z)
four-shows a b c d w x y z e f g h =
    product-shows _ d _ z (product-shows _ c _ y (product-shows a b w x e f) g) h

abbrev beside : (A : Coords Limited) (B : Coords Integers) → ShowCoords A B → Beside
beside A B e = record { limited_coords = A; integer_coords = B; shown = e }

pub conic-shows : (A1 A2 A3 A4 A5 A6 : Coords Limited) (B1 B2 B3 B4 B5 B6 : Coords Integers)
    → ShowCoords A1 B1 → ShowCoords A2 B2 → ShowCoords A3 B3 → ShowCoords A4 B4 → ShowCoords A5 B5 → ShowCoords A6 B6
    → Shows (conic_in_order Limited A1 A2 A3 A4 A5 A6) (conic_in_order Integers B1 B2 B3 B4 B5 B6)
unfolding six_point
conic-shows A1 A2 A3 A4 A5 A6 B1 B2 B3 B4 B5 B6 e1 e2 e3 e4 e5 e6 =
    let p1 : Beside = beside A1 B1 e1 in
    let p2 : Beside = beside A2 B2 e2 in
    let p3 : Beside = beside A3 B3 e3 in
    let p4 : Beside = beside A4 B4 e4 in
    let p5 : Beside = beside A5 B5 e5 in
    let p6 : Beside = beside A6 B6 e6 in
    sum-shows _ _ _ _
    (four-shows _ _ _ _ _ _ _ _ (three-shows p1 p2 p3) (three-shows p1 p4 p5) (three-shows p2 p4 p6)
    (three-shows p3 p5 p6))
    (negative-shows _ _
    (four-shows _ _ _ _ _ _ _ _ (three-shows p1 p2 p4) (three-shows p1 p3 p5) (three-shows p2 p3 p6)
    (three-shows p4 p5 p6)))
