-- Brackets in order, one step after the other.
use Rattle.std.proofs.Common.{◌≡◌, refl, sym, ap, ap₂, ◌∙◌, ℕ, ◌+◌, ◌-◌, ◌<◌, ◌≤◌, suc, List, [], ◌∷◌, map, length}
use Rattle.std.proofs.Common.{take, drop, get_or}
use Rattle.std.proofs.Common.{Bool, true, false, cond, arith, subst}
use Rattle.std.specs.Prelude.{ℤ, pos, neg_ℤ, Option, Some, None, fold}
use Rattle.std.proofs.lemmas.List.{drop_more, get_or-map, get_or-take, length-map, length-take-le}
use Rattle.coordinate_model.specs.Ring.{Integers}
use Rattle.coordinate_model.specs.Sequences.{IsRank, is_odd, columns}
use Rattle.coordinate_model.specs.Brackets.{Point, signed, bracket}
use Rattle.coordinate_model.proofs.IntegerRing.{integer_ring}
use Rattle.coordinate_model.specs.declared.column_orders.Order.{Order}
use Rattle.coordinate_model.specs.Limited.{Limited, limited_sum, limited_product, limited_negative, signed_number}
use Rattle.coordinate_model.specs.InOrder.{orders, product_behind, bracket_in_order}
use Rattle.coordinate_model.specs.PlacedPoints.{placed, placed_within}
use Rattle.coordinate_model.proofs.InOrderLaws.{bracket-in_order}
use Rattle.coordinate_model.proofs.LimitedLaws.{Shows, ShowPoints, bracket-shows}

-- ---- nothing is computed of what is no number

pub product_of_none : (ps : List (Point Limited)) (w : List ℕ) → product_behind Limited None ps w ≡ None
product_of_none [] w = refl
product_of_none (p ∷ ps) [] = refl
product_of_none (p ∷ ps) (j ∷ w) = product_of_none ps w

pub sum_of_none : {X : Type 0} (f : X → Option ℤ) (xs : List X)
    → fold (λ sum x. limited_sum sum (f x)) None xs ≡ None
sum_of_none f [] = refl
sum_of_none f (x ∷ xs) = sum_of_none f xs

-- ---- products

placed_at : (p : List ℤ) (c : ℕ) → placed_within p (suc c) ≡ Some (get_or p c (pos 0))
placed_at p c = let same : suc c - 1 ≡ c = omega arith in ap (λ n. Some (get_or p n (pos 0))) same

-- with one more factor
pub product_next : (points : List (List ℤ)) (cs : List ℕ) (d k : ℕ) (a : Option ℤ) → k < length points → k < d
    → d ≤ length cs
    → product_behind Limited a (drop k (map placed_within points)) (drop k (map suc (take d cs)))
    ≡ product_behind Limited (limited_product a (Some (get_or (get_or points k []) (get_or cs k 0) (pos 0))))
    (drop (k + 1) (map placed_within points)) (drop (k + 1) (map suc (take d cs)))
product_next points cs d k a here within enough =
    let ps : List (Point Limited) = map placed_within points in
    let w : List ℕ = map suc (take d cs) in
    let long : length ps ≡ length points = length-map points placed_within in
    let count : length (take d cs) ≡ d = length-take-le d cs enough in
    let wide : length w ≡ length (take d cs) = length-map (take d cs) suc in
    let point : get_or ps k (placed_within []) ≡ placed_within (get_or points k []) =
    get_or-map placed_within points k [] (placed_within []) here in
    let column : get_or w k 0 ≡ suc (get_or cs k 0) =
    get_or-map suc (take d cs) k 0 0 (omega arith) ∙ ap suc (get_or-take d cs k 0 within) in
    ap₂ (product_behind Limited a) (drop_more ps k (placed_within []) (omega arith)) (drop_more w k 0 (omega arith))
    ∙ ap (λ x. product_behind Limited (limited_product a x) (drop (k + 1) ps) (drop (k + 1) w))
    (ap₂ (λ (p : Point Limited) j. p j) point column ∙ placed_at (get_or points k []) (get_or cs k 0))

-- ---- sums

abbrev pub columns_of : ℕ → Order → List ℕ
columns_of d o = map suc (take d o.columns)

-- with one more order
pub sum_next : (table : List Order) (d i : ℕ) (f : List ℕ → Option ℤ) (sum : Option ℤ) (o : Order)
    → map (columns_of d) table ≡ orders (columns d) → i < length table
    → fold (λ sum w. limited_sum sum (f w)) sum (drop i (orders (columns d)))
    ≡ fold (λ sum w. limited_sum sum (f w)) (limited_sum sum (f (columns_of d (get_or table i o))))
    (drop (i + 1) (orders (columns d)))
sum_next table d i f sum o same here =
    let ws : List (List ℕ) = orders (columns d) in
    let long : length table ≡ length ws = sym (length-map table (columns_of d)) ∙ ap length same in
    let at : get_or ws i [] ≡ columns_of d (get_or table i o) =
    ap (λ (xs : List (List ℕ)). get_or xs i []) (sym same) ∙ get_or-map (columns_of d) table i o [] here in
    ap (fold (λ sum w. limited_sum sum (f w)) sum) (drop_more ws i [] (omega arith))
    ∙ ap (λ w. fold (λ sum w. limited_sum sum (f w)) (limited_sum sum (f w)) (drop (i + 1) ws)) at

-- the sign of the order at the place
pub sign_at : (table : List Order) (d i : ℕ) (o : Order) → map (columns_of d) table ≡ orders (columns d)
    → map (λ o. o.is_odd) table ≡ map is_odd (orders (columns d)) → i < length table
    → (get_or table i o).is_odd ≡ is_odd (columns_of d (get_or table i o))
sign_at table d i o same signs here =
    let ws : List (List ℕ) = orders (columns d) in
    let long : length table ≡ length ws = sym (length-map table (columns_of d)) ∙ ap length same in
    sym (get_or-map (λ (x : Order). x.is_odd) table i o false here)
    ∙ ap (λ (xs : List Bool). get_or xs i false) signs
    ∙ get_or-map is_odd ws i [] false (omega arith)
    ∙ ap is_odd (ap (λ (xs : List (List ℕ)). get_or xs i []) (sym same) ∙ get_or-map (columns_of d) table i o [] here)

-- a number with the sign of its order
pub signed_term : (w : List ℕ) (b : Bool) (z : ℤ) → b ≡ is_odd w → signed Limited w (Some z) ≡ Some (signed_number b z)
signed_term w b z e = ap (λ b. cond b (Some (neg_ℤ z)) (Some z)) (sym e) ∙ by_sign b
  where
    by_sign : (b : Bool) → cond b (Some (neg_ℤ z)) (Some z) ≡ Some (cond b (neg_ℤ z) z)
    by_sign true = refl
    by_sign false = refl

-- the product of the points in this order, with its sign
abbrev pub term : List (List ℤ) → List ℕ → Option ℤ
term points w = signed Limited w (product_behind Limited (Some (pos 1)) (map placed_within points) w)

-- the sum, with the products in the orders that are left
abbrev pub rest : List (List ℤ) → Option ℤ → List (List ℕ) → Option ℤ
rest points sum ws = fold (λ sum w. limited_sum sum (term points w)) sum ws

no_sum : (sum : Option ℤ) → limited_sum sum None ≡ None
no_sum None = refl
no_sum (Some z) = refl

-- where a product is no number
pub no_more : (points : List (List ℤ)) (sum : Option ℤ) (w : List ℕ) (ws : List (List ℕ))
    → None ≡ product_behind Limited (Some (pos 1)) (map placed_within points) w
    → None ≡ rest points (limited_sum sum (term points w)) ws
no_more points sum w ws e =
    let none : term points w ≡ None = ap (signed Limited w) (sym e) ∙ either_sign (is_odd w) in
    sym (sum_of_none (term points) ws) ∙ ap (λ a. rest points a ws) (sym (no_sum sum) ∙ ap (limited_sum sum) (sym none))
  where
    either_sign : (b : Bool) → cond b (limited_negative None) None ≡ None
    either_sign true = refl
    either_sign false = refl

-- where the sum is no number
pub no_sum_more : (points : List (List ℤ)) (ws : List (List ℕ)) (a : Option ℤ) → a ≡ None → None ≡ rest points a ws
no_sum_more points ws a e = sym (sum_of_none (term points) ws) ∙ ap (λ x. rest points x ws) (sym e)

-- the product of the order at the place, with its sign
pub term_at : (table : List Order) (d i : ℕ) (o : Order) (points : List (List ℤ)) (z : ℤ)
    → map (columns_of d) table ≡ orders (columns d) → map (λ o. o.is_odd) table ≡ map is_odd (orders (columns d))
    → i < length table
    → Some z ≡ product_behind Limited (Some (pos 1)) (map placed_within points) (columns_of d (get_or table i o))
    → term points (columns_of d (get_or table i o)) ≡ Some (signed_number (get_or table i o).is_odd z)
term_at table d i o points z same signs here product =
    ap (signed Limited (columns_of d (get_or table i o))) (sym product)
    ∙ signed_term (columns_of d (get_or table i o)) (get_or table i o).is_odd z (sign_at table d i o same signs here)

-- the whole sum
pub whole : (points : List (List ℤ)) (d : ℕ) → length points ≡ d
    → rest points (Some (pos 0)) (orders (columns d)) ≡ bracket_in_order Limited (map placed_within points)
unfolding bracket_in_order
whole points d e =
    ap (λ n. rest points (Some (pos 0)) (orders (columns n))) (sym e ∙ sym (length-map points placed_within))

-- ---- the value

show_placed : (points : List (List ℤ)) → ShowPoints (map placed_within points) (map placed points)
show_placed [] = tt
show_placed (p ∷ points) = ((λ j. refl), show_placed points)

-- a bracket within the limit is the bracket
pub bracket_value_is : (points : List (List ℤ)) → IsRank (length points)
    → Shows (bracket_in_order Limited (map placed_within points)) (bracket Integers (map placed points))
bracket_value_is points rank =
    subst (Shows (bracket_in_order Limited (map placed_within points)))
    (bracket-in_order Integers integer_ring (map placed points) (subst IsRank (sym (length-map points placed)) rank))
    (bracket-shows (map placed_within points) (map placed points) (show_placed points))
