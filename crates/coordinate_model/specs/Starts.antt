-- Starts: what the join, the meet or a combination of two values adds up before anything is rewritten. The products of joins
-- and meets are those of the exterior product and of the shuffle product (Sturmfels, Algorithms in Invariant Theory, section
-- 3.3); the order in which products are added is this library's own.
use Rattle.std.specs.Prelude.{ℕ, ◌-◌, ◌==◌, ℤ, pos, ◌*ℤ◌, if◌then◌else◌, List, [], ◌∷◌, ◌++◌, map, filter, flat_map, length}
use Rattle.std.specs.Prelude.{Option, Some, None, true, false, Bool}
use Rattle.std.specs.Ordering.{eq_by_cmp}
use Rattle.std.specs.declared.cmp.Ordering.TheVariants.{Less, Equal, Greater}
use Rattle.coordinate_model.specs.Sequences.{range, splits, at_places, repeats, sign_of}
use Rattle.coordinate_model.specs.Sums.{Terms, products, sum_of}
use Rattle.coordinate_model.specs.Key.{Key, key_cmp, key_times, row_cmp, rows_key}
use Rattle.coordinate_model.specs.BracketPolynomial.{BracketPolynomial}
use Rattle.coordinate_model.specs.Syzygy.{sorted}
use Rattle.coordinate_model.specs.Value.{Value}

-- a row as a factor, where no row stands for 1
abbrev pub row_key : Option (List ℕ) → Key
row_key None = rows_key []
row_key (Some row) = rows_key (row ∷ [])

-- the terms of sign * f * g * row: for each term of f in order, each of g in order
abbrev pub product_terms : BracketPolynomial → BracketPolynomial → Option (List ℕ) → ℤ → Terms Key
product_terms f g row sign =
    map (λ t. (key_times t.0 (row_key row), sign *ℤ t.1)) (products key_times f.terms g.terms)

-- a product sign * left * right * row, and the extensor to whose polynomial it is added
pub record Product : Type 0 where
  pub extensor : List ℕ
  pub left : BracketPolynomial
  pub right : BracketPolynomial
  pub row : Option (List ℕ)
  pub sign : ℤ

-- the terms of a product, in order
abbrev pub terms_of : Product → Terms Key
terms_of p = product_terms p.left p.right p.row p.sign

-- an entry of a value: the points of an extensor and its bracket polynomial
abbrev pub Entry : Type 0
Entry = List ℕ × BracketPolynomial

-- the product that the join of two entries in rank d adds: none where they share a point; to the extensor of the points of
-- both, with their sign; and where these are d points, their bracket times the extensor of no points
abbrev pub join_product : ℕ → Entry → Entry → List Product
join_product d e f =
    let ps = e.0 ++ f.0 in
    if repeats ps then []
    else if length ps == d
    then record { extensor = []; left = e.1; right = f.1; row = Some (sorted ps); sign = sign_of ps } ∷ []
    else record { extensor = sorted ps; left = e.1; right = f.1; row = None; sign = sign_of ps } ∷ []

-- the products of the join of two values: for each entry of the one in order, each of the other in order
abbrev pub join_products : ℕ → Value → Value → List Product
join_products d A B = flat_map (λ e. flat_map (join_product d e) B) A

-- the product that the meet of two entries adds at a split of the first one's places: none where the chosen points and
-- those of the second repeat; else their bracket times the extensor of the rest, with both signs
abbrev pub meet_product : Entry → Entry → List ℕ × List ℕ → List Product
meet_product e f t =
    let ps = at_places e.0 t.0 ++ f.0 in
    if repeats ps then []
    else record {
      extensor = at_places e.0 t.1;
      left = e.1;
      right = f.1;
      row = Some (sorted ps);
      sign = sign_of (t.0 ++ t.1) *ℤ sign_of ps;
    } ∷ []

-- the products of the meet of two values in rank d: for each entry of the one in order, each of the other in order, each
-- split of the first one's places into chosen ones, as many as the second lacks to d points, and the rest
abbrev pub meet_products : ℕ → Value → Value → List Product
meet_products d A B =
    flat_map
    (λ e. flat_map (λ f. flat_map (meet_product e f) (splits (d - length f.0) (range (length e.0)))) B)
    A

-- the product of an entry and a bracket polynomial, such as a parameter, which is added to the entry's own extensor
abbrev pub scaled_product : BracketPolynomial → Entry → Product
scaled_product s e = record { extensor = e.0; left = e.1; right = s; row = None; sign = pos 1 }

-- the products of s * A + t * B: each entry of the one in order times s, then each of the other in order times t
abbrev pub on_products : BracketPolynomial → BracketPolynomial → Value → Value → List Product
on_products s t A B = map (scaled_product s) A ++ map (scaled_product t) B

-- the extensor put in its place in an ascending list that has each once
abbrev pub put_extensor : List ℕ → List (List ℕ) → List (List ℕ)
put_extensor x [] = x ∷ []
put_extensor x (y ∷ ys) = elim (row_cmp x y) [
  | Less ↦ x ∷ y ∷ ys
  | Equal ↦ y ∷ ys
  | Greater ↦ y ∷ put_extensor x ys
]

-- the extensors to which a product is added, in ascending order, each once
abbrev pub reached : List Product → List (List ℕ)
reached [] = []
reached (p ∷ ps) = put_extensor p.extensor (reached ps)

-- the products that are added to the polynomial of the extensor, in order
abbrev pub products_at : List ℕ → List Product → List Product
products_at x ps = filter (λ p. eq_by_cmp row_cmp x p.extensor) ps

-- the start of the extensor: the sum of its products
abbrev pub start_at : List ℕ → List Product → BracketPolynomial
start_at x ps = sum_of key_cmp (flat_map terms_of (products_at x ps))

-- the starts: each extensor that is reached, with its sum
abbrev pub starts : List Product → Value
starts ps = map (λ x. (x, start_at x ps)) (reached ps)

-- whether the entry's polynomial has a term
abbrev pub has_term : Entry → Bool
has_term e = elim e.1.terms [ [] ↦ false | t ∷ ts ↦ true ]
