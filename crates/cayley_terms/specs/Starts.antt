-- Starts of instructions: what the object of a join, a meet or a point by parameters is before anything is rewritten
-- (Sturmfels, Algorithms in Invariant Theory, section 3.3).
use Rattle.std.specs.Prelude.{ℕ, List, [], ◌∷◌, replicate, slice_index_or}
use Rattle.coordinate_model.specs.Sums.{single}
use Rattle.coordinate_model.specs.Key.{key_cmp}
use Rattle.coordinate_model.specs.BracketPolynomial.{BracketPolynomial, parameter_of}
use Rattle.coordinate_model.specs.Value.{Value}
use Rattle.coordinate_model.specs.Starts.{Product, join_products, meet_products, on_products}

-- what makes an object of two: the join, the meet, or the point by the parameters s and t
pub data Operation : Type 0 where
  Join : Operation
  Meet : Operation
  On : (s t : ℕ) → Operation

-- the value of the instruction of this number, among those of the instructions before; without entries for any other
abbrev pub value_at : List Value → ℕ → Value
value_at before n = slice_index_or before n []

-- the products that the object of the instructions a and b adds up in rank d, in order
abbrev pub products_of : Operation → ℕ → List Value → ℕ → ℕ → List Product
products_of Join d before a b = join_products d (value_at before a) (value_at before b)
products_of Meet d before a b = meet_products d (value_at before a) (value_at before b)
products_of (On s t) d before a b =
    on_products (parameter_of 64 s) (parameter_of 64 t) (value_at before a) (value_at before b)

-- 1 as a bracket polynomial of n parameters
abbrev pub one_of : ℕ → BracketPolynomial
one_of n = single key_cmp (record { exponents = replicate n 0; rows = [] })

-- the value of the free point i, with n parameters
abbrev pub free_value : ℕ → ℕ → Value
free_value n i = (i ∷ [], one_of n) ∷ []
