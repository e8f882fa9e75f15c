-- Integers that are at most 2^127 - 1 in absolute value, with the operations of a ring: what passes this limit is no
-- number, and nothing is computed of what is no number. The limit is this library's own.
use Rattle.std.specs.Prelude.{◌^◌, Bool, if◌then◌else◌, ℤ, pos, ◌+ℤ◌, ◌*ℤ◌, neg_ℤ, nat_lt, unsigned_abs}
use Rattle.std.specs.Prelude.{Option, Some, None}
use Rattle.coordinate_model.specs.Ring.{Ops}

-- whether the integer is at most 2^127 - 1 in absolute value
abbrev pub is_limited : ℤ → Bool
is_limited z = nat_lt (unsigned_abs z) (2 ^ 127)

-- the integer, where it does not pass the limit
abbrev pub limited : ℤ → Option ℤ
limited z = if is_limited z then Some z else None

-- the sum of two numbers, compared with the limit
abbrev pub limited_sum : Option ℤ → Option ℤ → Option ℤ
limited_sum None b = None
limited_sum (Some a) None = None
limited_sum (Some a) (Some b) = limited (a +ℤ b)

-- the product of two numbers, compared with the limit
abbrev pub limited_product : Option ℤ → Option ℤ → Option ℤ
limited_product None b = None
limited_product (Some a) None = None
limited_product (Some a) (Some b) = limited (a *ℤ b)

-- the negative, which is as large
abbrev pub limited_negative : Option ℤ → Option ℤ
limited_negative None = None
limited_negative (Some a) = Some (neg_ℤ a)

-- the numbers within the limit with their operations
abbrev pub Limited : Ops
Limited =
    record {
      carrier = Option ℤ;
      𝟘 = Some (pos 0);
      𝟙 = Some (pos 1);
      ◌⊕◌ = limited_sum;
      ◌⊗◌ = limited_product;
      neg = limited_negative;
    }

-- the integer, negated or as it is
abbrev pub signed_number : Bool → ℤ → ℤ
signed_number is_odd z = if is_odd then neg_ℤ z else z
