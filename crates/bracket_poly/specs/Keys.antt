-- The order of keys decides which are the same.
use Rattle.std.specs.Prelude.{◌≡◌, IsTrue}
use Rattle.std.specs.Cmp.{Equal-is, IsTotalOrder}
use Rattle.std.specs.Ordering.{eq_by_cmp}
use Rattle.std.proofs.Common.{ap}
use Rattle.coordinate_model.specs.Key.{Key, key_cmp}
use Rattle.coordinate_model.proofs.KeyProducts.{key_total, key_same}

pub key_cmp_total : IsTotalOrder key_cmp
key_cmp_total = key_total

-- keys that compare as equal give the same
pub same_key : {V : Type 0} (f : Key → V) (x y : Key) → IsTrue (eq_by_cmp key_cmp x y) → f x ≡ f y
same_key f x y e = ap f (key_same x y ((Equal-is (key_cmp x y)).0 e))
