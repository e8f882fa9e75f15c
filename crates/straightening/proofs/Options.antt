-- Options by what they hold.
use Rattle.std.specs.Prelude.{◌≡◌, Option, Some, None, option_map}
use Rattle.std.proofs.Common.{refl}

pub some_same : {A : Type 0} (a b : A) → Some a ≡ Some b → a ≡ b
some_same a b e = cc

-- what an option holds that was mapped to b
pub record From {A B : Type 0} (f : A → B) (o : Option A) (b : B) : Type 0 where
  pub value : A
  pub is : o ≡ Some value
  pub image : f value ≡ b

pub from_map : {A B : Type 0} (f : A → B) (o : Option A) (b : B) → option_map f o ≡ Some b → From f o b
from_map f None b e = cc
from_map f (Some a) b e = record { value = a; is = refl; image = some_same (f a) b e }

pub none_of : {A B : Type 0} (f : A → B) (o : Option A) → option_map f o ≡ None → o ≡ None
none_of f None e = refl
none_of f (Some a) e = cc
