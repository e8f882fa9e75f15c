-- Commutative rings, as in any algebra textbook. The operations stand apart from their laws, so that brackets, joins
-- and meets are defined once, for coordinate polynomials, for integers, and for whatever else has the operations.
use Rattle.std.specs.Prelude.{◌≡◌, ℕ, zero, suc, ℤ, pos, negsuc, ◌+ℤ◌, ◌*ℤ◌, neg_ℤ}

-- a carrier with the operations of a ring, and no law
pub record Ops : Type 1 where
  infixl 45 ◌⊕◌
  infixl 55 ◌⊗◌
  pub carrier : Type 0
  pub 𝟘 : carrier
  pub 𝟙 : carrier
  pub ◌⊕◌ : carrier → carrier → carrier
  pub ◌⊗◌ : carrier → carrier → carrier
  pub neg : carrier → carrier

module _ (A : Ops) where
  infixl 45 ◌⊕◌
  infixl 55 ◌⊗◌
  open A use {carrier, 𝟘, 𝟙, ◌⊕◌, ◌⊗◌, neg}

  -- the laws of a commutative ring
  pub record IsCommRing : Type 0 where
    pub add_assoc : (a b c : carrier) → (a ⊕ b) ⊕ c ≡ a ⊕ (b ⊕ c)
    pub add_comm : (a b : carrier) → a ⊕ b ≡ b ⊕ a
    pub add_zero : (a : carrier) → a ⊕ 𝟘 ≡ a
    pub add_neg : (a : carrier) → a ⊕ neg a ≡ 𝟘
    pub mul_assoc : (a b c : carrier) → (a ⊗ b) ⊗ c ≡ a ⊗ (b ⊗ c)
    pub mul_comm : (a b : carrier) → a ⊗ b ≡ b ⊗ a
    pub mul_one : (a : carrier) → a ⊗ 𝟙 ≡ a
    pub mul_add : (a b c : carrier) → a ⊗ (b ⊕ c) ≡ a ⊗ b ⊕ a ⊗ c

  -- n times one
  abbrev pub of_nat : ℕ → carrier
  of_nat zero = 𝟘
  of_nat (suc n) = 𝟙 ⊕ of_nat n

  -- the integer in the ring
  abbrev pub of_int : ℤ → carrier
  of_int (pos n) = of_nat n
  of_int (negsuc n) = neg (of_nat (suc n))

-- the map keeps the operations: a homomorphism
pub record IsHom (A B : Ops) (to : A.carrier → B.carrier) : Type 0 where
  pub to_zero : to A.𝟘 ≡ B.𝟘
  pub to_one : to A.𝟙 ≡ B.𝟙
  pub to_add : (a b : A.carrier) → to (A.◌⊕◌ a b) ≡ B.◌⊕◌ (to a) (to b)
  pub to_mul : (a b : A.carrier) → to (A.◌⊗◌ a b) ≡ B.◌⊗◌ (to a) (to b)
  pub to_neg : (a : A.carrier) → to (A.neg a) ≡ B.neg (to a)

-- the integers with their operations
abbrev pub Integers : Ops
Integers = record { carrier = ℤ; 𝟘 = pos 0; 𝟙 = pos 1; ◌⊕◌ = ◌+ℤ◌; ◌⊗◌ = ◌*ℤ◌; neg = neg_ℤ }
