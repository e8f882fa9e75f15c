-- Polynomials with whole coefficients that compute, in variables with two numbers each: what a ring's definitions give
-- at them decides the same definitions in every commutative ring.
use Rattle.std.proofs.Common.{◌≡◌, sym, ap, ap₂, ◌∙◌, subst₂, ℕ, zero, suc, ◌+◌, ◌*◌, Bool}
use Rattle.std.proofs.Common.{true, false, ◌&&◌, eqb, eqb→eq, T, zero-add, suc-add, zero-mul, suc-mul}
use Prim.Native.Nat.{compare, Ordering}
use Prim.Native.Nat.Ordering.{lt, eq, gt}
use lib.Dec.{compare_is_eq}
use Rattle.coordinate_model.specs.Ring.{Ops, IsCommRing, IsHom, of_nat}
use Rattle.coordinate_model.proofs.RingLemmas as L

-- the whole number m - n, and x(i, j) * p + q
pub data Poly : Type 0 where
  whole : ℕ → ℕ → Poly
  node : ℕ → ℕ → Poly → Poly → Poly

-- the order of the variables
abbrev order : ℕ → ℕ → ℕ → ℕ → Ordering
order i j k l = elim (compare i k) [ lt ↦ lt | gt ↦ gt | eq ↦ compare j l ]

same_variable : (i j k l : ℕ) → T (compare_is_eq (order i j k l)) → (i ≡ k) × (j ≡ l)
same_variable i j k l = by_first (compare i k) (eqb→eq i k)
  where
    by_first : (o : Ordering) → (T (compare_is_eq o) → i ≡ k)
        → T (compare_is_eq (elim o [ lt ↦ lt | gt ↦ gt | eq ↦ compare j l ]))
        → (i ≡ k) × (j ≡ l)
    by_first lt e t = absurd t
    by_first gt e t = absurd t
    by_first eq e t = (e tt, eqb→eq j l t)

-- a whole number and a polynomial added
abbrev add_whole : ℕ → ℕ → Poly → Poly
add_whole a b (whole c d) = whole (a + c) (b + d)
add_whole a b (node k l r s) = node k l r (add_whole a b s)

-- x(i, j) * p + q, plus a polynomial, for the sums with p and with q
abbrev add_node : ℕ → ℕ → Poly → (Poly → Poly) → Poly → (Poly → Poly) → Poly → Poly
add_node i j p add_p q add_q (whole c d) = node i j p (add_q (whole c d))
add_node i j p add_p q add_q (node k l r s) =
    elim (order i j k l) [
      | eq ↦ node i j (add_p r) (add_q s)
      | lt ↦ node i j p (add_q (node k l r s))
      | gt ↦ node k l r (add_node i j p add_p q add_q s)
    ]

-- the sum
abbrev pub add : Poly → Poly → Poly
add (whole a b) Q = add_whole a b Q
add (node i j p q) Q = add_node i j p (add p) q (add q) Q

-- the negative
abbrev pub negate : Poly → Poly
negate (whole a b) = whole b a
negate (node i j p q) = node i j (negate p) (negate q)

-- times x(i, j)
abbrev shift : ℕ → ℕ → Poly → Poly
shift i j (whole a b) = node i j (whole a b) (whole 0 0)
shift i j (node k l r s) =
    elim (order k l i j) [
      | lt ↦ node k l (shift i j r) (shift i j s)
      | eq ↦ node i j (node k l r s) (whole 0 0)
      | gt ↦ node i j (node k l r s) (whole 0 0)
    ]

-- times a whole number
abbrev scale : ℕ → ℕ → Poly → Poly
scale a b (whole c d) = whole (a * c + b * d) (a * d + b * c)
scale a b (node k l r s) = node k l (scale a b r) (scale a b s)

-- the product
abbrev pub mul : Poly → Poly → Poly
mul (whole a b) Q = elim (eqb a b) [ true ↦ whole 0 0 | false ↦ scale a b Q ]
mul (node i j p q) Q = add (shift i j (mul p Q)) (mul q Q)

-- whether every coefficient is zero
abbrev pub is_zero : Poly → Bool
is_zero (whole a b) = eqb a b
is_zero (node i j p q) = is_zero p && is_zero q

-- the variable x(i, j)
abbrev pub variable : ℕ → ℕ → Poly
variable i j = node i j (whole 1 0) (whole 0 0)

-- these polynomials with the operations of a ring
abbrev pub Polys : Ops
Polys = record { carrier = Poly; 𝟘 = whole 0 0; 𝟙 = whole 1 0; ◌⊕◌ = add; ◌⊗◌ = mul; neg = negate }

module _ (A : Ops) (R : IsCommRing A) where
  infixl 45 ◌⊕◌
  infixl 55 ◌⊗◌
  open A use {carrier, 𝟘, 𝟙, ◌⊕◌, ◌⊗◌, neg}
  open R use {add_assoc, add_comm, add_zero, add_neg, mul_assoc, mul_comm, mul_one, mul_add}

  -- n times one
  abbrev pub copies : ℕ → carrier
  copies = of_nat A

  copies-add : (m n : ℕ) → copies (m + n) ≡ copies m ⊕ copies n
  copies-add zero n = ap copies (zero-add n) ∙ sym (L.zero_add A R (copies n))
  copies-add (suc m) n =
      ap copies (suc-add m n) ∙ ap (λ y. 𝟙 ⊕ y) (copies-add m n) ∙ sym (add_assoc 𝟙 (copies m) (copies n))

  copies-mul : (m n : ℕ) → copies (m * n) ≡ copies m ⊗ copies n
  copies-mul zero n = ap copies (zero-mul n) ∙ sym (L.zero_mul A R (copies n))
  copies-mul (suc m) n =
      ap copies (suc-mul m n) ∙ copies-add (m * n) n ∙ add_comm (copies (m * n)) (copies n)
      ∙ ap₂ ◌⊕◌ (sym (L.one_mul A R (copies n))) (copies-mul m n) ∙ sym (L.add_mul A R 𝟙 (copies m) (copies n))

  -- a - b times one
  abbrev pub integer : ℕ → ℕ → carrier
  integer a b = copies a ⊕ neg (copies b)

  integer-add : (a b c d : ℕ) → integer (a + c) (b + d) ≡ integer a b ⊕ integer c d
  integer-add a b c d =
      ap₂ (λ y z. y ⊕ neg z) (copies-add a c) (copies-add b d)
      ∙ ap (λ y. (copies a ⊕ copies c) ⊕ y) (L.neg_add A R (copies b) (copies d))
      ∙ L.swap_four A R (copies a) (copies c) (neg (copies b)) (neg (copies d))

  -- (a - b) * (c - d) over the ring
  product_of_differences : (a b c d : carrier) → (a ⊕ neg b) ⊗ (c ⊕ neg d) ≡ (a ⊗ c ⊕ b ⊗ d) ⊕ neg (a ⊗ d ⊕ b ⊗ c)
  product_of_differences a b c d =
      L.add_mul A R a (neg b) (c ⊕ neg d) ∙ ap₂ ◌⊕◌ (mul_add a c (neg d)) (mul_add (neg b) c (neg d))
      ∙ ap₂ (λ y z. (a ⊗ c ⊕ y) ⊕ z) (L.mul_neg A R a d)
      (ap₂ ◌⊕◌ (L.neg_mul A R b c) (L.neg_mul A R b (neg d) ∙ ap neg (L.mul_neg A R b d) ∙ L.neg_neg A R (b ⊗ d))
      ∙ add_comm (neg (b ⊗ c)) (b ⊗ d))
      ∙ L.swap_four A R (a ⊗ c) (neg (a ⊗ d)) (b ⊗ d) (neg (b ⊗ c))
      ∙ ap (λ y. (a ⊗ c ⊕ b ⊗ d) ⊕ y) (sym (L.neg_add A R (a ⊗ d) (b ⊗ c)))

  integer-mul : (a b c d : ℕ) → integer (a * c + b * d) (a * d + b * c) ≡ integer a b ⊗ integer c d
  integer-mul a b c d =
      ap₂ (λ y z. y ⊕ neg z) (copies-add (a * c) (b * d) ∙ ap₂ ◌⊕◌ (copies-mul a c) (copies-mul b d))
      (copies-add (a * d) (b * c)
      ∙ ap₂ ◌⊕◌ (copies-mul a d) (copies-mul b c))
      ∙ sym (product_of_differences (copies a) (copies b) (copies c) (copies d))

  module _ (x : ℕ → ℕ → carrier) where
    -- the value of a polynomial where x(i, j) is x i j
    abbrev pub meaning : Poly → carrier
    meaning (whole a b) = integer a b
    meaning (node i j p q) = x i j ⊗ meaning p ⊕ meaning q

    add_whole-is : (a b : ℕ) (Q : Poly) → meaning (add_whole a b Q) ≡ integer a b ⊕ meaning Q
    add_whole-is a b (whole c d) = integer-add a b c d
    add_whole-is a b (node k l r s) =
        ap (λ y. x k l ⊗ meaning r ⊕ y) (add_whole-is a b s)
        ∙ L.add_left_comm A R (x k l ⊗ meaning r) (integer a b) (meaning s)

    module _ (i j : ℕ) (p : Poly) (add_p : Poly → Poly) (p-is : (Q : Poly) → meaning (add_p Q) ≡ meaning p ⊕ meaning Q)
        (q : Poly)
        (add_q : Poly → Poly) (q-is : (Q : Poly) → meaning (add_q Q) ≡ meaning q ⊕ meaning Q) where
      below_node : (Q : Poly) → meaning (node i j p (add_q Q)) ≡ meaning (node i j p q) ⊕ meaning Q
      below_node Q =
          ap (λ y. x i j ⊗ meaning p ⊕ y) (q-is Q) ∙ sym (add_assoc (x i j ⊗ meaning p) (meaning q) (meaning Q))

      same_node : (r s : Poly) → meaning (node i j (add_p r) (add_q s)) ≡ meaning (node i j p q) ⊕ meaning
          (node i j r s)
      same_node r s =
          ap₂ (λ y z. x i j ⊗ y ⊕ z) (p-is r) (q-is s)
          ∙ ap (λ y. y ⊕ (meaning q ⊕ meaning s)) (mul_add (x i j) (meaning p) (meaning r))
          ∙ L.swap_four A R (x i j ⊗ meaning p) (x i j ⊗ meaning r) (meaning q) (meaning s)

      add_node-is : (Q : Poly) → meaning (add_node i j p add_p q add_q Q) ≡ meaning (node i j p q) ⊕ meaning Q
      add_node-is (whole c d) = below_node (whole c d)
      add_node-is (node k l r s) = by_order (order i j k l) (same_variable i j k l) (add_node-is s)
        where
          by_order : (o : Ordering) → (T (compare_is_eq o) → (i ≡ k) × (j ≡ l))
              → meaning (add_node i j p add_p q add_q s) ≡ meaning (node i j p q) ⊕ meaning s
              → meaning (elim o [
                | eq ↦ node i j (add_p r) (add_q s)
                | lt ↦ node i j p (add_q (node k l r s))
                | gt ↦ node k l r
                    (add_node i j p add_p q add_q s)
              ]) ≡ meaning (node i j p q) ⊕ meaning (node k l r s)
          by_order eq same ih =
              subst₂ (λ u v. meaning (node i j (add_p r) (add_q s)) ≡ meaning (node i j p q) ⊕ meaning (node u v r s))
              (same tt).0
              (same tt).1 (same_node r s)
          by_order lt same ih = below_node (node k l r s)
          by_order gt same ih =
              ap (λ y. x k l ⊗ meaning r ⊕ y) ih ∙ L.add_left_comm A R (x k l ⊗ meaning r) (meaning (node i j p q))
              (meaning s)

    pub add-is : (P Q : Poly) → meaning (add P Q) ≡ meaning P ⊕ meaning Q
    add-is (whole a b) Q = add_whole-is a b Q
    add-is (node i j p q) Q = add_node-is i j p (add p) (add-is p) q (add q) (add-is q) Q

    pub negate-is : (P : Poly) → meaning (negate P) ≡ neg (meaning P)
    negate-is (whole a b) =
        sym (L.neg_add A R (copies a) (neg (copies b)) ∙ ap (λ y. neg (copies a) ⊕ y) (L.neg_neg A R (copies b))
        ∙ add_comm (neg (copies a)) (copies b))
    negate-is (node i j p q) =
        ap₂ (λ y z. x i j ⊗ y ⊕ z) (negate-is p) (negate-is q)
        ∙ ap (λ y. y ⊕ neg (meaning q)) (L.mul_neg A R (x i j) (meaning p))
        ∙ sym (L.neg_add A R (x i j ⊗ meaning p) (meaning q))

    pub one-is : integer 1 0 ≡ 𝟙
    one-is = ap (λ y. (𝟙 ⊕ 𝟘) ⊕ y) (L.neg_zero A R) ∙ add_zero (𝟙 ⊕ 𝟘) ∙ add_zero 𝟙

    plus_nothing : (a : carrier) → a ⊕ integer 0 0 ≡ a
    plus_nothing a = ap (λ y. a ⊕ y) (add_neg 𝟘) ∙ add_zero a

    shift-is : (i j : ℕ) (Q : Poly) → meaning (shift i j Q) ≡ x i j ⊗ meaning Q
    shift-is i j (whole a b) = plus_nothing (x i j ⊗ integer a b)
    shift-is i j (node k l r s) = by_order (order k l i j) (shift-is i j r) (shift-is i j s)
      where
        by_order : (o : Ordering) → meaning (shift i j r) ≡ x i j ⊗ meaning r
            → meaning (shift i j s) ≡ x i j ⊗ meaning s
            → meaning (elim o [
              | lt ↦ node k l (shift i j r) (shift i j s)
              | eq ↦ node i j (node k l r s) (whole 0 0)
              | gt ↦ node i j
                  (node k l r s) (whole 0 0)
            ]) ≡ x i j ⊗ meaning (node k l r s)
        by_order lt hr hs =
            ap₂ (λ y z. x k l ⊗ y ⊕ z) hr hs ∙ ap (λ y. y ⊕ x i j ⊗ meaning s)
            (L.mul_left_comm A R (x k l) (x i j) (meaning r))
            ∙ sym (mul_add (x i j) (x k l ⊗ meaning r) (meaning s))
        by_order eq hr hs = plus_nothing (x i j ⊗ meaning (node k l r s))
        by_order gt hr hs = plus_nothing (x i j ⊗ meaning (node k l r s))

    scale-is : (a b : ℕ) (Q : Poly) → meaning (scale a b Q) ≡ integer a b ⊗ meaning Q
    scale-is a b (whole c d) = integer-mul a b c d
    scale-is a b (node k l r s) =
        ap₂ (λ y z. x k l ⊗ y ⊕ z) (scale-is a b r) (scale-is a b s)
        ∙ ap (λ y. y ⊕ integer a b ⊗ meaning s) (L.mul_left_comm A R (x k l) (integer a b) (meaning r))
        ∙ sym (mul_add (integer a b) (x k l ⊗ meaning r) (meaning s))

    pub mul-is : (P Q : Poly) → meaning (mul P Q) ≡ meaning P ⊗ meaning Q
    mul-is (whole a b) Q = by_test (eqb a b) (eqb→eq a b)
      where
        by_test : (none : Bool) → (T none → a ≡ b)
            → meaning (elim none [ true ↦ whole 0 0 | false ↦ scale a b Q ]) ≡ integer a b ⊗ meaning Q
        by_test true e =
            add_neg 𝟘 ∙ sym (L.zero_mul A R (meaning Q))
            ∙ ap (λ y. y ⊗ meaning Q) (sym (add_neg (copies a)) ∙ ap (λ c. copies a ⊕ neg (copies c)) (e tt))
        by_test false e = scale-is a b Q
    mul-is (node i j p q) Q =
        add-is (shift i j (mul p Q)) (mul q Q)
        ∙ ap₂ ◌⊕◌ (shift-is i j (mul p Q) ∙ ap (λ y. x i j ⊗ y) (mul-is p Q)
        ∙ sym (mul_assoc (x i j) (meaning p) (meaning Q))) (mul-is q Q)
        ∙ sym (L.add_mul A R (x i j ⊗ meaning p) (meaning q) (meaning Q))

    pub variable-is : (i j : ℕ) → meaning (variable i j) ≡ x i j
    variable-is i j = plus_nothing (x i j ⊗ integer 1 0) ∙ ap (λ y. x i j ⊗ y) one-is ∙ mul_one (x i j)

    is_zero-is : (P : Poly) → T (is_zero P) → meaning P ≡ 𝟘
    is_zero-is (whole a b) t = ap (λ y. copies a ⊕ neg (copies y)) (sym (eqb→eq a b t)) ∙ add_neg (copies a)
    is_zero-is (node i j p q) t = by_parts (is_zero p) (is_zero q) (is_zero-is p) (is_zero-is q) t
      where
        by_parts : (b c : Bool) → (T b → meaning p ≡ 𝟘) → (T c → meaning q ≡ 𝟘) → T (b && c)
            → x i j ⊗ meaning p ⊕ meaning q ≡ 𝟘
        by_parts true c hp hq t =
            ap₂ (λ y z. x i j ⊗ y ⊕ z) (hp tt) (hq t) ∙ add_zero (x i j ⊗ 𝟘) ∙ L.mul_zero A R (x i j)
        by_parts false c hp hq t = absurd t

    -- the polynomials' values keep the operations
    abbrev pub values : IsHom Polys A meaning
    values = record { to_zero = add_neg 𝟘; to_one = one-is; to_add = add-is; to_mul = mul-is; to_neg = negate-is }

    pub zero_of_test : (P : Poly) → T (is_zero P) → meaning P ≡ 𝟘
    zero_of_test P t = is_zero-is P t

    pub equal_of_test : (P Q : Poly) → T (is_zero (add P (negate Q))) → meaning P ≡ meaning Q
    equal_of_test P Q t =
        L.equal_of_difference A R (meaning P) (meaning Q)
        (ap (λ y. meaning P ⊕ y) (sym (negate-is Q)) ∙ sym (add-is P (negate Q))
        ∙ is_zero-is (add P (negate Q)) t)
