-- Sums of exponents, one place at a time.
use Rattle.std.proofs.Common.{◌≡◌, ℕ, zero, suc, Bool, true, false, ◌+◌, ◌<◌, ◌≤◌, List, [], ◌∷◌, length, get_or}
use Rattle.std.proofs.Common.{take, set, refl, sym, ap, arith}
use Rattle.std.proofs.lemmas.Bool.{leb-true}
use Rattle.std.specs.Prelude.{T, nat_le}
use Rattle.std.specs.List.{AllByRecursion, list_all}
use Rattle.coordinate_model.proofs.Bools.{first, second}
use Rattle.coordinate_model.specs.Key.{add_exponents}

pub add_exponents-nothing : (e : List ℕ) → add_exponents e [] ≡ e
add_exponents-nothing [] = refl
add_exponents-nothing (x ∷ e) = refl

pub length-add_exponents : (e f : List ℕ) → length e ≡ length f → length (add_exponents e f) ≡ length e
length-add_exponents [] [] h = refl
length-add_exponents [] (y ∷ f) h = absurd (omega arith)
length-add_exponents (x ∷ e) [] h = absurd (omega arith)
length-add_exponents (x ∷ e) (y ∷ f) h = ap suc (length-add_exponents e f (omega arith))

-- the sum at a place
pub get_or-add_exponents : (e f : List ℕ) (i : ℕ) → i < length e → i < length f
    → get_or (add_exponents e f) i 0 ≡ get_or e i 0 + get_or f i 0
get_or-add_exponents [] f i h k = absurd (omega arith)
get_or-add_exponents (x ∷ e) [] i h k = absurd (omega arith)
get_or-add_exponents (x ∷ e) (y ∷ f) zero h k = refl
get_or-add_exponents (x ∷ e) (y ∷ f) (suc i) h k = get_or-add_exponents e f i (omega arith) (omega arith)

-- before its turn, a place has its first exponent
pub get_or-add_exponents-take : (e f : List ℕ) (i : ℕ) → i < length e → i < length f
    → get_or (add_exponents e (take i f)) i 0 ≡ get_or e i 0
get_or-add_exponents-take [] f i h k = absurd (omega arith)
get_or-add_exponents-take (x ∷ e) [] i h k = absurd (omega arith)
get_or-add_exponents-take (x ∷ e) (y ∷ f) zero h k = refl
get_or-add_exponents-take (x ∷ e) (y ∷ f) (suc i) h k = get_or-add_exponents-take e f i (omega arith) (omega arith)

pub add_exponents-step : (e f : List ℕ) (i : ℕ) → i < length e → i < length f
    → set (add_exponents e (take i f)) i (get_or e i 0 + get_or f i 0) ≡ add_exponents e (take (suc i) f)
add_exponents-step [] f i h k = absurd (omega arith)
add_exponents-step (x ∷ e) [] i h k = absurd (omega arith)
add_exponents-step (x ∷ e) (y ∷ f) zero h k = ap (λ r. (x + y) ∷ r) (sym (add_exponents-nothing e))
add_exponents-step (x ∷ e) (y ∷ f) (suc i) h k =
    ap (λ r. (x + y) ∷ r) (add_exponents-step e f i (omega arith) (omega arith))

-- what holds of each exponent holds at a place
pub all_at : (P : ℕ → Type 0) (e : List ℕ) → AllByRecursion P e → (i : ℕ) → i < length e → P (get_or e i 0)
all_at P [] h i l = absurd (omega arith)
all_at P (x ∷ e) h zero l = h.0
all_at P (x ∷ e) h (suc i) l = all_at P e h.1 i (omega arith)

-- a bound that can be computed
pub all_up_to : (n : ℕ) (e : List ℕ) → T (list_all (λ x. nat_le x n) e) → AllByRecursion (λ x. x ≤ n) e
all_up_to n [] h = tt
all_up_to n (x ∷ e) h =
    let rest : Bool = list_all (λ y. nat_le y n) e in
    (leb-true x n (true_of (nat_le x n) (first (nat_le x n) rest h)), all_up_to n e (second (nat_le x n) rest h))
  where
    true_of : (b : Bool) → T b → b ≡ true
    true_of true t = refl
    true_of false t = absurd t
