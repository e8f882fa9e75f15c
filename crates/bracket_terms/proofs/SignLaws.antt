-- When the sorted bracket of a sequence is zero, and what it is worth.
use Rattle.std.proofs.Common.{◌≡◌, ℕ, ◌↔◌, Bool, true, false, if◌then◌else◌, List, length, IsTrue, refl, sym, ap}
use Rattle.std.proofs.Common.{◌∙◌, nat_cmp, true≢false}
use Rattle.std.specs.List.Sorted.{IsStrictlyIncreasing, IsPermutation, IsSorted}
use Rattle.std.proofs.lemmas.List.Sorted.{IsNonDecreasingBy-from_sort}
use Rattle.coordinate_model.specs.Sequences.{IsRank, is_odd, repeats}
use Rattle.coordinate_model.specs.Syzygy.{sorted}
use Rattle.coordinate_model.specs.Polynomial.{Polynomials, br}
use Rattle.coordinate_model.proofs.BracketPolynomialLaws.{sorted_bracket_law, repeated_point}
use Rattle.coordinate_model.proofs.SortedRows.{sorted_increasing}
use Rattle.coordinate_model.proofs.StdSort.{sorted-is, increasing-no_repeat}
use Rattle.bracket_terms.specs.Signed.{sorted_with_sign, value_of}
use Rattle.bracket_terms.specs.declared.signed.Signed.{Signed}
use Rattle.bracket_terms.specs.declared.signed.Signed.TheVariants.{Zero, Plus, Minus}

-- what std's sort gives is the sequence in ascending order
pub sorted_by_std : (ps qs : List ℕ) → IsPermutation ps qs → IsSorted nat_cmp qs → qs ≡ sorted ps
sorted_by_std ps qs p s = sorted-is ps qs p (IsNonDecreasingBy-from_sort (λ x. x) qs s)

-- a sequence whose points do not strictly increase when sorted has one twice
pub repeats_where : (ps qs : List ℕ) → qs ≡ sorted ps → (IsStrictlyIncreasing qs → ⊥) → repeats ps ≡ true
repeats_where ps qs e not = split (repeats ps) refl
  where
    split : (b : Bool) → repeats ps ≡ b → b ≡ true
    split true h = refl
    split false h = absurd (not (rw e (sorted_increasing ps h)))

-- and else none
pub repeats_nowhere : (ps qs : List ℕ) → qs ≡ sorted ps → IsStrictlyIncreasing qs → repeats ps ≡ false
repeats_nowhere ps qs e increasing = increasing-no_repeat ps (rw e at increasing)

zero_choice : {d : ℕ} (b odd : Bool) (s : List ℕ) (r : Signed d)
    → r ≡ (if b then Zero else if odd then Minus s else Plus s) → (r ≡ Zero) ↔ IsTrue b
zero_choice true odd s r e = (λ _. refl, λ _. e)
zero_choice false true s r e = (λ z. absurd (cc), λ h. absurd (true≢false (sym h)))
zero_choice false false s r e = (λ z. absurd (cc), λ h. absurd (true≢false (sym h)))

-- the sorted bracket is zero exactly where a point comes twice
pub zero_where : {d : ℕ} (ps : List ℕ) (r : Signed d) → r ≡ sorted_with_sign ps → (r ≡ Zero) ↔ IsTrue (repeats ps)
zero_where ps r e = zero_choice (repeats ps) (is_odd ps) (sorted ps) r e

value_choice : {d : ℕ} (ps : List ℕ) → IsRank (length ps) → (b odd : Bool) → repeats ps ≡ b → is_odd ps ≡ odd
    → (r : Signed d) → r ≡ (if b then Zero else if odd then Minus (sorted ps) else Plus (sorted ps))
    → value_of r ≡ br ps
value_choice ps rank true odd h o r e = ap value_of e ∙ sym (repeated_point ps rank h)
value_choice ps rank false true h o r e =
    ap value_of e
    ∙ sym (sorted_bracket_law ps rank ∙ ap (λ b. if b then Polynomials.neg (br (sorted ps)) else br (sorted ps)) o)
value_choice ps rank false false h o r e =
    ap value_of e
    ∙ sym (sorted_bracket_law ps rank ∙ ap (λ b. if b then Polynomials.neg (br (sorted ps)) else br (sorted ps)) o)

-- the sorted bracket is worth the bracket of the sequence
pub value_where : {d : ℕ} (ps : List ℕ) → IsRank (length ps) → (r : Signed d) → r ≡ sorted_with_sign ps
    → value_of r ≡ br ps
value_where ps rank r e = value_choice ps rank (repeats ps) (is_odd ps) refl refl r e

-- which case it is
pub case_zero : {d : ℕ} (ps : List ℕ) → repeats ps ≡ true → ◌≡◌ {A = Signed d} Zero (sorted_with_sign ps)
case_zero {d} ps twice =
    sym
    (ap (λ b. let r : Signed d = if b then Zero else if is_odd ps then Minus (sorted ps) else Plus (sorted ps) in r)
    twice)

pub case_odd : {d : ℕ} (ps qs : List ℕ) → qs ≡ sorted ps → repeats ps ≡ false → is_odd ps ≡ true
    → ◌≡◌ {A = Signed d} (Minus qs) (sorted_with_sign ps)
case_odd ps qs e once odd = rw (e, once, odd) refl

pub case_even : {d : ℕ} (ps qs : List ℕ) → qs ≡ sorted ps → repeats ps ≡ false → is_odd ps ≡ false
    → ◌≡◌ {A = Signed d} (Plus qs) (sorted_with_sign ps)
case_even ps qs e once even = rw (e, once, even) refl
