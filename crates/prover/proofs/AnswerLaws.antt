-- Each list of words and each input has one answer.
use Rattle.std.proofs.Common.{◌≡◌, ℕ, ◌<◌, ◌≤◌, ◌⊎◌, inl, inr, List, [], length, codes, Option, Some, None, refl}
use Rattle.std.proofs.Common.{sym, ap, subst, ◌∙◌, arith, Result, Ok, Err}
use Rattle.std.specs.Prelude.{IfSome}
use Rattle.std.proofs.lemmas.Bool.{cases_lt}
use Rattle.prover.specs.declared.mode.Mode.{Mode}
use Rattle.prover.specs.declared.mode.Mode.TheVariants as mode
use Rattle.prover.specs.Answer.{Answer, usage, refused}
use Rattle.prover.proofs.CheckLaws.{some_check_answer, one_check_answer}
use Rattle.prover.proofs.PartLaws.{some_part, one_part}
use Rattle.prover.specs.Modes.Prove.{IsProveAnswer, proof_answer}
use Rattle.prover.specs.Modes.Sample.{sample_answer}
use Rattle.prover.specs.Modes.{IsAnswer, IsInputAnswer, IsModeAnswer, IsTooLong, IsShort, longest_input}
use Rattle.prover.proofs.ModeLaws.{some_mode, one_mode}
use Rattle.prover.proofs.SameLaws.{some_same, one_same}

-- ---- modes

pub some_mode_answer : (m : Mode) (input : List ℕ) → (a : Answer) × IsModeAnswer m input a
some_mode_answer (mode.Prove options) input =
    some_part [] input (λ c a. a ≡ proof_answer options c) (λ c gives. (proof_answer options c, refl))
some_mode_answer mode.Check input = some_check_answer input
some_mode_answer (mode.Same options) input = some_same options input
some_mode_answer (mode.Sample number budget) input = (sample_answer number budget, refl)

one_mode_answer : (m : Mode) (input : List ℕ) (a b : Answer) → IsModeAnswer m input a → IsModeAnswer m input b → a ≡ b
one_mode_answer (mode.Prove options) input a b is also =
    one_part [] input (λ c a. a ≡ proof_answer options c) (λ c gives x y is also. is ∙ sym also) a b is also
one_mode_answer mode.Check input a b is also = one_check_answer input a b is also
one_mode_answer (mode.Same options) input a b is also = one_same options input a b is also
one_mode_answer (mode.Sample number budget) input a b is also = is ∙ sym also

-- ---- whole inputs

pub long_or_short : (m : Mode) (input : List ℕ) → IsTooLong m input ⊎ IsShort m input
long_or_short m input = go (longest_input m) refl
  where
    go : (longest : Option ℕ) → longest_input m ≡ longest → IsTooLong m input ⊎ IsShort m input
    go None e = inr (rw e tt)
    go (Some n) e = elim (cases_lt n (length input)) [ inl less ↦ inl (n, e, less) | inr more ↦ inr (rw e more) ]

long_and_short : (m : Mode) (input : List ℕ) → IsTooLong m input → IsShort m input → ⊥
long_and_short m input (n, e, long) short =
    let few : length input ≤ n = subst (λ (x : Option ℕ). IfSome x (λ k. length input ≤ k)) e short in omega arith

pub some_input_answer : (m : Mode) (input : List ℕ) → (a : Answer) × IsInputAnswer m input a
some_input_answer m input = elim (long_or_short m input) [
  | inl long ↦ (refused (codes "long"), inl (long, refl))
  | inr short ↦ (let found = some_mode_answer m input in (found.0, inr (short, found.1)))
]

one_input_answer : (m : Mode) (input : List ℕ) (a b : Answer) → IsInputAnswer m input a → IsInputAnswer m input b → a ≡ b
one_input_answer m input a b (inl (long, x)) (inl (also, y)) = x ∙ sym y
one_input_answer m input a b (inl (long, x)) (inr (short, y)) = absurd (long_and_short m input long short)
one_input_answer m input a b (inr (short, x)) (inl (long, y)) = absurd (long_and_short m input long short)
one_input_answer m input a b (inr (short, x)) (inr (also, y)) = one_mode_answer m input a b x y

-- ---- words and inputs

pub some_answer : (words : List (List ℕ)) (input : List ℕ) → (a : Answer) × IsAnswer words input a
some_answer words input = elim (some_mode words) [
  | inl w ↦ (let found = some_input_answer w.0 input in (found.0, inr (w.0, w.1, found.1)))
  | inr other ↦ (usage, inl (other, refl))
]

pub one_answer : (words : List (List ℕ)) (input : List ℕ) (a b : Answer) → IsAnswer words input a → IsAnswer words input b
    → a ≡ b
one_answer words input a b (inl (other, x)) (inl (also, y)) = x ∙ sym y
one_answer words input a b (inl (other, x)) (inr (m, is, y)) = absurd (other m is)
one_answer words input a b (inr (m, is, x)) (inl (other, y)) = absurd (other m is)
one_answer words input a b (inr (m, is, x)) (inr (n, also, y)) =
    one_input_answer m input a b x (subst (λ (k : Mode). IsInputAnswer k input b) (one_mode words n m also is) y)
