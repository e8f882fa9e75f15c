-- Each input of two texts has one answer.
use Rattle.std.proofs.Common.{◌≡◌, ℕ, ◌⊎◌, inl, inr, List, length, codes, refl, sym, ap, subst, ◌∙◌, arith}
use Rattle.std.proofs.lemmas.Bool.{cases_lt}
use Rattle.construction_reader.specs.Said.{Account}
use Rattle.step_types.specs.Checks.{names_of}
use Rattle.cayley_run.specs.declared.answer.Options.{Options}
use Rattle.prover.specs.Answer.{Answer, refused}
use Rattle.prover.specs.Cuts.{behind_separator}
use Rattle.prover.specs.Modes.Same.{separator, AreShort, IsOneLong, IsPairAnswer, IsSecondAnswer, IsShortAnswer}
use Rattle.prover.specs.Modes.Same.{IsTextsAnswer, IsSameAnswer, comparison, unlike}
use Rattle.prover.proofs.CutLaws.{some_cut, one_cut}
use Rattle.prover.proofs.Differences.{some_difference, one_difference, alike_or_not, separates}
use Rattle.prover.proofs.PartLaws.{some_part, one_part}

module _ (options : Options) where
  some_pair : (c e : Account) → (a : Answer) × IsPairAnswer options c e a
  some_pair c e = elim (some_difference (names_of c) (names_of e)) [
    | inl (d, is) ↦ (unlike d, inl (d, is, refl))
    | inr alike ↦ (comparison options c e, inr (alike, refl))
  ]

  one_pair : (c e : Account) (a b : Answer) → IsPairAnswer options c e a → IsPairAnswer options c e b → a ≡ b
  one_pair c e a b (inl (d, is, x)) (inl (f, also, y)) =
      x ∙ ap unlike (one_difference (names_of c) (names_of e) d f is also) ∙ sym y
  one_pair c e a b (inl (d, is, x)) (inr (alike, y)) = absurd (alike_or_not (names_of c) (names_of e) d is alike)
  one_pair c e a b (inr (alike, x)) (inl (d, is, y)) = absurd (alike_or_not (names_of c) (names_of e) d is alike)
  one_pair c e a b (inr (alike, x)) (inr (also, y)) = x ∙ sym y

  pub some_second : (c : Account) (second : List ℕ) → (a : Answer) × IsSecondAnswer options c second a
  some_second c second =
      some_part (codes "second ") second (λ e a. IsPairAnswer options c e a) (λ e gives. some_pair c e)

  one_second : (c : Account) (second : List ℕ) (a b : Answer) → IsSecondAnswer options c second a
      → IsSecondAnswer options c second b → a ≡ b
  one_second c second = one_part (codes "second ") second (λ e a. IsPairAnswer options c e a) (λ e gives. one_pair c e)

  module _ (first second : List ℕ) where
    pub some_short : (a : Answer) × IsShortAnswer options first second a
    some_short =
        some_part (codes "first ") first (λ c a. IsSecondAnswer options c second a) (λ c gives. some_second c second)

    one_short : (a b : Answer) → IsShortAnswer options first second a → IsShortAnswer options first second b → a ≡ b
    one_short =
        one_part (codes "first ") first (λ c a. IsSecondAnswer options c second a) (λ c gives. one_second c second)

    pub long_or_both : IsOneLong first second ⊎ AreShort first second
    long_or_both = elim (cases_lt 1048576 (length first)) [
      | inl long ↦ inl (inl long)
      | inr few ↦ (elim (cases_lt 1048576 (length second)) [ inl long ↦ inl (inr long) | inr more ↦ inr (few, more) ])
    ]

    not_both : IsOneLong first second → AreShort first second → ⊥
    not_both (inl long) short = omega (arith, short.0)
    not_both (inr long) short = omega (arith, short.1)

    some_texts : (a : Answer) × IsTextsAnswer options first second a
    some_texts = elim long_or_both [
      | inl long ↦ (refused (codes "long"), inl (long, refl))
      | inr short ↦ (let found = some_short in (found.0, inr (short, found.1)))
    ]

    one_texts : (a b : Answer) → IsTextsAnswer options first second a → IsTextsAnswer options first second b → a ≡ b
    one_texts a b (inl (long, x)) (inl (also, y)) = x ∙ sym y
    one_texts a b (inl (long, x)) (inr (short, y)) = absurd (not_both long short)
    one_texts a b (inr (short, x)) (inl (long, y)) = absurd (not_both long short)
    one_texts a b (inr (short, x)) (inr (also, y)) = one_short a b x y

  pub some_same : (input : List ℕ) → (a : Answer) × IsSameAnswer options input a
  some_same input =
      let at = some_cut separator separates input in
      let second = behind_separator separator at.1 in
      let found = some_texts at.0 second in (
        found.0,
        record {
          first = at.0;
          second = second;
          texts = record { rest = at.1; cut = at.2; behind = refl };
          is = found.1;
        },
      )

  pub one_same : (input : List ℕ) (a b : Answer) → IsSameAnswer options input a → IsSameAnswer options input b → a ≡ b
  one_same input a b x y =
      let same = one_cut separator separates input x.first x.texts.rest y.first y.texts.rest x.texts.cut y.texts.cut in
      let second : y.second ≡ x.second =
      y.texts.behind ∙ ap (behind_separator separator) (sym same.1) ∙ sym x.texts.behind in
      one_texts x.first x.second a b x.is
      (subst (λ (t : List ℕ). IsTextsAnswer options t x.second b) (sym same.0)
      (subst (λ (t : List ℕ). IsTextsAnswer options y.first t b) second y.is))
