-- The samples keep the step rules.
use Rattle.std.proofs.Common.{◌≡◌, ℕ, ◌<◌, ◌≤◌, true, Bool, refl, sym, subst, arith, Result, Ok, Err}
use Rattle.std.specs.Prelude.{is_ok}
use Rattle.std.proofs.lemmas.Bool.{agree_below_at, false≢true}
use Rattle.step_types.specs.Checks.{checked, outcome, IsGood}
use Rattle.step_types.specs.Rules.{measured, within}
use Rattle.step_types.specs.Forms.{measure_of, measure_at, recipe_measure, total, claim_measure, sentence_measure}
use Rattle.step_types.specs.Measures.{joined, met, of_step}
use Rattle.sample_maker.specs.Sample.{sample_of}
use Rattle.sample_maker.proofs.Shown.{shown, sample_with, sample_shown}

-- what is answered
value_of : {X E : Type 0} (r : Result X E) → is_ok r ≡ true → (x : X) × (r ≡ Ok x)
value_of (Ok x) ok = (x, refl)
value_of (Err e) ok = absurd (false≢true ok)

-- whether the sample with its names by their digits is good
abbrev is_good : ℕ → Bool
is_good number = is_ok (checked (sample_with shown number))

all_good : (number : ℕ) → number < 13 → is_good number ≡ true
unfolding outcome measured within measure_of measure_at recipe_measure total claim_measure sentence_measure joined met of_step
all_good number small = agree_below_at is_good (λ _. true) 13 number refl small

pub good : (number : ℕ) → number ≤ 12 → IsGood (sample_of number)
good number small = subst IsGood (sym (sample_shown number)) (value_of _ (all_good number (omega arith)))
