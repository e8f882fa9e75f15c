-- One statement after the other.
use Rattle.std.proofs.Common.{◌≡◌, ℕ, zero, suc, ◌+◌, ◌<◌, ◌≤◌, List, [], ◌∷◌, length, drop, get_or, map, Result, Ok, sym, ap, ◌∙◌, subst, arith, add-one}
use Rattle.std.specs.List.{AllByRecursion}
use Rattle.construction_reader.specs.declared.types.Statement.{Statement}
use Rattle.construction_reader.specs.Outcome.{◌>>=◌}
use Rattle.construction_reader.specs.Said.{row, sentence, sentences_of}
use Rattle.construction_reader.specs.Grammar.{IsSentence}
use Rattle.step_types.specs.declared.fault.StepFault.{StepFault}
use Rattle.step_types.specs.declared.fault.CheckError.{CheckError}
use Rattle.step_types.specs.declared.fault.CheckError.TheVariants as errors
use Rattle.step_types.specs.Outcome.{Fails}
use Rattle.step_types.specs.Known.{Known}
use Rattle.step_types.specs.Checks.{taken, outcome}

outcome-at : (rank : ℕ) (known : Known) (items : List Statement) (i : ℕ) (s : Statement) → i < length items
    → s ≡ get_or items i s → outcome rank known (map row (drop i items))
    ≡ (taken rank known (row s) >>= λ next. outcome rank next (map row (drop (suc i) items)))
unfolding outcome
outcome-at rank known [] i s less at = absurd (omega arith)
outcome-at rank known (first ∷ items) zero s less at =
    ap (λ r. taken rank known (row r) >>= λ next. outcome rank next (map row items)) (sym at)
outcome-at rank known (first ∷ items) (suc i) s less at = outcome-at rank known items i s (omega arith) at

-- a statement without a fault leaves the outcome to those behind it
pub goes_on : (rank : ℕ) (known next : Known) (items : List Statement) (i : ℕ) (s : Statement)
    (whole : Result Known StepFault) → i < length items → s ≡ get_or items i s → taken rank known (row s) ≡ Ok next
    → outcome rank known (map row (drop i items)) ≡ whole → outcome rank next (map row (drop (i + 1) items)) ≡ whole
goes_on rank known next items i s whole less at takes so_far =
    let step : (taken rank known (row s) >>= λ n. outcome rank n (map row (drop (suc i) items)))
    ≡ outcome rank next (map row (drop (suc i) items)) =
    ap (λ r. r >>= λ n. outcome rank n (map row (drop (suc i) items))) takes in
    rw (add-one i) (sym step ∙ sym (outcome-at rank known items i s less at) ∙ so_far)

-- a statement with a fault decides
pub stops : (rank : ℕ) (known : Known) (items : List Statement) (i : ℕ) (s : Statement)
    (whole : Result Known StepFault) (e : CheckError) → i < length items → s ≡ get_or items i s
    → Fails e (taken rank known (row s)) → outcome rank known (map row (drop i items)) ≡ whole → Fails e whole
stops rank known items i s whole errors.Memory less at fails so_far = tt
stops rank known items i s whole (errors.Fault fault) less at fails so_far =
    sym so_far ∙ outcome-at rank known items i s less at
    ∙ ap (λ r. r >>= λ n. outcome rank n (map row (drop (suc i) items))) fails

-- behind the last statement
pub at_end : (rank : ℕ) (known : Known) (items : List Statement) (i : ℕ) (whole : Result Known StepFault)
    → length items ≤ i → outcome rank known (map row (drop i items)) ≡ whole → whole ≡ Ok known
unfolding outcome
at_end rank known [] zero whole over so_far = sym so_far
at_end rank known [] (suc i) whole over so_far = sym so_far
at_end rank known (s ∷ items) zero whole over so_far = absurd (omega arith)
at_end rank known (s ∷ items) (suc i) whole over so_far = at_end rank known items i whole (omega arith) so_far

-- each statement is one of the grammar
pub sentence_at : (items : List Statement) (i : ℕ) (s : Statement) → i < length items → s ≡ get_or items i s
    → AllByRecursion IsSentence (sentences_of (map row items)) → IsSentence (sentence s.body)
sentence_at [] i s less at each = absurd (omega arith)
sentence_at (first ∷ items) zero s less at each = subst (λ r. IsSentence (sentence r.body)) (sym at) each.0
sentence_at (first ∷ items) (suc i) s less at each = sentence_at items i s (omega arith) at each.1
