-- Calls that put the lines of an answer.
use Rattle.std.proofs.Common.{◌≡◌, ℕ, inl, inr, List, Option, Result, Ok, Err, IfOk, subst}
use Rattle.std.specs.Result.{IsErrAnd}
use Rattle.proof_text.specs.Writes.{Writes}
use Rattle.proof_text.specs.declared.error.WriteError.{WriteError}
use Rattle.proof_text.specs.declared.error.WriteError.TheVariants.{Memory}
use Rattle.prover.specs.declared.status.Status.{Status}
use Rattle.prover.specs.declared.status.Status.TheVariants.{TextRefused, Stopped, Unlike}
use Rattle.prover.specs.Answer.{Answer, IsVerdict}
use Rattle.prover.specs.Outcome.{PutsAnswer}
use Rattle.prover.proofs.Outcomes.{at_error, puts_none}

-- ---- statuses that are no verdict

pub refusal_is_none : IsVerdict TextRefused → ⊥
refusal_is_none (inl e) = cc
refusal_is_none (inr e) = cc

pub stop_is_none : IsVerdict Stopped → ⊥
stop_is_none (inl e) = cc
stop_is_none (inr e) = cc

pub unlike_is_none : IsVerdict Unlike → ⊥
unlike_is_none (inl e) = cc
unlike_is_none (inr e) = cc

-- ---- calls that answer a status

module _ (IsRight : Answer → Type 0) (Decided : Status → Type 0) (Means : Answer → Type 0) (answer : Answer)
    (right : IsRight answer) where
  -- a call that fails puts a front of the lines
  pub put_failed : (a b : Option (List ℕ)) (m n : ℕ) (r : Result Status WriteError) (e : WriteError)
      → IsErrAnd r (λ x. x ≡ e) → Writes a b m n r answer.lines → PutsAnswer IsRight Decided Means r a b m n
  put_failed a b m n r e is wrote = record {
    answer = answer;
    right = right;
    status = at_error (λ (s : Status). s ≡ answer.status) (λ (x : WriteError). x ≡ e) r is;
    means = at_error (λ (s : Status). Decided s → Means answer) (λ (x : WriteError). x ≡ e) r is;
    writes = wrote;
  }

  -- there is no memory, and nothing is put
  pub put_nothing : (held : Option (List ℕ)) (m : ℕ) (r : Result Status WriteError) → IsErrAnd r (λ e. e ≡ Memory)
      → PutsAnswer IsRight Decided Means r held held m m
  put_nothing held m r is = put_failed held held m m r Memory is (puts_none held m r answer.lines is)

  -- all lines are put, or the call fails
  pub put : (a b : Option (List ℕ)) (m n : ℕ) (r : Result Status WriteError) → IfOk r (λ s. s ≡ answer.status)
      → (Decided answer.status → Means answer) → Writes a b m n r answer.lines
      → PutsAnswer IsRight Decided Means r a b m n
  put a b m n r is means wrote = record {
    answer = answer;
    right = right;
    status = is;
    means = whenever r is;
    writes = wrote;
  }
    where
      whenever : (r : Result Status WriteError) → IfOk r (λ s. s ≡ answer.status)
          → IfOk r (λ s. Decided s → Means answer)
      whenever (Ok s) is = λ decided. means (subst Decided is decided)
      whenever (Err e) is = tt

-- what puts an answer puts one that is more widely right and means more widely this
pub puts_so : (IsRight IsRightToo : Answer → Type 0) (Decided : Status → Type 0) (Means MeansToo : Answer → Type 0)
    (a b : Option (List ℕ)) (m n : ℕ) (r : Result Status WriteError) → ((x : Answer) → IsRight x → IsRightToo x)
    → ((x : Answer) → Means x → MeansToo x) → PutsAnswer IsRight Decided Means r a b m n
    → PutsAnswer IsRightToo Decided MeansToo r a b m n
puts_so IsRight IsRightToo Decided Means MeansToo a b m n r wider more puts = record {
  answer = puts.answer;
  right = wider puts.answer puts.right;
  status = puts.status;
  means = whenever r puts.means;
  writes = puts.writes;
}
  where
    whenever : (r : Result Status WriteError) → IfOk r (λ s. Decided s → Means puts.answer)
        → IfOk r (λ s. Decided s → MeansToo puts.answer)
    whenever (Ok s) means = λ decided. more puts.answer (means decided)
    whenever (Err e) means = tt
