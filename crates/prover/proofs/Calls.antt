-- What a whole call does.
use Rattle.std.proofs.Common.{◌≡◌, ◌<◌, ◌≤◌, ◌⊎◌, ℕ, inl, inr, List, [], length, codes, Option, Some, None, IfSome}
use Rattle.std.proofs.Common.{refl, sym, ap, subst, ◌∙◌}
use Rattle.prover.specs.declared.mode.Mode.{Mode}
use Rattle.prover.specs.declared.status.Status.{Status}
use Rattle.prover.specs.declared.status.Status.TheVariants.{ReadFault, Memory}
use Rattle.prover.specs.Answer.{Answer, usage, refused}
use Rattle.prover.specs.Modes.{IsMode, IsUsage, IsShort, IsDecision, Decides, longest_input}
use Rattle.prover.specs.Outcome.{IsInput, Written, Tells, ModeAnswers, Answers}
use Rattle.prover.proofs.Inputs.{long_input, some_input}
use Rattle.prover.proofs.AnswerLaws.{some_input_answer}
use Rattle.prover.proofs.ModeLaws.{one_mode}
use Rattle.prover.proofs.Outcomes.{writes_put, writes_nothing, undecided, no_decision, mode_answered, any_input}

-- ---- modes

module _ (m : Mode) (left before after : Option (List ℕ)) where
  -- what a mode tells of an input is its answer
  pub told : (input : List ℕ) (result : Status) (i j : ℕ) → IsInput left input → IsShort m input
      → Tells m input result before after i j → ModeAnswers m left before after result
  told input result i j is short tells = record {
    input = input;
    is_input = is;
    answer = tells.answer;
    is_answer = inr (short, tells.is_answer);
    writes = writes_put tells.answer result before after i j (mode_answered m input tells.answer tells.is_answer) tells.written;
    decides = tells.decides;
  }

  -- so is what it tells where it reads nothing
  pub unread_told : (result : Status) (i j : ℕ) → longest_input m ≡ None → Tells m [] result before after i j
      → ModeAnswers m left before after result
  unread_told result i j unread tells =
      let input = some_input left in
      told input.0 result i j input.1
      (subst (λ (longest : Option ℕ). IfSome longest (λ n. length input.0 ≤ n)) (sym unread) tt)
      (any_input m input.0 result before after i j unread tells)

  -- an input that is too long
  pub long_answers : (n : ℕ) (result : Status) (i j : ℕ) → longest_input m ≡ Some n → IfSome left (λ bytes. n < length bytes)
      → Written (refused (codes "long")) result before after i j → ModeAnswers m left before after result
  long_answers n result i j is long written =
      let found = long_input n left long in
      let answer = refused (codes "long") in
      record {
        input = found.0;
        is_input = found.1;
        answer = answer;
        is_answer = inl ((n, is, found.2), refl);
        writes = writes_put answer result before after i j tt written;
        decides = λ decision. absurd (no_decision m answer result before after i j written tt decision);
      }

not_decided : (m : Mode) (s : Status) → (s ≡ ReadFault) ⊎ (s ≡ Memory) → IsDecision m s → ⊥
not_decided m s (inl e) decision = undecided m ReadFault tt (subst (IsDecision m) e decision)
not_decided m s (inr e) decision = undecided m Memory tt (subst (IsDecision m) e decision)

-- nothing is put, for a fault of the source or for want of memory
pub fault_answers : (m : Mode) (left held : Option (List ℕ)) (s : Status) → (s ≡ ReadFault) ⊎ (s ≡ Memory)
    → ModeAnswers m left held held s
fault_answers m left held s is =
    let input = some_input left in
    let found = some_input_answer m input.0 in
    record {
      input = input.0;
      is_input = input.1;
      answer = found.0;
      is_answer = found.1;
      writes = writes_nothing found.0 s held is;
      decides = λ decision. absurd (not_decided m s is decision);
    }

-- ---- words

module _ (words : List (List ℕ)) (left before after : Option (List ℕ)) (result : Status) where
  -- the words name a mode
  pub mode_answers : (m : Mode) → IsMode words m → ModeAnswers m left before after result
      → Answers words left before after result
  mode_answers m is does = record {
    input = does.input;
    is_input = does.is_input;
    answer = does.answer;
    is_answer = inr (m, is, does.is_answer);
    writes = does.writes;
    decides = λ n also. subst (λ (k : Mode). IsDecision k result → Decides k does.input does.answer) (one_mode words m n is also) does.decides;
  }

  -- the words name none
  pub usage_answers : (i j : ℕ) → IsUsage words → Written usage result before after i j → Answers words left before after result
  usage_answers i j none written =
      let input = some_input left in
      record {
        input = input.0;
        is_input = input.1;
        answer = usage;
        is_answer = inl (none, refl);
        writes = writes_put usage result before after i j tt written;
        decides = λ m is. absurd (none m is);
      }
