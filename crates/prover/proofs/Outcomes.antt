-- What a call writes, by what was put.
use Rattle.std.proofs.Common.{◌≡◌, ℕ, ◌⊎◌, inl, inr, Bool, true, false, List, [], ◌∷◌, ◌++◌, Option, Some, None, codes}
use Rattle.std.proofs.Common.{Result, Ok, Err, IfOk, refl, sym, ap, subst, ◌∙◌}
use Rattle.std.specs.Prelude.{⊤}
use Rattle.std.specs.Result.{IsErrAnd}
use Rattle.cay_base.specs.Bytes.{Gains}
use Rattle.proof_text.specs.Lines.{text_of}
use Rattle.proof_text.specs.Writes as lines
use Rattle.proof_text.specs.declared.error.WriteError.{WriteError}
use Rattle.proof_text.specs.declared.error.WriteError.TheVariants as write
use Rattle.proof_text.proofs.Writing.{gains_nothing, writes_more, writes_less, writes_none}
use Rattle.prover.specs.declared.mode.Mode.{Mode}
use Rattle.prover.specs.declared.mode.Mode.TheVariants as mode
use Rattle.prover.specs.declared.status.Status.{Status}
use Rattle.prover.specs.declared.status.Status.TheVariants.{Proved, Done, Refuted, Usage, TextRefused, Stopped}
use Rattle.prover.specs.declared.status.Status.TheVariants.{ReadFault, WriteFault, Memory, ProofRefused, Unlike}
use Rattle.prover.specs.Answer.{Answer}
use Rattle.straightening.specs.Runs.{Stop}
use Rattle.bracket_poly.specs.Sections.{Worked}
use Rattle.step_types.specs.Checks.{names_of}
use Rattle.step_types.specs.declared.names.Names.{Names}
use Rattle.cayley_run.specs.declared.answer.Options.{Options}
use Rattle.cayley_run.specs.Runs.{Log}
use Rattle.prover.specs.Ends.{same_ends}
use Rattle.prover.specs.Runs.{log_of, last_end, ends_in_zero}
use Rattle.prover.specs.Modes.{IsModeAnswer, IsDecision, Decides, longest_input}
use Rattle.construction_reader.specs.Said.{Account}
use Rattle.proof_text.specs.Told.{Told}
use Rattle.prover.specs.Modes.Check.{IsTextAnswer, IsBytesAnswer, IsToldAnswer}
use Rattle.prover.specs.Modes.Sample.{run_status, sample_log}
use Rattle.prover.specs.Modes.Prove.{verdict, last_status}
use Rattle.prover.specs.Modes.Same.{unless_stopped, behind_run, equal_or_different, compared, IsTextsAnswer}
use Rattle.prover.specs.Outcome.{Writes, IsTold, Written, PutsAnswer, Tells, status_of}

-- ---- the statuses of answers

-- a status that an answer can have
abbrev pub IsAnswered : Status → Type 0
IsAnswered ReadFault = ⊥
IsAnswered WriteFault = ⊥
IsAnswered Memory = ⊥
IsAnswered status = Unit {0}

writes_all : (a : Answer) (s : Status) (before after : Option (List ℕ)) → IsAnswered s → a.status ≡ s
    → Gains before after (text_of a.lines) → Writes a s before after
writes_all a Proved before after is e gains = (e, gains)
writes_all a Done before after is e gains = (e, gains)
writes_all a Refuted before after is e gains = (e, gains)
writes_all a Usage before after is e gains = (e, gains)
writes_all a TextRefused before after is e gains = (e, gains)
writes_all a Stopped before after is e gains = (e, gains)
writes_all a ProofRefused before after is e gains = (e, gains)
writes_all a ReadFault before after is e gains = absurd is
writes_all a WriteFault before after is e gains = absurd is
writes_all a Memory before after is e gains = absurd is
writes_all a Unlike before after is e gains = (e, gains)

-- statuses with which no mode decides anything
abbrev pub IsUndecided : Status → Type 0
IsUndecided Proved = ⊥
IsUndecided Done = ⊥
IsUndecided Refuted = ⊥
IsUndecided status = Unit {0}

pub undecided : (m : Mode) (s : Status) → IsUndecided s → IsDecision m s → ⊥
undecided (mode.Prove options) s is (inl e) = subst IsUndecided e is
undecided (mode.Prove options) s is (inr e) = subst IsUndecided e is
undecided mode.Check s is (inl e) = subst IsUndecided e is
undecided mode.Check s is (inr e) = subst IsUndecided e is
undecided (mode.Same options) s is (inl e) = subst IsUndecided e is
undecided (mode.Same options) s is (inr e) = subst IsUndecided e is
undecided (mode.Sample number budget) s is e = subst IsUndecided e is

-- what is put for an answer
pub writes_put : (a : Answer) (result : Status) (before after : Option (List ℕ)) (m n : ℕ) → IsAnswered a.status
    → Written a result before after m n → Writes a result before after
writes_put a result before after m n is written = go written.told
  where
    go : IsTold a result before after m n → Writes a result before after
    go (inl put) = rw put.0 (writes_all a a.status before after is refl put.1)
    go (inr (inl (e, front, rose))) = rw e front
    go (inr (inr (e, front))) = rw e front

-- where nothing is put
pub writes_nothing : (a : Answer) (s : Status) (held : Option (List ℕ)) → (s ≡ ReadFault) ⊎ (s ≡ Memory) → Writes a s held held
writes_nothing a s held (inl e) = rw e (gains_nothing held)
writes_nothing a s held (inr e) = rw e ([], (text_of a.lines, refl), gains_nothing held)

-- where an answer is not one of a decision, nor is what the call answers
pub no_decision : (m : Mode) (a : Answer) (result : Status) (before after : Option (List ℕ)) (i j : ℕ)
    → Written a result before after i j → IsUndecided a.status → IsDecision m result → ⊥
no_decision m a result before after i j written is decision = go written.told
  where
    go : IsTold a result before after i j → ⊥
    go (inl put) = undecided m a.status is (subst (IsDecision m) put.0 decision)
    go (inr (inl put)) = undecided m WriteFault tt (subst (IsDecision m) put.0 decision)
    go (inr (inr put)) = undecided m Memory tt (subst (IsDecision m) put.0 decision)

-- ---- lines and a status

-- the status of what was put
pub put_written : (a : Answer) (r : Result Status WriteError) (before after : Option (List ℕ)) (m n : ℕ)
    → IfOk r (λ s. s ≡ a.status) → lines.Writes before after m n r a.lines → Written a (status_of r) before after m n
put_written a (Ok s) before after m n is put =
    record { told = inl (is, put.written); later = put.later; kept = λ other. put.kept (λ e. absurd (cc)) }
put_written a (Err write.Write) before after m n is put =
    record { told = inr (inl (refl, put.front, put.fault refl)); later = put.later; kept = λ other. absurd (other refl) }
put_written a (Err write.Memory) before after m n is put =
    record { told = inr (inr (refl, put.front)); later = put.later; kept = λ other. put.kept (λ e. absurd (cc)) }

-- ---- lines of a call that answers a value

-- whether they were put
abbrev pub done : {T : Type 0} → Result T WriteError → Result ⊤ WriteError
done (Ok x) = Ok tt
done (Err e) = Err e

with_value : {T : Type 0} (a b : Option (List ℕ)) (i j : ℕ) (r : Result T WriteError) (ls : List (List ℕ))
    → lines.Writes {T = ⊤} a b i j (done r) ls → lines.Writes a b i j r ls
with_value a b i j (Ok s) ls put = record {
  written = put.written;
  front = tt;
  later = put.later;
  fault = λ e. absurd (cc);
  kept = λ n. put.kept (λ e. absurd (cc));
}
with_value a b i j (Err write.Write) ls put = record {
  written = tt;
  front = put.front;
  later = put.later;
  fault = λ e. put.fault refl;
  kept = λ n. absurd (n refl);
}
with_value a b i j (Err write.Memory) ls put = record {
  written = tt;
  front = put.front;
  later = put.later;
  fault = λ e. absurd (cc);
  kept = λ n. put.kept (λ e. absurd (cc));
}

pub without_value : {T : Type 0} (a b : Option (List ℕ)) (i j : ℕ) (r : Result T WriteError) (ls : List (List ℕ))
    → lines.Writes a b i j r ls → lines.Writes {T = ⊤} a b i j (done r) ls
without_value a b i j (Ok s) ls put = record {
  written = put.written;
  front = tt;
  later = put.later;
  fault = λ e. absurd (cc);
  kept = λ n. put.kept (λ e. absurd (cc));
}
without_value a b i j (Err write.Write) ls put = record {
  written = tt;
  front = put.front;
  later = put.later;
  fault = λ e. put.fault refl;
  kept = λ n. absurd (n refl);
}
without_value a b i j (Err write.Memory) ls put = record {
  written = tt;
  front = put.front;
  later = put.later;
  fault = λ e. absurd (cc);
  kept = λ n. put.kept (λ e. absurd (cc));
}

-- lines of such a call behind others
pub puts_more : {T : Type 0} (a b c : Option (List ℕ)) (i j k : ℕ) (r : Result T WriteError) (ls ms : List (List ℕ))
    → lines.Writes {T = ⊤} a b i j (Ok tt) ls → lines.Writes b c j k r ms → lines.Writes a c i k r (ls ++ ms)
puts_more a b c i j k r ls ms first second =
    with_value a c i k r (ls ++ ms)
    (writes_more a b c i j k (done r) ls ms first (without_value b c j k r ms second))

failed_done : {T : Type 0} (r : Result T WriteError) (e : WriteError) → IsErrAnd r (λ x. x ≡ e) → IsErrAnd (done r) (λ x. x ≡ e)
failed_done (Ok s) e is = absurd is
failed_done (Err x) e is = is

-- where a call fails, the lines that were to follow are left out
pub puts_less : {T : Type 0} (a b : Option (List ℕ)) (i j : ℕ) (e : WriteError) (r : Result T WriteError) (ls ms : List (List ℕ))
    → IsErrAnd r (λ x. x ≡ e) → lines.Writes {T = ⊤} a b i j (Err e) ls → lines.Writes a b i j r (ls ++ ms)
puts_less a b i j e r ls ms is put =
    with_value a b i j r (ls ++ ms) (writes_less a b i j e (done r) ls ms (failed_done r e is) put)

-- an error, and Ok, of such a call tell what they tell of its lines
pub puts_error : {T : Type 0} (a b : Option (List ℕ)) (i j : ℕ) (e : WriteError) (r : Result T WriteError) (ls : List (List ℕ))
    → IsErrAnd r (λ x. x ≡ e) → lines.Writes {T = ⊤} a b i j (Err e) ls → lines.Writes a b i j r ls
puts_error a b i j e (Ok s) ls is put = absurd is
puts_error a b i j e (Err write.Write) ls is put =
    record {
      written = tt;
      front = put.front;
      later = put.later;
      fault = λ w. put.fault (ap Err (sym is));
      kept = λ n. absurd (n refl);
    }
puts_error a b i j e (Err write.Memory) ls is put =
    record {
      written = tt;
      front = put.front;
      later = put.later;
      fault = λ w. absurd (cc);
      kept = λ n. put.kept (λ w. absurd (cc));
    }

pub puts_ok : {T : Type 0} (a b : Option (List ℕ)) (i j : ℕ) (s : T) (ls : List (List ℕ)) → lines.Writes {T = ⊤} a b i j (Ok tt) ls
    → lines.Writes a b i j (Ok s) ls
puts_ok a b i j s ls put = record {
  written = put.written;
  front = tt;
  later = put.later;
  fault = λ e. absurd (cc);
  kept = λ n. put.kept (λ e. absurd (cc));
}

-- where there is no memory, nothing is put
pub puts_none : {T : Type 0} (held : Option (List ℕ)) (faults : ℕ) (r : Result T WriteError) (ls : List (List ℕ))
    → IsErrAnd r (λ e. e ≡ write.Memory) → lines.Writes held held faults faults r ls
puts_none held faults r ls is =
    with_value held held faults faults r ls (writes_none held faults (done r) ls (failed_done r write.Memory is))

-- what is said of Ok holds at an error
pub at_error : {T E : Type 0} (P : T → Type 0) (Q : E → Type 0) (r : Result T E) → IsErrAnd r Q → IfOk r P
at_error P Q (Ok t) is = absurd is
at_error P Q (Err e) is = tt

-- ---- answers of modes

verdict_answered : (zero : Bool) → IsAnswered (verdict zero)
verdict_answered true = tt
verdict_answered false = tt

proof_answered : (objects : List Worked) (stop : Option Stop) → IsAnswered (last_status objects stop)
proof_answered objects (Some stop) = tt
proof_answered objects None = verdict_answered (ends_in_zero objects)

run_answered : (stop : Option Stop) → IsAnswered (run_status stop)
run_answered (Some stop) = tt
run_answered None = tt

told_answered : (c : Account) (p : Told) (a : Answer) → IsToldAnswer c p a → IsAnswered a.status
told_answered c p a (inl (good, e)) = rw e (verdict_answered p.proved)
told_answered c p a (inr (r, bad, e)) = rw e tt

bytes_answered : (bytes : List ℕ) (c : Account) (a : Answer) → IsBytesAnswer bytes c a → IsAnswered a.status
bytes_answered bytes c a (inl (fault, is, e)) = rw e tt
bytes_answered bytes c a (inr (p, is, told)) = told_answered c p a told

text_answered : (text bytes : List ℕ) (a : Answer) → IsTextAnswer text bytes a → IsAnswered a.status
text_answered text bytes a (inl (long, e)) = rw e tt
text_answered text bytes a (inr (short, inl (f, is, e))) = rw e tt
text_answered text bytes a (inr (short, inr (c, gives, is))) = bytes_answered bytes c a is

unless_answered : (stop : Option Stop) (more : Answer) → IsAnswered more.status
    → IsAnswered (unless_stopped stop more).status
unless_answered None more is = is
unless_answered (Some stop) more is = tt

compared_answered : (n k : Names) (l m : Log) → IsAnswered (compared n k l m).status
compared_answered n k l m =
    let equal = same_ends (last_end l.objects) (last_end m.objects) in
    let told = equal_or_different equal in
    unless_answered l.stop (behind_run (codes "second") k m.stop (last_end m.objects) told)
    (unless_answered m.stop told (verdict_answered equal))

texts_answered : (options : Options) (first second : List ℕ) (a : Answer) → IsTextsAnswer options first second a
    → IsAnswered a.status
texts_answered options first second a (inl (long, e)) = rw e tt
texts_answered options first second a (inr (short, inl (f, is, e))) = rw e tt
texts_answered options first second a (inr (short, inr (c, gives, inl (f, is, e)))) = rw e tt
texts_answered options first second a (inr (short, inr (c, gives, inr (d, also, inl (x, is, e))))) = rw e tt
texts_answered options first second a (inr (short, inr (c, gives, inr (d, also, inr (alike, e))))) =
    rw e (compared_answered (names_of c) (names_of d) (log_of options c) (log_of options d))

pub mode_answered : (m : Mode) (input : List ℕ) (a : Answer) → IsModeAnswer m input a → IsAnswered a.status
mode_answered (mode.Prove options) input a (inl (f, is, e)) = rw e tt
mode_answered (mode.Prove options) input a (inr (c, gives, e)) =
    rw e (proof_answered (log_of options c).objects (log_of options c).stop)
mode_answered mode.Check input a is = text_answered is.text is.bytes a is.answers
mode_answered (mode.Same options) input a is = texts_answered options is.first is.second a is.is
mode_answered (mode.Sample number budget) input a e = rw e (run_answered (sample_log number budget).stop)

-- ---- calls of modes

-- a call that puts a mode's answer tells it
pub put_tells : (m : Mode) (input : List ℕ) (r : Result Status WriteError) (before after : Option (List ℕ)) (i j : ℕ)
    → PutsAnswer (IsModeAnswer m input) (IsDecision m) (Decides m input) r before after i j
    → Tells m input (status_of r) before after i j
put_tells m input r before after i j put = record {
  answer = put.answer;
  is_answer = put.right;
  decides = decides r put.means;
  written = put_written put.answer r before after i j put.status put.writes;
}
  where
    decides : (r : Result Status WriteError) → IfOk r (λ s. IsDecision m s → Decides m input put.answer)
        → IsDecision m (status_of r) → Decides m input put.answer
    decides (Ok s) means = means
    decides (Err write.Write) means = λ decision. absurd (undecided m WriteFault tt decision)
    decides (Err write.Memory) means = λ decision. absurd (undecided m Memory tt decision)

-- a mode that reads nothing tells the same of each input
pub any_input : (m : Mode) (input : List ℕ) (s : Status) (before after : Option (List ℕ)) (i j : ℕ) → longest_input m ≡ None
    → Tells m [] s before after i j → Tells m input s before after i j
any_input (mode.Prove options) input s before after i j unread tells = absurd cc
any_input mode.Check input s before after i j unread tells = absurd cc
any_input (mode.Same options) input s before after i j unread tells = absurd cc
any_input (mode.Sample number budget) input s before after i j unread tells = record {
  answer = tells.answer;
  is_answer = tells.is_answer;
  decides = tells.decides;
  written = tells.written;
}

-- ---- answers that are put

-- what is so of another answer, or means something else
pub puts_as : (P Q M N : Answer → Type 0) (V : Status → Type 0) (r : Result Status WriteError) (before after : Option (List ℕ))
    (i j : ℕ) → ((a : Answer) → P a → Q a) → ((a : Answer) → M a → N a) → PutsAnswer P V M r before after i j
    → PutsAnswer Q V N r before after i j
puts_as P Q M N V r before after i j right means put = record {
  answer = put.answer;
  right = right put.answer put.right;
  status = put.status;
  means = means_so r put.means;
  writes = put.writes;
}
  where
    means_so : (r : Result Status WriteError) → IfOk r (λ s. V s → M put.answer) → IfOk r (λ s. V s → N put.answer)
    means_so (Ok s) m = λ v. means put.answer (m v)
    means_so (Err e) m = tt

module _ (P M : Answer → Type 0) (V : Status → Type 0) where
  -- an answer that decides nothing
  pub puts_undecided : (a : Answer) (r : Result Status WriteError) (before after : Option (List ℕ)) (i j : ℕ) → P a
      → (V a.status → ⊥) → IfOk r (λ s. s ≡ a.status) → lines.Writes before after i j r a.lines
      → PutsAnswer P V M r before after i j
  puts_undecided a r before after i j right open_end status put =
      record { answer = a; right = right; status = status; means = means_so r status; writes = put }
    where
      means_so : (r : Result Status WriteError) → IfOk r (λ s. s ≡ a.status) → IfOk r (λ s. V s → M a)
      means_so (Ok s) e = λ v. absurd (open_end (subst V e v))
      means_so (Err e) is = tt

  -- where there is no memory, nothing is put of any answer
  pub puts_nothing : (some : (a : Answer) × P a) (r : Result Status WriteError) (held : Option (List ℕ)) (m : ℕ)
      → IsErrAnd r (λ e. e ≡ write.Memory) → PutsAnswer P V M r held held m m
  puts_nothing some r held m is = record {
    answer = some.0;
    right = some.1;
    status = at_error (λ (s : Status). s ≡ some.0.status) (λ (e : WriteError). e ≡ write.Memory) r is;
    means = at_error (λ (s : Status). V s → M some.0) (λ (e : WriteError). e ≡ write.Memory) r is;
    writes = puts_none held m r some.0.lines is;
  }
