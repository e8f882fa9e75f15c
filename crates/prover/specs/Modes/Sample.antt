-- The mode that runs the sample construction of a number, and tells what the run came to.
use Rattle.std.specs.Prelude.{◌≡◌, ℕ, false, List, [], ◌∷◌, length, codes, decimal, Option, Some, None}
use Rattle.coordinate_model.specs.BracketPolynomial.{BracketPolynomial, IsNormal, value}
use Rattle.cayley_terms.specs.Meaning.{conclusion_polynomial}
use Rattle.straightening.specs.Runs as turns
use Rattle.cayley_run.specs.declared.answer.Options.{Options}
use Rattle.cayley_run.specs.Runs.{Log, turns_of}
use Rattle.sample_maker.specs.Sample.{sample_of}
use Rattle.proof_text.specs.Forms.{verdict_word, stop_line}
use Rattle.proof_text.specs.Lines.{spaced}
use Rattle.prover.specs.declared.status.Status.{Status}
use Rattle.prover.specs.declared.status.Status.TheVariants.{Done, Stopped}
use Rattle.prover.specs.Answer.{Answer}
use Rattle.prover.specs.Runs.{log_of, terms_at_end, ends_in_zero, is_zero, stop_kind}

-- a line of a word and a number
abbrev pub counted : List ℕ → ℕ → List ℕ
counted word number = spaced (word ∷ decimal number ∷ [])

-- a sample is run without contraction
abbrev pub sample_options : ℕ → Options
sample_options budget = record { budget = budget; contract = false }

-- the run of the sample of this number, with so many turns
abbrev pub sample_log : ℕ → ℕ → Log
sample_log number budget = log_of (sample_options budget) (sample_of number)

-- the lines of a run that ended: its turns, the terms of the conclusion's end, and whether that is zero
abbrev pub summary_lines : Log → List (List ℕ)
summary_lines log =
    counted (codes "turns") (turns_of log) ∷ counted (codes "terms") (terms_at_end log.objects)
    ∷ verdict_word (ends_in_zero log.objects) ∷ []

-- the status behind a run that was stopped so, or ended
abbrev pub run_status : Option turns.Stop → Status
run_status (Some stop) = Stopped
run_status None = Done

-- and the lines
abbrev pub run_tells : Log → Option turns.Stop → List (List ℕ)
run_tells log (Some stop) = stop_line (stop_kind stop) ∷ []
run_tells log None = summary_lines log

-- the answer to the number of a sample, of which this is the run
abbrev pub log_answer : ℕ → Log → Answer
log_answer number log =
    record { status = run_status log.stop; lines = counted (codes "sample") number ∷ run_tells log log.stop }

abbrev pub sample_answer : ℕ → ℕ → Answer
sample_answer number budget = log_answer number (sample_log number budget)

-- the run stops, or comes to the end
abbrev pub IsSampleCause : ℕ → ℕ → Status → Type 0
IsSampleCause number budget Stopped = (stop : turns.Stop) × ((sample_log number budget).stop ≡ Some stop)
IsSampleCause number budget Done = (sample_log number budget).stop ≡ None
IsSampleCause number budget status = ⊥

-- Where the run ended, the terms that are counted are those of the one normal polynomial whose value is that of the
-- sample's conclusion, and the last line says whether that is zero.
pub record SampleDecides (number : ℕ) (answer : Answer) : Type 0 where
  pub polynomial : BracketPolynomial
  pub normal : IsNormal 3 64 polynomial
  pub same_value : value polynomial ≡ conclusion_polynomial (sample_of number)
  pub turns : ℕ
  pub tells : answer.lines
      ≡ counted (codes "sample") number ∷ counted (codes "turns") turns
      ∷ counted (codes "terms") (length polynomial.terms) ∷ verdict_word (is_zero polynomial) ∷ []
