-- The mode that proves or refutes the conclusion of a text, and writes the whole proof.
use Rattle.std.specs.Prelude.{◌≡◌, ◌≢◌, ℕ, pos, Bool, true, false, List, [], ◌∷◌, ◌++◌, flat_map, codes, Option}
use Rattle.std.specs.Prelude.{Some, None}
use Rattle.coordinate_model.specs.Polynomial.{Polynomials}
use Rattle.coordinate_model.specs.Placement.{Placement, value_at}
use Rattle.coordinate_model.specs.BracketPolynomial.{BracketPolynomial, IsNormal, value}
use Rattle.construction_reader.specs.Said.{Account}
use Rattle.construction_reader.specs.TextOf.{TextOf}
use Rattle.step_types.specs.Checks.{names_of, IsGood}
use Rattle.step_types.specs.declared.names.Names.{Names}
use Rattle.cayley_terms.specs.Meaning.{conclusion_polynomial}
use Rattle.bracket_poly.specs.Sections.{Worked}
use Rattle.straightening.specs.Runs as turns
use Rattle.cayley_run.specs.declared.answer.Options.{Options}
use Rattle.proof_text.specs.Forms.{verdict_word, stop_line}
use Rattle.proof_text.specs.Proofs.{head_lines, object_lines}
use Rattle.proof_text.specs.Terms.{polynomial_lines}
use Rattle.prover.specs.declared.status.Status.{Status}
use Rattle.prover.specs.declared.status.Status.TheVariants.{Proved, Refuted, TextRefused, Stopped}
use Rattle.prover.specs.declared.parts.Fault.{Fault}
use Rattle.prover.specs.Answer.{Answer}
use Rattle.prover.specs.Parts.{Gives, IsFault, IsPart}
use Rattle.prover.specs.Runs.{log_of, Stops, ComesToEnd, ends_in_zero, is_zero, stop_kind}

-- ---- the answer

-- the verdict, by whether the conclusion's polynomial is zero
abbrev pub verdict : Bool → Status
verdict true = Proved
verdict false = Refuted

-- the last line behind these objects, and the status that goes with it
abbrev pub last_line : List Worked → Option turns.Stop → List ℕ
last_line objects stop =
    elim stop [ Some stop ↦ stop_line (stop_kind stop) | None ↦ verdict_word (ends_in_zero objects) ]

abbrev pub last_status : List Worked → Option turns.Stop → Status
last_status objects stop = elim stop [ Some stop ↦ Stopped | None ↦ verdict (ends_in_zero objects) ]

-- a proof text: its head, its objects with their sections, and the last line
abbrev pub proof : Names → List Worked → Option turns.Stop → Answer
proof names objects stop = record {
  status = last_status objects stop;
  lines = head_lines names ++ (flat_map (object_lines names) objects ++ last_line objects stop ∷ []);
}

-- the proof on a construction: its run
abbrev pub proof_answer : Options → Account → Answer
proof_answer options c = let log = log_of options c in proof (names_of c) log.objects log.stop

-- the answer to a text
abbrev pub IsProveAnswer : Options → List ℕ → Answer → Type 0
IsProveAnswer options text answer = IsPart [] text (λ c answer. answer ≡ proof_answer options c) answer

-- ---- the causes of the statuses

-- The text has a fault; or it gives a construction whose run stops, or comes to the end, and the conclusion's polynomial is
-- zero, or it is not.
abbrev pub IsProveCause : Options → List ℕ → Status → Type 0
IsProveCause options text TextRefused = (f : Fault) × IsFault text f
IsProveCause options text Stopped = (c : Account) × Gives text c × Stops options c
IsProveCause options text Proved =
    (c : Account) × Gives text c × ComesToEnd options c × (conclusion_polynomial c ≡ Polynomials.𝟘)
IsProveCause options text Refuted =
    (c : Account) × Gives text c × ComesToEnd options c × (conclusion_polynomial c ≢ Polynomials.𝟘)
IsProveCause options text status = ⊥

-- ---- the verdict

-- The text gives a construction; the lines between the last `end` and the verdict are the terms of the one normal
-- polynomial whose value is the conclusion's, and the verdict says whether that is zero: where it is proved, the
-- conclusion's polynomial is 0 at every placement.
pub record ProveDecides (text : List ℕ) (answer : Answer) : Type 0 where
  pub account : Account
  pub gives : Gives text account
  pub polynomial : BracketPolynomial
  pub normal : IsNormal account.rank 64 polynomial
  pub same_value : value polynomial ≡ conclusion_polynomial account
  pub front : List (List ℕ)
  pub ends : answer.lines
      ≡ front
      ++ (codes "end" ∷ (polynomial_lines (names_of account) polynomial ++ verdict_word (is_zero polynomial) ∷ []))
  pub proved : answer.status ≡ Proved → conclusion_polynomial account ≡ Polynomials.𝟘
  pub everywhere : answer.status ≡ Proved → (at : Placement) → value_at at (conclusion_polynomial account) ≡ pos 0
  pub refuted : answer.status ≡ Refuted → conclusion_polynomial account ≢ Polynomials.𝟘

-- ---- answers to constructions

-- the answer to a good construction
pub record IsProofOf (options : Options) (c : Account) (answer : Answer) : Type 0 where
  pub good : IsGood c
  pub is : answer ≡ proof_answer options c

-- its verdict decides each text that gives the construction
abbrev pub ProofDecides : Account → Answer → Type 0
ProofDecides c answer = (text : List ℕ) → TextOf text c → ProveDecides text answer
