-- Each input has one answer of the mode that checks.
use Rattle.std.proofs.Common.{◌≡◌, ℕ, ◌<◌, ◌≤◌, ◌⊎◌, inl, inr, List, [], length, codes, refl, sym, ap, subst, ◌∙◌, arith}
use Rattle.std.proofs.lemmas.Bool.{cases_lt}
use Rattle.construction_reader.specs.Said.{Account, sentences_of}
use Rattle.construction_reader.specs.Grammar.{IsAccount}
use Rattle.step_types.specs.Checks.{IsGood, names_of}
use Rattle.cayley_terms.specs.declared.program.Program.{Program}
use Rattle.proof_text.specs.declared.fault.ProofFault.{ProofFault}
use Rattle.proof_text.specs.Outcome.{AreOfText}
use Rattle.proof_text.specs.Told.{Told}
use Rattle.proof_text.proofs.OutcomeLaws.{one_proof, one_fault, not_both, either}
use Rattle.log_checker.specs.declared.refusal.ProofRefusal.{ProofRefusal}
use Rattle.log_checker.proofs.ProofDecisions.{proof_not_both, one_refusal}
use Rattle.prover.specs.Answer.{Answer, refused}
use Rattle.prover.specs.Checked.{claims_read, steps_of, IsProofText, IsProofFault}
use Rattle.prover.specs.Cuts.{IsSeparator}
use Rattle.prover.specs.Modes.Check.{IsToldAnswer, IsBytesAnswer, IsTextAnswer, IsCheckAnswer, proof_refused, separator}
use Rattle.prover.specs.Parts.{Gives, IsPart}
use Rattle.prover.specs.Refusals.{fault_line, refusal_line}
use Rattle.prover.proofs.CutLaws.{no_feed_in, some_cut, one_cut}
use Rattle.prover.proofs.PartLaws.{some_part, one_part}
use Rattle.prover.proofs.Programs.{are_steps, program_of}
use Rattle.prover.proofs.ReadProofs.{some_program_answer}
use Rattle.prover.proofs.TextNames.{are_names}

-- ---- bytes behind the text of a construction

module _ (bytes : List ℕ) (c : Account) (good : IsGood c) (given : IsAccount c.rank (sentences_of c.rows)) where
  abbrev program : Program
  program = program_of c good given

  -- the names and the steps of the construction are those of a text
  pub of_text : AreOfText (names_of c) (steps_of c)
  of_text = record {
    rank = program.formed.rank;
    names_good = are_names c good given;
    steps_good = are_steps program;
  }

  pub some_bytes : (a : Answer) × IsBytesAnswer bytes c a
  some_bytes = go (either (names_of c) (steps_of c) bytes of_text)
    where
      go : ((p : Told) × IsProofText c bytes p) ⊎ ((fault : ProofFault) × IsProofFault c bytes fault)
          → (a : Answer) × IsBytesAnswer bytes c a
      go (inl (p, is)) =
          let found = some_program_answer c.rank (names_of c) program p refl refl is.good in (found.0, inr (p, is, found.1))
      go (inr (fault, is)) = (proof_refused (fault_line fault), inl (fault, is, refl))

  one_told : (p : Told) (a b : Answer) → IsToldAnswer c p a → IsToldAnswer c p b → a ≡ b
  one_told p a b (inl (is, x)) (inl (also, y)) = x ∙ sym y
  one_told p a b (inl (is, x)) (inr (r, bad, y)) = absurd (proof_not_both c.rank program (claims_read p) r refl is bad)
  one_told p a b (inr (r, bad, x)) (inl (is, y)) = absurd (proof_not_both c.rank program (claims_read p) r refl is bad)
  one_told p a b (inr (r, bad, x)) (inr (s, also, y)) =
      x ∙ ap (λ (q : ProofRefusal c.rank). proof_refused (refusal_line (names_of c) q))
      (one_refusal c.rank program (claims_read p) r s bad also) ∙ sym y

  one_bytes : (a b : Answer) → IsBytesAnswer bytes c a → IsBytesAnswer bytes c b → a ≡ b
  one_bytes a b (inl (f, is, x)) (inl (g, also, y)) =
      x ∙ ap (λ h. proof_refused (fault_line h)) (one_fault (names_of c) (steps_of c) bytes f g of_text is also) ∙ sym y
  one_bytes a b (inl (f, is, x)) (inr (p, text, y)) = absurd (not_both (names_of c) (steps_of c) bytes p f of_text text is)
  one_bytes a b (inr (p, text, x)) (inl (f, is, y)) = absurd (not_both (names_of c) (steps_of c) bytes p f of_text text is)
  one_bytes a b (inr (p, text, x)) (inr (q, also, y)) =
      let same : p ≡ q = one_proof (names_of c) (steps_of c) bytes p q of_text text also in
      one_told p a b x (subst (λ (k : Told). IsToldAnswer c k b) (sym same) y)

-- ---- texts and the bytes behind them

pub some_part_answer : (text bytes : List ℕ) → (a : Answer) × IsPart [] text (IsBytesAnswer bytes) a
some_part_answer text bytes =
    some_part [] text (IsBytesAnswer bytes) (λ c gives. some_bytes bytes c gives.good gives.gives.good)

some_text_answer : (text bytes : List ℕ) → (a : Answer) × IsTextAnswer text bytes a
some_text_answer text bytes = elim (cases_lt 1048576 (length text)) [
  | inl long ↦ (refused (codes "long"), inl (long, refl))
  | inr short ↦ (let found = some_part_answer text bytes in (found.0, inr (short, found.1)))
]

one_text_answer : (text bytes : List ℕ) (a b : Answer) → IsTextAnswer text bytes a → IsTextAnswer text bytes b → a ≡ b
one_text_answer text bytes a b (inl (long, x)) (inl (also, y)) = x ∙ sym y
one_text_answer text bytes a b (inl (long, x)) (inr (short, y)) = absurd (omega arith)
one_text_answer text bytes a b (inr (short, x)) (inl (long, y)) = absurd (omega arith)
one_text_answer text bytes a b (inr (short, x)) (inr (also, y)) =
    one_part [] text (IsBytesAnswer bytes) (λ c gives. one_bytes bytes c gives.good gives.gives.good) a b x y

-- ---- inputs

pub is_separator : IsSeparator separator
is_separator = record { some = λ e. cc; no_feed = no_feed_in separator refl }

pub some_check_answer : (input : List ℕ) → (a : Answer) × IsCheckAnswer input a
some_check_answer input =
    let parts = some_cut separator is_separator input in
    let found = some_text_answer parts.0 parts.1 in
    (found.0, record { text = parts.0; bytes = parts.1; cut = parts.2; answers = found.1 })

pub one_check_answer : (input : List ℕ) (a b : Answer) → IsCheckAnswer input a → IsCheckAnswer input b → a ≡ b
one_check_answer input a b x y =
    let same = one_cut separator is_separator input x.text x.bytes y.text y.bytes x.cut y.cut in
    one_text_answer x.text x.bytes a b x.answers
    (subst (λ (t : List ℕ). IsTextAnswer t x.bytes b) (sym same.0)
    (subst (λ (bs : List ℕ). IsTextAnswer y.text bs b) (sym same.1) y.answers))
