-- What the run of a good construction comes to, by the laws of runs.
use Rattle.std.proofs.Common.{◌≡◌, ℕ, List, None, refl, ap, subst, ◌∙◌}
use Rattle.std.specs.Prelude.{sum_by}
use Rattle.coordinate_model.specs.BracketPolynomial.{BracketPolynomial}
use Rattle.construction_reader.specs.Grammar.{IsAccount, conclusions}
use Rattle.construction_reader.specs.Said.{Account, sentences_of}
use Rattle.construction_reader.specs.TextOf.{TextOf}
use Rattle.construction_reader.proofs.ConclusionLaws.{one_conclusion}
use Rattle.step_types.specs.Checks.{IsGood, names_of}
use Rattle.cayley_terms.specs.declared.program.Program.{Program}
use Rattle.cayley_terms.specs.Kept.{IsStraight, KeepsNames, polynomial_of}
use Rattle.cayley_terms.specs.Meaning.{Variables, conclusion_polynomial}
use Rattle.cayley_terms.proofs.ProgramLaws.{conclusion_kept, names_kept}
use Rattle.cayley_run.specs.Bounds.{RunIsWithin}
use Rattle.cayley_run.specs.RunLaws.{RunMeans}
use Rattle.cayley_run.specs.Runs.{Log, run_of}
use Rattle.cayley_run.specs.declared.answer.Options.{Options}
use Rattle.prover.specs.Ends.{EndsWith}
use Rattle.prover.specs.Modes.Prove.{ProveDecides, proof, proof_answer}
use Rattle.prover.specs.Runs.{log_of, ComesToEnd}
use Rattle.prover.proofs.Programs.{program_of}
use Rattle.prover.proofs.Proofs.{run_decides, runs_alike}
use Rattle.prover.proofs.RunEnds.{ends_with}
use Rattle.prover.proofs.Verdicts.{well_ended}

module _ (c : Account) (good : IsGood c) (given : IsAccount c.rank (sentences_of c.rows)) where
  abbrev pub program : Program
  program = program_of c good given

  one : sum_by conclusions (sentences_of c.rows) ≡ 1
  one = one_conclusion (sentences_of c.rows) given.ends

  pub is_straight : IsStraight c (program_of c good given)
  is_straight = record { instrs = refl; lines = refl; defined = refl }

  keeps_names : KeepsNames c (program_of c good given)
  keeps_names = (refl, names_kept Variables c good given one)

  pub concludes : polynomial_of (program_of c good given) ≡ conclusion_polynomial c
  concludes = conclusion_kept Variables c good given one

  module _ (options : Options) where
    same_run : run_of options (program_of c good given) ≡ log_of options c
    same_run = runs_alike options c program is_straight refl

    module _ (means : RunMeans) (ended : ComesToEnd options c) where
      no_stop : (run_of options (program_of c good given)).stop ≡ None
      no_stop = ap (λ (l : Log). l.stop) same_run ∙ ended

      -- at its end it has the one normal polynomial of the conclusion
      pub run_ends : RunIsWithin → (f : BracketPolynomial) × EndsWith options c f
      run_ends within =
          let found = (means options program).conclusion no_stop in
          let log = run_of options program in (
            found.0,
            ends_with options c program found.0 is_straight keeps_names concludes (within options program) no_stop found.1
                (well_ended c.rank log found.0 (means options program).sections found.1) found.2,
          )

      -- and its verdict decides
      pub answer_decides : (text : List ℕ) → TextOf text c → ProveDecides text (proof_answer options c)
      answer_decides text gives =
          subst (λ (l : Log). ProveDecides text (proof (names_of c) l.objects l.stop)) same_run
          (run_decides c program (run_of options program) good refl concludes (means options program) no_stop text gives)
