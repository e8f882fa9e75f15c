-- The lines of runs of which the end alone is written.
use Rattle.std.proofs.Common.{◌≡◌, ℕ, Option, Some, None, refl, sym, ap, ◌∙◌}
use Rattle.coordinate_model.specs.BracketPolynomial.{BracketPolynomial}
use Rattle.construction_reader.specs.Said.{Account}
use Rattle.step_types.specs.Checks.{names_of}
use Rattle.straightening.specs.Runs.{Stop}
use Rattle.bracket_poly.specs.Kept.{TrackedOf}
use Rattle.cayley_run.specs.declared.answer.Options.{Options}
use Rattle.cayley_run.specs.Results.{stop_of}
use Rattle.proof_text.specs.Terms.{polynomial_lines}
use Rattle.prover.specs.declared.ends.End.{End}
use Rattle.prover.specs.declared.ends.End.TheVariants as ends
use Rattle.prover.specs.Ends.{EndsWith, IsEnd, IsEndNamed, lines_of}
use Rattle.prover.specs.Modes.Same.{run_lines, stop_or_terms}
use Rattle.prover.specs.Runs.{log_of, last_end}

-- those of a run that ended are the terms of its end
pub end_of_run : (options : Options) (c : Account) (f : BracketPolynomial) → EndsWith options c f
    → run_lines (names_of c) (log_of options c) ≡ polynomial_lines (names_of c) f
end_of_run options c f is =
    let log = log_of options c in
    ap (λ (s : Option Stop). stop_or_terms (names_of c) s (last_end log.objects)) is.no_stop
    ∙ ap (λ (x : Option BracketPolynomial). stop_or_terms (names_of c) None x) is.last

-- the lines of a run are those of that to what it came
pub end_lines : {d : ℕ} (options : Options) (c : Account) (end : End d) → IsEnd options c end
    → lines_of (names_of c) end ≡ run_lines (names_of c) (log_of options c)
end_lines options c (ends.Normal poly) is = sym (end_of_run options c poly.tracked.sum is)
end_lines options c (ends.Stopped kind) is =
    let log = log_of options c in
    sym (ap (λ (s : Option Stop). stop_or_terms (names_of c) s (last_end log.objects)) is)

-- and what it came to has names
pub end_has_names : {d : ℕ} (options : Options) (c : Account) (end : End d) → IsEnd options c end
    → IsEndNamed (names_of c) end
end_has_names options c (ends.Normal poly) is = is.named
end_has_names options c (ends.Stopped kind) is = tt

-- a run that has no end was stopped
pub stopped_at : {d : ℕ} (options : Options) (c : Account) (end : End d)
    → ((poly : TrackedOf d) → end ≡ ends.Normal poly → ⊥) → IsEnd options c end
    → (stop : Stop) × ((log_of options c).stop ≡ Some stop)
stopped_at options c (ends.Normal poly) none is = absurd (none poly refl)
stopped_at options c (ends.Stopped kind) none is = (stop_of kind, is)
