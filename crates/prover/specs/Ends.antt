-- With what a run ends that is not written, and whether two ends are the same.
use Rattle.std.specs.Prelude.{◌≡◌, ℕ, ℤ, Bool, false, ◌&&◌, List, [], ◌∷◌, Option, Some, None}
use Rattle.std.specs.Cmp.Lexicographic.{pointwise}
use Rattle.std.specs.Ordering.{eq_by_cmp, int_eq}
use Rattle.coordinate_model.specs.Key.{Key, key_cmp}
use Rattle.coordinate_model.specs.BracketPolynomial.{BracketPolynomial, IsNormal, value}
use Rattle.construction_reader.specs.Said.{Account}
use Rattle.step_types.specs.Checks.{names_of}
use Rattle.step_types.specs.declared.names.Names.{Names}
use Rattle.cayley_terms.specs.Meaning.{conclusion_polynomial}
use Rattle.cayley_run.specs.declared.answer.Options.{Options}
use Rattle.cayley_run.specs.Results.{stop_of}
use Rattle.proof_text.specs.Forms.{stop_line}
use Rattle.proof_text.specs.Terms.{AreNamed, polynomial_lines}
use Rattle.prover.specs.declared.ends.End.{End}
use Rattle.prover.specs.declared.ends.End.TheVariants.{Normal, Stopped}
use Rattle.prover.specs.Runs.{log_of, last_end, stop_kind}

-- ---- the end of a run

-- the run of the construction was not stopped, and ends with this polynomial, the normal one whose value is the
-- conclusion's; its points and parameters have names
pub record EndsWith (options : Options) (c : Account) (f : BracketPolynomial) : Type 0 where
  pub no_stop : (log_of options c).stop ≡ None
  pub last : last_end (log_of options c).objects ≡ Some f
  pub normal : IsNormal c.rank 64 f
  pub same_value : value f ≡ conclusion_polynomial c
  pub named : AreNamed (names_of c) f

-- this is to what the run of the construction came
abbrev pub IsEnd : {d : ℕ} → Options → Account → End d → Type 0
IsEnd options c (Normal poly) = EndsWith options c poly.tracked.sum
IsEnd options c (Stopped kind) = (log_of options c).stop ≡ Some (stop_of kind)

-- the points and the parameters of the end have names
abbrev pub IsEndNamed : {d : ℕ} → Names → End d → Type 0
IsEndNamed names (Normal poly) = AreNamed names poly.tracked.sum
IsEndNamed names (Stopped kind) = Unit {0}

-- its lines: those of its terms, or its stop
abbrev pub lines_of : {d : ℕ} → Names → End d → List (List ℕ)
lines_of names (Normal poly) = polynomial_lines names poly.tracked.sum
lines_of names (Stopped kind) = stop_line (stop_kind (stop_of kind)) ∷ []

-- ---- equal ends

-- whether two terms have the same key and the same integer
abbrev pub same_term : Key × ℤ → Key × ℤ → Bool
same_term t u = eq_by_cmp key_cmp t.0 u.0 && int_eq t.1 u.1

-- whether two polynomials have the same terms
abbrev pub same_terms : BracketPolynomial → BracketPolynomial → Bool
same_terms f g = pointwise same_term f.terms g.terms

-- whether two ends are there and are the same
abbrev pub same_ends : Option BracketPolynomial → Option BracketPolynomial → Bool
same_ends None end = false
same_ends (Some f) None = false
same_ends (Some f) (Some g) = same_terms f g
