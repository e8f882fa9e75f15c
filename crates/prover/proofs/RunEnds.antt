-- The ends of runs that are not written, and whether two of them are the same.
use Rattle.std.proofs.Common.{◌≡◌, ◌++◌, ◌∷◌, [], ℕ, true, None, refl, sym, ap, subst, ◌∙◌}
use Rattle.std.specs.Prelude.{ℤ}
use Rattle.std.specs.Bool.{Decides}
use Rattle.std.specs.Cmp.{Equal-is, tied_itself}
use Rattle.std.specs.List.{AllByRecursion}
use Rattle.std.specs.Ordering.{eq_by_cmp, int_eq}
use Rattle.std.proofs.lemmas.Bool.Decides.{Decides-and, Decides-like, Decides-int_eq}
use Rattle.std.proofs.lemmas.Slice.Eq.{slice_eq-Decides}
use Rattle.coordinate_model.specs.Sequences.{IsRank}
use Rattle.coordinate_model.specs.Sums.{Terms, count_at}
use Rattle.coordinate_model.specs.Key.{Key, key_cmp}
use Rattle.coordinate_model.specs.Polynomial.{Polynomial}
use Rattle.coordinate_model.specs.BracketPolynomial.{BracketPolynomial, IsNormal, value}
use Rattle.coordinate_model.proofs.Independence.{same_normal}
use Rattle.coordinate_model.proofs.KeyProducts.{key_total, key_same}
use Rattle.coordinate_model.proofs.SumLemmas.{same_coefficients}
use Rattle.construction_reader.specs.Said.{Account}
use Rattle.step_types.specs.Checks.{names_of}
use Rattle.step_types.specs.declared.names.Names.{Names}
use Rattle.bracket_poly.specs.Sections.{Worked}
use Rattle.cayley_terms.specs.declared.program.Program.{Program}
use Rattle.cayley_terms.specs.Kept.{IsStraight, KeepsNames, polynomial_of}
use Rattle.cayley_terms.specs.Meaning.{conclusion_polynomial}
use Rattle.cayley_run.specs.declared.answer.Options.{Options}
use Rattle.cayley_run.specs.Bounds.{IsWithinProgram}
use Rattle.cayley_run.specs.RunLaws.{LastEnds}
use Rattle.cayley_run.specs.Runs.{Log, run_of}
use Rattle.cayley_run.specs.Written.{AreNamed as AreObjectsNamed}
use Rattle.cayley_run.proofs.NamedLogs.{log_named}
use Rattle.proof_text.specs.Proofs.{IsSectionNamed, IsEndNamed}
use Rattle.proof_text.specs.Terms.{AreNamed}
use Rattle.prover.specs.Ends.{EndsWith, same_term, same_terms}
use Rattle.prover.specs.Runs.{log_of, last_end}
use Rattle.prover.proofs.Proofs.{runs_alike}
use Rattle.prover.proofs.Verdicts.{all_last, end_of}

-- ---- equal ends

key_decides : (k l : Key) → Decides (eq_by_cmp key_cmp k l) (k ≡ l)
key_decides k l = (
  λ e. key_same k l ((Equal-is (key_cmp k l)).0 e),
  λ e. subst (λ (m : Key). eq_by_cmp key_cmp k m ≡ true) e ((Equal-is (key_cmp k k)).1 (tied_itself key_total k)),
)

term_decides : (t u : Key × ℤ) → Decides (same_term t u) (t ≡ u)
term_decides t u =
    Decides-like (same_term t u) (λ both j. (both.0 j, both.1 j))
    (λ e. (ap (λ (x : Key × ℤ). x.0) e, ap (λ (x : Key × ℤ). x.1) e))
    (Decides-and (eq_by_cmp key_cmp t.0 u.0) (int_eq t.1 u.1) (key_decides t.0 u.0) (Decides-int_eq t.1 u.1))

-- polynomials with the same terms are the same
terms_decide : (f g : BracketPolynomial) → Decides (same_terms f g) (f ≡ g)
terms_decide f g =
    Decides-like (same_terms f g)
    (λ e. same_coefficients key_cmp key_total key_same f g (λ k. ap (λ (ts : Terms Key). count_at key_cmp k ts) e))
    (λ e. ap (λ (h : BracketPolynomial). h.terms) e)
    (slice_eq-Decides term_decides f.terms g.terms (same_terms f g) refl)

-- and normal ones have the same terms exactly where they have the same value
pub values_decide : (d n : ℕ) (f g : BracketPolynomial) (p q : Polynomial) → IsRank d → n ≡ d → IsNormal d 64 f
    → IsNormal n 64 g → value f ≡ p → value g ≡ q → Decides (same_terms f g) (p ≡ q)
values_decide d n f g p q rank same f_normal g_normal f_value g_value =
    Decides-like (same_terms f g) (λ e. sym f_value ∙ ap value e ∙ g_value)
    (λ e. same_normal d 64 rank f g f_normal (subst (λ (m : ℕ). IsNormal m 64 g) same g_normal)
    (f_value ∙ e ∙ sym g_value)) (terms_decide f g)

-- ---- the end of a run

-- the end of a log in which all have names has names
end_named : (names : Names) (log : Log) (f : BracketPolynomial) → AreObjectsNamed names log.objects → LastEnds log f
    → AreNamed names f
end_named names log f all last =
    let object : Worked = record { number = last.number; step = last.step; sections = last.section ∷ [] } in
    let each : AllByRecursion (λ (o : Worked). AllByRecursion (IsSectionNamed names) o.sections) (last.front ++ object ∷ []) =
    subst (AreObjectsNamed names) last.last all in
    let section : IsSectionNamed names last.section =
    (all_last (λ (o : Worked). AllByRecursion (IsSectionNamed names) o.sections) last.front object each).0 in
    subst (IsEndNamed names) last.ends section.end

-- what the run of the program ends with is the end of the construction's
pub ends_with : (options : Options) (c : Account) (p : Program) (f : BracketPolynomial) → IsStraight c p → KeepsNames c p
    → polynomial_of p ≡ conclusion_polynomial c → IsWithinProgram p (run_of options p) → (run_of options p).stop ≡ None
    → LastEnds (run_of options p) f → IsNormal p.rank 64 f → value f ≡ polynomial_of p → EndsWith options c f
ends_with options c p f straight keeps concludes within ended last normal same =
    let log = run_of options p in
    let alike : log ≡ log_of options c = runs_alike options c p straight keeps.0 in
    record {
      no_stop = ap (λ (l : Log). l.stop) (sym alike) ∙ ended;
      last = ap (λ (l : Log). last_end l.objects) (sym alike) ∙ end_of log f last;
      normal = subst (λ (d : ℕ). IsNormal d 64 f) keeps.0 normal;
      same_value = same ∙ concludes;
      named = end_named (names_of c) log f (log_named (names_of c) p log within keeps.1) last;
    }
