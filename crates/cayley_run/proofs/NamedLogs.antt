-- All points and parameters of a log have names, where it is within a program of which they have.
use Rattle.std.proofs.Common.{◌≡◌, ℕ, suc, ◌+◌, ◌<◌, ◌≤◌, inl, inr, List, [], ◌∷◌, ◌++◌, length, Option, None, Some}
use Rattle.std.proofs.Common.{arith}
use Rattle.std.specs.Prelude.{slice_index, IfSome}
use Rattle.std.specs.List.{AllByRecursion}
use Rattle.std.proofs.lemmas.Bool.{cases_lt}
use Rattle.coordinate_model.specs.Key.{Key, points}
use Rattle.coordinate_model.specs.Syzygy.{Use}
use Rattle.coordinate_model.specs.BracketPolynomial.{BracketPolynomial}
use Rattle.coordinate_model.proofs.Splits.{all_so, all_front, all_back}
use Rattle.step_types.specs.declared.names.Names.{Names}
use Rattle.step_types.specs.declared.measure.Measure.{Measure}
use Rattle.bracket_poly.specs.Sections.{Rewritten, Worked}
use Rattle.cayley_terms.specs.declared.program.Program.{Program}
use Rattle.cayley_terms.specs.Instrs.{measures}
use Rattle.cayley_terms.specs.Kept.{IsNamed as HasNames}
use Rattle.cayley_run.specs.Runs.{Log}
use Rattle.cayley_run.specs.Bounds.{HasNumbers, IsKeyWithin, IsPolynomialWithin, IsUseWithin, IsSectionWithin}
use Rattle.cayley_run.specs.Bounds.{AreWithin, IsWithinProgram, object_measures}
use Rattle.cayley_run.proofs.RunBounds.{named_numbers}
use Rattle.proof_text.specs.Terms.{ArePoints, AreParams, IsNamed, AreNamed}
use Rattle.proof_text.specs.Proofs.{IsUseNamed, IsEndNamed, IsSectionNamed}
use Rattle.cayley_run.specs.Written.{AreNamed as AreObjectsNamed}

module _ (names : Names) where
  params_named : (i : ℕ) (es : List ℕ) → ((j : ℕ) → length names.params ≤ i + j → slice_index es j ≡ 0)
      → AreParams names i es
  params_named i [] none = tt
  params_named i (e ∷ es) none = (
    elim (cases_lt i (length names.params)) [ inl less ↦ inr less | inr over ↦ inl (none 0 (omega arith)) ],
    params_named (i + 1) es (λ j over. none (suc j) (omega arith)),
  )

  rows_named : (rows : List (List ℕ)) → ArePoints names (points rows) → AllByRecursion (ArePoints names) rows
  rows_named [] all = tt
  rows_named (r ∷ rows) all = (
    all_front (λ point. point < length names.free) r (points rows) all,
    rows_named rows (all_back (λ point. point < length names.free) r (points rows) all),
  )

  module _ (size : Measure) where
    key_named : (k : Key) → IsKeyWithin (length names.free) (length names.params) size k → IsNamed names k
    key_named k h = (params_named 0 k.exponents (λ j over. h.exponents.parameters j (omega arith)), h.points)

    polynomial_named : (f : BracketPolynomial)
        → IsPolynomialWithin (length names.free) (length names.params) size f → AreNamed names f
    polynomial_named f h =
        all_so (λ t. IsKeyWithin (length names.free) (length names.params) size t.0) (λ t. IsNamed names t.0)
        (λ t k. key_named t.0 k) f.terms h

    use_named : (u : Use) → IsUseWithin (length names.free) (length names.params) size u → IsUseNamed names u
    use_named u h =
        let P : ℕ → Type 0 = λ (point : ℕ). point < length names.free in
        let parts : AllByRecursion P (u.alpha ++ (u.beta ++ u.gamma)) = all_back P (points u.rest) _ h.points in
        let behind : AllByRecursion P (u.beta ++ u.gamma) = all_back P u.alpha _ parts in
        record {
          key = (
            params_named 0 u.exponents (λ j over. h.exponents.parameters j (omega arith)),
            rows_named u.rest (all_front P (points u.rest) _ h.points),
          );
          alpha = all_front P u.alpha _ parts;
          beta = all_front P u.beta _ behind;
          gamma = all_back P u.beta u.gamma behind;
        }

    end_named : (end : Option BracketPolynomial)
        → IfSome end (IsPolynomialWithin (length names.free) (length names.params) size) → IsEndNamed names end
    end_named None h = tt
    end_named (Some f) h = polynomial_named f h

    section_named : (s : Rewritten) → IsSectionWithin (length names.free) (length names.params) size s
        → IsSectionNamed names s
    section_named s h = record {
      scalar = h.extensor;
      start = polynomial_named s.start h.start;
      uses =
          all_so (IsUseWithin (length names.free) (length names.params) size) (IsUseNamed names) use_named s.uses
          h.uses;
      end = end_named s.end h.end;
    }

  objects_named : (objects : List Worked) (sizes : List Measure)
      → AreWithin (length names.free) (length names.params) objects sizes → AreObjectsNamed names objects
  objects_named [] sizes all = tt
  objects_named (o ∷ objects) [] all = absurd all
  objects_named (o ∷ objects) (size ∷ sizes) all = (
    all_so (IsSectionWithin (length names.free) (length names.params) size) (IsSectionNamed names) (section_named size)
        o.sections all.0,
    objects_named objects sizes all.1,
  )

  pub log_named : (p : Program) (log : Log) → IsWithinProgram p log → AllByRecursion (HasNames names) p.instrs
      → AreObjectsNamed names log.objects
  log_named p log within named =
      objects_named log.objects (object_measures p.instrs (measures p.rank p.instrs))
      (within (length names.free) (length names.params)
      (all_so (HasNames names) (HasNumbers (length names.free) (length names.params)) (named_numbers names) p.instrs
      named))
