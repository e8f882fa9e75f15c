-- What the bounds of a value give for its report.
use Rattle.std.proofs.Common.{ℕ, ◌<◌, ◌≤◌, List, [], ◌∷◌, arith}
use Rattle.std.specs.List.{AllByRecursion}
use Rattle.coordinate_model.proofs.Splits.{all_so}
use Rattle.bracket_terms.specs.declared.extensor.Extensor.{Extensor}
use Rattle.bracket_poly.specs.Kept.{TrackedOf}
use Rattle.bracket_poly.specs.Products.{HasDegree}
use Rattle.bracket_poly.specs.Sizes.{KeyWithin, EntryWithin}
use Rattle.bracket_poly.specs.Values.{value_of}
use Rattle.degeneracy_report.specs.Joined.{IsBefore}

module _ {d : ℕ} (fresh parameters rows degree : ℕ) where
  -- the points of entries within bounds come before the bound
  pub entries_before : (es : List (Extensor × TrackedOf d)) → AllByRecursion (EntryWithin fresh parameters rows degree) es
      → AllByRecursion (IsBefore fresh) (value_of es)
  entries_before [] h = tt
  entries_before (e ∷ es) h = (
    record {
      extensor = h.0.points_below;
      rows =
          all_so (λ t. KeyWithin fresh parameters rows degree t.0)
          (λ t. AllByRecursion (λ row. AllByRecursion (λ p. p < fresh) row) t.0.rows) (λ t w. w.points_below)
          e.1.tracked.sum.terms h.0.keys;
    },
    entries_before es h.1,
  )

  -- and their exponents are small where the degree is
  pub entries_small : (es : List (Extensor × TrackedOf d)) → degree ≤ 1000
      → AllByRecursion (EntryWithin fresh parameters rows degree) es
      → AllByRecursion (λ e. HasDegree 1000 e.1) (value_of es)
  entries_small [] l h = tt
  entries_small (e ∷ es) l h = (
    all_so (λ t. KeyWithin fresh parameters rows degree t.0) (λ t. AllByRecursion (λ x. x ≤ 1000) t.0.exponents)
        (λ t w. all_so (λ x. x ≤ degree) (λ x. x ≤ 1000) (λ x m. omega arith) t.0.exponents w.small)
        e.1.tracked.sum.terms h.0.keys,
    entries_small es l h.1,
  )
