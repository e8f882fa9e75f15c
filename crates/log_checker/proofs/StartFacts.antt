-- The starts of objects: their keys, and their coordinates.
use Rattle.std.proofs.Common.{◌≡◌, ℕ, Bool, true, false, cond, List, [], ◌∷◌, map, filter, length}
use Rattle.std.proofs.Common.{refl, sym, ap, subst, ◌∙◌, arith, All}
use Rattle.std.specs.List.{AllByRecursion}
use Rattle.coordinate_model.specs.Sequences.{IsRank, subsets}
use Rattle.coordinate_model.specs.Polynomial.{Polynomials}
use Rattle.coordinate_model.specs.BracketPolynomial.{IsBracketPolynomial}
use Rattle.coordinate_model.specs.Starts.{Product, reached, starts, has_term}
use Rattle.coordinate_model.specs.Value.{Value, coordinates}
use Rattle.coordinate_model.proofs.BracketPolynomialLaws.{value-hom}
use Rattle.coordinate_model.proofs.Grouping.{Ascend, ascend-reached}
use Rattle.coordinate_model.proofs.Splits.{all_so, all_map, all_filter}
use Rattle.coordinate_model.proofs.StartKeys.{start-is, IsProduct}
use Rattle.coordinate_model.proofs.StartLaws.{zero_entries}
use Rattle.coordinate_model.proofs.StartSizes.{IsEntry, IsSizedProduct, all_reached}
use Rattle.coordinate_model.proofs.ValueLaws.{coordinates-none, coordinates-scalar}
use Rattle.bracket_poly.specs.Tracked.{Tracked, nothing}
use Rattle.cayley_terms.specs.Figures.{Figure}
use Rattle.shuffle_meet.specs.Stops.{tracked_at, tracked_entries, Start}
use Rattle.shuffle_meet.specs.SectionStarts.{is_conclusion, section_starts}
use Rattle.shuffle_meet.proofs.StartSums.{entry_at, entries_at, tracked_sum, entries-tracked}

-- a start of rank d whose extensor has a points
abbrev pub IsStart : ℕ → ℕ → Start → Type 0
IsStart d a start = IsEntry d 64 a (entry_at start)

-- a value has the coordinates of an object of rank d
abbrev pub IsValueOf : ℕ → Value → Figure Polynomials → Type 0
IsValueOf d v figure = All (λ K. coordinates v K ≡ figure.coordinates K) (subsets d figure.step)

-- products of an object of this step in rank d, whose extensors have a points: none where it is a conclusion
module _ (d a step : ℕ) (rank : IsRank d) (ps : List Product) (sized : AllByRecursion (IsSizedProduct d 64 a) ps)
    (none : is_conclusion d step ≡ true → a ≡ 0) where
  -- ---- the starts

  entries-are : AllByRecursion (IsStart d a) (tracked_entries ps)
  entries-are =
      all_filter (IsStart d a) (λ e. has_term (e.0, e.1.sum)) (map (λ x. (x, tracked_at x ps)) (reached ps))
      (all_map (λ x. length x ≡ a) (IsStart d a) (λ x. (x, tracked_at x ps))
      (λ x e. record {
        points = e;
        keys =
            subst (IsBracketPolynomial d 64) (sym (tracked_sum x ps))
            (start-is d 64 x ps (all_so (IsSizedProduct d 64 a) (IsProduct d 64) (λ p h. h.product) ps sized));
      })
      (reached ps)
      (all_reached (λ x. length x ≡ a) ps
      (all_so (IsSizedProduct d 64 a) (λ p. length p.extensor ≡ a) (λ p h. h.points) ps sized)))

  abbrev starts_by : Bool → List Start → List Start
  starts_by b es = elim es [ [] ↦ cond b (([], nothing) ∷ []) [] | start ∷ others ↦ start ∷ others ]

  pub starts-are : AllByRecursion (IsStart d a) (section_starts d step ps)
  starts-are = by_entries (tracked_entries ps) entries-are (is_conclusion d step) refl
    where
      by_entries : (es : List Start) → AllByRecursion (IsStart d a) es → (b : Bool) → is_conclusion d step ≡ b
          → AllByRecursion (IsStart d a) (starts_by b es)
      by_entries [] h true e = (record { points = sym (none e); keys = tt }, tt)
      by_entries [] h false e = tt
      by_entries (start ∷ others) h b e = h

  pub starts-same : (K : List ℕ) → coordinates (entries_at (section_starts d step ps)) K ≡ coordinates (starts ps) K
  starts-same K =
      by_entries (tracked_entries ps) (is_conclusion d step)
      ∙ ap (λ A. coordinates A K) (entries-tracked ps) ∙ zero_entries (starts ps) K
    where
      by_entries : (es : List Start) (b : Bool)
          → coordinates (entries_at (starts_by b es)) K ≡ coordinates (entries_at es) K
      by_entries [] true =
          coordinates-scalar nothing.sum K ∙ value-hom.to_zero ∙ sym (coordinates-none K)
      by_entries [] false = refl
      by_entries (start ∷ others) b = refl

  -- a conclusion has one start, without points
  pub one_start : is_conclusion d step ≡ true → (f : Tracked) × (section_starts d step ps ≡ ([], f) ∷ [])
  one_start e =
      by_reached (reached ps) (ascend-reached ps)
      (all_reached (λ x. length x ≡ a) ps
      (all_so (IsSizedProduct d 64 a) (λ p. length p.extensor ≡ a) (λ p h. h.points) ps sized))
    where
      kept : List (List ℕ) → List Start
      kept xs = filter (λ e. has_term (e.0, e.1.sum)) (map (λ x. (x, tracked_at x ps)) xs)

      from : List Start → Type 0
      from es = (f : Tracked) × (starts_by (is_conclusion d step) es ≡ ([], f) ∷ [])

      no_entry : from []
      no_entry = (nothing, ap (λ (b : Bool). cond {A = List Start} b (([], nothing) ∷ []) []) e)

      by_test : (b : Bool) (f : Tracked) → from (cond b (([], f) ∷ []) [])
      by_test true f = (f, refl)
      by_test false f = no_entry

      by_reached : (xs : List (List ℕ)) → Ascend xs → AllByRecursion (λ x. length x ≡ a) xs → from (kept xs)
      by_reached [] h l = no_entry
      by_reached ([] ∷ []) h l = by_test (has_term ([], (tracked_at [] ps).sum)) (tracked_at [] ps)
      by_reached ((i ∷ x) ∷ xs) h l = absurd (let z = none e in let w = l.0 in omega arith)
      by_reached ([] ∷ [] ∷ xs) h l = absurd (let w = h.0.0 in cc)
      by_reached ([] ∷ (i ∷ y) ∷ xs) h l = absurd (let z = none e in let w = l.1.0 in omega arith)
